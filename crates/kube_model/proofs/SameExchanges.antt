-- What an exchange requests, and its error, are determined by those before it, its call, its answer and what came.
use Rattle.std.proofs.Common.{◌≡◌, Bool, true, false, List, [], ◌∷◌, ◌++◌, map, Some, None, if◌then◌else◌, refl, sym, ap, ap₂, ◌∙◌}
use Rattle.std.specs.List.{flat_map}
use Rattle.std.proofs.lemmas.Grind.{flat_map-append}
use Rattle.std.proofs.lemmas.List.{map-append}
use Rattle.kube_model.specs.declared.call.Call.{Call}
use Rattle.kube_model.specs.declared.call.Call.TheVariants.{Next}
use Rattle.kube_model.specs.declared.call.Answer.{Answer}
use Rattle.kube_model.specs.World.{World}
use Rattle.kube_model.specs.Cuts.{from_last, up_to_last}
use Rattle.kube_model.specs.History.{Exchange, Message}
use Rattle.kube_model.specs.Owed.{is_opened, mark, marks}
use Rattle.kube_model.specs.Store.{arrived, changes_of, completes, is_list_start, is_page, listed, listed_by, listed_to, paged}
use Rattle.kube_model.specs.Fits.{error_of, put_of, requests_of_watch, updated}
use Rattle.kube_model.proofs.Lasts.{from_last-hit, from_last-miss, last-push, up_to_last-hit}
use Rattle.kube_model.proofs.Marks.{marks-push}

module _ {O : Type 0} where
  -- an exchange of which only this is told
  abbrev told : Call → Answer → List O → Exchange O
  told call answer items = record { source = 0; call = call; answer = answer; items = items; requests = []; error = None }

  module _ (x y : Exchange O) (call : x.call ≡ y.call) (answer : x.answer ≡ y.answer) (items : x.items ≡ y.items) where
    from-same : (p : Exchange O → Bool) (f : Exchange O → List O) (xs : List (Exchange O)) → p x ≡ p y → f x ≡ f y
        → flat_map f (from_last p (xs ++ x ∷ [])) ≡ flat_map f (from_last p (xs ++ y ∷ []))
    from-same p f xs e g = go (p x) refl
      where
        go : (b : Bool) → p x ≡ b → flat_map f (from_last p (xs ++ x ∷ [])) ≡ flat_map f (from_last p (xs ++ y ∷ []))
        go true h = ap (flat_map f) (from_last-hit p xs x h) ∙ ap (λ os. os ++ []) g ∙ sym (ap (flat_map f) (from_last-hit p xs y (sym e ∙ h)))
        go false h =
            ap (flat_map f) (from_last-miss p xs x h) ∙ flat_map-append f (from_last p xs) (x ∷ [])
            ∙ ap (λ os. flat_map f (from_last p xs) ++ (os ++ [])) g
            ∙ sym (ap (flat_map f) (from_last-miss p xs y (sym e ∙ h)) ∙ flat_map-append f (from_last p xs) (y ∷ []))

    by-same : (ys : List (Exchange O)) → listed_by (Some x) (ys ++ x ∷ []) ≡ listed_by (Some y) (ys ++ y ∷ [])
    by-same ys =
        ap (λ b. if b then flat_map paged (from_last (λ z. is_list_start z.call) (ys ++ x ∷ [])) else flat_map arrived (from_last (λ z. is_opened z.answer) (ys ++ x ∷ []))) (ap is_page answer)
        ∙ ap₂ (λ p a. if (is_page y.answer) then p else a)
        (from-same (λ z. is_list_start z.call) paged ys (ap is_list_start call) (ap₂ (λ a os. paged (told Next a os)) answer items))
        (from-same (λ z. is_opened z.answer) arrived ys (ap is_opened answer) (ap₂ (λ a os. arrived (told Next a os)) answer items))

    listed-full : (xs : List (Exchange O)) (z : Exchange O) → completes (mark xs z) ≡ true → listed (xs ++ z ∷ []) ≡ listed_by (Some z) (map (λ m. m.exchange) (marks xs) ++ z ∷ [])
    listed-full xs z h =
        ap (λ ms. listed_to (map (λ m. m.exchange) ms)) (ap (λ ms. up_to_last completes ms) (marks-push xs z) ∙ up_to_last-hit completes (marks xs) (mark xs z) h)
        ∙ ap listed_to (map-append (λ m. m.exchange) (marks xs) (mark xs z ∷ []))
        ∙ ap (λ o. listed_by o (map (λ m. m.exchange) (marks xs) ++ z ∷ [])) (last-push (map (λ m. m.exchange) (marks xs)) z)

    completes-same : (xs : List (Exchange O)) → completes (mark xs x) ≡ completes (mark xs y)
    completes-same xs = ap (λ a. completes (mark xs (told Next a []))) answer

    pub requests-same : {B : Type 0} (w : World O B) (xs : List (Exchange O)) → requests_of_watch w xs x ≡ requests_of_watch w xs y
    requests-same w xs = go (completes (mark xs x)) refl
      where
        asked : Bool → Exchange O → List Message
        asked b z = if b then map (updated w) (listed (xs ++ z ∷ [])) else map (updated w) (flat_map put_of (changes_of (mark xs z)))

        go : (b : Bool) → completes (mark xs x) ≡ b → requests_of_watch w xs x ≡ requests_of_watch w xs y
        go true h =
            ap (λ b. asked b x) h
            ∙ ap (map (updated w)) (listed-full xs x h ∙ by-same (map (λ m. m.exchange) (marks xs)) ∙ sym (listed-full xs y (sym (completes-same xs) ∙ h)))
            ∙ sym (ap (λ b. asked b y) (sym (completes-same xs) ∙ h))
        go false h =
            ap (λ b. asked b x) h
            ∙ ap₂ (λ a os. map (updated w) (flat_map put_of (changes_of (mark xs (told Next a os))))) answer items
            ∙ sym (ap (λ b. asked b y) (sym (completes-same xs) ∙ h))

    pub error-same : (xs : List (Exchange O)) → error_of (mark xs x) ≡ error_of (mark xs y)
    error-same xs = ap₂ (λ c a. error_of (mark xs (told c a []))) call answer
