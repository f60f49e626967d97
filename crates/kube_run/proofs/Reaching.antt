-- A run over a generated input, turn by turn.
use Rattle.std.proofs.Common.{◌≡◌, ℕ, ◌+◌, ◌-◌, ◌≤◌, ◌<◌, ◌^◌, false, List, [], ◌∷◌, ◌++◌, map, take, length, Option, None, Some, refl, sym, ap, ap₂, subst, ◌∙◌, append-nil, arith}
use Rattle.std.specs.List.{AllZip, flat_map}
use Rattle.std.specs.Option.{option_to_list}
use Rattle.std.proofs.lemmas.List.{length-append, length-map}
use Rattle.std.proofs.lemmas.Grind.{flat_map-append}
use Rattle.kube_meta.specs.Reading.{ObjectData}
use Rattle.kube_meta.specs.Reference.{ObjectType, Reference}
use Rattle.kube_meta.specs.declared.action.Action.{Action}
use Rattle.kube_meta.specs.declared.resource.Resource as resource
use Rattle.kube_model.specs.History.{Dated, Step, Turn, TurnRecord, dated, exchanges}
use Rattle.kube_model.specs.Named.{RootIsNamed}
use Rattle.kube_model.specs.Stored.{store_after}
use Rattle.kube_model.specs.Traces.{IsTrace, has_ended, steps, unread}
use Rattle.kube_model.specs.World.{World}
use Rattle.kube_backoff.specs.declared.backoff.Backoff as backoff
use Rattle.kube_reflect.specs.Cached.{keyed}
use Rattle.kube_reflect.specs.Exchanged.{all_keyed}
use Rattle.kube_asks.specs.declared.root.RootSource as root_source
use Rattle.kube_asks.specs.declared.set.RelatedSet as related_set
use Rattle.kube_gen.specs.Generated.{script_of}
use Rattle.kube_object.specs.Named.{Named, named_type}
use Rattle.kube_script.specs.Script.{Related, Script}
use Rattle.kube_script.specs.declared.backoff.ScriptBackoff.{ScriptBackoff}
use Rattle.kube_step.specs.Calls.{dated_in}
use Rattle.kube_step.proofs.Asking.{polled-append}
use Rattle.kube_step.proofs.Traced.{exchanges-are}
use Rattle.kube_turn.specs.Records.{record_of, records_of, turn_of, turns_of}
use Rattle.kube_turn.specs.declared.turn.Turn.{Turn as HeldTurn}
use Rattle.kube_turn.specs.declared.record.TurnRecord.{TurnRecord as HeldRecord}
use Rattle.kube_control.specs.Controllers.{StandsFor}
use Rattle.kube_run.specs.GeneratedRun.{AreTotals, input_of, running_references, started_by, stored_after, totals_of, turn_at}
use Rattle.kube_run.specs.Played.{Apis, AreAnswered, RelatedAnswers, apis_at_first, made_by, policies_in, root_answers, script_world, type_in}
use Rattle.kube_run.specs.Reached.{HasTaken, IsReached, ScriptControlling}
use Rattle.kube_run.specs.Runs.{GoesOn}
use Rattle.kube_run.specs.Sources.{AreAtFirst, AreOfScript, IsOfRow, Root, Source, Sources, apis_in, list_of}
use Rattle.kube_run.specs.declared.totals.Totals.{Totals}
use Rattle.kube_run.proofs.First.{first-apis, first-of}
use Rattle.kube_run.proofs.Generating.{none-taken, one-more}

-- as many sources as rows
source-count : (root : ObjectType) (rows : List Related) (ts : List Source) → AllZip (IsOfRow root) rows ts → length ts ≡ length rows
source-count root [] [] k = refl
source-count root [] (t ∷ ts) k = absurd k
source-count root (row ∷ rows) [] k = absurd k
source-count root (row ∷ rows) (t ∷ ts) k = let rest = source-count root rows ts k.1 in omega (arith, rest)

-- a generated input has one related source
pub one-source : (seed objects turns : ℕ) (r : Root) (t : Sources) → AreOfScript (input_of seed objects turns) r t → length (list_of t) + 1 < 2 ^ 32
one-source seed objects turns r t k = let c : length (list_of t) ≡ 1 = source-count (type_in (input_of seed objects turns)) (input_of seed objects turns).related (list_of t) k.rows in omega (arith, c)

-- the record of one turn, if there is one, is the last of its records
abbrev pub HeldMade : Type 0
HeldMade = HeldRecord ObjectData (List ℕ) Named

abbrev pub HeldTold : Type 0
HeldTold = HeldTurn ObjectData (List ℕ) Named

at-most-one : {O B : Type 0} (w : World O B) (p : ℕ → ℕ → O → Option ℕ) (h : List (Step O)) (t : Turn) (rs : List (TurnRecord O)) → IsTrace w p h (t ∷ []) (map unread rs) → length rs ≤ 1
at-most-one w p h t [] k = omega arith
at-most-one w p h t (r ∷ []) k = omega arith
at-most-one w p h t (r ∷ q ∷ rs) k = absurd (let z = k.2 in cc)

pub popped : {O B : Type 0} (w : World O B) (p : ℕ → ℕ → O → Option ℕ) (h : List (Step O)) (t : Turn) (record_in : HeldMade → TurnRecord O) (all rest : List HeldMade) (last : Option HeldMade) (n : ℕ) → IsTrace w p h (t ∷ []) (map unread (map record_in all))
    → n ≡ length all → all ≡ rest ++ option_to_list last → rest ≡ take (n - 1) all → all ≡ option_to_list last
popped w p h t record_in all rest last n k long split front =
    let few = at-most-one w p h t (map record_in all) k in
    let l = length-map all record_in in
    let none : n - 1 ≡ 0 = omega (arith, few, l, long) in
    split ∙ ap (λ xs. xs ++ option_to_list last) (front ∙ ap (λ m. take m all) none)

module _ (root : root_source.Ghosts Root ObjectData Named) (related : related_set.Ghosts Sources ObjectData Named) (delays : backoff.Ghosts ScriptBackoff) (object : resource.Ghosts ObjectData Named) where
  -- no turn was taken yet
  pub reached-first : (s : Script) (c : ScriptControlling) (after_fault : Action) → StandsFor root related delays object (script_world s) [] c → AreAtFirst (type_in s) s.root s.related c.asks.root c.asks.related → after_fault ≡ s.error_requeue
      → IsReached root related delays object s 0 c after_fault [] (totals_of [] 0)
  reached-first s c after_fault stands first policy =
      let apis = first-apis s c.asks.root c.asks.related first in record {
        turns = [];
        records = [];
        taken = none-taken (script_world s) (λ o. s.error_requeue) (RootIsNamed (script_world s));
        answered = (ap (λ (a : Apis). a.root) apis, ap (λ (a : Apis). a.related) apis);
        of_script = first-of s c.asks.root c.asks.related first;
        stands = stands;
        policy = policy;
        runs = λ going. refl;
        totals_are = refl;
      }

  -- the same of an input that is the script
  pub reached-start : (s s' : Script) (c : ScriptControlling) (after_fault : Action) (running : List Reference) (totals : Totals) → s ≡ s' → StandsFor root related delays object (script_world s) [] c → AreAtFirst (type_in s) s.root s.related c.asks.root c.asks.related
      → after_fault ≡ s.error_requeue → running ≡ [] → totals ≡ totals_of [] 0 → IsReached root related delays object s' 0 c after_fault running totals
  reached-start s s' c after_fault running totals e stands first policy none no-totals =
      subst (λ v. IsReached root related delays object v 0 c after_fault running totals) e
      (subst (λ rs. IsReached root related delays object s 0 c after_fault rs totals) (sym none)
      (subst (λ t. IsReached root related delays object s 0 c after_fault [] t) (sym no-totals) (reached-first s c after_fault stands first policy)))

  -- one turn was told, and its record is the last of those that were made
  pub one-turn : (s : Script) (h : List (Step ObjectData)) (t : HeldTold) (ts : List HeldTold) (all : List HeldMade) (last : Option HeldMade) (c c' : ScriptControlling) → ts ≡ t ∷ [] → all ≡ option_to_list last
      → GoesOn s h (turns_of named_type ts) (records_of named_type all) c.asks.root c.asks.related c'.asks.root c'.asks.related × StandsFor root related delays object (script_world s) (h ++ steps (turns_of named_type ts) (map unread (records_of named_type all))) c'
      → GoesOn s h (turn_of named_type t ∷ []) (records_of named_type (option_to_list last)) c.asks.root c.asks.related c'.asks.root c'.asks.related
      × StandsFor root related delays object (script_world s) (h ++ steps (turn_of named_type t ∷ []) (map unread (records_of named_type (option_to_list last)))) c'
  one-turn s h t ts all last c c' e f k = (
    subst (λ rs. GoesOn s h (turn_of named_type t ∷ []) (records_of named_type rs) c.asks.root c.asks.related c'.asks.root c'.asks.related) f
        (subst (λ us. GoesOn s h (turns_of named_type us) (records_of named_type all) c.asks.root c.asks.related c'.asks.root c'.asks.related) e k.0),
    subst (λ rs. StandsFor root related delays object (script_world s) (h ++ steps (turn_of named_type t ∷ []) (map unread (records_of named_type rs))) c') f
        (subst (λ us. StandsFor root related delays object (script_world s) (h ++ steps (turns_of named_type us) (map unread (records_of named_type all))) c') e k.1),
  )

  module _ (s : Script) (count : ℕ) (c : ScriptControlling) (after_fault : Action) (running : List Reference) (totals : Totals) (k : IsReached root related delays object s count c after_fault running totals) where
    abbrev hist : List (Step ObjectData)
    hist = made_by k.turns k.records

    -- one more turn was taken
    pub reached-more : (t : Turn) (qs : List (TurnRecord ObjectData)) (c' : ScriptControlling) (running' : List Reference) (totals' : Totals) → t ≡ turn_at count running → GoesOn s hist (t ∷ []) qs c.asks.root c.asks.related c'.asks.root c'.asks.related
        → StandsFor root related delays object (script_world s) (hist ++ steps (t ∷ []) (map unread qs)) c' → totals' ≡ totals_of (k.records ++ qs) 0 → running' ≡ started_by qs → IsReached root related delays object s (count + 1) c' after_fault running' totals'
    reached-more t qs c' running' totals' told g stands' counted started =
        let w = script_world s in
        let more = one-more w (λ o. s.error_requeue) (RootIsNamed w) count k.turns k.records t qs k.taken (λ going. told ∙ ap (turn_at count) (k.runs going)) g.trace g.named in
        let asked : exchanges hist ≡ dated_in k.records = exchanges-are w (policies_in s) [] k.turns k.records k.taken.trace in
        let all : dated_in (k.records ++ qs) ≡ dated_in k.records ++ dated_in qs = flat_map-append (λ (r : TurnRecord ObjectData). dated r.at r.exchanges) k.records qs in record {
          turns = k.turns ++ t ∷ [];
          records = k.records ++ qs;
          taken = more.taken;
          answered =
              subst (λ ds. AreAnswered s [] (apis_at_first s) ds (apis_in c'.asks.root c'.asks.related)) (sym all)
              (polled-append (root_answers s) (RelatedAnswers s) [] (apis_at_first s).root (apis_at_first s).related (dated_in k.records) (dated_in qs) (apis_in c.asks.root c.asks.related).root (apis_in c.asks.root c.asks.related).related
              (apis_in c'.asks.root c'.asks.related).root (apis_in c'.asks.root c'.asks.related).related k.answered
              (subst (λ ds. AreAnswered s ds (apis_in c.asks.root c.asks.related) (dated_in qs) (apis_in c'.asks.root c'.asks.related)) asked g.answered));
          of_script = g.of_script;
          stands = subst (λ h. StandsFor root related delays object w h c') (sym more.steps_are) stands';
          policy = k.policy;
          runs = λ going. started ∙ sym (more.run_on (subst (λ h. has_ended h ≡ false) more.steps_are going) ∙ refl) ∙ ap running_references (sym more.steps_are);
          totals_are = counted;
        }

  -- all turns were taken, and so many objects are stored
  pub reached-end : (seed objects turns count stored : ℕ) (c : ScriptControlling) (after_fault : Action) (running : List Reference) (totals totals' : Totals) (k : IsReached root related delays object (input_of seed objects turns) count c after_fault running totals) → count ≡ turns
      → stored ≡ stored_after (input_of seed objects turns) k.turns k.records → totals' ≡ record totals { objects = stored } → AreTotals seed objects turns totals'
  reached-end seed objects turns count stored c after_fault running totals totals' k whole stores told = record {
    turns = k.turns;
    records = k.records;
    run = record {
      count_is = k.taken.count_is ∙ whole;
      turns_are = k.taken.turns_are;
      left = apis_in c.asks.root c.asks.related;
      played = record { trace = k.taken.trace; named = k.taken.all_named; answered = k.answered };
    };
    totals_are = told ∙ ap₂ (λ (t : Totals) n. record t { objects = n }) k.totals_are stores;
  }

-- a cache has as many places as objects are stored
pub as-many : (key : ObjectData → Reference) (os : List ObjectData) → length (all_keyed key os) ≡ length os
as-many key os = length-map os (keyed key)
