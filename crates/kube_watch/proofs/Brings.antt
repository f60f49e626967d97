-- Answers that bring nothing.
use Rattle.std.proofs.Common.{◌≡◌, ℕ, Bool, true, false, List, [], Option, refl, sym, ap, ◌∙◌}
use Rattle.kube_model.specs.declared.call.Call.{Call}
use Rattle.kube_model.specs.declared.call.Call.TheVariants.{List as ListCall, Watch, Next, Stream}
use Rattle.kube_model.specs.declared.call.Answer.{Answer}
use Rattle.kube_model.specs.declared.call.Answer.TheVariants.{Page, Opened, Added, Modified, Deleted, Bookmark, ErrorItem, Fault, End, NotReady, Idle, Item, Spent}
use Rattle.kube_model.specs.Raw.{Raw, RawAnswer, Waits, Fails, GivesPage, Opens, GivesAdded, GivesModified, GivesDeleted, GivesBookmark, GivesError, Ends}
use Rattle.kube_model.specs.Recorded.{answer_of, IsAnsweredBy, AsItCame, PastItsWindow}
use Rattle.kube_model.specs.World.{Settings}
use Rattle.kube_watch.specs.Calls.{brings, brings_raw}
use Rattle.kube_watch.specs.Table.{table}

brings-as : {V : Type 0} (version : V → Option (List ℕ)) (r : RawAnswer V) (c : Call) → brings (answer_of version r) c ≡ brings_raw r c
brings-as version Waits c = refl
brings-as version (Fails error) c = refl
brings-as version (GivesPage items token reached) c = refl
brings-as version Opens (ListCall token) = refl
brings-as version Opens (Watch from initial) = refl
brings-as version Opens Next = refl
brings-as version Opens Stream = refl
brings-as version (GivesAdded o) c = refl
brings-as version (GivesModified o) c = refl
brings-as version (GivesDeleted o) c = refl
brings-as version (GivesBookmark reached annotations) c = refl
brings-as version (GivesError status) c = refl
brings-as version Ends c = refl

-- an answer that is recorded as one that brings something brought something as it came
pub brought : {V : Type 0} (version : V → Option (List ℕ)) (raw : Raw V) (a : Answer) (c : Call) → IsAnsweredBy version raw a → brings a c ≡ true → brings_raw raw.answer c ≡ true
brought version raw a c (AsItCame same) h = sym (brings-as version raw.answer c) ∙ (ap (λ b. brings b c) (sym same) ∙ h)
brought version raw a c (PastItsWindow asked waits same) h =
    let no : false ≡ true = ap (λ b. brings b c) (sym same) ∙ h in
    cc

module _ {O : Type 0} (settings : Settings) (k : List ℕ) where
  -- an answer that brings nothing tells nothing
  pub tells-nothing : (i : Bool) (c : Call) (a : Answer) (items : List O) → brings a c ≡ false → (table settings k i c a items).events ≡ []
  tells-nothing i c (Page token reached) items h = cc
  tells-nothing i c (Added reached) items h = cc
  tells-nothing i c (Modified reached) items h = cc
  tells-nothing i c (Deleted reached) items h = cc
  tells-nothing i c (Bookmark reached ending) items h = cc
  tells-nothing i c (ErrorItem status) items h = cc
  tells-nothing i c (Fault error) items h = cc
  tells-nothing i c Item items h = cc
  tells-nothing i (ListCall token) Opened items h = refl
  tells-nothing i (Watch from true) Opened items h = cc
  tells-nothing i (Watch from false) Opened items h = refl
  tells-nothing true Next Opened items h = refl
  tells-nothing false Next Opened items h = refl
  tells-nothing i Stream Opened items h = refl
  tells-nothing i (ListCall token) End items h = refl
  tells-nothing i (Watch from true) End items h = refl
  tells-nothing i (Watch from false) End items h = refl
  tells-nothing true Next End items h = refl
  tells-nothing false Next End items h = refl
  tells-nothing i Stream End items h = refl
  tells-nothing i (ListCall token) NotReady items h = refl
  tells-nothing i (Watch from true) NotReady items h = refl
  tells-nothing i (Watch from false) NotReady items h = refl
  tells-nothing true Next NotReady items h = refl
  tells-nothing false Next NotReady items h = refl
  tells-nothing i Stream NotReady items h = refl
  tells-nothing i (ListCall token) Idle items h = refl
  tells-nothing i (Watch from true) Idle items h = refl
  tells-nothing i (Watch from false) Idle items h = refl
  tells-nothing true Next Idle items h = refl
  tells-nothing false Next Idle items h = refl
  tells-nothing i Stream Idle items h = refl
  tells-nothing i (ListCall token) Spent items h = refl
  tells-nothing i (Watch from true) Spent items h = refl
  tells-nothing i (Watch from false) Spent items h = refl
  tells-nothing true Next Spent items h = refl
  tells-nothing false Next Spent items h = refl
  tells-nothing i Stream Spent items h = refl
