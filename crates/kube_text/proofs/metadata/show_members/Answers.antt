use Rattle.std.proofs.Common.{◌≡◌, ◌∙◌, ◌++◌, List, [], ◌∷◌, Option, Some, None, map, option_map, codes, ap, sym, refl}
use Rattle.serde_json.specs.Data.{Data, Members, number, string}
use Rattle.serde_json.specs.Find.{of_integer}
use Rattle.kube_meta.specs.Reading.{unless_empty}
use Rattle.kube_meta.specs.Writing.{texts_data, list_data, owner_data}
use Rattle.kube_meta.specs.declared.metadata.ObjectMeta.{ObjectMeta}
use Rattle.kube_text.specs.Fields.{meta_members, sorted_fields}
use Rattle.kube_text.specs.Shown.{member_if, member_tokens, array_of}
use Rattle.kube_text.proofs.Fronts.{later_shown}
use Rattle.kube_text.proofs.Shown.{same_option}
use Rattle.kube_model.proofs.Results.{on_err}
use Rattle.kube_text.proofs.metadata.show_members.Goals as goal

same : {A : Type 0} (xs : List A) → map (λ x. x) xs ≡ xs
same [] = refl
same (x ∷ xs) = ap (λ ys. x ∷ ys) (same xs)

same_list : {A : Type 0} (f : A → Data) (o : Option (List A)) → option_map (λ xs. array_of f (map (λ x. x) xs)) o ≡ option_map (list_data f) o
same_list f None = refl
same_list f (Some xs) = ap (λ ys. Some (list_data f ys)) (same xs)

-- the members as they are shown, from one on, with the rest behind them
abbrev from_uid : ObjectMeta → Members → Members
from_uid m rest = member_if (codes "uid") (option_map string (option_map (λ x. x) m.uid)) rest

abbrev from_version : ObjectMeta → Members → Members
from_version m rest = member_if (codes "resourceVersion") (option_map string (option_map (λ x. x) m.resource_version)) (from_uid m rest)

abbrev from_owners : ObjectMeta → Members → Members
from_owners m rest = member_if (codes "ownerReferences") (option_map (λ xs. array_of owner_data (map (λ x. x) xs)) (unless_empty m.owner_references)) (from_version m rest)

abbrev from_namespace : ObjectMeta → Members → Members
from_namespace m rest = member_if (codes "namespace") (option_map string (option_map (λ x. x) m.namespace)) (from_owners m rest)

abbrev from_name : ObjectMeta → Members → Members
from_name m rest = member_if (codes "name") (option_map string (option_map (λ x. x) m.name)) (from_namespace m rest)

abbrev from_labels : ObjectMeta → Members → Members
from_labels m rest = member_if (codes "labels") (option_map texts_data (unless_empty m.labels)) (from_name m rest)

abbrev from_generation : ObjectMeta → Members → Members
from_generation m rest = member_if (codes "generation") (option_map (λ z. number (of_integer z)) (option_map (λ x. x) m.generation)) (from_labels m rest)

abbrev from_finalizers : ObjectMeta → Members → Members
from_finalizers m rest = member_if (codes "finalizers") (option_map (λ xs. array_of string (map (λ x. x) xs)) (unless_empty m.finalizers)) (from_generation m rest)

abbrev from_deletion : ObjectMeta → Members → Members
from_deletion m rest = member_if (codes "deletionTimestamp") (option_map string (option_map (λ x. x) m.deletion_timestamp)) (from_finalizers m rest)

abbrev from_annotations : ObjectMeta → Members → Members
from_annotations m rest = member_if (codes "annotations") (option_map texts_data (unless_empty m.annotations)) (from_deletion m rest)

as_shown : (m : ObjectMeta) (rest : Members) → meta_members m rest ≡ from_annotations m rest
unfolding meta_members sorted_fields
as_shown m rest = λ i.
    member_if (codes "annotations") (option_map texts_data (unless_empty m.annotations))
    (member_if (codes "deletionTimestamp") (sym (same_option string m.deletion_timestamp) i)
    (member_if (codes "finalizers") (sym (same_list string (unless_empty m.finalizers)) i)
    (member_if (codes "generation") (sym (same_option (λ z. number (of_integer z)) m.generation) i)
    (member_if (codes "labels") (option_map texts_data (unless_empty m.labels))
    (member_if (codes "name") (sym (same_option string m.name) i)
    (member_if (codes "namespace") (sym (same_option string m.namespace) i)
    (member_if (codes "ownerReferences") (sym (same_list owner_data (unless_empty m.owner_references)) i)
    (member_if (codes "resourceVersion") (sym (same_option string m.resource_version) i)
    (member_if (codes "uid") (sym (same_option string m.uid) i) rest)))))))))

pub returns-clause-members : goal.returns-clause-members
returns-clause-members c rest =
    let m = c.args.meta.now in
    ap (λ ms. c.args.out.now.tokens ++ member_tokens ms) (as_shown m rest)
    ∙ c.in_ok-full_texts.ensures.members (from_deletion m rest)
    ∙ c.in_ok-member_if.ensures.members (from_finalizers m rest)
    ∙ c.in_ok-full_list.ensures.members (from_generation m rest)
    ∙ c.in_ok-member_if-2.ensures.members (from_labels m rest)
    ∙ c.in_ok-full_texts-2.ensures.members (from_name m rest)
    ∙ c.in_ok-member_if-3.ensures.members (from_namespace m rest)
    ∙ c.in_ok-member_if-4.ensures.members (from_owners m rest)
    ∙ c.in_ok-full_list-2.ensures.members (from_version m rest)
    ∙ c.in_ok-member_if-5.ensures.members (from_uid m rest)
    ∙ c.in_ok-member_if-6.ensures.members rest

pub returns-in_err-full_texts-clause-front : goal.returns-in_err-full_texts-clause-front
returns-in_err-full_texts-clause-front c rest =
    let m = c.args.meta.now in
    rw (as_shown m rest)
    (on_err _ _
    (c.in_err-full_texts.ensures.front (from_deletion m rest)))

pub returns-in_err-member_if-clause-front : goal.returns-in_err-member_if-clause-front
returns-in_err-member_if-clause-front c rest =
    let m = c.args.meta.now in
    rw (as_shown m rest)
    (on_err _ _
    (later_shown _ _ _ _ _ c.in_ok-full_texts.ensures.members
    (c.in_err-member_if.ensures.front (from_finalizers m rest))))

pub returns-in_err-full_list-clause-front : goal.returns-in_err-full_list-clause-front
returns-in_err-full_list-clause-front c rest =
    let m = c.args.meta.now in
    rw (as_shown m rest)
    (on_err _ _
    (later_shown _ _ _ _ _ c.in_ok-full_texts.ensures.members
    (later_shown _ _ _ _ _ c.in_ok-member_if.ensures.members
    (c.in_err-full_list.ensures.front (from_generation m rest)))))

pub returns-in_err-member_if-2-clause-front : goal.returns-in_err-member_if-2-clause-front
returns-in_err-member_if-2-clause-front c rest =
    let m = c.args.meta.now in
    rw (as_shown m rest)
    (on_err _ _
    (later_shown _ _ _ _ _ c.in_ok-full_texts.ensures.members
    (later_shown _ _ _ _ _ c.in_ok-member_if.ensures.members
    (later_shown _ _ _ _ _ c.in_ok-full_list.ensures.members
    (c.in_err-member_if-2.ensures.front (from_labels m rest))))))

pub returns-in_err-full_texts-2-clause-front : goal.returns-in_err-full_texts-2-clause-front
returns-in_err-full_texts-2-clause-front c rest =
    let m = c.args.meta.now in
    rw (as_shown m rest)
    (on_err _ _
    (later_shown _ _ _ _ _ c.in_ok-full_texts.ensures.members
    (later_shown _ _ _ _ _ c.in_ok-member_if.ensures.members
    (later_shown _ _ _ _ _ c.in_ok-full_list.ensures.members
    (later_shown _ _ _ _ _ c.in_ok-member_if-2.ensures.members
    (c.in_err-full_texts-2.ensures.front (from_name m rest)))))))

pub returns-in_err-member_if-3-clause-front : goal.returns-in_err-member_if-3-clause-front
returns-in_err-member_if-3-clause-front c rest =
    let m = c.args.meta.now in
    rw (as_shown m rest)
    (on_err _ _
    (later_shown _ _ _ _ _ c.in_ok-full_texts.ensures.members
    (later_shown _ _ _ _ _ c.in_ok-member_if.ensures.members
    (later_shown _ _ _ _ _ c.in_ok-full_list.ensures.members
    (later_shown _ _ _ _ _ c.in_ok-member_if-2.ensures.members
    (later_shown _ _ _ _ _ c.in_ok-full_texts-2.ensures.members
    (c.in_err-member_if-3.ensures.front (from_namespace m rest))))))))

pub returns-in_err-member_if-4-clause-front : goal.returns-in_err-member_if-4-clause-front
returns-in_err-member_if-4-clause-front c rest =
    let m = c.args.meta.now in
    rw (as_shown m rest)
    (on_err _ _
    (later_shown _ _ _ _ _ c.in_ok-full_texts.ensures.members
    (later_shown _ _ _ _ _ c.in_ok-member_if.ensures.members
    (later_shown _ _ _ _ _ c.in_ok-full_list.ensures.members
    (later_shown _ _ _ _ _ c.in_ok-member_if-2.ensures.members
    (later_shown _ _ _ _ _ c.in_ok-full_texts-2.ensures.members
    (later_shown _ _ _ _ _ c.in_ok-member_if-3.ensures.members
    (c.in_err-member_if-4.ensures.front (from_owners m rest)))))))))

pub returns-in_err-full_list-2-clause-front : goal.returns-in_err-full_list-2-clause-front
returns-in_err-full_list-2-clause-front c rest =
    let m = c.args.meta.now in
    rw (as_shown m rest)
    (on_err _ _
    (later_shown _ _ _ _ _ c.in_ok-full_texts.ensures.members
    (later_shown _ _ _ _ _ c.in_ok-member_if.ensures.members
    (later_shown _ _ _ _ _ c.in_ok-full_list.ensures.members
    (later_shown _ _ _ _ _ c.in_ok-member_if-2.ensures.members
    (later_shown _ _ _ _ _ c.in_ok-full_texts-2.ensures.members
    (later_shown _ _ _ _ _ c.in_ok-member_if-3.ensures.members
    (later_shown _ _ _ _ _ c.in_ok-member_if-4.ensures.members
    (c.in_err-full_list-2.ensures.front (from_version m rest))))))))))

pub returns-in_err-member_if-5-clause-front : goal.returns-in_err-member_if-5-clause-front
returns-in_err-member_if-5-clause-front c rest =
    let m = c.args.meta.now in
    rw (as_shown m rest)
    (on_err _ _
    (later_shown _ _ _ _ _ c.in_ok-full_texts.ensures.members
    (later_shown _ _ _ _ _ c.in_ok-member_if.ensures.members
    (later_shown _ _ _ _ _ c.in_ok-full_list.ensures.members
    (later_shown _ _ _ _ _ c.in_ok-member_if-2.ensures.members
    (later_shown _ _ _ _ _ c.in_ok-full_texts-2.ensures.members
    (later_shown _ _ _ _ _ c.in_ok-member_if-3.ensures.members
    (later_shown _ _ _ _ _ c.in_ok-member_if-4.ensures.members
    (later_shown _ _ _ _ _ c.in_ok-full_list-2.ensures.members
    (c.in_err-member_if-5.ensures.front (from_uid m rest)))))))))))

pub returns-in_err-member_if-6-clause-front : goal.returns-in_err-member_if-6-clause-front
returns-in_err-member_if-6-clause-front c rest =
    let m = c.args.meta.now in
    rw (as_shown m rest)
    (on_err _ _
    (later_shown _ _ _ _ _ c.in_ok-full_texts.ensures.members
    (later_shown _ _ _ _ _ c.in_ok-member_if.ensures.members
    (later_shown _ _ _ _ _ c.in_ok-full_list.ensures.members
    (later_shown _ _ _ _ _ c.in_ok-member_if-2.ensures.members
    (later_shown _ _ _ _ _ c.in_ok-full_texts-2.ensures.members
    (later_shown _ _ _ _ _ c.in_ok-member_if-3.ensures.members
    (later_shown _ _ _ _ _ c.in_ok-member_if-4.ensures.members
    (later_shown _ _ _ _ _ c.in_ok-full_list-2.ensures.members
    (later_shown _ _ _ _ _ c.in_ok-member_if-5.ensures.members
    (c.in_err-member_if-6.ensures.front rest)))))))))))
