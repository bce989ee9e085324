use Rattle.std.proofs.Common.{◌≡◌, ◌<◌, ◌+◌, ◌++◌, ◌∷◌, ◌∙◌, [], List, None, ap, append_assoc, drop, false, get_or, length, refl, rules, string_bytes, string_cmp, subst, sym}
use Rattle.std.specs.List.Sorted.{IsStrictlySortedBy}
use Rattle.std.specs.Map.{keys_of}
use Rattle.std.proofs.lemmas.List.{drop_more}
use Rattle.serde_json.specs.Data.{item as to_items, member as to_members}
use Rattle.serde_json.specs.Written.{has_float}
use Rattle.serde_json.specs.View.{items_view, members_view, view}
use Rattle.serde_json.specs.declared.value.Value.{Value}
use Rattle.serde_json.proofs.Views.{Entry}
use Rattle.theory_definitions.specs.Instance.{Text, member_of, to_item, to_member}
use Rattle.schema_drafts.specs.KeywordViews.{draft_of}
use Rattle.bench_parts.specs.BenchMeta.{HasNoFaultItself, member_fault}
use Rattle.bench_parts.specs.MetaPlaces.{steps_to}
use Rattle.bench_parts.proofs.MetaFaults.{ItemsLeft, MembersLeft, Tells, found_item, next_item, next_member}
use Rattle.bench_parts.proofs.BelowPlaces.{below_list, below_object, item_there, member_there}
use Rattle.bench_parts.proofs.meta.+walk.Goals as goal

pub fault_in_items-returns-in-Some-clause-fault : goal.fault_in_items-returns-in-Some-clause-fault
fault_in_items-returns-in-Some-clause-fault t c =
    let k = c.loop-index.index in
    let items = c.args.items.now.items in
    let item = c.item-item.result in
    let d = draft_of c.args.draft in
    let place = steps_to c.args.place.now in
    let within : k < length items = subst (λ (vs : List Value). k < length vs) c.deref-item-items.ensures.value c.loop-index-test.true in
    let read : get_or items k item ≡ item = ap (λ (vs : List Value). get_or vs k item) (sym c.deref-item-items.ensures.value) ∙ sym c.item-item.is in
    let left = items_view (drop (k + 1) items) in
    let split = ap items_view (drop_more items k item within) ∙ ap (λ (v : Value). to_items (view v) left) read in
    let before : ItemsLeft d place (items_view items) k (to_items (view item) left) = subst (ItemsLeft d place (items_view items) k) split c.loop-index.invariant in
    found_item d place (items_view items) k (view item) left (steps_to c.below-below.result) c.in_ok-error.field-0 c.below-below.ensures.below before c.in_ok-error.ensures.fault c.in-Some.error c.in-Some.is

pub fault_in_items-loop-index-preserved : goal.fault_in_items-loop-index-preserved
fault_in_items-loop-index-preserved t c =
    let k = c.loop-index.index in
    let items = c.args.items.now.items in
    let item = c.item-item.result in
    let d = draft_of c.args.draft in
    let place = steps_to c.args.place.now in
    let within : k < length items = subst (λ (vs : List Value). k < length vs) c.deref-item-items.ensures.value c.loop-index-test.true in
    let read : get_or items k item ≡ item = ap (λ (vs : List Value). get_or vs k item) (sym c.deref-item-items.ensures.value) ∙ sym c.item-item.is in
    let left = items_view (drop (k + 1) items) in
    let split = ap items_view (drop_more items k item within) ∙ ap (λ (v : Value). to_items (view v) left) read in
    let before : ItemsLeft d place (items_view items) k (to_items (view item) left) = subst (ItemsLeft d place (items_view items) k) split c.loop-index.invariant in
    next_item d place (items_view items) k (view item) left (steps_to c.below-below.result) c.in_ok-error.field-0 c.below-below.ensures.below before c.in_ok-error.ensures.fault c.in_default.is

pub fault_in_items-loop-index-preserved-then-not-has_inside : goal.fault_in_items-loop-index-preserved-then-not-has_inside
fault_in_items-loop-index-preserved-then-not-has_inside t c =
    let k = c.loop-index.index in
    let items = c.args.items.now.items in
    let item = c.item-item.result in
    let d = draft_of c.args.draft in
    let place = steps_to c.args.place.now in
    let within : k < length items = subst (λ (vs : List Value). k < length vs) c.deref-item-items.ensures.value c.loop-index-test.true in
    let read : get_or items k item ≡ item = ap (λ (vs : List Value). get_or vs k item) (sym c.deref-item-items.ensures.value) ∙ sym c.item-item.is in
    let left = items_view (drop (k + 1) items) in
    let split = ap items_view (drop_more items k item within) ∙ ap (λ (v : Value). to_items (view v) left) read in
    let before : ItemsLeft d place (items_view items) k (to_items (view item) left) = subst (ItemsLeft d place (items_view items) k) split c.loop-index.invariant in
    let off : c.has_inside.result ≡ false = search rules in
    let p = place ++ to_item k ∷ [] in
    next_item d place (items_view items) k (view item) left p None refl before (λ texts whole. sym (c.has_inside.ensures.none off texts d p)) refl

pub fault_in_items-returns-in-Some-clause-borrows : goal.fault_in_items-returns-in-Some-clause-borrows
fault_in_items-returns-in-Some-clause-borrows t c = λ root at.
    let k = c.loop-index.index in
    let items = c.args.items.now.items in
    let item = c.item-item.result in
    let within : k < length items = subst (λ (vs : List Value). k < length vs) c.deref-item-items.ensures.value c.loop-index-test.true in
    let read : get_or items k item ≡ item = ap (λ (vs : List Value). get_or vs k item) (sym c.deref-item-items.ensures.value) ∙ sym c.item-item.is in
    let there = below_list root (steps_to c.args.place.now) (steps_to c.below-below.result) k (items_view items) (view item) c.below-below.ensures.below at (item_there k items item within read) in
    rw c.in-Some.is at (c.in_ok-error.ensures.borrows root there)

pub fault_in_members-returns-in-Some-2-clause-borrows : goal.fault_in_members-returns-in-Some-2-clause-borrows
fault_in_members-returns-in-Some-2-clause-borrows t c = λ root at.
    let entries = c.args.members.now.entries in
    let member : Entry = (c.in-Some.name.now, c.in-Some.member.now) in
    let left = c.next.new.self in
    let before = c.loop-name.invariant.1 in
    let all : entries ≡ before.0 ++ member ∷ left = before.1 ∙ ap (λ (es : List Entry). before.0 ++ es) c.in-Some.ensures.steps in
    let sorted : IsStrictlySortedBy string_cmp (keys_of (before.0 ++ member ∷ left)) = subst (λ (es : List Entry). IsStrictlySortedBy string_cmp (keys_of es)) all c.iter-name-items.ensures.ordered in
    let found = ap (λ (es : List Entry). member_of (string_bytes c.in-Some.name.now) (members_view es)) all ∙ member_there before.0 member left sorted in
    let is = c.below-below.ensures.below ∙ ap (λ (k : Text). steps_to c.args.place.now ++ to_member k ∷ []) c.as_str-named.ensures.value in
    let there = below_object root (steps_to c.args.place.now) (steps_to c.below-below.result) (string_bytes c.in-Some.name.now) (members_view entries) (view c.in-Some.member.now) is at found in
    rw c.in-Some-2.is at (c.in_ok-error.ensures.borrows root there)

pub fault_in_members-returns-in-Some-3-clause-borrows : goal.fault_in_members-returns-in-Some-3-clause-borrows
fault_in_members-returns-in-Some-3-clause-borrows t c = λ root at.
    let entries = c.args.members.now.entries in
    let member : Entry = (c.in-Some.name.now, c.in-Some.member.now) in
    let left = c.next.new.self in
    let before = c.loop-name.invariant.1 in
    let all : entries ≡ before.0 ++ member ∷ left = before.1 ∙ ap (λ (es : List Entry). before.0 ++ es) c.in-Some.ensures.steps in
    let sorted : IsStrictlySortedBy string_cmp (keys_of (before.0 ++ member ∷ left)) = subst (λ (es : List Entry). IsStrictlySortedBy string_cmp (keys_of es)) all c.iter-name-items.ensures.ordered in
    let found = ap (λ (es : List Entry). member_of (string_bytes c.in-Some.name.now) (members_view es)) all ∙ member_there before.0 member left sorted in
    let is = c.below-below.ensures.below ∙ ap (λ (k : Text). steps_to c.args.place.now ++ to_member k ∷ []) c.as_str-named.ensures.value in
    let there = below_object root (steps_to c.args.place.now) (steps_to c.below-below.result) (string_bytes c.in-Some.name.now) (members_view entries) (view c.in-Some.member.now) is at found in
    rw c.in-Some-3.is at (c.in_ok-error-2.ensures.borrows root there)

pub fault_in_members-loop-name-preserved : goal.fault_in_members-loop-name-preserved
fault_in_members-loop-name-preserved t c =
    let entries = c.args.members.now.entries in
    let member : Entry = (c.in-Some.name.now, c.in-Some.member.now) in
    let k = string_bytes c.in-Some.name.now in
    let v = view c.in-Some.member.now in
    let left = c.next.new.self in
    let d = draft_of c.args.draft in
    let place = steps_to c.args.place.now in
    let is = c.below-below.ensures.below ∙ ap (λ (n : Text). place ++ to_member n ∷ []) c.as_str-named.ensures.value in
    let so_far = c.loop-name.invariant.1 in
    let all = so_far.1 ∙ ap (λ (es : List Entry). so_far.0 ++ es) c.in-Some.ensures.steps ∙ sym (append_assoc so_far.0 (member ∷ []) left) in
    let before : MembersLeft d place (members_view entries) (to_members k v (members_view left)) = subst (λ (es : List Entry). MembersLeft d place (members_view entries) (members_view es)) c.in-Some.ensures.steps c.loop-name.invariant.0 in
    let own : Tells c.in_ok-error.field-0 (has_float v) (λ texts. member_fault texts d (steps_to c.below-below.result) k v) =
    subst (λ (n : Text). Tells c.in_ok-error.field-0 (has_float v) (λ texts. member_fault texts d (steps_to c.below-below.result) n v)) c.as_str-named.ensures.value c.in_ok-error.ensures.fault in
    (next_member d place (members_view entries) k v (members_view left) (steps_to c.below-below.result) c.in_ok-error.field-0 is before own c.in_ok-error-2.field-0 c.in_default.is c.in_ok-error-2.ensures.fault c.in_default-2.is, (so_far.0 ++ member ∷ [], all))

pub fault_in_members-loop-name-preserved-then-not-may_have_fault : goal.fault_in_members-loop-name-preserved-then-not-may_have_fault
fault_in_members-loop-name-preserved-then-not-may_have_fault t c =
    let entries = c.args.members.now.entries in
    let member : Entry = (c.in-Some.name.now, c.in-Some.member.now) in
    let k = string_bytes c.in-Some.name.now in
    let v = view c.in-Some.member.now in
    let left = c.next.new.self in
    let d = draft_of c.args.draft in
    let place = steps_to c.args.place.now in
    let so_far = c.loop-name.invariant.1 in
    let all = so_far.1 ∙ ap (λ (es : List Entry). so_far.0 ++ es) c.in-Some.ensures.steps ∙ sym (append_assoc so_far.0 (member ∷ []) left) in
    let before : MembersLeft d place (members_view entries) (to_members k v (members_view left)) = subst (λ (es : List Entry). MembersLeft d place (members_view entries) (members_view es)) c.in-Some.ensures.steps c.loop-name.invariant.0 in
    let off : c.may_have_fault.result ≡ false = search rules in
    let own : HasNoFaultItself k v = subst (λ (n : Text). HasNoFaultItself n v) c.as_str-named.ensures.value (c.may_have_fault.ensures.own off) in
    let p = place ++ to_member k ∷ [] in (
      next_member d place (members_view entries) k v (members_view left) p None refl before (λ texts whole. sym (own texts d p)) None refl
          (λ texts whole. sym (c.may_have_fault.ensures.inside off texts d p)) refl,
      (so_far.0 ++ member ∷ [], all),
    )
