use Rattle.std.proofs.Common.{◌≡◌, ◌∙◌, ◌+◌, ◌<◌, ◌≤◌, ◌++◌, ◌∷◌, [], ℕ, List, ap, arith, drop, get_or, length, length-append, refl, string_bytes, rules, subst, suc, sym}
use Rattle.std.specs.Prelude.{Some, slice_get}
use borrow.Author.Sizes.{sizes}
use Rattle.std.proofs.lemmas.List.{append-nil, drop_all, drop_more}
use Rattle.std.specs.List.Sorted.{IsStrictlySortedBy}
use Rattle.std.specs.Map.{keys_of}
use Rattle.std.specs.String.{string_cmp}
use Rattle.serde_json.specs.Data.{item}
use Rattle.serde_json.specs.View.{items_view, members_view, view}
use Rattle.serde_json.specs.declared.value.Value.{Value}
use Rattle.serde_json.proofs.Views.{Entry}
use Rattle.theory_definitions.specs.Instance.{item_places, member_places}
use Rattle.schema_places.specs.Rows.{Laid, NamesAscendInItems, NamesAscendInMembers, item_numbers, item_rows, items_below, laid, member_rows, members_below, name_numbers, own_name}
use Rattle.schema_places.proofs.Laying.{container_done, item_row, length_items, length_members, member_row, names_step}
use Rattle.schema_places.proofs.Sitting.{count_items, count_members, items_ready, members_ready}
use Rattle.schema_places.proofs.numbering.+number.Goals as goal

counted_items : (xs : List Value) → length xs ≡ count_items (items_view xs)
counted_items [] = refl
counted_items (x ∷ xs) = ap suc (counted_items xs)

counted_members : (es : List Entry) → length es ≡ count_members (members_view es)
counted_members [] = refl
counted_members (e ∷ es) = ap suc (counted_members es)

items_done : (all mid : List Laid) (xs : List Value) (k : ℕ) → length xs ≤ k → all ++ item_rows (length all) (items_view (drop k xs)) ≡ mid ++ item_rows (length mid) (items_view xs) → all ≡ mid ++ item_rows (length mid) (items_view xs)
items_done all mid xs k l e = sym (append-nil all) ∙ ap (λ (ys : List Value). all ++ item_rows (length all) (items_view ys)) (sym (drop_all k xs l)) ∙ e

members_done : (all mid : List Laid) (left es : List Entry) → left ≡ [] → all ++ member_rows (length all) (members_view left) ≡ mid ++ member_rows (length mid) (members_view es) → all ≡ mid ++ member_rows (length mid) (members_view es)
members_done all mid left es l e = sym (append-nil all) ∙ ap (λ (ys : List Entry). all ++ member_rows (length all) (members_view ys)) (sym l) ∙ e

one_more : (old mid : List Laid) (first : Laid) (n : ℕ) → mid ≡ old ++ first ∷ [] → n ≡ length old → n + 1 ≡ length mid
one_more old mid first n m e = let size = ap length m ∙ length-append old (first ∷ []) in omega (arith, size, e)

pub push_items-loop-item-preserved : goal.push_items-loop-item-preserved
push_items-loop-item-preserved t c =
    let all = c.args.items.now.items in
    let k = c.loop-item.item-index in
    let value : Value = c.item-item.result in
    let old = c.loop-item.table in
    let new = c.push_value.new.table in
    let within : k < length all = subst (λ (vs : List Value). k < length vs) c.deref-item-items.ensures.value c.loop-item-test.true in
    let at : value ≡ get_or all k value = c.item-item.is ∙ ap (λ (vs : List Value). get_or vs k value) c.deref-item-items.ensures.value in
    let left : items_view (drop k all) ≡ item (view value) (items_view (drop (k + 1) all)) =
    ap items_view (drop_more all k value within) ∙ ap (λ (v : Value). item (view v) (items_view (drop (k + 1) all))) (sym at) in
    record {
      rows = item_row old new (view value) (items_view (drop (k + 1) all)) _ c.in_ok-push_value.ensures.rows (ap (λ ds. old ++ item_rows (length old) ds) (sym left) ∙ c.loop-item.invariant.rows);
      ascend = λ h. c.loop-item.invariant.ascend (subst NamesAscendInItems (sym left) (c.in_ok-push_value.ensures.ascend, h));
    }

pub push_items-put_items-requires-clause-walk : goal.push_items-put_items-requires-clause-walk
push_items-put_items-requires-clause-walk t c =
    let xs = c.args.items.now.items in
    let mid = c.reserve.new.self in
    let pushed = c.reserve.ensures.same ∙ c.in_ok-push_row.ensures.pushed in
    let all = c.loop-item.table in
    let past : length xs ≤ c.loop-item.item-index = subst (λ (vs : List Value). length vs ≤ c.loop-item.item-index) c.deref-item-items.ensures.value c.loop-item-test.false in
    let count : c.len-2.result ≡ count_items (items_view xs) = omega (arith, c.len-2.ensures, c.args.items.now.ok.0, counted_items xs) in
    (items_ready mid all (items_view xs) (c.len-place.result + 1) c.len-2.result (items_done all mid xs c.loop-item.item-index past c.loop-item.invariant.rows)
    (one_more c.args.table.now mid _ c.len-place.result pushed c.len-place.ensures.count) count).0

pub push_items-returns-clause-rows : goal.push_items-returns-clause-rows
push_items-returns-clause-rows t c =
    let xs = c.args.items.now.items in
    let ds = items_view xs in
    let old = c.args.table.now in
    let mid = c.reserve.new.self in
    let pushed = c.reserve.ensures.same ∙ c.in_ok-push_row.ensures.pushed in
    let all = c.loop-item.table in
    let past : length xs ≤ c.loop-item.item-index = subst (λ (vs : List Value). length vs ≤ c.loop-item.item-index) c.deref-item-items.ensures.value c.loop-item-test.false in
    let count : c.len-2.result ≡ count_items ds = omega (arith, c.len-2.ensures, c.args.items.now.ok.0, counted_items xs) in
    let done = items_done all mid xs c.loop-item.item-index past c.loop-item.invariant.rows in
    let ready = items_ready mid all ds (c.len-place.result + 1) c.len-2.result done (one_more old mid _ c.len-place.result pushed c.len-place.ensures.count) count in
    container_done old mid all c.put_items.new.self _ c.len-place.result (length (item_places 0 ds)) _ (λ b. items_below (item_numbers b ds)) (λ b. item_rows b ds)
    pushed c.len-place.ensures.count done (ap items_below ready.1) (length_items (length mid) 0 ds) c.in_ok-put_items.ensures.put

pub push_each-loop-name-preserved : goal.push_each-loop-name-preserved
push_each-loop-name-preserved t c =
    let e : Entry = (c.in-Some.name.now, c.in-Some.member.now) in
    let left = c.next.new.self in
    let old = c.loop-name.table in
    let mid = c.push_name.new.self in
    let new = c.push_value.new.table in
    let here : c.loop-name.name-iterator ≡ e ∷ left = c.in-Some.ensures.steps in
    let put : mid ≡ old ++ _ ∷ [] = c.in_ok-push_name.ensures.pushed ∙ ap (λ k. old ++ laid (length old) (own_name k) ∷ []) c.as_str.ensures.value in
    let sorted = names_step e left (subst (λ (es : List Entry). IsStrictlySortedBy string_cmp (keys_of es)) here c.loop-name.invariant.sorted) in record {
      rows = member_row old mid new (string_bytes e.0) (view e.1) (members_view left) _ put c.in_ok-push_value.ensures.rows
          (ap (λ (es : List Entry). old ++ member_rows (length old) (members_view es)) (sym here) ∙ c.loop-name.invariant.rows);
      ascend = λ h. c.loop-name.invariant.ascend (subst (λ (es : List Entry). NamesAscendInMembers (members_view es)) (sym here) (sorted.0, c.in_ok-push_value.ensures.ascend, h));
      sorted = sorted.1;
    }

-- an object with one member
one_entry : (es : List Entry) (e : Entry) → length es ≡ 1 → slice_get es 0 ≡ Some e → es ≡ e ∷ []
one_entry [] e l g = absurd (omega arith)
one_entry (d ∷ []) e l g = let same : d ≡ e = cc in ap (λ (x : Entry). x ∷ []) same
one_entry (d ∷ f ∷ es) e l g = absurd (omega arith)

pub push_parts-push_value-requires : goal.push_parts-push_value-requires
push_parts-push_value-requires t c =
    let e : Entry = (c.in-Some.only_name.now, c.in-Some.only_member.now) in
    let here = one_entry c.args.members.now.entries e (omega (arith, c.len.ensures.len, c.if-len-eq1.true)) c.in-Some.ensures.first in
    let size = c.decreases in
    (search (sizes, rules, here, size), tt)

pub push_parts-returns-in-Some-clause-rows : goal.push_parts-returns-in-Some-clause-rows
push_parts-returns-in-Some-clause-rows t c =
    let e : Entry = (c.in-Some.only_name.now, c.in-Some.only_member.now) in
    let here = one_entry c.args.members.now.entries e (omega (arith, c.len.ensures.len, c.if-len-eq1.true)) c.in-Some.ensures.first in
    let old = c.args.table.now in
    let mid = c.push_name.new.self in
    let new = c.push_value.new.table in
    let put : mid ≡ old ++ _ ∷ [] = c.in_ok-push_name.ensures.pushed ∙ ap (λ k. old ++ laid (length old) (own_name k) ∷ []) c.as_str.ensures.value in
    sym (append-nil new)
    ∙ member_row old mid new (string_bytes e.0) (view e.1) (members_view []) _ put c.in_ok-push_value.ensures.rows (ap (λ (es : List Entry). old ++ member_rows (length old) (members_view es)) (sym here))

pub push_parts-returns-in-Some-clause-ascend : goal.push_parts-returns-in-Some-clause-ascend
push_parts-returns-in-Some-clause-ascend t c =
    let e : Entry = (c.in-Some.only_name.now, c.in-Some.only_member.now) in
    let here = one_entry c.args.members.now.entries e (omega (arith, c.len.ensures.len, c.if-len-eq1.true)) c.in-Some.ensures.first in
    subst (λ (es : List Entry). NamesAscendInMembers (members_view es)) (sym here) (tt, c.in_ok-push_value.ensures.ascend, tt)

pub push_members-put_members-requires-clause-walk : goal.push_members-put_members-requires-clause-walk
push_members-put_members-requires-clause-walk t c =
    let es = c.args.members.now.entries in
    let mid = c.push_row.new.self in
    let all = c.push_parts.new.table in
    let count : c.len.result ≡ count_members (members_view es) = omega (arith, c.len.ensures.len, counted_members es) in
    (members_ready mid all (members_view es) (c.len-place.result + 1) c.len.result c.in_ok-push_parts.ensures.rows
    (one_more c.args.table.now mid _ c.len-place.result c.in_ok-push_row.ensures.pushed c.len-place.ensures.count) count).0

pub push_members-returns-clause-rows : goal.push_members-returns-clause-rows
push_members-returns-clause-rows t c =
    let es = c.args.members.now.entries in
    let ms = members_view es in
    let old = c.args.table.now in
    let mid = c.push_row.new.self in
    let all = c.push_parts.new.table in
    let count : c.len.result ≡ count_members ms = omega (arith, c.len.ensures.len, counted_members es) in
    let done = c.in_ok-push_parts.ensures.rows in
    let ready = members_ready mid all ms (c.len-place.result + 1) c.len.result done (one_more old mid _ c.len-place.result c.in_ok-push_row.ensures.pushed c.len-place.ensures.count) count in
    container_done old mid all c.put_members.new.self _ c.len-place.result (length (member_places ms)) _ (λ b. members_below (name_numbers b ms)) (λ b. member_rows b ms)
    c.in_ok-push_row.ensures.pushed c.len-place.ensures.count done (ap members_below ready.1) (length_members (length mid) ms) c.in_ok-put_members.ensures.put
