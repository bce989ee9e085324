use Rattle.std.proofs.Common.{◌≡◌, ◌∙◌, List, Some, ap, map, option_map, sym}
use Rattle.serde_json.specs.Data.{array, object}
use Rattle.serde_json.specs.Find.{get}
use Rattle.serde_json.specs.View.{items_view, members_view, view}
use Rattle.serde_json.specs.declared.value.Value.{Value}
use Rattle.standard_subschemas.specs.FoundViews.{found_of}
use Rattle.standard_subschemas.proofs.Finding.{array_is, items_end, items_go, items_start, read_is}
use Rattle.standard_subschemas.proofs.below.find_in_list.Goals as goal

pub loop-index-init : goal.loop-index-init
loop-index-init c =
    let schema = object (members_view c.args.members.now.entries) in
    let k = c.args.keyword.now in
    let value = view c.in-Some.value.now in
    let items = c.in-Some-as_array.items.now.items in
    let at : get k schema ≡ Some value = read_is c.member.result c.in-Some.value _ c.member.ensures.member c.in-Some.is in
    let is : value ≡ array (items_view items) = array_is value (items_view items) (sym c.as_array.ensures
    ∙ ap (option_map (λ v. items_view v.now.items)) c.in-Some-as_array.is) in
    items_start schema k (map found_of c.args.found.now.items) _ (at ∙ ap Some is ∙ ap (λ (vs : List Value). Some (array (items_view vs)))
    (sym c.deref-item-items.ensures.value))

pub loop-index-preserved : goal.loop-index-preserved
loop-index-preserved c =
    let schema = object (members_view c.args.members.now.entries) in
    items_go schema c.args.keyword.now _ _ _ _ _ c.item-item.result c.loop-index-test.true c.item-item.is c.loop-index.invariant
    c.in_ok-add_schema.ensures.added

pub returns : goal.returns
returns c = record {
  found = items_end (object (members_view c.args.members.now.entries)) c.args.keyword.now _ _ _ _
      c.loop-index-test.false c.loop-index.invariant;
}
