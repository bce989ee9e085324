use Rattle.std.proofs.Common.{◌≡◌, ◌∙◌, ◌++◌, ◌∷◌, [], Some, ap, map, option_map, sym}
use Rattle.serde_json.specs.Data.{object}
use Rattle.serde_json.specs.Find.{get}
use Rattle.serde_json.specs.View.{members_view, view}
use Rattle.serde_json.proofs.Views.{Entry}
use Rattle.theory_definitions.specs.Instance.{Text, to_member}
use Rattle.standard_subschemas.specs.FoundSchemas.{schema_if}
use Rattle.standard_subschemas.specs.FoundViews.{found_of}
use Rattle.standard_subschemas.proofs.Finding.{members_end, members_go, members_start, object_is, read_is}
use Rattle.standard_subschemas.proofs.below.find_in_object.Goals as goal

pub loop-name-init : goal.loop-name-init
loop-name-init c =
    let schema = object (members_view c.args.members.now.entries) in
    let k = c.args.keyword.now in
    let value = view c.in-Some.value.now in
    let entries = c.in-Some-as_object.inner.now.entries in
    let at : get k schema ≡ Some value = read_is c.member.result c.in-Some.value _ c.member.ensures.member c.in-Some.is in
    let is : value ≡ object (members_view entries) = object_is value (members_view entries) (sym c.as_object.ensures
    ∙ ap (option_map (λ m. members_view m.now.entries)) c.in-Some-as_object.is) in
    members_start schema k (map found_of c.args.found.now.items) entries _ (at ∙ ap Some is) c.iter-name-items.ensures.ordered
    (c.into_iter-name-iterator.ensures.into_iter_gives ∙ c.iter-name-items.ensures.rest)

pub loop-name-preserved : goal.loop-name-preserved
loop-name-preserved c =
    let schema = object (members_view c.args.members.now.entries) in
    let k = c.args.keyword.now in
    let e : Entry = (c.in-Some-2.name.now, c.in-Some-2.member.now) in
    members_go schema k _ _ _ _ _ e c.in-Some-2.ensures.steps c.loop-name.invariant
    (c.in_ok-add_schema.ensures.added
    ∙ ap (λ (t : Text). map found_of c.loop-name.found.items
    ++ schema_if (record { path = to_member k ∷ to_member t ∷ []; schema = Some (view c.in-Some-2.member.now) })) c.as_str.ensures.value)

pub returns : goal.returns
returns c = record {
  found = members_end (object (members_view c.args.members.now.entries)) c.args.keyword.now _ _ _
      c.in-None.ensures.steps.0 c.loop-name.invariant;
}
