use Rattle.std.proofs.Common.{◌≡◌, ◌∙◌, ◌+◌, ◌<◌, ◌^◌, ◌++◌, ◌∷◌, [], List, ap, arith, drop, get_or, length, string_bytes, subst, sym}
use Rattle.std.proofs.lemmas.List.{drop_more}
use Rattle.serde_json.specs.View.{items_view, members_view, view}
use Rattle.serde_json.specs.declared.value.Value.{Value}
use Rattle.serde_json.proofs.Views.{Entry}
use Rattle.theory_definitions.specs.Instance.{Place, Text, to_item, to_member}
use Rattle.schema_keys.proofs.Lists.{turned}
use Rattle.schema_keys.specs.DocumentSchemas.{IndicesFit, schemas_in, schemas_in_items, schemas_in_members}
use Rattle.schema_keys.proofs.DocumentPlaces.{fit_below}
use Rattle.schema_keys.proofs.schemas.+walk.Goals as goal

pub push_item_schemas-loop-index-preserved : goal.push_item_schemas-loop-index-preserved
push_item_schemas-loop-index-preserved t c =
    let path : Place = c.args.path.now in
    let items = c.args.items.now.items in
    let k = c.loop-index.index in
    let value : Value = c.item-item.result in
    let old = c.loop-index.paths.items in
    let last = schemas_in (path ++ to_item k ∷ []) (view value) in
    let later = schemas_in_items path (k + 1) (items_view (drop (k + 1) items)) in
    let within : k < length items = subst (λ (vs : List Value). k < length vs) c.deref-item-items.ensures.value c.loop-index-test.true in
    let at : value ≡ get_or items k value = c.item-item.is ∙ ap (λ (vs : List Value). get_or vs k value) c.deref-item-items.ensures.value in
    let one_more : schemas_in_items path k (items_view (drop k items)) ≡ last ++ later =
    ap (λ (vs : List Value). schemas_in_items path k (items_view vs)) (drop_more items k value within) ∙ ap (λ (v : Value). schemas_in (path ++ to_item k ∷ []) (view v) ++ later) (sym at) in
    let below_is : c.in_ok-below.below ≡ path ++ to_item k ∷ [] = c.in_ok-below.ensures.below in
    let small : k < 2 ^ 64 = omega arith in (
      turned old c.push_schemas.new.paths.items last _ later _ c.loop-index.invariant.0 one_more (c.in_ok-push_schemas.ensures.added ∙ ap (λ (q : Place). old ++ schemas_in q (view value)) below_is),
      λ fits all. c.in_ok-push_schemas.ensures.fit (subst IndicesFit (sym below_is) (fit_below path (to_item k) fits (small, tt))) (c.loop-index.invariant.1 fits all),
    )

pub push_member_schemas-loop-name-preserved : goal.push_member_schemas-loop-name-preserved
push_member_schemas-loop-name-preserved t c =
    let path : Place = c.args.path.now in
    let e : Entry = (c.in-Some.name.now, c.in-Some.member.now) in
    let name : Text = string_bytes e.0 in
    let old = c.loop-name.paths.items in
    let last = schemas_in (path ++ to_member name ∷ []) (view e.1) in
    let later = schemas_in_members path (members_view c.next.new.self) in
    let one_more : schemas_in_members path (members_view c.loop-name.name-iterator) ≡ last ++ later = ap (λ (es : List Entry). schemas_in_members path (members_view es)) c.in-Some.ensures.steps in
    let below_is : c.in_ok-below.below ≡ path ++ to_member name ∷ [] =
    c.in_ok-below.ensures.below ∙ ap (λ (k : Text). path ++ to_member k ∷ []) (c.in_ok-from_str.ensures.ok ∙ c.as_str.ensures.value) in (
      turned old c.push_schemas.new.paths.items last _ later _ c.loop-name.invariant.0 one_more (c.in_ok-push_schemas.ensures.added ∙ ap (λ (q : Place). old ++ schemas_in q (view e.1)) below_is),
      λ fits all. c.in_ok-push_schemas.ensures.fit (subst IndicesFit (sym below_is) (fit_below path (to_member name) fits tt)) (c.loop-name.invariant.1 fits all),
    )
