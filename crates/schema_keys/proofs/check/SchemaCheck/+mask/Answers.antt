use Rattle.std.proofs.Common.{◌≡◌, ◌∙◌, ◌≤◌, ◌++◌, ◌∷◌, [], List, ap, append-nil, append_assoc, length, map, string_bytes, subst, sym}
use Rattle.std.specs.Prelude.{if◌then◌else◌}
use Rattle.std.specs.List.Sorted.{IsStrictlySortedBy}
use Rattle.std.specs.Map.{keys_of}
use Rattle.std.specs.String.{string_cmp}
use Rattle.std.proofs.lemmas.List.{drop_all}
use Rattle.serde_json.specs.Data.{no_members, object}
use Rattle.serde_json.specs.View.{members_view, view}
use Rattle.serde_json.specs.declared.value.Value.{Value}
use Rattle.serde_json.proofs.Views.{Entry, members_view-insert_entry}
use Rattle.theory_definitions.specs.Instance.{Text, to_member}
use Rattle.theory_definitions.specs.Drafts.{SchemaPlace}
use Rattle.theory_meaning.specs.Documents.{masked, is_cut}
use Rattle.schema_traits.specs.ResolverViews.{place_of}
use Rattle.schema_keys.specs.Compiling.{resolving_parts}
use Rattle.schema_keys.specs.CutViews.{cut_of}
use Rattle.schema_keys.proofs.MaskedDocuments.{below, child, children_from, children_listed, items_listed, items_of, put_child}
use Rattle.schema_keys.proofs.check.SchemaCheck.+mask.Goals as goal

pub masked_items-returns : goal.masked_items-returns
masked_items-returns g t c =
    let w = resolving_parts (g.R.Resolver.resolving c.args.self.now.resolver.now) in
    let qs = map cut_of c.args.cuts.now in
    let p = place_of c.args.place.now in
    let items = c.args.items.now.items in
    let k = c.loop-index.index in
    let copies = map view c.loop-index.copies.items in
    let past : length items ≤ k = subst (λ (vs : List Value). length vs ≤ k) c.deref-item-items.ensures.value c.loop-index-test.false in
    let all : copies ≡ children_from w qs p 0 items =
    sym (append-nil copies) ∙ ap (λ (vs : List Value). copies ++ children_from w qs p k vs) (sym (drop_all k items past)) ∙ c.loop-index.invariant in
    record { masked = items_listed c.loop-index.copies.items ∙ ap items_of all ∙ sym (children_listed w qs p 0 items) }

pub masked_members-loop-name-preserved : goal.masked_members-loop-name-preserved
masked_members-loop-name-preserved g t c =
    let w = resolving_parts (g.R.Resolver.resolving c.args.self.now.resolver.now) in
    let qs = map cut_of c.args.cuts.now in
    let p = place_of c.args.place.now in
    let l = c.loop-name in
    let done = l.invariant.0 in
    let e : Entry = (c.in-Some.name.now, c.in-Some.member.now) in
    let left = c.next.new.self in
    let all : c.args.members.now.entries ≡ done ++ e ∷ left = l.invariant.1 ∙ ap (λ (es : List Entry). done ++ es) c.in-Some.ensures.steps in
    let last = put_child w qs p done e left (subst (λ (es : List Entry). IsStrictlySortedBy string_cmp (keys_of es)) all c.iter-name-items.ensures.ordered) in
    let named : string_bytes c.in_ok-name.name ≡ string_bytes e.0 = c.in_ok-name.ensures.cases in
    let below_is : place_of c.in_ok-below.below ≡ below w qs p (to_member (string_bytes e.0)) =
    c.in_ok-below.ensures.below ∙ ap (λ (k : Text). below w qs p (to_member k)) (c.in_ok-from_str.ensures.ok ∙ c.as_str.ensures.value) in
    let copied : view c.in_ok-copy.copy ≡ child w qs p (to_member (string_bytes e.0)) (view e.1) =
    c.in_ok-copy.ensures.masked ∙ ap (λ (q : SchemaPlace). if is_cut w qs q then object no_members else masked w qs q (view e.1)) below_is in (
      done ++ e ∷ [],
      all ∙ sym (append_assoc done (e ∷ []) left),
      ap members_view c.in_ok-insert.ensures.entries ∙ members_view-insert_entry l.copies.entries c.in_ok-name.name c.in_ok-copy.copy ∙ rw (named, copied, l.invariant.2) last,
    )
