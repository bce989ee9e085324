use Rattle.std.proofs.Common.{◌≡◌, ◌∙◌, ◌++◌, ◌∷◌, ap, append-nil, map, rules, string_bytes, sym}
use Rattle.serde_json.specs.View.{members_view}
use Rattle.keyword_makers.specs.Members.{names_of}
use Rattle.standard_pattern_properties.proofs.ListedNames.{listed_more, names_are, names_ascend}
use Rattle.standard_pattern_properties.proofs.listed.Listed.of_members.Goals as goal

pub loop-name-init : goal.loop-name-init
loop-name-init c = (
  names_ascend c.args.members.now.entries c.into_iter-name-iterator.ensures.into_iter_gives.5,
  ap (λ ks. map string_bytes ks ++ names_of (members_view c.into_iter-name-iterator.result)) c.new-names.ensures.empty
      ∙ ap (λ es. names_of (members_view es)) c.into_iter-name-iterator.ensures.into_iter_gives.0,
)

pub loop-name-preserved : goal.loop-name-preserved
loop-name-preserved c =
    let same : string_bytes c.in_ok-clone.field-0 ≡ string_bytes c.in-Some.name.now = search rules in
    let here : map string_bytes c.loop-name.names.keys ++ string_bytes c.in-Some.name.now ∷ names_of (members_view c.next.new.self) ≡ names_of (members_view c.args.members.now.entries)
    = search rules in (
      c.loop-name.invariant.0,
      ap (λ ks. map string_bytes ks ++ names_of (members_view c.next.new.self)) c.in_ok-insert.ensures.keys
          ∙ listed_more c.loop-name.names.keys c.in_ok-clone.field-0 (string_bytes c.in-Some.name.now) _ _ same c.loop-name.invariant.0 here,
    )

pub invariant_of-result : goal.invariant_of-result
invariant_of-result c =
    let names = map string_bytes c.loop-name.names.keys in
    c.in_ok-of_members.ensures.names ∙ (names_are c.args.members.now.entries
    ∙ (sym c.loop-name.invariant.1 ∙ (ap (λ es. names ++ names_of (members_view es)) c.in-None.ensures.steps.0 ∙ append-nil names)))
