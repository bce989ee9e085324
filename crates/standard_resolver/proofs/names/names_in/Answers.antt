use Rattle.std.proofs.Common.{◌≡◌, ◌∙◌, ◌++◌, [], List, ap, false, map, sym}
use Rattle.std.specs.Prelude.{flat_map}
use Rattle.standard_subschemas.specs.declared.rules.Rule.{Rule}
use Rattle.standard_resolver.specs.declared.names.Name as code
use Rattle.standard_resolver.specs.DocumentResources.{Name, names_at, walked}
use Rattle.standard_resolver.specs.DocumentNameViews.{name_of}
use Rattle.standard_resolver.specs.DocumentViews.{visited_of}
use Rattle.standard_resolver.proofs.Walks.{names_kept}
use Rattle.standard_resolver.proofs.names.names_in.Goals as goal

pub loop-visited-init : goal.loop-visited-init
loop-visited-init c =
    let v = visited_of c.args.root.now in
    let reading = c.args.reading.now in
    let rule = reading.rule in
    let below = walked reading false v.path [] v.dialect v.schema in
    let own : map name_of c.push_names.new.names.items ≡ names_at rule v = c.in_ok-push_names.ensures.pushed
    ∙ ap (λ (by : Rule). map name_of c.new-names.result.items ++ names_at by v) c.rule-rule.ensures.rule
    ∙ ap (λ (ns : List code.Name). map name_of ns ++ names_at rule v) c.new-names.ensures.items in
    let kept = ap (map visited_of) c.deref-visited-items.ensures.value ∙ c.in_ok-walked.ensures.walked in
    ap (λ (ns : List Name). ns ++ flat_map (names_at rule) below) (sym own)
    ∙ ap (λ (ns : List Name). map name_of c.push_names.new.names.items ++ ns)
    (names_kept rule below (map visited_of c.deref-visited-items.result.now) kept)
