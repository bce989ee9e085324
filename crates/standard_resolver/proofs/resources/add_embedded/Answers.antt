use Rattle.std.proofs.Common.{List, [], true, ap, map, string_bytes, subst, sym, ◌∙◌, ◌≡◌}
use Rattle.std.specs.Prelude.{flat_map}
use Rattle.std.specs.List.{filter}
use Rattle.serde_json.specs.View.{view}
use Rattle.theory_definitions.specs.Instance.{Place, Text}
use Rattle.standard_subschemas.specs.declared.rules.Rule.{Rule}
use Rattle.standard_resolver.specs.Dialects.{Dialect}
use Rattle.standard_resolver.specs.DialectViews.{dialect_of}
use Rattle.standard_resolver.specs.ResolverDocuments.{Document}
use Rattle.standard_resolver.specs.DocumentResources.{Resource, Visited, base_in, identified, identified_root, root_visited, walked}
use Rattle.standard_resolver.specs.ResourcesGathered.{Adds}
use Rattle.standard_resolver.specs.ResourceSpeaking.{speaking}
use Rattle.standard_subschemas.specs.DocumentUris.{root_base}
use Rattle.standard_resolver.specs.DocumentViews.{visited_of}
use Rattle.standard_resolver.proofs.ResourceLists.{adds_both}
use Rattle.standard_resolver.proofs.Walks.{resources_kept}
use Rattle.standard_resolver.proofs.resources.add_embedded.Goals as goal

pub returns : goal.returns
returns c =
    let reading = c.args.reading.now in
    let d : Document = record { uri = c.args.uri.now; value = view c.args.value.now } in
    let n = c.args.document in
    let root = c.in_ok-root.root in
    let is : visited_of root ≡ root_visited reading n d = c.in_ok-root.ensures.root in
    let at : (visited_of root).dialect ≡ (root_visited reading n d).dialect = ap (λ (v : Visited). v.dialect) is in
    let inside : string_bytes c.in_ok-base.base ≡ base_in reading n d = c.in_ok-base.ensures.base
    ∙ ap (λ (rule : Rule). root_base rule d.uri (visited_of root).dialect.draft d.value) c.rule.ensures.rule
    ∙ ap (λ (d' : Dialect). root_base reading.rule d.uri d'.draft d.value) at in
    let kept = ap (map visited_of) c.as_slice.ensures.value ∙ c.in_ok-all.ensures.walked
    ∙ ap (λ (p : Place). filter (speaking reading.rule true) (walked reading true p c.as_str.result.now (dialect_of root.dialect) d.value))
    (ap (λ (v : Visited). v.path) is)
    ∙ ap (λ (t : Text). filter (speaking reading.rule true) (walked reading true [] t (dialect_of root.dialect) d.value))
    (c.as_str.ensures.value ∙ inside)
    ∙ ap (λ (d' : Dialect). filter (speaking reading.rule true) (walked reading true [] (base_in reading n d) d' d.value)) at in
    let below = walked reading true [] (base_in reading n d) (root_visited reading n d).dialect d.value in
    let all = sym (resources_kept reading n below (map visited_of c.as_slice.result.now) kept) in
    let first : Adds (identified_root reading n (root_visited reading n d)) c.args.gathered.now c.add_identified_root.new.gathered
    = subst (λ (v : Visited). Adds (identified_root reading n v) c.args.gathered.now c.add_identified_root.new.gathered) is
    c.in_ok-add_identified_root.ensures.added in
    let more : Adds (flat_map (identified reading n) below) c.add_identified_root.new.gathered c.add_all_identified.new.gathered
    = subst (λ (rs : List Resource). Adds rs c.add_identified_root.new.gathered c.add_all_identified.new.gathered) all
    c.in_ok-add_all_identified.ensures.added in
    record {
      added = adds_both (identified_root reading n (root_visited reading n d)) (flat_map (identified reading n) below)
          c.args.gathered.now c.add_identified_root.new.gathered c.add_all_identified.new.gathered first more;
    }
