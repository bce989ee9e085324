use Rattle.std.proofs.Common.{◌∙◌, ◌++◌, List, ap, append-nil, arith, map, suc}
use Rattle.std.specs.Prelude.{flat_map}
use Rattle.std.specs.List.{filter}
use Rattle.serde_json.specs.Data.{depth}
use Rattle.serde_json.specs.View.{view}
use Rattle.theory_definitions.specs.Instance.{Place}
use Rattle.standard_subschemas.specs.FoundViews.{path_of}
use Rattle.standard_subschemas.specs.declared.below.FoundSchema.{FoundSchema}
use Rattle.standard_resolver.specs.DocumentResources.{visited_below}
use Rattle.standard_resolver.specs.ResourceSpeaking.{speaking}
use Rattle.standard_resolver.specs.DialectViews.{dialect_of}
use Rattle.standard_resolver.specs.DocumentViews.{visited_of}
use Rattle.standard_resolver.specs.declared.walk.Visited as code
use Rattle.standard_resolver.proofs.walk.walked.Goals as goal

pub returns : goal.returns
returns c =
    let schema = view c.args.schema.now in
    let dialect = dialect_of c.args.dialect in
    let path = c.args.path.now in
    let kept = λ (p : Place). filter (speaking c.args.reading.now.rule c.args.everywhere)
    (visited_below c.args.reading.now c.args.everywhere (suc (depth schema)) p c.args.base.now dialect schema) in
    record {
      walked = c.in_ok-visit_below.ensures.visited (suc (depth schema)) (omega arith)
          ∙ ap (λ (vs : List code.Visited). map visited_of vs ++ kept (path ++ flat_map path_of c.new-way.result.items))
          c.new-visited.ensures.items
          ∙ ap (λ (ws : List FoundSchema). kept (path ++ flat_map path_of ws)) c.new-way.ensures.items ∙ ap kept (append-nil path);
    }
