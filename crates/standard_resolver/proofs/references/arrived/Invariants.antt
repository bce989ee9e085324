use Rattle.std.proofs.Common.{◌≡◌, [], drop, map}
use Rattle.serde_json.specs.View.{view}
use Rattle.schema_drafts.specs.KeywordViews.{draft_of}
use Rattle.schema_traits.specs.SchemaViews.{schema_step_of}
use Rattle.standard_resolver.specs.DocumentLookups.{arrived}
use Rattle.standard_resolver.specs.DocumentResourceViews.{resource_of}
use Rattle.standard_resolver.specs.DocumentViews.{point_of}
use Rattle.standard_resolver.proofs.references.arrived.Given as goal

abbrev pub invariant-loop-step : goal.invariant-loop-step
invariant-loop-step l = let r = resource_of l.resource in
    (arrived l.resources l.reference r.document (point_of l.before) r.draft (view l.root) [] (view l.root) r.path (point_of l.fn.state)
    l.path
    ≡ arrived l.resources l.reference r.document (point_of l.before) (draft_of l.draft) (view l.schema) l.since (view l.reached) l.place.path
    (point_of l.state) (map schema_step_of (drop l.step-index l.step-items)))
    × (l.place.document ≡ r.document)
