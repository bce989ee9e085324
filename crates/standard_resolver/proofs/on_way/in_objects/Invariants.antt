use Rattle.std.proofs.Common.{◌≡◌, ◌∷◌, [], drop, map}
use Rattle.std.specs.Prelude.{flat_map}
use Rattle.std.specs.List.{list_any}
use Rattle.serde_json.specs.Find.{get}
use Rattle.serde_json.specs.View.{view}
use Rattle.theory_definitions.specs.Instance.{same_place}
use Rattle.schema_traits.specs.SchemaViews.{schema_step_of}
use Rattle.standard_subschemas.specs.SubschemaRules.{below_object}
use Rattle.standard_resolver.proofs.on_way.in_objects.Given as goal

abbrev pub invariant-loop-keyword : goal.invariant-loop-keyword
invariant-loop-keyword l =
    let leads = list_any (same_place (schema_step_of l.first ∷ schema_step_of l.second ∷ [])) in
    leads (flat_map (λ k. below_object k (get k (view l.schema))) (map (λ k. k.now) l.keywords))
    ≡ leads (flat_map (λ k. below_object k (get k (view l.schema))) (map (λ k. k.now) (drop l.keyword-index l.keywords)))
