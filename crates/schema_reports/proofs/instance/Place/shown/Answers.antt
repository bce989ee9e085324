use Rattle.std.proofs.Common.{map, ap, ◌∙◌, rules}
use Rattle.std.proofs.lemmas.List.Elements.{filter_from_retain}
use Rattle.schema_reports.specs.InstanceViews.{step_of}
use Rattle.theory_definitions.specs.Pointer.{is_shown, shown_place}
use Rattle.schema_reports.proofs.ShownSteps.{filtered_map}
use Rattle.schema_reports.proofs.instance.Place.shown.Goals as goal

pub returns : goal.returns
returns c =
    let kept = filter_from_retain _ (λ x. is_shown (step_of x)) (λ p x b q k. search rules) _ _ _ c.retain.ensures.filtered in
    record { shown = ap (map step_of) kept ∙ filtered_map is_shown step_of c.self.inside.steps.items ∙ ap shown_place c.self.view_is }
