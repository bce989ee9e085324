use Rattle.std.proofs.Common.{◌≡◌, ◌<◌, ◌∙◌, ◌++◌, [], List, ap, length, map, subst}
use Rattle.serde_json.specs.View.{view}
use Rattle.theory_definitions.specs.Instance.{Place}
use Rattle.schema_reports.specs.InstanceViews.{step_of}
use Rattle.schema_places.specs.Numbers.{number_of, place_at}
use Rattle.schema_places.proofs.Closing.{root_first}
use Rattle.schema_places.proofs.places.Places.find.Goals as goal

pub find_from-requires : goal.find_from-requires
find_from-requires c = record { known = subst (λ (ps : List Place). 0 < length ps) c.self.view_is (root_first (view c.self.inside.root.now)).0 }

pub returns : goal.returns
returns c =
    let ps = c.args.self.now in
    let root = subst (λ (ps : List Place). place_at ps 0 ≡ []) c.self.view_is (root_first (view c.self.inside.root.now)).1 in
    record { number = c.find_from.ensures.number ∙ ap (λ (p : Place). number_of (p ++ map step_of c.args.steps.now) ps) root }
