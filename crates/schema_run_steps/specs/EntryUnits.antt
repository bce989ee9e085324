-- The units of an entry and the ordered units of the code, as the definitions have them.
use Rattle.std.specs.Prelude.{Bool, List, drop, map, string_bytes, take, ℕ, ◌≡◌}
use Rattle.theory_definitions.specs.Instance.{Text}
use Rattle.theory_definitions.specs.Reports.{Unit_}
use Rattle.theory_definitions.specs.Units.{PartUnits}
use Rattle.theory_definitions.specs.UnitOrder.{Placed, all_placed, placed, with_absorbed}
use Rattle.schema_reports.specs.UnitViews.{unit_of}
use Rattle.schema_reports.specs.declared.evaluation.EvaluationNode.{EvaluationNode}
use Rattle.schema_run_steps.specs.declared.evaluation_order.AbsorbedUnit.{AbsorbedUnit}
use Rattle.schema_run_steps.specs.declared.evaluation_order.EntryUnits.{EntryUnits}
use Rattle.schema_run_steps.specs.declared.evaluation_order.UnitsInOrder.{UnitsInOrder}

abbrev pub absorbed_of : Bool → AbsorbedUnit → Text × Unit_
absorbed_of texts a = (string_bytes a.keyword, unit_of texts a.unit)

abbrev pub entry_units_of : Bool → EntryUnits → PartUnits
entry_units_of texts e = (unit_of texts e.own, map (absorbed_of texts) e.absorbed.items)

abbrev pub placed_of : Bool → UnitsInOrder → Placed
placed_of texts u = record {
  types = map (unit_of texts) u.types.items;
  before = map (unit_of texts) (take u.before u.entries.items);
  counts = map (unit_of texts) u.counts.items;
  after = map (unit_of texts) (drop u.before u.entries.items);
}

-- the units of absorbed keywords are added to the ordered ones, and (below) so are the units of the
-- next entry, which has this priority
abbrev pub PlacesAbsorbed : UnitsInOrder → List AbsorbedUnit → UnitsInOrder → Type 0
PlacesAbsorbed old units new = (texts : Bool) → placed_of texts new ≡ with_absorbed (placed_of texts old) (map (absorbed_of texts) units)

abbrev pub PlacesEntry : UnitsInOrder → ℕ → EntryUnits → UnitsInOrder → Type 0
PlacesEntry old priority units new = (texts : Bool) → placed_of texts new ≡ placed (placed_of texts old) (record { priority = priority; units = entry_units_of texts units })

-- these are the ordered units, all in one list
abbrev pub ListsInOrder : UnitsInOrder → List EvaluationNode → Type 0
ListsInOrder u units = (texts : Bool) → map (unit_of texts) units ≡ all_placed (placed_of texts u)
