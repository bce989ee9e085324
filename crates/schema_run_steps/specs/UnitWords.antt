-- The content and the locations of a node's units.
use Rattle.std.specs.List.{list_all}
use Rattle.std.specs.Prelude.{Bool, List, Option, [], map, option_map, string_bytes, ◌≡◌}
use Rattle.serde_json.specs.View.{view}
use Rattle.serde_json.specs.declared.value.Value.{Value}
use Rattle.theory_definitions.specs.Instance.{Text}
use Rattle.theory_definitions.specs.Meaning.{Where}
use Rattle.theory_definitions.specs.Pointer.{joined, pointer_to}
use Rattle.theory_definitions.specs.Reports.{Report, Unit_, report_of, unit, units_of}
use Rattle.theory_definitions.specs.Units.{reference_units, schema_unit}
use Rattle.schema_reports.specs.UnitViews.{described_of, unit_of}
use Rattle.schema_reports.specs.declared.evaluation.ErrorDescription.{ErrorDescription}
use Rattle.schema_reports.specs.declared.evaluation.EvaluationNode.{EvaluationNode}
use Rattle.schema_run_context.specs.declared.unit_paths.UnitTexts.{UnitTexts}
use Rattle.schema_node_table.specs.NodeTable.{absolute_in}
use Rattle.schema_node_table.specs.NodeViews.{node_of}
use Rattle.schema_node_table.specs.declared.node.Node.{Node}
use Rattle.schema_run_steps.specs.Askings.{Asking, where_asked}
use Rattle.schema_run_steps.specs.EntryUnits.{entry_units_of}
use Rattle.schema_run_steps.specs.PlaceWords.{path_here, pointer_here}
use Rattle.schema_run_steps.specs.declared.evaluation_order.EntryUnits.{EntryUnits}
use Rattle.schema_run_steps.specs.declared.question.Question.{Question}
use Rattle.schema_run_steps.specs.declared.units.UnitPlaces.{UnitPlaces}

-- a unit is this one, whether texts are compared or not
abbrev pub IsUnit : (Bool → Unit_) → EvaluationNode → Type 0
IsUnit says u = (texts : Bool) → unit_of texts u ≡ says texts

-- the report of a unit with these locations, annotations and errors
abbrev pub report_at : Bool → UnitPlaces → Bool → Option Value → List ErrorDescription → Report
report_at texts p valid annotations errors = record {
  valid = valid;
  instance_location = p.instance_location;
  evaluation_path = p.evaluation_path;
  schema_path = p.schema_location;
  absolute = option_map string_bytes p.absolute_keyword_location;
  annotations = option_map view annotations;
  errors = map (described_of texts) errors;
}

-- a unit has this pointer, this path and this schema location, and the absolute location that the
-- node has for the latter
pub record UnitStandsAt {K : Type 0} (n : Node K) (pointer way location : Text) (p : UnitPlaces) : Type 0 where
  pub instance : p.instance_location ≡ pointer
  pub path : p.evaluation_path ≡ way
  pub schema : p.schema_location ≡ location
  pub absolute : option_map string_bytes p.absolute_keyword_location ≡ absolute_in (node_of n) location

-- the unit of a node around these units: valid exactly if each of them is, with the node's
-- annotations
abbrev pub unit_around : {K : Type 0} → Node K → Asking → List Unit_ → Unit_
unit_around n q us = schema_unit (where_asked (node_of n) q) (list_all (λ child. (report_of child).valid) us) (option_map view n.annotations) [] us

-- a unit has these locations and this content
abbrev pub IsUnitAt : UnitPlaces → Bool → Option Value → List ErrorDescription → List EvaluationNode → EvaluationNode → Type 0
IsUnitAt p valid annotations errors children u = IsUnit (λ texts. unit (report_at texts p valid annotations errors) (units_of (map (unit_of texts) children))) u

-- a unit is that of a node around these, if these texts are those of a question at the pointer
abbrev pub IsUnitAround : {K : Type 0} → Node K → UnitTexts → Text → List EvaluationNode → EvaluationNode → Type 0
IsUnitAround n kept pointer children u = (texts : Bool) (q : Asking) → kept.path ≡ q.path → kept.schema ≡ n.location
    → pointer ≡ pointer_to q.place → unit_of texts u ≡ unit_around n q (map (unit_of texts) children)

-- the units of an entry are those of a reference with this name that leads to this unit
abbrev pub AreUnitsOfReference : Question → Text → EvaluationNode → EntryUnits → Type 0
AreUnitsOfReference q name u units = (texts : Bool) (x : Where) → x.path ≡ path_here q → entry_units_of texts units ≡ reference_units x name (unit_of texts u)

module _ {K : Type 0} (n : Node K) (q : Question) where
  -- the locations are those of the node's own unit, and (below) of its keyword with this name
  abbrev pub NodeStandsAt : UnitPlaces → Type 0
  NodeStandsAt p = UnitStandsAt n (pointer_here q) (path_here q) n.location p

  abbrev pub KeywordStandsAt : Text → UnitPlaces → Type 0
  KeywordStandsAt name p = UnitStandsAt n (pointer_here q) (joined (path_here q) name) (joined n.location name) p
