-- The output of an evaluation: a list of its units, and its errors, each with its unit. The list is
-- flat: it has a unit before the units inside it, in their order. (Core 2020-12, 12.3 and 12.4.2:
-- what a unit shows, and a flat list. The names of the members are the list format's own.)
use Rattle.std.specs.List.{flat_map}
use Rattle.std.specs.Prelude.{Bool, List, None, Option, Some, [], codes, if◌then◌else◌, map, unwrap_or, ◌++◌, ◌∷◌}
use Rattle.serde_json.specs.Data.{Data, Members, array, boolean, no_members, object, put, string}
use Rattle.serde_json.specs.View.{items_of}
use Rattle.theory_definitions.specs.Instance.{Text}
use Rattle.theory_definitions.specs.Reports.{Described, Report, Unit_, Units, a_unit, no_units, report_of, unit}

-- a unit's report before those of the units inside it
abbrev mutual
  pub reports_in : Unit_ → List Report
  reports_in (unit r us) = r ∷ reports_in_each us

  pub reports_in_each : Units → List Report
  reports_in_each no_units = []
  reports_in_each (a_unit u us) = reports_in u ++ reports_in_each us

-- texts by the names of their keywords: of several errors of one name, the first one
abbrev pub errors_by_name : List Described → Members
errors_by_name [] = no_members
errors_by_name (d ∷ ds) = put d.name (string d.text) (errors_by_name ds)

-- the errors, if there are any
abbrev pub with_errors : List Described → Members → Members
with_errors [] ms = ms
with_errors (d ∷ ds) ms = put (codes "errors") (object (errors_by_name (d ∷ ds))) ms

-- the annotations, if there are any: those of an invalid unit are dropped (Core 2020-12, 7.7.1.2)
abbrev pub with_annotations : Bool → Option Data → Members → Members
with_annotations valid None ms = ms
with_annotations valid (Some a) ms = put (if valid then codes "annotations" else codes "droppedAnnotations") a ms

-- the URI of a unit's place in the schema if it has one, else that place as a pointer (RFC 6901)
abbrev pub schema_location : Report → Text
schema_location r = unwrap_or r.absolute r.schema_path

-- the locations of a unit in the schema: the path that led to it, and its place
abbrev pub with_schema : Report → Members → Members
with_schema r ms = put (codes "schemaLocation") (string (schema_location r)) (put (codes "evaluationPath") (string r.evaluation_path) ms)

-- the members that every unit has
abbrev pub verdict_members : Report → Members
verdict_members r = put (codes "instanceLocation") (string r.instance_location)
    (with_schema r (put (codes "valid") (boolean r.valid) no_members))

-- the report of a unit, as an object
abbrev pub unit_object : Report → Data
unit_object r = object (with_errors r.errors (with_annotations r.valid r.annotations (verdict_members r)))

abbrev pub details : Unit_ → Data
details u = array (items_of (map unit_object (reports_in u)))

-- the root's verdict, and the units one by one
abbrev pub output_list : Unit_ → Data
output_list u = object (put (codes "details") (details u) (put (codes "valid") (boolean (report_of u).valid) no_members))

-- an error, with the report of its unit
pub record Shown : Type 0 where
  pub report : Report
  pub error : Described

abbrev pub shown_with : Report → Described → Shown
shown_with r d = record { report = r; error = d }

abbrev pub shown_by : Report → List Shown
shown_by r = map (shown_with r) r.errors

-- the errors of each unit, a unit's before those of the units inside it
abbrev pub shown_in : Unit_ → List Shown
shown_in u = flat_map shown_by (reports_in u)
