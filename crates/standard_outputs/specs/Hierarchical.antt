-- The output format `hierarchical`: a unit for each schema object that was evaluated, with the
-- errors and the annotations of its keywords by their names. (A Machine-Readable Output Format for
-- JSON Schema Validation)
use Rattle.std.specs.Prelude.{Bool, List, None, Option, Some, [], codes, if◌then◌else◌, unwrap_or, ◌++◌, ◌==◌, ◌∷◌}
use Rattle.serde_json.specs.Data.{Data, Members, array, boolean, no_members, object, put, string}
use Rattle.serde_json.specs.Find.{as_object}
use Rattle.serde_json.specs.View.{items_of}
use Rattle.theory_definitions.specs.Instance.{Text}
use Rattle.theory_definitions.specs.Reports.{Described, Report, Unit_, Units, a_unit, no_units, report_of, unit}
use Rattle.theory_definitions.specs.Units.{object_of}
use Rattle.schema_output.specs.Output.{schema_location, with_annotations, with_errors}
use Rattle.standard_outputs.specs.KeywordUnits.{is_keyword_in, keyword_of}

-- the URI of a whole document without a `#` at its end
abbrev pub without_last_hash : Text → Text
without_last_hash [] = []
without_last_hash (x ∷ []) = if x == 35 then [] else x ∷ []
without_last_hash (x ∷ y ∷ xs) = x ∷ without_last_hash (y ∷ xs)

-- the verdict and the locations that each unit has
abbrev pub node_members : Report → Members
node_members r = put (codes "instanceLocation") (string r.instance_location)
    (put (codes "schemaLocation") (string (without_last_hash (schema_location r)))
    (put (codes "evaluationPath") (string r.evaluation_path)
    (put (codes "valid") (boolean r.valid) no_members)))

-- the errors of a unit inside a schema object's if it is that of a keyword
abbrev pub errors_from : Report → Report → List Described
errors_from outer r = elim (keyword_of outer r) [ Some name ↦ r.errors | None ↦ [] ]

-- the errors of the keywords of a schema object, in order
abbrev pub keyword_errors : Report → Units → List Described
keyword_errors r no_units = []
keyword_errors r (a_unit u us) = errors_from r (report_of u) ++ keyword_errors r us

abbrev pub with_annotation : Option Text → Option Data → Members → Members
with_annotation (Some name) (Some d) ms = put name d ms
with_annotation (Some name) None ms = ms
with_annotation None a ms = ms

-- these members with the annotations of the keywords of a schema object
abbrev pub with_keyword_annotations : Report → Units → Members → Members
with_keyword_annotations r no_units ms = ms
with_keyword_annotations r (a_unit u us) ms =
    with_keyword_annotations r us (with_annotation (keyword_of r (report_of u)) (report_of u).annotations ms)

-- the annotations of a schema object are members by the names of keywords. What is no object is shown as it is
abbrev pub annotations_shown : Report → Units → Option Data → Option Data
annotations_shown r us None = object_of (with_keyword_annotations r us no_members)
annotations_shown r us (Some d) = elim (as_object d) [ Some ms ↦ object_of (with_keyword_annotations r us ms) | None ↦ Some d ]

-- the units inside, if there are any
abbrev pub with_details : List Data → Members → Members
with_details [] ms = ms
with_details (d ∷ ds) ms = put (codes "details") (array (items_of (d ∷ ds))) ms

-- the unit of a schema object, with these inside it. The annotations of an invalid one are dropped
abbrev pub node_object : Report → Units → List Data → Data
node_object r us inside = object (with_details inside
    (with_errors (r.errors ++ keyword_errors r us)
    (with_annotations r.valid (annotations_shown r us r.annotations) (node_members r))))

-- what stands for a unit: for a keyword's, the units inside it
abbrev mutual
  pub nodes_for : Option Report → Unit_ → List Data
  nodes_for outer (unit r us) = if is_keyword_in outer r then nodes_for_each None us else node_object r us (nodes_for_each (Some r) us) ∷ []

  pub nodes_for_each : Option Report → Units → List Data
  nodes_for_each outer no_units = []
  nodes_for_each outer (a_unit u us) = nodes_for outer u ++ nodes_for_each outer us

abbrev pub hierarchical_output : Unit_ → Data
hierarchical_output (unit r us) = node_object r us (nodes_for_each (Some r) us)
