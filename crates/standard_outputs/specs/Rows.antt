-- Worked rows: what the definitions show of small evaluations, as texts without spaces.
use Rattle.std.specs.Prelude.{Bool, List, None, Option, Some, [], codes, false, true, ◌++◌, ◌∷◌, ◌≡◌}
use Rattle.serde_json.specs.Data.{Data, array, boolean, member, no_members, object, string}
use Rattle.serde_json.specs.View.{items_of}
use Rattle.serde_json.specs.Written.{compact_text}
use Rattle.theory_definitions.specs.Instance.{Text}
use Rattle.theory_definitions.specs.Reports.{Described, Report, Unit_, unit, units_of}
use Rattle.standard_outputs.specs.Basic.{basic_output, keyword_report, keyword_uri}
use Rattle.standard_outputs.specs.Hierarchical.{hierarchical_output}

-- a report at this place, these two paths and this URI, with nothing else to say
abbrev pub report_at : Bool → Text → Text → Text → Text → Report
report_at valid place path schema uri = record {
  valid = valid;
  instance_location = place;
  evaluation_path = path;
  schema_path = schema;
  absolute = Some uri;
  annotations = None;
  errors = [];
}

abbrev pub annotated : Data → Report → Report
annotated d r = record r { annotations = Some d }

abbrev pub refused : Text → Text → Report → Report
refused name text r = record r { errors = record { name = name; text = text } ∷ [] }

abbrev pub titled : Text → Data
titled title = object (member (codes "title") (string title) no_members)

abbrev pub names : List Data → Data
names ds = array (items_of ds)

abbrev pub leaf : Report → Unit_
leaf r = unit r (units_of [])

-- ---- basic

-- {"$id":"https://example.com/read","readOnly":true}: the value annotates the keyword's own place
abbrev pub read_uri : Text
read_uri = codes "https://example.com/read#"

abbrev pub read_unit : Unit_
read_unit = leaf (annotated (object (member (codes "readOnly") (boolean true) no_members)) (report_at true [] [] [] read_uri))

abbrev pub ReadOnlyAnnotates : Type 0
ReadOnlyAnnotates = compact_text (basic_output read_unit)
    ≡ codes "{\"absoluteKeywordLocation\":\"https://example.com/read#\",\"annotations\":["
    ++ codes "{\"absoluteKeywordLocation\":\"https://example.com/read#\",\"instanceLocation\":\"\",\"keywordLocation\":\"\",\"valid\":true}"
    ++ codes ",{\"absoluteKeywordLocation\":\"https://example.com/read#/readOnly\",\"annotation\":true"
    ++ codes ",\"instanceLocation\":\"\",\"keywordLocation\":\"/readOnly\",\"valid\":true}]"
    ++ codes ",\"instanceLocation\":\"\",\"keywordLocation\":\"\",\"valid\":true}"

-- a name is escaped as a pointer has it
abbrev pub NamesAreEscaped : Type 0
NamesAreEscaped = keyword_uri (codes "~a/b") (codes "https://example.com/read") ≡ codes "https://example.com/read#/~0a~1b"

-- the example of Core 2020-12, 12.4.2, from the reference on: {"x":1,"z":6.7} has no "y". The
-- valid unit of `type` has no place among the errors
abbrev pub point_uri : Text
point_uri = codes "https://example.com/polygon#/$defs/point"

abbrev pub point_keyword : Bool → Text → Report
point_keyword valid name =
    report_at valid (codes "/1") (codes "/items/$ref" ++ name) (codes "/$defs/point" ++ name) (point_uri ++ name)

abbrev pub point_unit : Unit_
point_unit = unit (point_keyword false []) (units_of (leaf (point_keyword true (codes "/type"))
    ∷ leaf (refused (codes "required") (codes "Required property 'y' not found.") (point_keyword false (codes "/required"))) ∷ []))

abbrev pub PointIsRefused : Type 0
PointIsRefused = compact_text (basic_output point_unit)
    ≡ codes "{\"absoluteKeywordLocation\":\"https://example.com/polygon#/$defs/point\",\"errors\":["
    ++ codes "{\"absoluteKeywordLocation\":\"https://example.com/polygon#/$defs/point\",\"error\":\"A subschema had errors.\""
    ++ codes ",\"instanceLocation\":\"/1\",\"keywordLocation\":\"/items/$ref\",\"valid\":false}"
    ++ codes ",{\"absoluteKeywordLocation\":\"https://example.com/polygon#/$defs/point/required\""
    ++ codes ",\"error\":\"Required property 'y' not found.\""
    ++ codes ",\"instanceLocation\":\"/1\",\"keywordLocation\":\"/items/$ref/required\",\"valid\":false}]"
    ++ codes ",\"instanceLocation\":\"/1\",\"keywordLocation\":\"/items/$ref\",\"valid\":false}"

-- ---- hierarchical: parts of the output specification's example, which refuses {"bar":{"bar-prop":2}}

abbrev pub example_uri : Text
example_uri = codes "https://json-schema.org/schemas/example#"

abbrev pub example_at : Bool → Text → Text → Text → Report
example_at valid place path schema = report_at valid place path schema (example_uri ++ schema)

abbrev pub below_bar : Text
below_bar = codes "/properties/bar/$ref"

-- {"type":"integer","minimum":10,"title":"bar-prop-title"} and 2
abbrev pub bar_prop_keyword : Bool → Text → Report
bar_prop_keyword valid name = example_at valid (codes "/bar/bar-prop") (below_bar ++ codes "/properties/bar-prop" ++ name)
    (codes "/$defs/bar/properties/bar-prop" ++ name)

abbrev pub bar_prop_unit : Unit_
bar_prop_unit = unit (annotated (titled (codes "bar-prop-title")) (bar_prop_keyword false []))
    (units_of (leaf (bar_prop_keyword true (codes "/type"))
    ∷ leaf (refused (codes "minimum") (codes "2 is less than or equal to the minimum of 10")
    (bar_prop_keyword false (codes "/minimum"))) ∷ []))

abbrev pub bar_prop_text : Text
bar_prop_text = codes "{\"droppedAnnotations\":{\"title\":\"bar-prop-title\"}"
    ++ codes ",\"errors\":{\"minimum\":\"2 is less than or equal to the minimum of 10\"}"
    ++ codes ",\"evaluationPath\":\"/properties/bar/$ref/properties/bar-prop\",\"instanceLocation\":\"/bar/bar-prop\""
    ++ codes ",\"schemaLocation\":\"https://json-schema.org/schemas/example#/$defs/bar/properties/bar-prop\",\"valid\":false}"

-- the error of `minimum` is that of the schema object's unit
abbrev pub BarPropIsRefused : Type 0
BarPropIsRefused = compact_text (hierarchical_output bar_prop_unit) ≡ bar_prop_text

-- {"type":"object","title":"bar-title","properties":{"bar-prop": ..}}, to which a `$ref` leads. Here
-- `properties` annotates the names that it asked, and the title is beside them
abbrev pub bar_keyword : Bool → Text → Report
bar_keyword valid name = example_at valid (codes "/bar") (below_bar ++ name) (codes "/$defs/bar" ++ name)

abbrev pub bar_unit : Unit_
bar_unit = unit (annotated (titled (codes "bar-title")) (bar_keyword false []))
    (units_of (leaf (bar_keyword true (codes "/type"))
    ∷ unit (annotated (names (string (codes "bar-prop") ∷ [])) (bar_keyword false (codes "/properties")))
    (units_of (bar_prop_unit ∷ [])) ∷ []))

abbrev pub bar_text : Text
bar_text = codes "{\"details\":[" ++ bar_prop_text
    ++ codes "],\"droppedAnnotations\":{\"properties\":[\"bar-prop\"],\"title\":\"bar-title\"}"
    ++ codes ",\"evaluationPath\":\"/properties/bar/$ref\",\"instanceLocation\":\"/bar\""
    ++ codes ",\"schemaLocation\":\"https://json-schema.org/schemas/example#/$defs/bar\",\"valid\":false}"

abbrev pub BarIsRefused : Type 0
BarIsRefused = compact_text (hierarchical_output bar_unit) ≡ bar_text

-- the schema object {"$ref":"#/$defs/bar"} has a unit of its own, and the target's is inside it. The
-- URI of the whole document is shown without a `#`
abbrev pub example_unit : Unit_
example_unit = unit (annotated (titled (codes "root")) (example_at false [] [] []))
    (units_of (unit (annotated (names (string (codes "bar") ∷ [])) (example_at false [] (codes "/properties") (codes "/properties")))
    (units_of (unit (example_at false (codes "/bar") (codes "/properties/bar") (codes "/properties/bar"))
    (units_of (bar_unit ∷ [])) ∷ [])) ∷ []))

abbrev pub ExampleIsRefused : Type 0
ExampleIsRefused = compact_text (hierarchical_output example_unit)
    ≡ codes "{\"details\":[{\"details\":[" ++ bar_text ++ codes "],\"evaluationPath\":\"/properties/bar\",\"instanceLocation\":\"/bar\""
    ++ codes ",\"schemaLocation\":\"https://json-schema.org/schemas/example#/properties/bar\",\"valid\":false}]"
    ++ codes ",\"droppedAnnotations\":{\"properties\":[\"bar\"],\"title\":\"root\"},\"evaluationPath\":\"\",\"instanceLocation\":\"\""
    ++ codes ",\"schemaLocation\":\"https://json-schema.org/schemas/example\",\"valid\":false}"

-- {"foo/bar": ..}: a keyword whose name a pointer escapes is no part of its schema object's unit
abbrev pub EscapedIsApart : Type 0
EscapedIsApart = compact_text (hierarchical_output (unit (report_at true [] [] [] read_uri)
    (units_of (leaf (annotated (boolean true) (report_at true [] (codes "/foo~1bar") (codes "/foo~1bar")
    (codes "https://example.com/read#/foo~1bar"))) ∷ []))))
    ≡ codes "{\"details\":[{\"annotations\":true,\"evaluationPath\":\"/foo~1bar\",\"instanceLocation\":\"\""
    ++ codes ",\"schemaLocation\":\"https://example.com/read#/foo~1bar\",\"valid\":true}]"
    ++ codes ",\"evaluationPath\":\"\",\"instanceLocation\":\"\",\"schemaLocation\":\"https://example.com/read\",\"valid\":true}"
