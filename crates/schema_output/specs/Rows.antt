-- Worked rows: what the definitions show of small evaluations, as texts without spaces.
use Rattle.std.specs.Prelude.{List, None, Some, [], codes, false, true, ◌++◌, ◌∷◌, ◌≡◌}
use Rattle.serde_json.specs.Data.{member, no_members, object, string}
use Rattle.serde_json.specs.Written.{compact_text}
use Rattle.theory_definitions.specs.Instance.{Text}
use Rattle.theory_definitions.specs.Reports.{Described, Error, Unit_, unit, units_of}
use Rattle.schema_output.specs.ErrorUnits.{errors_unit}
use Rattle.schema_output.specs.Output.{errors_by_name, output_list}

-- a valid unit of the whole instance, at this evaluation path, with these units inside it
abbrev pub accepting : Text → List Unit_ → Unit_
accepting path us = unit (record {
  valid = true;
  instance_location = [];
  evaluation_path = path;
  schema_path = path;
  absolute = None;
  annotations = None;
  errors = [];
}) (units_of us)

-- {"type":"string"} and "AB": a unit for the schema, and one inside it for its keyword
abbrev pub string_unit : Unit_
string_unit = accepting [] (accepting (codes "/type") [] ∷ [])

abbrev pub StringIsListed : Type 0
StringIsListed = compact_text (output_list string_unit)
    ≡ codes "{\"details\":[{\"evaluationPath\":\"\",\"instanceLocation\":\"\",\"schemaLocation\":\"\",\"valid\":true}"
    ++ codes ",{\"evaluationPath\":\"/type\",\"instanceLocation\":\"\",\"schemaLocation\":\"/type\",\"valid\":true}],\"valid\":true}"

abbrev pub refused_text : Described
refused_text = record { name = codes "type"; text = codes "1 is not of type \"string\"" }

abbrev pub no_string_unit : Unit_
no_string_unit = unit (record {
  valid = false;
  instance_location = codes "/n";
  evaluation_path = codes "/$ref/type";
  schema_path = codes "/type";
  absolute = Some (codes "https://example.com/text#/type");
  annotations = None;
  errors = refused_text ∷ [];
}) (units_of [])

-- {"$id":"https://example.com/text","title":"a text","type":"string"}, to which a `$ref` leads, and 1 at the member "n":
-- the title is an annotation, and is dropped
abbrev pub titled_unit : Unit_
titled_unit = unit (record {
  valid = false;
  instance_location = codes "/n";
  evaluation_path = codes "/$ref";
  schema_path = [];
  absolute = Some (codes "https://example.com/text");
  annotations = Some (object (member (codes "title") (string (codes "a text")) no_members));
  errors = [];
}) (units_of (no_string_unit ∷ []))

abbrev pub RefusedIsListed : Type 0
RefusedIsListed = compact_text (output_list titled_unit)
    ≡ codes "{\"details\":[{\"droppedAnnotations\":{\"title\":\"a text\"},\"evaluationPath\":\"/$ref\""
    ++ codes ",\"instanceLocation\":\"/n\",\"schemaLocation\":\"https://example.com/text\",\"valid\":false}"
    ++ codes ",{\"errors\":{\"type\":\"1 is not of type \\\"string\\\"\"},\"evaluationPath\":\"/$ref/type\""
    ++ codes ",\"instanceLocation\":\"/n\",\"schemaLocation\":\"https://example.com/text#/type\",\"valid\":false}],\"valid\":false}"

abbrev pub missing : Text → Described
missing name = record { name = codes "required"; text = codes "\"" ++ name ++ codes "\" is a required property" }

-- of two errors of `required`, the first is shown; the other keyword's error is beside it
abbrev pub FirstErrorStands : Type 0
FirstErrorStands = errors_by_name (missing (codes "a") ∷ refused_text ∷ missing (codes "b") ∷ [])
    ≡ member (codes "required") (string (codes "\"a\" is a required property"))
    (member (codes "type") (string (codes "1 is not of type \"string\"")) no_members)

abbrev pub pattern_error : Error
pattern_error = record {
  place = [];
  schema_path = codes "/not/pattern";
  evaluation_path = codes "/not/pattern";
  absolute = Some (codes "https://example.com/text#/not/pattern");
  name = codes "pattern";
  text = codes "unfinished";
}

-- an error's unit is shown by its pointer, even if the error has an absolute location
abbrev pub ErrorIsListed : Type 0
ErrorIsListed = compact_text (output_list (errors_unit (pattern_error ∷ [])))
    ≡ codes "{\"details\":[{\"evaluationPath\":\"\",\"instanceLocation\":\"\",\"schemaLocation\":\"\",\"valid\":false}"
    ++ codes ",{\"errors\":{\"pattern\":\"unfinished\"},\"evaluationPath\":\"/not/pattern\",\"instanceLocation\":\"\""
    ++ codes ",\"schemaLocation\":\"/not/pattern\",\"valid\":false}],\"valid\":false}"
