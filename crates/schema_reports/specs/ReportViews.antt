-- The code's errors, in terms of the definitions. If texts are not covered, each text counts as
-- empty.
use Rattle.std.specs.Prelude.{◌≡◌, [], Bool, Option, Some, String, string_bytes, option_map, if◌then◌else◌}
use Rattle.serde_json.specs.Data.{Data}
use Rattle.theory_definitions.specs.Instance.{Place, Text, subject_at}
use Rattle.theory_definitions.specs.Meaning.{Where}
use Rattle.theory_definitions.specs.Reports.{Error}
use Rattle.schema_reports.specs.InstanceViews.{subject_of}
use Rattle.std.specs.declared.alloc.Global.{Global}
use Rattle.serde_json.specs.View.{view}
use Rattle.theory_definitions.specs.Reports as spec
use Rattle.schema_reports.specs.declared.reports.ValidationError.{ValidationError}
use Rattle.schema_reports.specs.declared.reports.OwnedError.{OwnedError}

-- a text, or the empty text if texts are not covered
abbrev pub spoken : Bool → Text → Text
spoken texts t = if texts then t else []

abbrev pub error_of : Bool → ValidationError → Error
error_of texts e = record {
  place = e.place;
  schema_path = e.schema_path;
  evaluation_path = e.evaluation_path;
  absolute = option_map string_bytes e.absolute_keyword_location;
  name = string_bytes e.keyword;
  text = spoken texts (string_bytes e.text);
}

-- the context in which a schema with this absolute location is evaluated; every location inside it
-- is mapped to that same absolute location
abbrev pub where_of : Place → Text → Text → Option (String Global) → Where
where_of place location path absolute = record { place = place; path = path; location = location; absolute = λ _. option_map string_bytes absolute }

-- the borrowed instance is the one found at the error's place
abbrev pub BorrowsItsPlace : Data → ValidationError → Type 0
BorrowsItsPlace d e = subject_at d e.place ≡ Some (subject_of e.instance)

abbrev pub owned_error_of : OwnedError → spec.OwnedError
owned_error_of e = record {
  instance = view e.instance;
  instance_path = e.instance_path;
  schema_path = e.schema_path;
  evaluation_path = e.evaluation_path;
  absolute = option_map string_bytes e.absolute_keyword_location;
  name = string_bytes e.keyword;
  text = string_bytes e.text;
}
