-- An error on its own, which owns its instance; a name is held as a string.
use Rattle.std.specs.Prelude.{◌++◌}
use Rattle.serde_json.specs.Data.{Data, string}
use Rattle.theory_definitions.specs.Instance.{Subject, Text, a_name, a_value}
use Rattle.theory_definitions.specs.Reports.{Error, OwnedError, instance_path}

abbrev pub value_of : Subject → Data
value_of (a_value d) = d
value_of (a_name name) = string name

abbrev pub owned : Subject → Error → OwnedError
owned s e = record {
  instance = value_of s;
  instance_path = instance_path e;
  schema_path = e.schema_path;
  evaluation_path = e.evaluation_path;
  absolute = e.absolute;
  name = e.name;
  text = e.text;
}

-- an error of a part, as an error of the whole: the location comes before the instance path
abbrev pub prefixed : Text → OwnedError → OwnedError
prefixed location e = record e { instance_path = location ++ e.instance_path }
