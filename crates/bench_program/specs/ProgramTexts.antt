-- What the program prints on standard output.
use Rattle.std.specs.Prelude.{Bool, List, None, Option, Some, [], codes, false, flat_map, true, ◌++◌, ◌∷◌, ◌≡◌, ◌≤◌}
use Rattle.json.specs.Lex.{tokens}
use Rattle.json.specs.Print.{print}
use Rattle.serde_json.specs.Data.{Data, depth}
use Rattle.serde_json.specs.Read.{max_depth, read}
use Rattle.serde_json.specs.Written.{IsInOrder, compact_text, has_float}
use Rattle.theory_definitions.specs.Instance.{Text}
use Rattle.theory_definitions.specs.Reports.{Error, instance_path}

abbrev pub verdict_text : Bool → Text
verdict_text true = codes "true" ++ 10 ∷ []
verdict_text false = codes "false" ++ 10 ∷ []

-- instance path, schema path, evaluation path and text, separated by tabs, and a line feed
abbrev pub error_line : Error → Text
error_line e = instance_path e ++ 9 ∷ [] ++ e.schema_path ++ 9 ∷ [] ++ e.evaluation_path ++ 9 ∷ [] ++ e.text ++ 10 ∷ []

-- the line of the first error, or `ok`
abbrev pub first_text : Option Error → Text
first_text None = codes "ok" ++ 10 ∷ []
first_text (Some e) = error_line e

-- a line for each error
abbrev pub errors_text : List Error → Text
errors_text = flat_map error_line

-- a value as JSON and a line feed; this is the compact text of a value that holds no fraction. The
-- digits of a fraction are not covered. The text of any value has no space, has its items and
-- members in order, with members in the byte order of their names, and is read back as the value if
-- the value is nested no deeper than a reader allows
pub record IsJsonLine (d : Data) (text : Text) : Type 0 where
  pub json : Text
  pub ended : text ≡ json ++ 10 ∷ []
  pub compact : has_float d ≡ false → json ≡ compact_text d
  pub spaceless : json ≡ print (tokens json)
  pub ordered : IsInOrder json d
  pub reads_back : depth d ≤ max_depth → read json ≡ Some d
