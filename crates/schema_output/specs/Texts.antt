-- The text of the list format, and its parts while it is written.
use Rattle.std.specs.Prelude.{Bool, List, Some, [], codes, false, map, ◌++◌, ◌∷◌, ◌≡◌, ◌≤◌}
use Rattle.json.specs.Json as json
use Rattle.json.specs.Lex.{tokens}
use Rattle.json.specs.Print.{print, quoted}
use Rattle.json.specs.Tree.{HasNumbers, json_tokens}
use Rattle.serde_json.specs.Data.{Data, boolean, depth}
use Rattle.serde_json.specs.Read.{max_depth, of_json, read}
use Rattle.serde_json.specs.Written.{IsInOrder, blank, compact_text, has_float, outline}
use Rattle.theory_definitions.specs.Instance.{Text}
use Rattle.theory_definitions.specs.Reports.{Described, Report, Unit_, children_of}
use Rattle.schema_output.specs.Output.{reports_in_each, schema_location, unit_object}

-- the compact text of a value, as JSON. It says nothing of the digits of fractions. The text of any
-- value has no spaces, has items and members in their order, members in the byte order of their
-- names, and is read as the value if that nests no deeper than the reader allows
pub record IsJsonText (d : Data) (text : Text) : Type 0 where
  pub compact : has_float d ≡ false → text ≡ compact_text d
  pub spaceless : text ≡ print (tokens text)
  pub ordered : IsInOrder text d
  pub reads_back : depth d ≤ max_depth → read text ≡ Some d

-- ---- for private clauses

-- the text is that of some JSON value which says what this one does
pub record Prints (d : Data) (text : Text) : Type 0 where
  pub json : json.Json
  pub printed : text ≡ print (json_tokens json)
  pub numbers : HasNumbers json
  pub same : blank json ≡ outline d
  pub reads : depth d ≤ max_depth → of_json json ≡ Some d

-- texts of these values, each after a comma, follow what was there
abbrev pub Follow : List Data → Text → Text → Type 0
Follow [] old new = new ≡ old
Follow (d ∷ ds) old new = (text : Text) × Prints d text × Follow ds (old ++ 44 ∷ text) new

-- the objects of the units inside a unit, one by one
abbrev pub objects_below : Unit_ → List Data
objects_below u = map unit_object (reports_in_each (children_of u))

-- the last member that every unit has, and the end of its object
abbrev pub valid_text : Bool → Text
valid_text valid = codes ",\"valid\":" ++ (compact_text (boolean valid) ++ 125 ∷ [])

-- the members that every unit has, and the end of its object
abbrev pub places_text : Report → Text
places_text r =
    codes "\"evaluationPath\":" ++ (quoted r.evaluation_path
    ++ (codes ",\"instanceLocation\":" ++ (quoted r.instance_location
    ++ (codes ",\"schemaLocation\":" ++ (quoted (schema_location r) ++ valid_text r.valid)))))

-- the same, if no text needs escapes
abbrev pub plain_places_text : Text → Text → Text → Bool → Text
plain_places_text path place schema valid =
    codes "\"evaluationPath\":\"" ++ (path
    ++ (codes "\",\"instanceLocation\":\"" ++ (place
    ++ (codes "\",\"schemaLocation\":\"" ++ (schema ++ 34 ∷ valid_text valid)))))

-- the member of one error, with a comma after it
abbrev pub error_text : Described → Text
error_text d = codes "\"errors\":{" ++ (quoted d.name ++ (codes ":" ++ (quoted d.text ++ codes "},")))

-- the text before the first unit, and the one after the last
abbrev pub opening : Text
opening = codes "{\"details\":["

abbrev pub closing : Bool → Text
closing valid = codes "],\"valid\":" ++ (compact_text (boolean valid) ++ 125 ∷ [])
