-- The patterns in documents: each text under a member `pattern`, and each member's name under a
-- member `patternProperties`, anywhere in the documents, even in a constant or an example.
-- (Validation 2020-12, 6.3.3; Core 2020-12, 10.3.2.2)
use Rattle.std.specs.Prelude.{List, [], bytes_eq, codes, if◌then◌else◌, ◌++◌, ◌∷◌}
use Rattle.std.specs.List.{flat_map}
use Rattle.serde_json.specs.Data.{Data, Items, Members, array, boolean, item, member, no_items, no_members, null, number, object, string}
use Rattle.theory_definitions.specs.Instance.{Text}

abbrev pub text_of : Data → List Text
text_of (string s) = s ∷ []
text_of null = []
text_of (boolean b) = []
text_of (number n) = []
text_of (array ds) = []
text_of (object ms) = []

abbrev pub names_of : Members → List Text
names_of no_members = []
names_of (member k d ms) = k ∷ names_of ms

abbrev pub member_names_of : Data → List Text
member_names_of (object ms) = names_of ms
member_names_of null = []
member_names_of (boolean b) = []
member_names_of (number n) = []
member_names_of (string s) = []
member_names_of (array ds) = []

-- the patterns that a member of this name and value itself holds
abbrev pub given_by : Text → Data → List Text
given_by k d =
    if bytes_eq k (codes "pattern") then text_of d
    else if bytes_eq k (codes "patternProperties") then member_names_of d
    else []

abbrev mutual
  pub patterns_in : Data → List Text
  patterns_in null = []
  patterns_in (boolean b) = []
  patterns_in (number n) = []
  patterns_in (string s) = []
  patterns_in (array ds) = patterns_in_items ds
  patterns_in (object ms) = patterns_in_members ms

  pub patterns_in_items : Items → List Text
  patterns_in_items no_items = []
  patterns_in_items (item d ds) = patterns_in d ++ patterns_in_items ds

  pub patterns_in_members : Members → List Text
  patterns_in_members no_members = []
  patterns_in_members (member k d ms) = given_by k d ++ (patterns_in d ++ patterns_in_members ms)

abbrev pub patterns_of : List Data → List Text
patterns_of = flat_map patterns_in
