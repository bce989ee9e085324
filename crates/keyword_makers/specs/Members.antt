-- The names of an object's members, and the paths of their values below a keyword.
use Rattle.std.specs.Prelude.{List, [], ◌∷◌}
use Rattle.serde_json.specs.Data.{Members, member, no_members}
use Rattle.theory_definitions.specs.Instance.{Place, Text, to_member}

abbrev pub names_of : Members → List Text
names_of no_members = []
names_of (member k d ms) = k ∷ names_of ms

abbrev pub values_below : Text → List Text → List Place
values_below name [] = []
values_below name (k ∷ ks) = (to_member name ∷ to_member k ∷ []) ∷ values_below name ks
