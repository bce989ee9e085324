-- The members of an instance that is an object, and the questions that are asked at them.
use Rattle.std.specs.Prelude.{Bool, List, None, Option, Some, [], false, is_some, length, slice_index_or, true, ℕ, ◌+◌, ◌∷◌}
use Rattle.serde_json.specs.Data.{Members, member, no_members}
use Rattle.serde_json.specs.Find.{as_object}
use Rattle.theory_definitions.specs.Instance.{Subject, Text, a_name, a_value, after_step, to_member, to_name}
use Rattle.theory_definitions.specs.Keywords.{Question, down}

abbrev pub has_member : Text → Subject → Bool
has_member k s = is_some (after_step (to_member k) s)

abbrev pub is_object : Subject → Bool
is_object (a_value d) = is_some (as_object d)
is_object (a_name k) = false

-- the names of an object's members, in order
abbrev pub names_in : Members → List Text
names_in no_members = []
names_in (member k d ms) = k ∷ names_in ms

abbrev pub names_of_any : Option Members → List Text
names_of_any None = []
names_of_any (Some ms) = names_in ms

abbrev pub subject_names : Subject → List Text
subject_names (a_value d) = names_of_any (as_object d)
subject_names (a_name k) = []

-- the number of members, which is 0 if the instance is not an object
abbrev pub member_count : Subject → ℕ
member_count s = length (subject_names s)

-- the name of the member with this number, or an empty text if there is none
abbrev pub name_at : Subject → ℕ → Text
name_at s n = slice_index_or (subject_names s) n []

-- ---- questions

-- the only child, at the value of the member with this name
abbrev pub first_at_member : Text → Question
first_at_member k = record { child = 0; below = down (to_member k) }

-- the only child, at this name
abbrev pub at_name : Text → Question
at_name k = record { child = 0; below = down (to_name k) }

abbrev pub only_if : Bool → Question → Option Question
only_if true q = Some q
only_if false q = None

-- for each child the question at the member with its name, if that is present
abbrev pub members_from : ℕ → List Text → Subject → List (Option Question)
members_from i [] s = []
members_from i (k ∷ ks) s = only_if (has_member k s) (record { child = i; below = down (to_member k) }) ∷ members_from (i + 1) ks s
