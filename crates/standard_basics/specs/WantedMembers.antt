-- `required` accepts an object if each listed name is that of a member, and whatever is no object.
-- (Validation 2020-12, 6.5.3)
use Rattle.std.specs.Prelude.{All, List, true, ◌≡◌}
use Rattle.theory_definitions.specs.Instance.{Subject, Text}
use Rattle.keyword_authoring.specs.Members.{has_member, is_object}

abbrev pub HasEachMember : List Text → Subject → Type 0
HasEachMember names s = is_object s ≡ true → All (λ name. has_member name s ≡ true) names
