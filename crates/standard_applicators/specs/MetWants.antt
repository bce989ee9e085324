-- `dependencies` relates a member either to a list of names or to a schema. It accepts an object
-- if, for each such member that the object has, the object also has the listed members or the
-- schema accepts the object. An instance that is no object has no members. A want is a member and a
-- name that it requires. (Validation draft 7, 6.5.7; from 2019-09 on `dependentRequired` and
-- `dependentSchemas` take its place)
use Rattle.std.specs.Prelude.{All, List, true, ◌≡◌}
use Rattle.theory_definitions.specs.Instance.{Subject, Text}
use Rattle.keyword_authoring.specs.Members.{has_member}

abbrev pub EachWantIsMet : List (Text × Text) → Subject → Type 0
EachWantIsMet wants s = All (λ want. has_member want.0 s ≡ true → has_member want.1 s ≡ true) wants
