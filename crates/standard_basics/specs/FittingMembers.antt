-- `properties` accepts an object if each member whose name is listed fits the schema of that name
-- (Core 2020-12, 10.3.2.1). `propertyNames` accepts an object if each name of a member fits the
-- schema (Core 2020-12, 10.3.2.4). An instance that is no object has no members. The schemas of
-- `properties` are numbered in the order of their names.
use Rattle.std.specs.Prelude.{All, Bool, List, length, true, ℕ, ◌++◌, ◌∷◌, ◌≡◌}
use Rattle.theory_definitions.specs.Instance.{Subject, Text}
use Rattle.keyword_authoring.specs.Members.{has_member, subject_names}

-- `fits` says whether the member with a name fits the schema with a number.
abbrev pub EachListedFits : List Text → Subject → (ℕ → Text → Bool) → Type 0
EachListedFits names s fits = (name : Text) (before after : List Text) → names ≡ before ++ name ∷ after → has_member name s ≡ true
    → fits (length before) name ≡ true

-- `fits` says whether a name fits the schema.
abbrev pub EachNameFits : Subject → (Text → Bool) → Type 0
EachNameFits s fits = All (λ name. fits name ≡ true) (subject_names s)
