-- `dependentSchemas` accepts an object if the object satisfies each schema whose name is one of its
-- members. An instance that is no object has no members. The schemas are numbered in the order of
-- their names. (Core 2020-12, 10.2.2.4)
use Rattle.std.specs.Prelude.{Bool, List, length, true, ℕ, ◌++◌, ◌∷◌, ◌≡◌}
use Rattle.theory_definitions.specs.Instance.{Subject, Text}
use Rattle.keyword_authoring.specs.Members.{has_member}

-- `accepts` says whether the schema with a number accepts the instance.
abbrev pub EachDependentAccepts : List Text → Subject → (ℕ → Bool) → Type 0
EachDependentAccepts names s accepts = (name : Text) (before after : List Text) → names ≡ before ++ name ∷ after → has_member name s ≡ true
    → accepts (length before) ≡ true
