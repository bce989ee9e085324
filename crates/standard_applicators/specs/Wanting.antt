-- Members that require others: if an object has the one, it must have the other. (Validation draft
-- 7, 6.5.7; from 2019-09 on `dependentRequired`, Validation 2019-09, 6.5.4)
use Rattle.std.specs.Prelude.{Bool, List, codes, filter, map, not, ◌++◌, ◌&&◌}
use Rattle.theory_definitions.specs.Instance.{Subject, Text, a_name}
use Rattle.theory_definitions.specs.Meaning.{subject_text}
use Rattle.keyword_authoring.specs.Members.{has_member}

-- the member is present, and the one that it requires is not
abbrev pub is_unmet : Subject → Text × Text → Bool
is_unmet s want = has_member want.0 s && not (has_member want.1 s)

abbrev pub unmet : List (Text × Text) → Subject → List (Text × Text)
unmet wants s = filter (is_unmet s) wants

abbrev pub required_text : Text × Text → Text
required_text want = subject_text (a_name want.1) ++ codes " is a required property"

abbrev pub missing_texts : List (Text × Text) → Subject → List Text
missing_texts wants s = map required_text (unmet wants s)
