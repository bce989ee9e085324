-- The questions that each keyword asks, and what it reports of an instance.
use Rattle.std.specs.Prelude.{Bool, List, [], codes, false, option_map, suc, true, zero, ℕ, ◌++◌, ◌∷◌}
use Rattle.theory_definitions.specs.Instance.{Subject, Text}
use Rattle.schema_reports.specs.ReportViews.{spoken}
use Rattle.theory_definitions.specs.Keywords.{Answer, Keywords}
use Rattle.theory_definitions.specs.Meaning.{subject_text}
use Rattle.keyword_authoring.specs.declared.run.Progress.{Progress}
use Rattle.keyword_authoring.specs.Items.{child_here, each_from}
use Rattle.keyword_authoring.specs.Tallies.{Tally}
use Rattle.keyword_authoring.specs.Ways.{Way, branches, judges, passes_on}
use Rattle.keyword_authoring.specs.WayWords.{words_of}
use Rattle.schema_applicators.specs.ApplicatorShape.{ApplicatorShape, has_all_of, has_any_of, has_if, has_not, has_one_of}

-- ---- `not`

abbrev pub not_text : Text → Subject → Text
not_text schema s = schema ++ codes " is not allowed for " ++ subject_text s

-- the error if one schema accepts
abbrev pub if_any : Text → ℕ → List Text
if_any text zero = []
if_any text (suc n) = text ∷ []

abbrev pub not_tally : Bool → Text → Subject → Tally
not_tally texts schema s = record { name = codes "not"; enough = 1; told = if_any (spoken texts (not_text schema s)); shows = false }

-- ---- `anyOf` and `oneOf`

-- the error if no schema accepts
abbrev pub none_text : Text → Subject → Text
none_text name s = subject_text s ++ codes " is not valid under any of the schemas listed in the '" ++ name ++ codes "' keyword"

abbrev pub if_none : Text → ℕ → List Text
if_none text zero = text ∷ []
if_none text (suc n) = []

abbrev pub any_of_tally : Bool → Subject → Tally
any_of_tally texts s = record { name = codes "anyOf"; enough = 1; told = if_none (spoken texts (none_text (codes "anyOf") s)); shows = true }

-- the error if more than one schema accepts
abbrev pub many_text : Subject → Text
many_text s = subject_text s ++ codes " is valid under more than one of the schemas listed in the 'oneOf' keyword"

abbrev pub unless_one : Text → Text → ℕ → List Text
unless_one none many zero = none ∷ []
unless_one none many (suc zero) = []
unless_one none many (suc (suc n)) = many ∷ []

abbrev pub one_of_tally : Bool → Subject → Tally
one_of_tally texts s = record { name = codes "oneOf"; enough = 2; told = unless_one (spoken texts (none_text (codes "oneOf") s)) (spoken texts (many_text s)); shows = true }

-- ---- all keywords; where texts are not claimed, each counts as empty

abbrev pub way : Bool → ApplicatorShape → Subject → Way
way texts (has_all_of n) s = passes_on (each_from child_here 0 n)
way texts (has_any_of n) s = judges (any_of_tally texts s) (each_from child_here 0 n)
way texts (has_one_of n) s = judges (one_of_tally texts s) (each_from child_here 0 n)
way texts (has_not schema fraction) s = judges (not_tally texts schema s) (each_from child_here 0 1)
way texts (has_if accepted refused) s = branches (child_here 0) (option_map child_here accepted) (option_map child_here refused)

abbrev pub words : Bool → Keywords ApplicatorShape (Progress × Answer)
words = words_of way
