-- Checks of an array apart from its items: that it is one, and that it has at least this many
-- items, with the errors and the units of these checks. If texts are not covered, each text counts
-- as empty. (Validation 2020-12, 6.1.1 and 6.4.2)
use Rattle.std.specs.Prelude.{Bool, List, None, Option, Some, [], codes, decimal, if◌then◌else◌, nat_le, not, ℕ, ◌++◌, ◌==◌, ◌||◌, ◌∷◌}
use Rattle.theory_definitions.specs.Instance.{Subject, Text}
use Rattle.theory_definitions.specs.Meaning.{subject_text}
use Rattle.theory_definitions.specs.Reports.{Described}
use Rattle.schema_reports.specs.ReportViews.{spoken}
use Rattle.theory_definitions.specs.Keywords.{Fault, Gives, Named, own}
use Rattle.schema_traits.specs.KeywordViews.{no_gives}
use Rattle.keyword_authoring.specs.Items.{is_list, item_count}
use Rattle.example_fused_keywords.specs.declared.checks.Check.{Check}
use Rattle.example_fused_keywords.specs.declared.checks.Check.TheVariants.{HasLeast, IsArray}

abbrev pub name : Check → Text
name IsArray = codes "type"
name (HasLeast n) = codes "minItems"

-- an instance that is not an array counts as having enough items
abbrev pub holds : Check → Subject → Bool
holds IsArray s = is_list s
holds (HasLeast n) s = not (is_list s) || nat_le n (item_count s)

abbrev pub counted_items : ℕ → Text
counted_items n = if n == 1 then codes " item" else codes " items"

abbrev pub error_text : Check → Subject → Text
error_text IsArray s = subject_text s ++ codes " is not of type \"array\""
error_text (HasLeast n) s = subject_text s ++ codes " has less than " ++ decimal n ++ counted_items n

-- ---- the error of a check

-- at the keyword itself, or at the absorbed keyword of this name
abbrev pub spot_name : Bool → Text → Option Text
spot_name absorbed k = if absorbed then Some k else None

abbrev pub error_at : Option Text → Text → Text → Fault
error_at absorbed k t = own (record { spot = record { absorbed = absorbed; path = []; below = [] }; name = k; text = t })

abbrev pub unless : {A : Type 0} → Bool → A → List A
unless b a = if b then [] else a ∷ []

abbrev pub check_error : Bool → Bool → Check → Subject → Fault
check_error texts absorbed c s = error_at (spot_name absorbed (name c)) (name c) (spoken texts (error_text c s))

abbrev pub errors_at : Bool → Bool → Check → Subject → List Fault
errors_at texts absorbed c s = unless (holds c s) (check_error texts absorbed c s)

-- ---- the unit of a check, as a keyword's own and as that of an absorbed keyword

abbrev pub described : Bool → Check → Subject → List Described
described texts c s = unless (holds c s) (record { name = name c; text = spoken texts (error_text c s) })

abbrev pub own_unit : Bool → Check → Subject → Gives
own_unit texts c s = record no_gives { valid = holds c s; errors = described texts c s }

abbrev pub absorbed_unit : Bool → Check → Subject → Named
absorbed_unit texts c s = record { name = name c; valid = holds c s; children = []; annotations = None; errors = described texts c s }
