-- `minItems`, and the `items` that absorbs it and `type`: their checks, what a run has found before
-- it asks about items, and what it asks.
use Rattle.std.specs.Prelude.{Bool, List, [], codes, false, if◌then◌else◌, true, ℕ, ◌&&◌, ◌++◌, ◌-◌, ◌∷◌}
use Rattle.theory_definitions.specs.Instance.{Subject, Text}
use Rattle.theory_definitions.specs.Keywords.{Answer, Fault, Gives, Question, for_all, for_first, for_verdict}
use Rattle.theory_definitions.specs.Laws.{first_fault}
use Rattle.schema_traits.specs.KeywordViews.{no_gives, with_errors, with_gives}
use Rattle.schema_traits.specs.declared.keyword.Mode.{Mode}
use Rattle.schema_traits.specs.declared.keyword.Mode.TheVariants as mode
use Rattle.keyword_authoring.specs.Items.{each_from, first_at_item, item_count}
use Rattle.example_fused_keywords.specs.Checks.{absorbed_unit, errors_at, holds, own_unit}
use Rattle.example_fused_keywords.specs.declared.array.ArrayKeyword.{ArrayKeyword}
use Rattle.example_fused_keywords.specs.declared.array.ArrayKeyword.TheVariants.{ArrayShape, MinItems}
use Rattle.example_fused_keywords.specs.declared.checks.Check.TheVariants.{HasLeast, IsArray}

-- the names of the keywords that a keyword absorbs
abbrev pub absorbs : ArrayKeyword → List Text
absorbs (MinItems n) = []
absorbs (ArrayShape before n) = codes "type" ∷ codes "minItems" ∷ []

-- ---- the checks

-- whether an instance passes the checks
abbrev pub checks_hold : ArrayKeyword → Subject → Bool
checks_hold (MinItems n) s = holds (HasLeast n) s
checks_hold (ArrayShape before n) s = holds IsArray s && holds (HasLeast n) s

-- the errors of the checks that an instance does not pass
abbrev pub errors : Bool → ArrayKeyword → Subject → List Fault
errors texts (MinItems n) s = errors_at texts false (HasLeast n) s
errors texts (ArrayShape before n) s = errors_at texts true IsArray s ++ errors_at texts true (HasLeast n) s

-- in an evaluation: the keyword's own unit, without those of items, and the units of the keywords
-- that it absorbs
abbrev pub first_gives : Bool → ArrayKeyword → Subject → Gives
first_gives texts (MinItems n) s = own_unit texts (HasLeast n) s
first_gives texts (ArrayShape before n) s = record no_gives { absorbed = absorbed_unit texts IsArray s ∷ absorbed_unit texts (HasLeast n) s ∷ [] }

-- the answer of a run after the checks, by their verdict, their errors and their units
abbrev pub answered : Mode → Bool → List Fault → Gives → Answer
answered mode.Verdict b es g = record { mode = for_verdict; verdict = b; errors = []; gives = record no_gives { valid = b } }
answered mode.First b es g = with_errors for_first (first_fault es)
answered mode.All b es g = with_errors for_all es
answered mode.Evaluate b es g = with_gives g

-- the answer of a run in a mode after the checks
abbrev pub opening : Bool → Mode → ArrayKeyword → Subject → Answer
opening texts m k s = answered m (checks_hold k s) (errors texts k s) (first_gives texts k s)

-- ---- the questions

-- the number of items before those at which the child is asked
abbrev pub before_of : ArrayKeyword → ℕ
before_of (MinItems n) = 0
before_of (ArrayShape before n) = before

abbrev pub count_of : ArrayKeyword → Subject → ℕ
count_of (MinItems n) s = 0
count_of (ArrayShape before n) s = item_count s - before

-- the questions that a keyword may ask
abbrev pub questions_of : ArrayKeyword → Subject → List Question
questions_of k s = each_from first_at_item (before_of k) (count_of k s)

-- a failed check ends a run for the verdict or for the first error
abbrev pub count_in : Mode → Bool → ℕ → ℕ
count_in mode.Verdict b n = if b then n else 0
count_in mode.First b n = if b then n else 0
count_in mode.All b n = n
count_in mode.Evaluate b n = n

abbrev pub asked_count : Mode → ArrayKeyword → Subject → ℕ
asked_count m k s = count_in m (checks_hold k s) (count_of k s)

-- the questions that a run in a mode asks
abbrev pub run_questions : Mode → ArrayKeyword → Subject → List Question
run_questions m k s = each_from first_at_item (before_of k) (asked_count m k s)
