-- `contains`: the least and the greatest number of items that may fit its schema. (Core 2020-12,
-- 10.3.1.3; for `minContains` and `maxContains` beside it Validation 2020-12, 6.4.4 and 6.4.5)
use Rattle.std.proofs.Common.{refl}
use Rattle.std.specs.Prelude.{Bool, None, Option, Some, codes, decimal, if◌then◌else◌, is_some, nat_lt, not, true, ℕ, ◌++◌, ◌==◌, ◌≡◌}
use Rattle.theory_definitions.specs.Instance.{Subject, Text}
use Rattle.theory_definitions.specs.Meaning.{subject_text}
use Rattle.keyword_authoring.specs.Items.{is_list}
use Rattle.keyword_authoring.specs.Plans.{either_says_monotone, plan_says_monotone}
use Rattle.keyword_authoring.specs.WayGrows.{PlansGrow}
use Rattle.keyword_authoring.specs.declared.planned.Asks.TheVariants as asks
use Rattle.keyword_authoring.specs.declared.planned.Plan.{Plan}
use Rattle.keyword_authoring.specs.declared.planned.Plan.TheVariants.{AtLeast, Holds, Within}
use Rattle.standard_applicators.specs.declared.contains.Contains.{Contains}

abbrev pub wanted : ℕ → Option ℕ → Plan
wanted least None = AtLeast asks.Items least
wanted least (Some most) = Within asks.Items least most

-- An instance that is no list is accepted.
abbrev pub planned : Contains → Subject → Plan
planned k s = if is_list s then wanted k.least k.most else Holds true

abbrev pub called : Contains → Text
called k = codes "contains"

-- ---- the error's text, by the number of items that fit

abbrev pub more_than : ℕ → Text
more_than most = codes "More than " ++ (decimal most ++ codes " of ")

abbrev pub fewer_than : ℕ → Text
fewer_than least = if least == 1 then codes "None of " else codes "Fewer than " ++ (decimal least ++ codes " of ")

abbrev pub how_many : ℕ → Option ℕ → ℕ → Text
how_many least None accepted = fewer_than least
how_many least (Some most) accepted = if nat_lt most accepted then more_than most else fewer_than least

abbrev pub rest_of : Subject → Text
rest_of s = subject_text s ++ codes " are valid under the given schema"

abbrev pub error_text : Contains → Subject → ℕ → Text
error_text k s accepted = how_many k.least k.most accepted ++ rest_of s

-- ---- Without a greatest number, one more fitting item does no harm.

abbrev pub says_monotone : Contains → Bool
says_monotone k = not (is_some k.most)

wanted_grows : (least : ℕ) (most : Option ℕ) → not (is_some most) ≡ true → plan_says_monotone (wanted least most) ≡ true
wanted_grows least None h = refl
wanted_grows least (Some most) h = cc

pub grows : PlansGrow planned says_monotone
grows k s h = either_says_monotone (is_list s) _ _ (wanted_grows k.least k.most h) refl
