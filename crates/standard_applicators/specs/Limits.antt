-- The limits beside `contains`. (Validation 2020-12, 6.4.4 and 6.4.5)
use Rattle.std.specs.Prelude.{Bool, None, Option, Some, codes, false, if◌then◌else◌, option_and_then, true, unwrap_or, ℕ}
use Rattle.serde_json.specs.Data.{Data, Members}
use Rattle.serde_json.specs.Find.{as_number, get_member}
use Rattle.json_values.specs.Numbers.{natural_of}
use Rattle.theory_definitions.specs.Drafts.{Draft, draft_4, draft_6, draft_7}
use Rattle.theory_definitions.specs.Instance.{Text}
use Rattle.standard_applicators.specs.declared.contains.Contains.{Contains}

-- the drafts that have `minContains` and `maxContains`
abbrev pub has_limits : Draft → Bool
has_limits draft_4 = false
has_limits draft_6 = false
has_limits draft_7 = false
has_limits _ = true

abbrev pub limit_beside : Draft → Text → Members → Option Data
limit_beside draft name ms = if has_limits draft then get_member name ms else None

-- a limit is a natural number in any notation, so that 2.0 is 2
abbrev pub limit_of : Data → Option ℕ
limit_of d = option_and_then natural_of (as_number d)

abbrev pub limit_in : Draft → Text → Members → Option ℕ
limit_in draft name ms = option_and_then limit_of (limit_beside draft name ms)

-- If `minContains` is missing, at least one item must fit.
abbrev pub contains_in : Draft → Members → Contains
contains_in draft ms = record { least = unwrap_or (limit_in draft (codes "minContains") ms) 1; most = limit_in draft (codes "maxContains") ms }

-- the value of a limit if it is no natural number
abbrev pub if_no_limit : Data → Option ℕ → Option Data
if_no_limit d None = Some d
if_no_limit d (Some limit) = None

abbrev pub no_limit_in : Option Data → Option Data
no_limit_in None = None
no_limit_in (Some d) = if_no_limit d (limit_of d)

abbrev pub refused_limit : Draft → Text → Members → Option Data
refused_limit draft name ms = no_limit_in (limit_beside draft name ms)
