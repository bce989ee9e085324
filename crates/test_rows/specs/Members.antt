-- How the members of a case are read.
use Rattle.std.specs.Prelude.{None, Option, Some, if◌then◌else◌, nat_lt, option_and_then, ℕ, ◌==◌, ◌^◌, ◌&&◌}
use Rattle.serde_json.specs.Data.{Data, Items, no_items}
use Rattle.serde_json.specs.Find.{as_array, as_number, as_u64}
use Rattle.schema_drafts.specs.declared.keywords.drafts.Draft.{Draft}
use Rattle.schema_drafts.specs.declared.keywords.drafts.Draft.TheVariants.{Draft201909, Draft202012, Draft4, Draft6, Draft7, Unknown}

-- a whole number from 0, of at most 64 bits
abbrev pub count_in : Option Data → Option ℕ
count_in member = option_and_then (λ d. option_and_then as_u64 (as_number d)) member

-- a whole number from 1, of at most 32 bits
abbrev pub if_runs : ℕ → Option ℕ
if_runs n = if nat_lt n (2 ^ 32) && nat_lt 0 n then Some n else None

abbrev pub runs_in : Option Data → Option ℕ
runs_in member = option_and_then if_runs (count_in member)

-- the draft of this number
abbrev pub draft_numbered : ℕ → Option Draft
draft_numbered n = if n == 4 then Some Draft4 else (if n == 6 then Some Draft6 else (if n == 7 then Some Draft7
    else (if n == 2019 then Some Draft201909 else (if n == 2020 then Some Draft202012 else None))))

abbrev pub draft_in : Option Data → Option Draft
draft_in member = option_and_then draft_numbered (count_in member)

-- the number of a draft, or 0 for an unknown one
abbrev pub number_of : Draft → ℕ
number_of Draft4 = 4
number_of Draft6 = 6
number_of Draft7 = 7
number_of Draft201909 = 2019
number_of Draft202012 = 2020
number_of Unknown = 0

-- the items of a list, or nothing
abbrev pub list_in : Option Items → Items
list_in None = no_items
list_in (Some ds) = ds

abbrev pub list_of : Option Data → Items
list_of member = list_in (option_and_then as_array member)
