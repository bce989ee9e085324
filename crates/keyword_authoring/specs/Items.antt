-- The items of an instance that is an array, and questions with consecutive numbers.
use Rattle.std.specs.Prelude.{Bool, List, None, Option, Some, [], false, is_some, suc, zero, ℕ, ◌+◌, ◌∷◌}
use Rattle.serde_json.specs.Data.{Items, item, no_items}
use Rattle.serde_json.specs.Find.{as_array}
use Rattle.theory_definitions.specs.Instance.{Subject, a_name, a_value, to_item}
use Rattle.theory_definitions.specs.Keywords.{Question, down, here}

abbrev pub items_count : Items → ℕ
items_count no_items = 0
items_count (item d ds) = items_count ds + 1

abbrev pub count_in : Option Items → ℕ
count_in None = 0
count_in (Some ds) = items_count ds

abbrev pub is_list : Subject → Bool
is_list (a_value d) = is_some (as_array d)
is_list (a_name k) = false

-- the number of items, which is 0 if the instance is not an array
abbrev pub item_count : Subject → ℕ
item_count (a_value d) = count_in (as_array d)
item_count (a_name k) = 0

-- this many questions, starting with a number
abbrev pub each_from : (ℕ → Question) → ℕ → ℕ → List Question
each_from f i zero = []
each_from f i (suc n) = f i ∷ each_from f (i + 1) n

abbrev pub child_here : ℕ → Question
child_here i = record { child = i; below = here }

abbrev pub child_at_item : ℕ → Question
child_at_item i = record { child = i; below = down (to_item i) }

abbrev pub first_at_item : ℕ → Question
first_at_item i = record { child = 0; below = down (to_item i) }
