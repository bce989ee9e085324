-- With the value `false`, `additionalItems` accepts a list only if `items` has a schema for each of
-- its items. The error shows the other items. (Core 2019-09, 9.3.1.2)
use Rattle.std.specs.Prelude.{None, Option, Some, [], codes, if◌then◌else◌, nat_le, suc, zero, Bool, ℕ, ◌++◌, ◌-◌, ◌==◌}
use Rattle.serde_json.specs.Data.{Items, item, no_items}
use Rattle.serde_json.specs.Find.{as_array}
use Rattle.serde_json.specs.Written.{compact_text}
use Rattle.theory_definitions.specs.Instance.{Subject, Text, a_name, a_value}
use Rattle.keyword_authoring.specs.Items.{item_count}
use Rattle.standard_applicators.specs.declared.unexpected.NoLaterItems.{NoLaterItems}

-- whether there are no more items
abbrev pub accepts : NoLaterItems → Subject → Bool
accepts k s = nat_le (item_count s) k.before

-- ---- the error's text

-- the items of a list, and none of any other value
abbrev pub items_of_any : Option Items → Items
items_of_any None = no_items
items_of_any (Some ds) = ds

abbrev pub subject_items : Subject → Items
subject_items (a_value d) = items_of_any (as_array d)
subject_items (a_name k) = no_items

-- the items after the first so many
abbrev pub items_after : ℕ → Items → Items
items_after zero ds = ds
items_after (suc n) no_items = no_items
items_after (suc n) (item d ds) = items_after n ds

-- the texts of the values, with `before` in front of the first one and commas between them
abbrev pub texts_from : Text → Items → Text
texts_from before no_items = []
texts_from before (item d ds) = before ++ (compact_text d ++ texts_from (codes ", ") ds)

abbrev pub listed : Items → Text
listed ds = texts_from [] ds

abbrev pub were : ℕ → Text
were n = if n == 1 then codes " was unexpected)" else codes " were unexpected)"

abbrev pub called : NoLaterItems → Text
called k = codes "additionalItems"

abbrev pub error_text : NoLaterItems → Subject → Text
error_text k s = codes "Additional items are not allowed (" ++ (listed (items_after k.before (subject_items s)) ++ were (item_count s - k.before))
