-- Two JSON values are equal if both are null, the same truth value, the same number, the same text,
-- arrays with equal items in the same order, or objects with equal members of the same names. (JSON
-- Schema Core 2020-12, 4.2.2; Validation, 6.1.2, 6.1.3 and 6.4.3)
use Rattle.std.specs.Prelude.{Bool, bytes_eq, false, not, option_map, true, unwrap_or, ◌&&◌, ◌||◌, ◌==◌}
use Rattle.serde_json.specs.Data.{Data, Items, Members, array, boolean, item, member, no_items, no_members, null, number, object, string}
use Rattle.serde_json.specs.Events.{members_len}
use Rattle.serde_json.specs.Find.{get_member}
use Rattle.json_values.specs.Numbers.{same_number}

abbrev pub same_truth : Bool → Bool → Bool
same_truth true b = b
same_truth false b = not b

-- Numbers are compared by value, so 1 equals 1.0. Arrays are equal if their items are, in the same
-- order. Objects are equal if they have the same number of members, and each member of the first
-- equals the second's member of its name. An object has each name once.
abbrev mutual
  pub equal : Data → Data → Bool
  equal null null = true
  equal (boolean a) (boolean b) = same_truth a b
  equal (number m) (number n) = same_number m n
  equal (string s) (string t) = bytes_eq s t
  equal (array ds) (array es) = equal_items ds es
  equal (object ms) (object ns) = (members_len ms == members_len ns) && members_within ms ns
  equal _ _ = false

  pub equal_items : Items → Items → Bool
  equal_items no_items no_items = true
  equal_items (item d ds) (item e es) = equal d e && equal_items ds es
  equal_items _ _ = false

  -- each member equals the other object's member of its name
  pub members_within : Members → Members → Bool
  members_within no_members ns = true
  members_within (member k d ms) ns = unwrap_or (option_map (equal d) (get_member k ns)) false && members_within ms ns

abbrev pub equal_members : Members → Members → Bool
equal_members ms ns = (members_len ms == members_len ns) && members_within ms ns

-- equality of objects whose members are in the order of their names, pair by pair
abbrev pub members_walk : Members → Members → Bool
members_walk no_members no_members = true
members_walk (member k d ms) (member l e ns) = bytes_eq k l && (equal d e && members_walk ms ns)
members_walk _ _ = false

-- one of the items equals d
abbrev pub has_equal : Data → Items → Bool
has_equal d no_items = false
has_equal d (item e es) = equal d e || has_equal d es

-- no two items are equal
abbrev pub all_distinct : Items → Bool
all_distinct no_items = true
all_distinct (item d ds) = not (has_equal d ds) && all_distinct ds
