-- When two values are the same data.
use Rattle.std.specs.Prelude.{Bool, bytes_eq, false, true, ◌&&◌, ◌==◌}
use Rattle.std.specs.Ordering.{int_eq}
use Rattle.std.specs.Float.Ieee.{eq}
use Rattle.serde_json.specs.Data.{Data, Items, Members, Num, array, boolean, float, item, member, negative, no_items, no_members, null, number, object, string, unsigned}

abbrev pub is_same_truth : Bool → Bool → Bool
is_same_truth true b = b
is_same_truth false true = false
is_same_truth false false = true

-- the same number of the same kind: a whole number is never the same as a fraction, and two
-- fractions are compared as floats
abbrev pub is_same_number : Num → Num → Bool
is_same_number (unsigned m) (unsigned n) = m == n
is_same_number (negative x) (negative y) = int_eq x y
is_same_number (float x) (float y) = eq x y
is_same_number _ _ = false

-- the same kind of value, with the same number, text, items in their order, or members; the members
-- of an object are in the order of their names
abbrev mutual
  pub is_same : Data → Data → Bool
  is_same null null = true
  is_same (boolean a) (boolean b) = is_same_truth a b
  is_same (number m) (number n) = is_same_number m n
  is_same (string s) (string t) = bytes_eq s t
  is_same (array ds) (array es) = are_same_items ds es
  is_same (object ms) (object ns) = are_same_members ms ns
  is_same _ _ = false

  pub are_same_items : Items → Items → Bool
  are_same_items no_items no_items = true
  are_same_items (item d ds) (item e es) = is_same d e && are_same_items ds es
  are_same_items _ _ = false

  pub are_same_members : Members → Members → Bool
  are_same_members no_members no_members = true
  are_same_members (member k d ms) (member l e ns) = bytes_eq k l && (is_same d e && are_same_members ms ns)
  are_same_members _ _ = false
