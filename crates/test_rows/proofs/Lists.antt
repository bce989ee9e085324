-- Lists of values, and the items that they represent.
use Rattle.std.proofs.Common.{◌≡◌, ◌<◌, ◌≤◌, ◌==◌, List, [], ◌∷◌, length, false, refl, arith}
use Rattle.serde_json.specs.Events.{items_len}
use Rattle.serde_json.specs.View.{items_view}
use Rattle.serde_json.specs.declared.value.Value.{Value}
use Rattle.serde_json.proofs.Views.{items_len-items_view}
use Rattle.test_rows.specs.Wanted.{begins_with, has_columns, is_this_count}

pub has_columns_where_named : (columns names : List Value) → 0 < length names
    → has_columns (items_view columns) (items_view names) ≡ begins_with (items_view columns) (items_view names)
has_columns_where_named columns [] some = absurd (omega arith)
has_columns_where_named columns (name ∷ names) some = refl

pub same_count : (left right : List Value) → (items_len (items_view left) == items_len (items_view right)) ≡ (length left == length right)
same_count left right = rw (items_len-items_view left, items_len-items_view right) refl

pub no_count_below : (parts wanted : List Value) → length parts < 3 → is_this_count (items_view parts) (items_view wanted) ≡ false
no_count_below [] wanted few = refl
no_count_below (a ∷ []) wanted few = refl
no_count_below (a ∷ b ∷ []) wanted few = refl
no_count_below (a ∷ b ∷ c ∷ parts) wanted few = absurd (omega arith)

pub no_count_above : (parts wanted : List Value) → 4 ≤ length parts → is_this_count (items_view parts) (items_view wanted) ≡ false
no_count_above [] wanted many = refl
no_count_above (a ∷ []) wanted many = refl
no_count_above (a ∷ b ∷ []) wanted many = refl
no_count_above (a ∷ b ∷ c ∷ []) wanted many = absurd (omega arith)
no_count_above (a ∷ b ∷ c ∷ d ∷ parts) wanted many = refl

no_count_for_few : (a b c : Value) (wanted : List Value) → length wanted < 3
    → is_this_count (items_view (a ∷ b ∷ c ∷ [])) (items_view wanted) ≡ false
no_count_for_few a b c [] few = refl
no_count_for_few a b c (x ∷ []) few = refl
no_count_for_few a b c (x ∷ y ∷ []) few = refl
no_count_for_few a b c (x ∷ y ∷ z ∷ wanted) few = absurd (omega arith)

no_count_for_many : (a b c : Value) (wanted : List Value) → 4 ≤ length wanted
    → is_this_count (items_view (a ∷ b ∷ c ∷ [])) (items_view wanted) ≡ false
no_count_for_many a b c [] many = refl
no_count_for_many a b c (x ∷ []) many = refl
no_count_for_many a b c (x ∷ y ∷ []) many = refl
no_count_for_many a b c (x ∷ y ∷ z ∷ []) many = absurd (omega arith)
no_count_for_many a b c (x ∷ y ∷ z ∷ w ∷ wanted) many = refl

pub no_count_wanted_below : (parts wanted : List Value) → length wanted < 3 → is_this_count (items_view parts) (items_view wanted) ≡ false
no_count_wanted_below [] wanted few = refl
no_count_wanted_below (a ∷ []) wanted few = refl
no_count_wanted_below (a ∷ b ∷ []) wanted few = refl
no_count_wanted_below (a ∷ b ∷ c ∷ []) wanted few = no_count_for_few a b c wanted few
no_count_wanted_below (a ∷ b ∷ c ∷ d ∷ parts) wanted few = refl

pub no_count_wanted_above : (parts wanted : List Value) → 4 ≤ length wanted → is_this_count (items_view parts) (items_view wanted) ≡ false
no_count_wanted_above [] wanted many = refl
no_count_wanted_above (a ∷ []) wanted many = refl
no_count_wanted_above (a ∷ b ∷ []) wanted many = refl
no_count_wanted_above (a ∷ b ∷ c ∷ []) wanted many = no_count_for_many a b c wanted many
no_count_wanted_above (a ∷ b ∷ c ∷ d ∷ parts) wanted many = refl
