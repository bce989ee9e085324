-- The items after the first so many.
use Rattle.std.proofs.Common.{ℕ, zero, suc, ap, arith, drop, false, length, take, true, refl, ◌<◌, ◌≤◌, ◌-◌, ◌≡◌, ◌∙◌, ◌∷◌, ◌||◌, [], Bool, List}
use Rattle.std.proofs.lemmas.List.{length-drop, take_all}
use Rattle.serde_json.specs.Data.{Items, array, boolean, item, no_items, null, number, object, string}
use Rattle.serde_json.specs.View.{items_view}
use Rattle.serde_json.specs.Written.{has_float, items_have_float}
use Rattle.theory_definitions.specs.Instance.{Subject, a_name, a_value}
use Rattle.schema_reports.specs.InstanceTexts.{subject_has_float}
use Rattle.serde_json.specs.declared.value.Value.{Value}
use Rattle.standard_applicators.specs.Unexpected.{items_after, subject_items}

dropped : (n : ℕ) (xs : List Value) → items_view (drop n xs) ≡ items_after n (items_view xs)
dropped zero xs = refl
dropped (suc n) [] = refl
dropped (suc n) (x ∷ xs) = dropped n xs

pub items_dropped : (n : ℕ) (xs : List Value) → items_view (take (length xs - n) (drop n xs)) ≡ items_after n (items_view xs)
items_dropped n xs = let within : length (drop n xs) ≤ length xs - n = omega (arith, length-drop n xs) in
    ap items_view (take_all (length xs - n) (drop n xs) within) ∙ dropped n xs

pub items_past : (n : ℕ) (xs : List Value) → length xs < n → no_items ≡ items_after n (items_view xs)
items_past zero xs h = absurd (omega arith)
items_past (suc n) [] h = refl
items_past (suc n) (x ∷ xs) h = items_past n xs (omega arith)

-- ---- They contain no fraction if the instance contains none.

or_right : (a b : Bool) → (a || b) ≡ false → b ≡ false
or_right true b h = cc
or_right false b h = h

after_whole : (n : ℕ) (ds : Items) → items_have_float ds ≡ false → items_have_float (items_after n ds) ≡ false
after_whole zero ds h = h
after_whole (suc n) no_items h = h
after_whole (suc n) (item d ds) h = after_whole n ds (or_right (has_float d) (items_have_float ds) h)

pub later_whole : (n : ℕ) (s : Subject) → subject_has_float s ≡ false → items_have_float (items_after n (subject_items s)) ≡ false
later_whole n (a_name k) h = after_whole n no_items refl
later_whole n (a_value null) h = after_whole n no_items refl
later_whole n (a_value (boolean b)) h = after_whole n no_items refl
later_whole n (a_value (number m)) h = after_whole n no_items refl
later_whole n (a_value (string t)) h = after_whole n no_items refl
later_whole n (a_value (object ms)) h = after_whole n no_items refl
later_whole n (a_value (array ds)) h = after_whole n ds h
