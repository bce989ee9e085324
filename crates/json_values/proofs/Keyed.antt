-- Values are distinct if they are distinct together with keys that equal values share.
use Rattle.std.proofs.Common.{◌≡◌, ◌∙◌, ◌&&◌, ◌||◌, ◌==◌, ◌↔◌, Bool, IsTrue, List, [], ◌∷◌, ℕ, ap, arith, false, inl, inr, length, map, not, refl, subst, suc, sym, take, take_all, true, true≢false, zero, ◌⊎◌}
use Rattle.std.specs.List.{AllByRecursion, IsDistinct}
use Rattle.std.proofs.lemmas.Bool.Decides.{nat_tests}
use Rattle.std.proofs.lemmas.Slice.Eq.{bytes_eq-Decides}
use Rattle.serde_json.specs.Data.{Data, array, boolean, null, number, object, string}
use Rattle.serde_json.specs.View.{items_view, view}
use Rattle.serde_json.specs.declared.value.Value.{Value}
use Rattle.json_values.specs.Equality.{all_distinct, equal, has_equal}
use Rattle.json_values.specs.Numbers.{value_of}
use Rattle.json_values.proofs.RoundedKeys.{same_number_key}
use Rattle.json_values.specs.Keys.{key_of, key_of_text, keyed_equal, keyed_value}

-- equal values share a key
share_key : (d e : Data) → equal d e ≡ true → key_of d ≡ key_of e
share_key null null h = refl
share_key null (boolean y) h = refl
share_key null (number y) h = absurd (true≢false (sym h))
share_key null (string y) h = absurd (true≢false (sym h))
share_key null (array y) h = refl
share_key null (object y) h = refl
share_key (boolean x) null h = refl
share_key (boolean x) (boolean y) h = refl
share_key (boolean x) (number y) h = absurd (true≢false (sym h))
share_key (boolean x) (string y) h = absurd (true≢false (sym h))
share_key (boolean x) (array y) h = refl
share_key (boolean x) (object y) h = refl
share_key (number x) null h = absurd (true≢false (sym h))
share_key (number x) (boolean y) h = absurd (true≢false (sym h))
share_key (number x) (number y) h = same_number_key (value_of x) (value_of y) h
share_key (number x) (string y) h = absurd (true≢false (sym h))
share_key (number x) (array y) h = absurd (true≢false (sym h))
share_key (number x) (object y) h = absurd (true≢false (sym h))
share_key (string x) null h = absurd (true≢false (sym h))
share_key (string x) (boolean y) h = absurd (true≢false (sym h))
share_key (string x) (number y) h = absurd (true≢false (sym h))
share_key (string x) (string y) h = ap key_of_text ((bytes_eq-Decides x y).0 h)
share_key (string x) (array y) h = absurd (true≢false (sym h))
share_key (string x) (object y) h = absurd (true≢false (sym h))
share_key (array x) null h = refl
share_key (array x) (boolean y) h = refl
share_key (array x) (number y) h = absurd (true≢false (sym h))
share_key (array x) (string y) h = absurd (true≢false (sym h))
share_key (array x) (array y) h = refl
share_key (array x) (object y) h = refl
share_key (object x) null h = refl
share_key (object x) (boolean y) h = refl
share_key (object x) (number y) h = absurd (true≢false (sym h))
share_key (object x) (string y) h = absurd (true≢false (sym h))
share_key (object x) (array y) h = refl
share_key (object x) (object y) h = refl

key_beside : (a b : ℕ) (same : Bool) → (same ≡ true → a ≡ b) → same ≡ ((a == b) && same)
key_beside a b true shared = let e = shared refl in grind (arith, nat_tests)
key_beside a b false shared = grind (arith, nat_tests)

-- so keys beside them change nothing
same_keyed : (v w : Value) → equal (view v) (view w) ≡ keyed_equal (keyed_value v) (keyed_value w)
same_keyed v w = key_beside (key_of (view v)) (key_of (view w)) (equal (view v) (view w)) (share_key (view v) (view w))

-- ---- distinct before a map, and after it

module _ {K L : Type 0} (e : K → K → Bool) (g : L → L → Bool) (f : K → L) (agree : (x y : K) → e x y ≡ g (f x) (f y)) where
  apart_mapped : (x : K) (ys : List K) → AllByRecursion (λ y. e x y ≡ false) ys → AllByRecursion (λ z. g (f x) z ≡ false) (map f ys)
  apart_mapped x [] h = tt
  apart_mapped x (y ∷ ys) h = (sym (agree x y) ∙ h.0, apart_mapped x ys h.1)

  apart_before : (x : K) (ys : List K) → AllByRecursion (λ z. g (f x) z ≡ false) (map f ys) → AllByRecursion (λ y. e x y ≡ false) ys
  apart_before x [] h = tt
  apart_before x (y ∷ ys) h = (agree x y ∙ h.0, apart_before x ys h.1)

  distinct_mapped : (xs : List K) → IsDistinct e xs → IsDistinct g (map f xs)
  unfolding IsDistinct
  distinct_mapped [] h = tt
  distinct_mapped (x ∷ xs) h = (apart_mapped x xs h.0, distinct_mapped xs h.1)

  distinct_before : (xs : List K) → IsDistinct g (map f xs) → IsDistinct e xs
  unfolding IsDistinct
  distinct_before [] h = tt
  distinct_before (x ∷ xs) h = (apart_before x xs h.0, distinct_before xs h.1)

-- ---- the test of the items

abbrev equal_values : Value → Value → Bool
equal_values v w = equal (view v) (view w)

neither : (a b : Bool) → (a || b) ≡ false → (a ≡ false) × (b ≡ false)
neither true b h = absurd (true≢false h)
neither false b h = (refl, h)

none_and : (a b : Bool) → (not a && b) ≡ true → (a ≡ false) × (b ≡ true)
none_and true b h = absurd (true≢false (sym h))
none_and false b h = (refl, h)

none_equal : (v : Value) (ws : List Value) → AllByRecursion (λ w. equal_values v w ≡ false) ws → has_equal (view v) (items_view ws) ≡ false
none_equal v [] h = refl
none_equal v (w ∷ ws) h = rw h.0 (none_equal v ws h.1)

apart_items : (v : Value) (ws : List Value) → has_equal (view v) (items_view ws) ≡ false → AllByRecursion (λ w. equal_values v w ≡ false) ws
apart_items v [] h = tt
apart_items v (w ∷ ws) h = let parts = neither (equal_values v w) (has_equal (view v) (items_view ws)) h in (parts.0, apart_items v ws parts.1)

distinct_items : (vs : List Value) → IsDistinct equal_values vs → all_distinct (items_view vs) ≡ true
unfolding IsDistinct
distinct_items [] h = refl
distinct_items (v ∷ vs) h = rw (none_equal v vs h.0) (distinct_items vs h.1)

items_distinct : (vs : List Value) → all_distinct (items_view vs) ≡ true → IsDistinct equal_values vs
unfolding IsDistinct
items_distinct [] h = tt
items_distinct (v ∷ vs) h =
    let parts = none_and (has_equal (view v) (items_view vs)) (all_distinct (items_view vs)) h in
    (apart_items v vs parts.0, items_distinct vs parts.1)

-- ---- the items with their keys

one_answer : (b a : Bool) → (IsTrue b → a ≡ true) → (a ≡ true → IsTrue b) → b ≡ a
one_answer true a there back = sym (there refl)
one_answer false true there back = absurd (true≢false (sym (back refl)))
one_answer false false there back = refl

pub distinct_by_keys : {K : Type 0} (e : K → K → Bool) (f : K → ℕ × Data) (agree : (x y : K) → e x y ≡ keyed_equal (f x) (f y)) (ks : List K) (vs : List Value) (b : Bool)
    → map f ks ≡ map keyed_value vs → (IsTrue b ↔ IsDistinct e ks) → b ≡ all_distinct (items_view vs)
distinct_by_keys e f agree ks vs b is test =
    one_answer b (all_distinct (items_view vs))
    (λ yes. distinct_items vs (distinct_before equal_values keyed_equal keyed_value same_keyed vs
    (subst (IsDistinct keyed_equal) is (distinct_mapped e keyed_equal f agree ks (test.0 yes)))))
    (λ h. test.1 (distinct_before e keyed_equal f agree ks
    (subst (IsDistinct keyed_equal) (sym is) (distinct_mapped equal_values keyed_equal keyed_value same_keyed vs (items_distinct vs h)))))

-- ---- of the first items alone

apart_first : (P : Value → Type 0) (n : ℕ) (vs : List Value) → AllByRecursion P vs → AllByRecursion P (take n vs)
apart_first P zero vs h = tt
apart_first P (suc n) [] h = tt
apart_first P (suc n) (v ∷ vs) h = (h.0, apart_first P n vs h.1)

distinct_first : (n : ℕ) (vs : List Value) → IsDistinct equal_values vs → IsDistinct equal_values (take n vs)
unfolding IsDistinct
distinct_first zero vs h = tt
distinct_first (suc n) [] h = tt
distinct_first (suc n) (v ∷ vs) h = (apart_first (λ w. equal_values v w ≡ false) n vs h.0, distinct_first n vs h.1)

same_if : (a b : Bool) → a ≡ false → (b ≡ true → a ≡ true) → a ≡ b
same_if a true is h = h refl
same_if a false is h = is

-- if the first items are not distinct, the whole list is not
pub distinct_by_first : (n : ℕ) (vs : List Value) (b : Bool) → b ≡ all_distinct (items_view (take n vs)) → ((b ≡ true) × (n ≡ length vs)) ⊎ (b ≡ false)
    → b ≡ all_distinct (items_view vs)
distinct_by_first n vs b is (inl all) = is ∙ ap (λ l. all_distinct (items_view l)) (take_all n vs (omega (arith, all.1)))
distinct_by_first n vs b is (inr found) =
    same_if b (all_distinct (items_view vs)) found (λ h. is ∙ distinct_items (take n vs) (distinct_first n vs (items_distinct vs h)))
