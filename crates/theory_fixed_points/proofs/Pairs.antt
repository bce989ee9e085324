-- A pair, and a set with one more pair.
use Rattle.std.proofs.Common.{◌≡◌, ℕ, suc, ◌≤◌, ◌++◌, ◌+◌, ◌==◌, true, [], ◌∷◌, length, refl, sym, subst, ap, ap₂, arith, rules, true≢false, length-append}
use Rattle.std.proofs.lemmas.Bool.{and_parts, eqb-true, or_left, or_right}
use Rattle.std.proofs.lemmas.List.{append-nil}
use Rattle.std.proofs.lemmas.Slice.Eq.{bytes_eq-Decides}
use Rattle.theory_definitions.specs.Instance.{Place, Step, same_place, same_step, to_item, to_member, to_name}
use Rattle.theory_definitions.proofs.Products.{both_true, in_either}
use Rattle.theory_fixed_points.specs.Under.{PairSet}
use Rattle.theory_fixed_points.specs.Found.{is_this, with_pair}

same_step-self : (s : Step) → same_step s s ≡ true
same_step-self (to_member k) = (bytes_eq-Decides k k).1 refl
same_step-self (to_item i) = search rules
same_step-self (to_name k) = (bytes_eq-Decides k k).1 refl

pub same_place-self : (p : Place) → same_place p p ≡ true
same_place-self [] = refl
same_place-self (s ∷ p) = both_true _ _ (same_step-self s) (same_place-self p)

step_equal : (s t : Step) → same_step s t ≡ true → s ≡ t
step_equal (to_member k) (to_member l) h = ap to_member ((bytes_eq-Decides k l).0 h)
step_equal (to_member k) (to_item i) h = absurd (true≢false (sym h))
step_equal (to_member k) (to_name i) h = absurd (true≢false (sym h))
step_equal (to_item k) (to_member l) h = absurd (true≢false (sym h))
step_equal (to_item k) (to_item l) h = ap to_item (eqb-true k l h)
step_equal (to_item k) (to_name l) h = absurd (true≢false (sym h))
step_equal (to_name k) (to_member l) h = absurd (true≢false (sym h))
step_equal (to_name k) (to_item l) h = absurd (true≢false (sym h))
step_equal (to_name k) (to_name l) h = ap to_name ((bytes_eq-Decides k l).0 h)

pub place_equal : (p q : Place) → same_place p q ≡ true → p ≡ q
place_equal [] [] h = refl
place_equal [] (t ∷ q) h = absurd (true≢false (sym h))
place_equal (s ∷ p) [] h = absurd (true≢false (sym h))
place_equal (s ∷ p) (t ∷ q) h = let both = and_parts (same_step s t) (same_place p q) h in ap₂ (λ a b. a ∷ b) (step_equal s t both.0) (place_equal p q both.1)

self : (n : ℕ) → (n == n) ≡ true
self n = search rules

pub this_self : (i : ℕ) (p : Place) → is_this i p i p ≡ true
this_self i p = both_true _ _ (self i) (same_place-self p)

pub this_number : (i : ℕ) (p : Place) (j : ℕ) (q : Place) → is_this i p j q ≡ true → i ≡ j
this_number i p j q is = eqb-true i j (and_parts (i == j) (same_place p q) is).0

pub this_place : (i : ℕ) (p : Place) (j : ℕ) (q : Place) → is_this i p j q ≡ true → p ≡ q
this_place i p j q is = place_equal p q (and_parts (i == j) (same_place p q) is).1

-- A property of a pair holds of every pair that is the same.
pub of_this : (P : ℕ → Place → Type 0) (i : ℕ) (p : Place) (j : ℕ) (q : Place) → is_this i p j q ≡ true → P i p → P j q
of_this P i p j q is h = subst (λ x. P x q) (this_number i p j q is) (subst (P i) (this_place i p j q is) h)

pub with_self : (inside : PairSet) (i : ℕ) (p : Place) → with_pair inside i p i p ≡ true
with_self inside i p = or_left _ _ (this_self i p)

pub with_others : (inside : PairSet) (i : ℕ) (p : Place) (j : ℕ) (q : Place) → inside j q ≡ true → with_pair inside i p j q ≡ true
with_others inside i p j q is = or_right (is_this i p j q) _ is

pub with_cases : {P : Type 0} (inside : PairSet) (i : ℕ) (p : Place) (j : ℕ) (q : Place) → (is_this i p j q ≡ true → P) → (inside j q ≡ true → P) → with_pair inside i p j q ≡ true → P
with_cases inside i p j q a b is = in_either (is_this i p j q) (inside j q) a b is

-- A place that begins with another one and is not longer is that place.
pub no_longer : (p r : Place) → length (p ++ r) ≤ length p → p ++ r ≡ p
no_longer p [] h = append-nil p
no_longer p (s ∷ r) h = let l : length (p ++ s ∷ r) ≡ length p + suc (length r) = length-append p (s ∷ r) in absurd (omega (arith, h, l))
