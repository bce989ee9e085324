-- Places that have their own numbers are all different.
use Rattle.std.proofs.Common.{◌≡◌, ◌∙◌, ℕ, suc, ◌+◌, ◌<◌, ◌≤◌, ◌||◌, Bool, true, false, List, [], ◌∷◌, length, refl, sym, subst, ap, arith, true≢false}
use Rattle.std.specs.Prelude.{None, Option, Some, if◌then◌else◌, option_map}
use Rattle.std.specs.List.{list_any}
use Rattle.std.proofs.lemmas.Bool.{false_from_ne_true, or_left, or_right}
use Rattle.theory_definitions.specs.Instance.{Place, same_place}
use Rattle.schema_places.specs.Numbers.{OwnNumbers, number_of, place_at}
use Rattle.theory_fixed_points.specs.Work.{EachOnce, how_often, one_if}
use Rattle.schema_run_context.proofs.Pairs.{place_equal, same_place-self}

-- a later place has its own number past the first one
later_number : (b : Bool) (o : Option ℕ) (n : ℕ) → (if b then Some 0 else option_map (λ n. n + 1) o) ≡ Some (suc n) → (b ≡ false) × (o ≡ Some n)
later_number true o n is = absurd (let f : ⊥ = let zero_suc : Some 0 ≡ Some (suc n) = is in cc zero_suc in f)
later_number false None n is = absurd (let f : ⊥ = cc is in f)
later_number false (Some m) n is = (refl, (let same : m + 1 ≡ suc n = some_same (m + 1) (suc n) is in ap Some (let e : m ≡ n = omega (arith, same) in e)))
  where
    some_same : (x y : ℕ) → Some x ≡ Some y → x ≡ y
    some_same x y e = cc e

own_tail : (q : Place) (qs : List Place) → OwnNumbers (q ∷ qs) → OwnNumbers qs
own_tail q qs own n l = (later_number (same_place (place_at qs n) q) (number_of (place_at qs n) qs) n (own (suc n) (omega (arith, l)))).1

apart_head : (q : Place) (qs : List Place) → OwnNumbers (q ∷ qs) → (n : ℕ) → n < length qs → same_place (place_at qs n) q ≡ false
apart_head q qs own n l = (later_number (same_place (place_at qs n) q) (number_of (place_at qs n) qs) n (own (suc n) (omega (arith, l)))).0

none_later : (p : Place) (qs : List Place) → ((n : ℕ) → n < length qs → same_place (place_at qs n) p ≡ false) → how_often p qs ≡ 0
none_later p [] apart = refl
none_later p (q ∷ qs) apart =
    let here : same_place p q ≡ false = false_from_ne_true (same_place p q) (λ is. true≢false (sym (subst (λ r. same_place q r ≡ true) (sym (place_equal p q is)) (same_place-self q)) ∙ apart 0 (omega arith))) in
    let one : one_if (same_place p q) ≡ 0 = ap one_if here in
    omega (arith, one, none_later p qs (λ n l. apart (suc n) (omega (arith, l))))

pub once_from_own : (ps : List Place) → OwnNumbers ps → EachOnce ps
once_from_own [] own p = omega arith
once_from_own (q ∷ qs) own p = go (same_place p q) refl (once_from_own qs (own_tail q qs own) p)
  where
    go : (b : Bool) → same_place p q ≡ b → how_often p qs ≤ 1 → one_if (same_place p q) + how_often p qs ≤ 1
    go true is few =
        let none : how_often p qs ≡ 0 = subst (λ r. how_often r qs ≡ 0) (sym (place_equal p q is)) (none_later q qs (apart_head q qs own)) in
        let one : one_if (same_place p q) ≡ 1 = ap one_if is in
        omega (arith, none, one)
    go false is few =
        let one : one_if (same_place p q) ≡ 0 = ap one_if is in
        omega (arith, one, few)

-- a place that has a number is among them
pub there_from_number : (p : Place) (ps : List Place) (n : ℕ) → number_of p ps ≡ Some n → list_any (same_place p) ps ≡ true
there_from_number p [] n is = absurd (let f : ⊥ = cc is in f)
there_from_number p (q ∷ qs) n is = go (same_place p q) refl is (there_from_number p qs)
  where
    rest : (o : Option ℕ) → number_of p qs ≡ o → option_map (λ n. n + 1) o ≡ Some n → ((m : ℕ) → number_of p qs ≡ Some m → list_any (same_place p) qs ≡ true) → list_any (same_place p) qs ≡ true
    rest None e f later = absurd (let g : ⊥ = cc f in g)
    rest (Some m) e f later = later m e

    go : (b : Bool) → same_place p q ≡ b → (if b then Some 0 else option_map (λ n. n + 1) (number_of p qs)) ≡ Some n
        → ((m : ℕ) → number_of p qs ≡ Some m → list_any (same_place p) qs ≡ true) → (same_place p q || list_any (same_place p) qs) ≡ true
    go true e f later = or_left _ _ e
    go false e f later = or_right (same_place p q) _ (rest (number_of p qs) refl f later)
