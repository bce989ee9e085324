-- A repetition of a repetition as one repetition.
use Rattle.std.proofs.Common.{◌≡◌, ◌≤◌, ◌<◌, ◌+◌, ◌*◌, ◌-◌, ◌⊎◌, ℕ, zero, suc, arith, refl, subst, sym, inl, inr, min, Option, Some, None, Bool, true, false, nat_le}
use Rattle.std.specs.Prelude.{◌≢◌, option_map}
use Rattle.std.proofs.lemmas.Bool.Decides.{nat_tests}
use Rattle.std.proofs.Math.Nat.{suc-mul}
use Rattle.std.proofs.lemmas.Nat.{mul-le}
use Rattle.pattern_trees.specs.Patterns.{Pattern, Repeat, Matches, Iterates, IsWithin}
use Rattle.pattern_trees.specs.declared.tree.Turns.{Turns}
use Rattle.pattern_sets.specs.Alike.{AreAlike, repeat_of}
use Rattle.pattern_sets.proofs.Iterating.{iterates_add, iterates_part}

-- the turns of an inner repetition, as a relation
abbrev Turned : ℕ → Option ℕ → (ℕ → ℕ → Type 0) → ℕ → ℕ → Type 0
Turned p q R x y = (t : ℕ) × IsWithin t q × Iterates R (p + t) x y

-- so many inner repetitions are at most so many turns
abbrev IsUpTo : ℕ → ℕ → Option ℕ → ℕ → Type 0
IsUpTo count p None total = Unit {0}
IsUpTo count p (Some q) total = total ≤ count * (p + q)

up_none : (p : ℕ) (q : Option ℕ) → IsUpTo 0 p q 0
up_none p None = tt
up_none p (Some q) = omega arith

up_more : (count p t total : ℕ) (q : Option ℕ) → IsWithin t q → IsUpTo count p q total → IsUpTo (suc count) p q (p + t + total)
up_more count p t total None w u = tt
up_more count p t total (Some q) w u = let e = suc-mul count (p + q) in omega arith

joined : (p : ℕ) (q : Option ℕ) (R : ℕ → ℕ → Type 0) (count i j : ℕ) → Iterates (Turned p q R) count i j → (total : ℕ) × (count * p ≤ total) × IsUpTo count p q total × Iterates R total i j
joined p q R zero i j h = (0, omega arith, up_none p q, h)
joined p q R (suc count) i j h =
    let r = joined p q R count h.0 j h.2 in
    let t = h.1.0 in
    let e = suc-mul count p in
    let low = r.1 in
    (p + t + r.0, omega arith, up_more count p t r.0 q h.1.1 r.2, iterates_add R (p + t) r.0 (p + t + r.0) i h.0 j refl h.1.2 r.3)

split : (p w : ℕ) (q : Option ℕ) (R : ℕ → ℕ → Type 0) → p ≤ w → ((t : ℕ) → p + t ≤ w → IsWithin t q) → (count total i j : ℕ) → count * p ≤ total → total ≤ count * w → Iterates R total i j → Iterates (Turned p q R) count i j
split p w q R l fits zero total i j low high h = subst (λ (n : ℕ). Iterates R n i j) (let e : total ≡ 0 = omega arith in e) h
split p w q R l fits (suc count) total i j low high h =
    let e = suc-mul count p in
    let f = suc-mul count w in
    let g = mul-le count p count w (omega arith) l in
    let part = min w (total - count * p) in
    let t = part - p in
    let more : p + t ≤ w = omega arith in
    let r = iterates_part R (p + t) (total - (p + t)) total i j (omega arith) h in
    (r.0, (t, fits t more, r.1), split p w q R l fits count (total - (p + t)) r.0 j (omega arith) (omega arith) r.2)

-- a repetition of a repetition matches as one whose numbers of turns are those of both together
alike_of : (n p N : ℕ) (m q M : Option ℕ) (a : Pattern) →
    ((k total : ℕ) → IsWithin k m → (n + k) * p ≤ total → IsUpTo (n + k) p q total → (N ≤ total) × IsWithin (total - N) M) →
    ((t : ℕ) → IsWithin t M → (k : ℕ) × (w : ℕ) × IsWithin k m × (p ≤ w) × ((u : ℕ) → p + u ≤ w → IsWithin u q) × ((n + k) * p ≤ N + t) × (N + t ≤ (n + k) * w)) →
    AreAlike (Repeat n m (Repeat p q a)) (Repeat N M a)
alike_of n p N m q M a out within = record {
  there = λ text i j h.
      let r = joined p q (λ x y. Matches a text x y) (n + h.0) i j h.2 in
      let o = out h.0 r.0 h.1 r.1 r.2 in
      let least = o.0 in
      let e : r.0 ≡ N + (r.0 - N) = omega arith in
      (r.0 - N, o.1, subst (λ (c : ℕ). Iterates (λ x y. Matches a text x y) c i j) e r.3);
  back = λ text i j h.
      let r = within h.0 h.1 in
      (r.0, r.2, split p r.1 q (λ x y. Matches a text x y) r.3 r.4 (n + r.0) (N + h.0) i j r.5 r.6 h.2);
}

le_of : (a b : ℕ) → nat_le a b ≡ true → a ≤ b
le_of a b h = grind (arith, nat_tests)

lt_of : (a b : ℕ) → nat_le a b ≡ false → b < a
lt_of a b h = grind (arith, nat_tests)

-- how many repetitions give a number of turns, if there is no gap between the numbers that they give
abbrev Picked : (p w n most total : ℕ) → Type 0
Picked p w n most total = (k : ℕ) × (k ≤ most) × ((n + k) * p ≤ total) × (total ≤ (n + k) * w)

first : (p w n most total : ℕ) → n * p ≤ total → total ≤ n * w → Picked p w n most total
first p w n most total low high = let e : n ≡ n + 0 = omega arith in (0, omega arith, subst (λ (c : ℕ). c * p ≤ total) e low, subst (λ (c : ℕ). total ≤ c * w) e high)

later : (p w n most total : ℕ) → Picked p w (n + 1) most total → Picked p w n (suc most) total
later p w n most total r =
    let e : n + 1 + r.0 ≡ n + suc r.0 = omega arith in
    let less = r.1 in
    (suc r.0, omega arith, subst (λ (c : ℕ). c * p ≤ total) e r.2, subst (λ (c : ℕ). total ≤ c * w) e r.3)

step : (p w n most total : ℕ) (b : Bool) → nat_le total (n * w) ≡ b → n * p ≤ total → (n * w < total → Picked p w n (suc most) total) → Picked p w n (suc most) total
step p w n most total true h low more = first p w n (suc most) total low (le_of total (n * w) h)
step p w n most total false h low more = more (lt_of total (n * w) h)

picked : (p w : ℕ) → p ≤ w → (most n total : ℕ) → suc n * p ≤ n * w + 1 → n * p ≤ total → total ≤ (n + most) * w → Picked p w n most total
picked p w l zero n total gap low high = let e : n + 0 ≡ n = omega arith in first p w n zero total low (subst (λ (c : ℕ). total ≤ c * w) e high)
picked p w l (suc most) n total gap low high =
    let a = suc-mul n p in
    let b = suc-mul (suc n) p in
    let c = suc-mul n w in
    let e : n + suc most ≡ suc n + most = omega arith in
    let f : suc n ≡ n + 1 = omega arith in
    step p w n most total (nat_le total (n * w)) refl low
    (λ above. later p w n most total (subst (λ (c : ℕ). Picked p w c most total) f (picked p w l most (suc n) total (omega arith) (omega arith) (subst (λ (c : ℕ). total ≤ c * w) e high))))

-- the gap before the next number of repetitions, by the inner numbers
next_in_reach : (n p extra : ℕ) → p ≤ n * extra + 1 → suc n * p ≤ n * (p + extra) + 1
next_in_reach n p extra l = let e = suc-mul n p in let f : n * (p + extra) ≡ n * p + n * extra = grind arith in omega arith

pub both_bounded : (n p more extra max : ℕ) (a : Pattern) → (more ≡ 0) ⊎ (p ≤ n * extra + 1) → max ≡ (n + more) * (p + extra) →
    AreAlike (Repeat n (Some more) (Repeat p (Some extra) a)) (Repeat (n * p) (Some (max - n * p)) a)
both_bounded n p more extra max a gap top = alike_of n p (n * p) (Some more) (Some extra) (Some (max - n * p)) a out within
  where
    w : ℕ
    w = p + extra

    least : n * p ≤ max
    least = subst (λ (c : ℕ). n * p ≤ c) (sym top) (mul-le n p (n + more) w (omega arith) (omega arith))

    out : (k total : ℕ) → k ≤ more → (n + k) * p ≤ total → total ≤ (n + k) * (p + extra) → (n * p ≤ total) × (total - n * p ≤ max - n * p)
    out k total l low high =
        let a = mul-le n p (n + k) p (omega arith) (omega arith) in
        let b = mul-le (n + k) w (n + more) w (omega arith) (omega arith) in
        let c : total ≤ max = subst (λ (c : ℕ). total ≤ c) (sym top) (omega arith) in
        (omega arith, omega arith)

    pick : (t : ℕ) → n * p + t ≤ max → (more ≡ 0) ⊎ (p ≤ n * extra + 1) → Picked p w n more (n * p + t)
    pick t l (inl e) =
        let f : n + more ≡ n = omega arith in
        first p w n more (n * p + t) (omega arith) (subst (λ (c : ℕ). n * p + t ≤ c * w) f (subst (λ (c : ℕ). n * p + t ≤ c) top l))
    pick t l (inr e) = picked p w (omega arith) more n (n * p + t) (next_in_reach n p extra e) (omega arith) (subst (λ (c : ℕ). n * p + t ≤ c) top l)

    within : (t : ℕ) → t ≤ max - n * p → (k : ℕ) × (w : ℕ) × (k ≤ more) × (p ≤ w) × ((u : ℕ) → p + u ≤ w → u ≤ extra) × ((n + k) * p ≤ n * p + t) × (n * p + t ≤ (n + k) * w)
    within t l = let low = least in let r = pick t (omega arith) gap in (r.0, w, r.1, omega arith, λ u h. omega arith, r.2, r.3)

pub outer_open : (n p extra : ℕ) (a : Pattern) → 0 < p + extra → p ≤ n * extra + 1 → AreAlike (Repeat n None (Repeat p (Some extra) a)) (Repeat (n * p) None a)
outer_open n p extra a some gap = alike_of n p (n * p) None (Some extra) None a out within
  where
    w : ℕ
    w = p + extra

    out : (k total : ℕ) → Unit {0} → (n + k) * p ≤ total → total ≤ (n + k) * (p + extra) → (n * p ≤ total) × Unit {0}
    out k total l low high = let a = mul-le n p (n + k) p (omega arith) (omega arith) in (omega arith, tt)

    enough : (total : ℕ) → total ≤ (n + total) * w
    enough total = let a = mul-le total 1 (n + total) w (omega arith) some in omega arith

    within : (t : ℕ) → Unit {0} → (k : ℕ) × (w : ℕ) × Unit {0} × (p ≤ w) × ((u : ℕ) → p + u ≤ w → u ≤ extra) × ((n + k) * p ≤ n * p + t) × (n * p + t ≤ (n + k) * w)
    within t l = let r = picked p w (omega arith) (n * p + t) n (n * p + t) (next_in_reach n p extra gap) (omega arith) (enough (n * p + t)) in
        (r.0, w, tt, omega arith, λ u h. omega arith, r.2, r.3)

-- so many repetitions of at least p turns and any number more
abbrev Open : ℕ → ℕ → Option ℕ → ℕ → Type 0
Open n p more t = (k : ℕ) × (w : ℕ) × IsWithin k more × (p ≤ w) × ((u : ℕ) → p + u ≤ w → Unit {0}) × ((n + k) * p ≤ n * p + t) × (n * p + t ≤ (n + k) * w)

none_more : (more : Option ℕ) → IsWithin 0 more
none_more None = tt
none_more (Some m) = omega arith

one_more : (more : Option ℕ) → more ≢ Some 0 → IsWithin 1 more
one_more None h = tt
one_more (Some zero) h = absurd (h refl)
one_more (Some (suc m)) h = omega arith

open_with : (n p : ℕ) (more : Option ℕ) (k t : ℕ) → IsWithin k more → 0 < n + k → (n + k) * p ≤ n * p + t → Open n p more t
open_with n p more k t within some low =
    let a = mul-le 1 (p + (n * p + t)) (n + k) (p + (n * p + t)) some (omega arith) in
    (k, p + (n * p + t), within, omega arith, λ u h. tt, low, omega arith)

open_some : (n p : ℕ) (more : Option ℕ) (t : ℕ) → 0 < n → Open n p more t
open_some n p more t some = open_with n p more 0 t (none_more more) (omega arith) (let e : n + 0 ≡ n = omega arith in subst (λ (c : ℕ). c * p ≤ n * p + t) (sym e) (omega arith))

open_from : (n p : ℕ) (more : Option ℕ) → (0 < n) ⊎ ((p ≤ 1) × (more ≢ Some 0)) → (t : ℕ) → Open n p more t
open_from n p more (inl some) t = open_some n p more t some
open_from zero p more (inr h) zero = (0, p, none_more more, omega arith, λ u h. tt, omega arith, omega arith)
open_from zero p more (inr h) (suc t) = let few = h.0 in open_with zero p more 1 (suc t) (one_more more h.1) (omega arith) (omega arith)
open_from (suc n) p more (inr h) t = open_some (suc n) p more t (omega arith)

pub inner_open : (n p : ℕ) (more : Option ℕ) (a : Pattern) → (0 < n) ⊎ ((p ≤ 1) × (more ≢ Some 0)) → AreAlike (Repeat n more (Repeat p None a)) (Repeat (n * p) None a)
inner_open n p more a some = alike_of n p (n * p) more None None a out (λ t l. open_from n p more some t)
  where
    out : (k total : ℕ) → IsWithin k more → (n + k) * p ≤ total → Unit {0} → (n * p ≤ total) × Unit {0}
    out k total l low high = let a = mul-le n p (n + k) p (omega arith) (omega arith) in (omega arith, tt)

-- ---- by the quantifiers

abbrev more_of : Turns → Option ℕ
more_of t = option_map (λ most. most - t.min) t.max

-- quantifiers that are read as these numbers
read_as : (outer inner : Turns) (more extra : Option ℕ) (min : ℕ) (least : ℕ → Option ℕ) (p : Pattern) → more ≡ more_of outer → extra ≡ more_of inner → min ≡ outer.min * inner.min →
    AreAlike (Repeat outer.min more (Repeat inner.min extra p)) (Repeat (outer.min * inner.min) (least (outer.min * inner.min)) p) → AreAlike (repeat_of outer (repeat_of inner p)) (Repeat min (least min) p)
read_as outer inner more extra min least p a b c alike =
    subst (λ (m : Option ℕ). AreAlike (Repeat outer.min m (repeat_of inner p)) (Repeat min (least min) p)) a
    (subst (λ (m : Option ℕ). AreAlike (Repeat outer.min more (Repeat inner.min m p)) (Repeat min (least min) p)) b
    (subst (λ (n : ℕ). AreAlike (Repeat outer.min more (Repeat inner.min extra p)) (Repeat n (least n) p)) (sym c) alike))

pub fold_bounded : (outer inner : Turns) (more extra min max : ℕ) (p : Pattern) → Some more ≡ more_of outer → Some extra ≡ more_of inner → min ≡ outer.min * inner.min →
    (more ≡ 0) ⊎ (inner.min ≤ outer.min * extra + 1) → max ≡ (outer.min + more) * (inner.min + extra) → AreAlike (repeat_of outer (repeat_of inner p)) (Repeat min (Some (max - min)) p)
fold_bounded outer inner more extra min max p a b c gap top = read_as outer inner (Some more) (Some extra) min (λ n. Some (max - n)) p a b c (both_bounded outer.min inner.min more extra max p gap top)

pub fold_outer : (outer inner : Turns) (extra min : ℕ) (p : Pattern) → None ≡ more_of outer → Some extra ≡ more_of inner → min ≡ outer.min * inner.min →
    0 < inner.min + extra → inner.min ≤ outer.min * extra + 1 → AreAlike (repeat_of outer (repeat_of inner p)) (Repeat min None p)
fold_outer outer inner extra min p a b c some gap = read_as outer inner None (Some extra) min (λ n. None) p a b c (outer_open outer.min inner.min extra p some gap)

pub fold_inner : (outer inner : Turns) (more : Option ℕ) (min : ℕ) (p : Pattern) → more ≡ more_of outer → None ≡ more_of inner → min ≡ outer.min * inner.min →
    (0 < outer.min) ⊎ ((inner.min ≤ 1) × (more ≢ Some 0)) → AreAlike (repeat_of outer (repeat_of inner p)) (Repeat min None p)
fold_inner outer inner more min p a b c some = read_as outer inner more None min (λ n. None) p a b c (inner_open outer.min inner.min more p some)
