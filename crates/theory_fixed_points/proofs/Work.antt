-- Each step of a solver begins no more pairs than the cost of all pairs allows.
use Rattle.std.proofs.Common.{◌≡◌, ◌∙◌, ℕ, ◌+◌, ◌*◌, ◌<◌, ◌≤◌, ◌||◌, ◌&&◌, not, Bool, true, false, [], ◌∷◌, length, refl, sym, subst, ap, ap₂, arith, true≢false}
use Rattle.std.specs.Prelude.{None, Option, Some, if◌then◌else◌}
use Rattle.std.specs.List.{list_any}
use Rattle.std.proofs.lemmas.Bool.{and_parts, false_from_ne_true, or_left, or_right}
use Rattle.theory_definitions.specs.Instance.{Place, same_place}
use Rattle.theory_definitions.proofs.Products.{both_true, in_either}
use Rattle.theory_fixed_points.specs.Under.{Solving, IsSolvable}
use Rattle.theory_fixed_points.specs.Found.{Found, Grows, NoneDeeper, after_no, after_yes, after_yes_alone, after_yes_free, entered, is_this}
use Rattle.theory_fixed_points.specs.Stages.{IsStaged}
use Rattle.theory_fixed_points.specs.Work.{AtMostAt, IsAmong, IsBounded, IsCounted, Pairs, one_if, sum_over, weight, weight_of}
use Rattle.theory_fixed_points.proofs.Pairs.{of_this, this_self, with_cases, with_others}
use Rattle.theory_fixed_points.proofs.Between.{assumed_unknown}
use Rattle.theory_fixed_points.proofs.Steps.{by_test, if_false, if_true, new_unknown, since_here, unknown}

-- ---- sums

sums_le : (a b c d : ℕ → Place → ℕ) → ((j : ℕ) (q : Place) → a j q + b j q ≤ c j q + d j q) → (all : Pairs) → sum_over a all + sum_over b all ≤ sum_over c all + sum_over d all
sums_le a b c d h [] = omega arith
sums_le a b c d h (e ∷ es) = omega (arith, h e.0 e.1, sums_le a b c d h es)

sum_le : (a b : ℕ → Place → ℕ) → ((j : ℕ) (q : Place) → a j q ≤ b j q) → (all : Pairs) → sum_over a all ≤ sum_over b all
sum_le a b h [] = omega arith
sum_le a b h (e ∷ es) = omega (arith, h e.0 e.1, sum_le a b h es)

-- A pair that is among them counts.
among_counts : (most i : ℕ) (p : Place) (all : Pairs) → IsAmong all i p → most ≤ sum_over (λ j q. if is_this i p j q then most else 0) all
among_counts most i p [] is = absurd (true≢false (sym is))
among_counts most i p (e ∷ es) is = in_either (is_this i p e.0 e.1) (list_any (λ e. is_this i p e.0 e.1) es)
    (λ this. let here : (if is_this i p e.0 e.1 then most else 0) ≡ most = if_true (is_this i p e.0 e.1) most 0 this in omega (arith, here))
    (λ later. omega (arith, among_counts most i p es later)) is

all_most : (most : ℕ) (a : ℕ → Place → ℕ) → ((j : ℕ) (q : Place) → a j q ≤ most) → (all : Pairs) → sum_over a all ≤ length all * most
all_most most a h [] = omega arith
all_most most a h (e ∷ es) = omega (arith, h e.0 e.1, all_most most a h es)

-- ---- weights

one_more_if : (b b' : Bool) → (b ≡ true → b' ≡ true) → one_if b ≤ one_if b'
one_more_if true b' h = let e : one_if b' ≡ 1 = ap one_if (h refl) in omega (arith, e)
one_more_if false b' h = omega arith

one_at_most : (b : Bool) → one_if b ≤ 1
one_at_most true = omega arith
one_at_most false = omega arith

weight_more : (most : ℕ) (o : Option Bool) (b b' : Bool) → (b ≡ true → b' ≡ true) → weight_of most o b ≤ weight_of most o b'
weight_more most None b b' h = one_more_if b b' h
weight_more most (Some true) b b' h = omega arith
weight_more most (Some false) b b' h = omega arith

weight_most : (most : ℕ) (o : Option Bool) (b : Bool) → 1 ≤ most → weight_of most o b ≤ most
weight_most most None b h = omega (arith, h, one_at_most b)
weight_most most (Some true) b h = h
weight_most most (Some false) b h = omega arith

-- So at most this many pairs are begun.
pub bounded : (all : Pairs) (most : ℕ) (f : Found) (begun : ℕ) → 1 ≤ most → IsCounted all most f begun → IsBounded all most begun
bounded all most f begun some counted = omega (arith, counted, all_most most (weight most f) (λ j q. weight_most most (f.known j q) (f.busy j q || f.assumed j q) some) all)

-- ---- a pair is begun

pub entered_counts : (all : Pairs) (most : ℕ) (f : Found) (i : ℕ) (p : Place) (begun : ℕ) → IsAmong all i p → f.known i p ≡ None → f.busy i p ≡ false → f.assumed i p ≡ false
    → IsCounted all most f begun → IsCounted all most (entered f i p) (begun + 1)
entered_counts all most f i p begun among unseen idle free counted = omega (arith, counted, among_counts 1 i p all among, sums_le (weight most f) (λ j q. if is_this i p j q then 1 else 0) (weight most (entered f i p)) (λ j q. 0) each all, nothing all)
  where
    nothing : (all : Pairs) → sum_over (λ j q. 0) all ≡ 0
    nothing [] = refl
    nothing (e ∷ es) = omega (arith, nothing es)

    each : (j : ℕ) (q : Place) → weight most f j q + (if is_this i p j q then 1 else 0) ≤ weight most (entered f i p) j q + 0
    each j q = by_test (is_this i p j q)
        (λ this.
        let o : f.known j q ≡ None = of_this (λ k r. f.known k r ≡ None) i p j q this unseen in
        let b : (f.busy j q || f.assumed j q) ≡ false = of_this (λ k r. (f.busy k r || f.assumed k r) ≡ false) i p j q this (ap (λ b. b || f.assumed i p) idle ∙ free) in
        let was : weight most f j q ≡ 0 = ap₂ (weight_of most) o b in
        let one : ◌≡◌ {A = ℕ} (if is_this i p j q then 1 else 0) 1 = if_true (is_this i p j q) 1 0 this in
        let now : weight most (entered f i p) j q ≡ 1 = ap₂ (weight_of most) o (or_left ((entered f i p).busy j q) _ (or_left (is_this i p j q) _ this)) in
        omega (arith, was, one, now))
        (λ other.
        let none : ◌≡◌ {A = ℕ} (if is_this i p j q then 1 else 0) 0 = if_false (is_this i p j q) 1 0 other in
        let more = weight_more most (f.known j q) (f.busy j q || f.assumed j q) ((entered f i p).busy j q || f.assumed j q)
        (in_either (f.busy j q) (f.assumed j q) (λ now. or_left ((entered f i p).busy j q) _ (with_others f.busy i p j q now)) (λ now. or_right ((entered f i p).busy j q) _ now)) in
        omega (arith, none, more))

module _ {K R : Type 0} (w : Solving K R) (solvable : IsSolvable w) (old f : Found) (i : ℕ) (p : Place) (l : i < w.count) (before : IsStaged w old) (sound : IsStaged w f) (grew : Grows p (entered old i p) f) (all : Pairs) (most begun : ℕ) where
  -- A pair that counts as yes, that was not assumed since, and that is not this pair, counted as
  -- yes before.
  was_so : (j : ℕ) (q : Place) → is_this i p j q ≡ false → (f.assumed j q && not (old.assumed j q)) ≡ false → (f.busy j q || f.assumed j q) ≡ true → (old.busy j q || old.assumed j q) ≡ true
  was_so j q other earlier = in_either (f.busy j q) (f.assumed j q)
      (λ now. with_cases old.busy i p j q (λ this. absurd (true≢false (sym this ∙ other))) (λ was. or_left (old.busy j q) _ was) (sym (grew.busy j q) ∙ now))
      (λ now. by_test (old.assumed j q)
      (λ had. or_right (old.busy j q) _ had)
      (λ lacked. absurd (true≢false (sym (both_true _ _ now (ap not lacked)) ∙ earlier))))

  -- ---- after a yes

  pub assumed_counts : IsCounted all most f begun → IsCounted all most (after_yes old f i p) begun
  assumed_counts counted = omega (arith, counted, sum_le (weight most f) (weight most (after_yes old f i p)) each all)
    where
      each : (j : ℕ) (q : Place) → weight most f j q ≤ weight most (after_yes old f i p) j q
      each j q = weight_more most (f.known j q) (f.busy j q || f.assumed j q) (old.busy j q || (after_yes old f i p).assumed j q) (in_either (f.busy j q) (f.assumed j q)
          (λ now. with_cases old.busy i p j q (λ this. or_right (old.busy j q) _ (or_left (is_this i p j q) _ this)) (λ was. or_left (old.busy j q) _ was) (sym (grew.busy j q) ∙ now))
          (λ now. or_right (old.busy j q) _ (with_others f.assumed i p j q now)))

  pub freed_counts : IsCounted all most f begun → IsCounted all most (after_yes_free old f i p) begun
  freed_counts counted = omega (arith, counted, sum_le (weight most f) (weight most (after_yes_free old f i p)) each all)
    where
      each : (j : ℕ) (q : Place) → weight most f j q ≤ weight most (after_yes_free old f i p) j q
      each j q = by_test (is_this i p j q)
          (λ this.
          let o : f.known j q ≡ None = of_this (λ k r. f.known k r ≡ None) i p j q this (unknown w solvable old f i p l before sound grew) in
          let was : weight most f j q ≡ one_if (f.busy j q || f.assumed j q) = ap (λ o. weight_of most o (f.busy j q || f.assumed j q)) o in
          let now : weight most (after_yes_free old f i p) j q ≡ 1 = ap (λ o. weight_of most o (old.busy j q || f.assumed j q)) (if_true (is_this i p j q) (Some true) (f.known j q) this) in
          omega (arith, was, now, one_at_most (f.busy j q || f.assumed j q)))
          (λ other.
          let now : weight most (after_yes_free old f i p) j q ≡ weight_of most (f.known j q) (old.busy j q || f.assumed j q) = ap (λ o. weight_of most o (old.busy j q || f.assumed j q)) (if_false (is_this i p j q) (Some true) (f.known j q) other) in
          let more = weight_more most (f.known j q) (f.busy j q || f.assumed j q) (old.busy j q || f.assumed j q) (in_either (f.busy j q) (f.assumed j q)
          (λ now. with_cases old.busy i p j q (λ this. absurd (true≢false (sym this ∙ other))) (λ was. or_left (old.busy j q) _ was) (sym (grew.busy j q) ∙ now))
          (λ now. or_right (old.busy j q) _ now)) in
          omega (arith, now, more))

  abbrev fresh : ℕ → Place → Bool
  fresh j q = is_this i p j q || (f.assumed j q && not (old.assumed j q))

  pub settled_counts : IsCounted all most f begun → IsCounted all most (after_yes_alone old f i p) begun
  settled_counts counted = omega (arith, counted, sum_le (weight most f) (weight most (after_yes_alone old f i p)) each all)
    where
      each : (j : ℕ) (q : Place) → weight most f j q ≤ weight most (after_yes_alone old f i p) j q
      each j q = by_test (fresh j q)
          (λ is.
          let o : f.known j q ≡ None = new_unknown w solvable old f i p l before sound grew j q is in
          let was : weight most f j q ≡ one_if (f.busy j q || f.assumed j q) = ap (λ o. weight_of most o (f.busy j q || f.assumed j q)) o in
          let now : weight most (after_yes_alone old f i p) j q ≡ 1 = ap (λ o. weight_of most o (old.busy j q || old.assumed j q)) (if_true (fresh j q) (Some true) (f.known j q) is) in
          omega (arith, was, now, one_at_most (f.busy j q || f.assumed j q)))
          (λ is.
          let other : is_this i p j q ≡ false = false_from_ne_true (is_this i p j q) (λ this. true≢false (sym (or_left (is_this i p j q) _ this) ∙ is)) in
          let earlier : (f.assumed j q && not (old.assumed j q)) ≡ false = false_from_ne_true _ (λ since. true≢false (sym (or_right (is_this i p j q) _ since) ∙ is)) in
          let now : weight most (after_yes_alone old f i p) j q ≡ weight_of most (f.known j q) (old.busy j q || old.assumed j q) = ap (λ o. weight_of most o (old.busy j q || old.assumed j q)) (if_false (fresh j q) (Some true) (f.known j q) is) in
          let more = weight_more most (f.known j q) (f.busy j q || f.assumed j q) (old.busy j q || old.assumed j q) (was_so j q other earlier) in
          omega (arith, now, more))

  -- ---- after a no: what was assumed since is dropped, only at this place

  pub refused_counts : IsAmong all i p → AtMostAt all most → NoneDeeper p old → IsCounted all most f begun → IsCounted all most (after_no old f i p) begun
  refused_counts among few none_deeper counted = omega (
    arith,
    counted,
    few p,
    among_counts most i p all among,
    sums_le (weight most f) (λ j q. if is_this i p j q then most else 0) (weight most (after_no old f i p)) (λ j q. one_if (same_place p q)) each all,
  )
    where
      each : (j : ℕ) (q : Place) → weight most f j q + (if is_this i p j q then most else 0) ≤ weight most (after_no old f i p) j q + one_if (same_place p q)
      each j q = by_test (is_this i p j q)
          (λ this.
          let o : f.known j q ≡ None = of_this (λ k r. f.known k r ≡ None) i p j q this (unknown w solvable old f i p l before sound grew) in
          let was : weight most f j q ≡ one_if (f.busy j q || f.assumed j q) = ap (λ o. weight_of most o (f.busy j q || f.assumed j q)) o in
          let one : (if is_this i p j q then most else 0) ≡ most = if_true (is_this i p j q) most 0 this in
          let now : weight most (after_no old f i p) j q ≡ most = ap (λ o. weight_of most o (old.busy j q || old.assumed j q)) (if_true (is_this i p j q) (Some false) (f.known j q) this) in
          let here : one_if (same_place p q) ≡ 1 = ap one_if (and_parts _ (same_place p q) this).1 in
          omega (arith, was, one, now, here, one_at_most (f.busy j q || f.assumed j q)))
          (λ other.
          let none : (if is_this i p j q then most else 0) ≡ 0 = if_false (is_this i p j q) most 0 other in
          let now : weight most (after_no old f i p) j q ≡ weight_of most (f.known j q) (old.busy j q || old.assumed j q) = ap (λ o. weight_of most o (old.busy j q || old.assumed j q)) (if_false (is_this i p j q) (Some false) (f.known j q) other) in
          by_test (f.assumed j q && not (old.assumed j q))
          (λ later.
          let o : f.known j q ≡ None = assumed_unknown w f sound j q (and_parts (f.assumed j q) _ later).0 in
          let was : weight most f j q ≡ one_if (f.busy j q || f.assumed j q) = ap (λ o. weight_of most o (f.busy j q || f.assumed j q)) o in
          let at_place : q ≡ p = since_here w solvable old f i p l before sound grew none_deeper j q later in
          let here : one_if (same_place p q) ≡ 1 = ap one_if (subst (λ r. same_place p r ≡ true) (sym at_place) (and_parts _ (same_place p p) (this_self i p)).1) in
          omega (arith, none, was, here, one_at_most (f.busy j q || f.assumed j q)))
          (λ earlier.
          let more = weight_more most (f.known j q) (f.busy j q || f.assumed j q) (old.busy j q || old.assumed j q) (was_so j q other earlier) in
          omega (arith, none, now, more)))
