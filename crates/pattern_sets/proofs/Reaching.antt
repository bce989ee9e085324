-- What a search by rounds has reached.
use Rattle.std.proofs.Common.{◌≡◌, ◌≢◌, ◌<◌, ◌≤◌, ◌==◌, ◌||◌, not, ◌+◌, ◌-◌, ℕ, Bool, true, false, zero, suc, cond, ap, refl, subst, sym, ◌∙◌, ◌⊎◌, inl, inr, arith, nat_lt, nat_le, true≢false, add-one, Some, None}
use Rattle.std.proofs.lemmas.Bool.{eqb-false, eqb-true}
use Rattle.std.proofs.lemmas.Bool.Decides.{nat_tests}
use Rattle.pattern_trees.specs.Patterns.{Iterates}
use Rattle.pattern_sets.specs.Images.{IsImage, Spreads, Steps}
use Rattle.pattern_sets.proofs.Iterating.{iterates_first, iterates_last, iterates_snoc}
use Rattle.pattern_sets.proofs.Leading.{or_left, or_right, or_true}

-- ---- exactly so many steps

pub exact_begins : (R : ℕ → ℕ → Type 0) (from : ℕ → Bool) → IsImage (Iterates R 0) from from
exact_begins R from = record {
  sound = λ j h. (j, h, refl);
  complete = λ i j h e. subst (λ (x : ℕ). from x ≡ true) e h;
}

pub exact_goes_on : (R : ℕ → ℕ → Type 0) (n : ℕ) (from at new : ℕ → Bool) → IsImage (Iterates R n) from at → IsImage R at new → IsImage (Iterates R (n + 1)) from new
exact_goes_on R n from at new before step = subst (λ (m : ℕ). IsImage (Iterates R m) from new) (sym (add-one n)) (record {
  sound = λ j h. let s = step.sound j h in let b = before.sound s.0 s.1 in (b.0, b.1, iterates_snoc R n b.0 s.0 j b.2 s.2);
  complete = λ i j h r. let l = iterates_last R n i j r in step.complete l.0 j (before.complete i l.0 h l.1) l.2;
})

-- once nothing is left, nothing comes
pub exact_empty : (R : ℕ → ℕ → Type 0) (n count : ℕ) (from at : ℕ → Bool) → n ≤ count → IsImage (Iterates R n) from at → ((k : ℕ) → at k ≡ false) → IsImage (Iterates R count) from at
exact_empty R n count from at l before none = record {
  sound = λ j h. absurd (true≢false (sym h ∙ none j));
  complete = λ i j h r. let f = iterates_first R n count i j l r in absurd (true≢false (sym (before.complete i f.0 h f.1) ∙ none f.0));
}

-- ---- any number of steps

pub record Reached (R : ℕ → ℕ → Type 0) (allowed : ℕ → Type 0) (from all fresh : ℕ → Bool) : Type 0 where
  pub sound : (j : ℕ) → all j ≡ true → (i : ℕ) × (from i ≡ true) × ((n : ℕ) × allowed n × Iterates R n i j)
  pub starts : (i : ℕ) → from i ≡ true → all i ≡ true
  pub known : (j : ℕ) → fresh j ≡ true → all j ≡ true
  pub closed : (x y : ℕ) → all x ≡ true → fresh x ≡ false → R x y → all y ≡ true

pub reached_begins : (R : ℕ → ℕ → Type 0) (allowed : ℕ → Type 0) (from fresh : ℕ → Bool) → allowed 0 → ((k : ℕ) → fresh k ≡ from k) → Reached R allowed from from fresh
reached_begins R allowed from fresh none same = record {
  sound = λ j h. (j, h, (0, none, refl));
  starts = λ i h. h;
  known = λ j h. sym (same j) ∙ h;
  closed = λ x y h f r. absurd (true≢false (sym h ∙ sym (same x) ∙ f));
}

-- the round goes where fresh positions lead, or where a closed position leads
leads_on : (R : ℕ → ℕ → Type 0) (allowed : ℕ → Type 0) (from all fresh new next : ℕ → Bool) → Reached R allowed from all fresh → Spreads R all fresh new next → (x y : ℕ) → all x ≡ true → R x y → new y ≡ true
leads_on R allowed from all fresh new next reached spreads x y h r = go (fresh x) refl
  where
    go : (b : Bool) → fresh x ≡ b → new y ≡ true
    go true e = spreads.whole x y e r
    go false e = spreads.added y ∙ or_left (all y) (next y) (reached.closed x y h e r)

pub reached_goes_on : (R : ℕ → ℕ → Type 0) (allowed later : ℕ → Type 0) (from all fresh new next : ℕ → Bool) → Reached R allowed from all fresh → Spreads R all fresh new next →
    ((n : ℕ) → allowed n → later n) → ((n : ℕ) → allowed n → later (suc n)) → Reached R later from new next
reached_goes_on R allowed later from all fresh new next reached spreads stay one = record {
  sound = sound;
  starts = λ i h. spreads.added i ∙ or_left (all i) (next i) (reached.starts i h);
  known = λ j h. spreads.added j ∙ or_right (all j) (next j) h;
  closed = λ x y h f r. leads_on R allowed from all fresh new next reached spreads x y (old x h f) r;
}
  where
    old : (x : ℕ) → new x ≡ true → next x ≡ false → all x ≡ true
    old x h f = elim (or_true (all x) (next x) (sym (spreads.added x) ∙ h)) [ inl l ↦ l | inr n ↦ absurd (true≢false (sym n ∙ f)) ]

    sound : (j : ℕ) → new j ≡ true → (i : ℕ) × (from i ≡ true) × ((n : ℕ) × later n × Iterates R n i j)
    sound j h = elim (or_true (all j) (next j) (sym (spreads.added j) ∙ h)) [
      | inl l ↦ (let s = reached.sound j l in (s.0, s.1, (s.2.0, stay s.2.0 s.2.1, s.2.2)))
      | inr n ↦ (
          let f = spreads.led j n in
          let s = reached.sound f.0 (reached.known f.0 f.1) in
          (s.0, s.1, (suc s.2.0, one s.2.0 s.2.1, iterates_snoc R s.2.0 s.0 f.0 j s.2.2 f.2)))
    ]

-- no step leaves what is reached where nothing is fresh
stays : (R : ℕ → ℕ → Type 0) (all : ℕ → Bool) → ((x y : ℕ) → all x ≡ true → R x y → all y ≡ true) → (n i j : ℕ) → all i ≡ true → Iterates R n i j → all j ≡ true
stays R all closed zero i j h e = subst (λ (x : ℕ). all x ≡ true) e h
stays R all closed (suc n) i j h r = stays R all closed n r.0 j (closed i r.0 h r.1) r.2

pub reached_ends : (R : ℕ → ℕ → Type 0) (allowed later : ℕ → Type 0) (from all fresh : ℕ → Bool) → Reached R allowed from all fresh → ((n : ℕ) → allowed n → later n) → ((k : ℕ) → fresh k ≡ false) → IsImage (λ i j. (n : ℕ) × later n × Iterates R n i j) from all
reached_ends R allowed later from all fresh reached stay none = record {
  sound = λ j h. let s = reached.sound j h in (s.0, s.1, (s.2.0, stay s.2.0 s.2.1, s.2.2));
  complete = λ i j h r. stays R all (λ x y a b. reached.closed x y a (none x) b) r.0 i j (reached.starts i h) r.2;
}

-- at most so many steps: all that so few reach is reached
abbrev pub ReachesWithin : (ℕ → ℕ → Type 0) → ℕ → (ℕ → Bool) → (ℕ → Bool) → Type 0
ReachesWithin R t from all = (n i j : ℕ) → n ≤ t → from i ≡ true → Iterates R n i j → all j ≡ true

pub within_begins : (R : ℕ → ℕ → Type 0) (from : ℕ → Bool) → ReachesWithin R 0 from from
within_begins R from zero i j l h e = subst (λ (x : ℕ). from x ≡ true) e h
within_begins R from (suc n) i j l h r = absurd (omega arith)

pub within_goes_on : (R : ℕ → ℕ → Type 0) (allowed : ℕ → Type 0) (t : ℕ) (from all fresh new next : ℕ → Bool) → Reached R allowed from all fresh → Spreads R all fresh new next → ReachesWithin R t from all → ReachesWithin R (t + 1) from new
within_goes_on R allowed t from all fresh new next reached spreads within n i j l h r = go (nat_le n t) refl
  where
    go : (b : Bool) → nat_le n t ≡ b → new j ≡ true
    go true e = let le : n ≤ t = grind (arith, nat_tests) in spreads.added j ∙ or_left (all j) (next j) (within n i j le h r)
    go false e =
        let gt : t < n = grind (arith, nat_tests) in
        let last : n ≡ suc t = omega arith in
        let s = iterates_last R t i j (subst (λ (m : ℕ). Iterates R m i j) last r) in
        let le : t ≤ t = omega arith in
        leads_on R allowed from all fresh new next reached spreads s.0 j (within t i s.0 le h s.1) s.2

pub within_ends : (R : ℕ → ℕ → Type 0) (t most : ℕ) (from all fresh : ℕ → Bool) → t ≤ most → most ≤ t → Reached R (λ n. n ≤ t) from all fresh → ReachesWithin R t from all → IsImage (Steps (Some most) R) from all
within_ends R t most from all fresh below above reached within = record {
  sound = λ j h. let s = reached.sound j h in let few = s.2.1 in (s.0, s.1, (s.2.0, omega arith, s.2.2));
  complete = λ i j h r. let few = r.1 in within r.0 i j (omega arith) h r.2;
}

-- ---- how many positions below one are not in a set

abbrev pub missing : (ℕ → Bool) → ℕ → ℕ
missing f zero = 0
missing f (suc n) = cond (f n) 0 1 + missing f n

pub missing_le : (f g : ℕ → Bool) → ((k : ℕ) → f k ≡ true → g k ≡ true) → (n : ℕ) → missing g n ≤ missing f n
missing_le f g more zero = omega arith
missing_le f g more (suc n) = go (f n) (g n) refl refl (missing_le f g more n)
  where
    go : (a b : Bool) → f n ≡ a → g n ≡ b → missing g n ≤ missing f n → cond (g n) 0 1 + missing g n ≤ cond (f n) 0 1 + missing f n
    go true false e h rest = absurd (true≢false (sym (more n e) ∙ h))
    go true true e h rest = rw (e, h) (omega arith)
    go false true e h rest = rw (e, h) (omega arith)
    go false false e h rest = rw (e, h) (omega arith)

pub missing_less : (f g : ℕ → Bool) → ((k : ℕ) → f k ≡ true → g k ≡ true) → (n k : ℕ) → k < n → f k ≡ false → g k ≡ true → missing g n < missing f n
missing_less f g more zero k l a b = absurd (omega arith)
missing_less f g more (suc n) k l a b = go (k == n) refl (missing_le f g more n) (λ lt. missing_less f g more n k lt a b)
  where
    go : (x : Bool) → (k == n) ≡ x → missing g n ≤ missing f n → (k < n → missing g n < missing f n) → cond (g n) 0 1 + missing g n < cond (f n) 0 1 + missing f n
    go true e same less =
        let at = eqb-true k n e in
        let off : f n ≡ false = subst (λ (m : ℕ). f m ≡ false) at a in
        let on : g n ≡ true = subst (λ (m : ℕ). g m ≡ true) at b in
        rw (off, on) (omega arith)
    go false e same less =
        let off = eqb-false k n e in
        let lt : k < n = omega arith in
        cases (f n) (g n) refl refl (less lt)
      where
        cases : (a b : Bool) → f n ≡ a → g n ≡ b → missing g n < missing f n → cond (g n) 0 1 + missing g n < cond (f n) 0 1 + missing f n
        cases true false e h rest = absurd (true≢false (sym (more n e) ∙ h))
        cases true true e h rest = rw (e, h) (omega arith)
        cases false true e h rest = rw (e, h) (omega arith)
        cases false false e h rest = rw (e, h) (omega arith)

-- ---- a run over one set of positions, which grows on the way: no step leaves it from a position that is done

pub record Running (R : ℕ → ℕ → Type 0) (IsDone : ℕ → Type 0) (from to : ℕ → Bool) : Type 0 where
  pub sound : (j : ℕ) → to j ≡ true → (i : ℕ) × (from i ≡ true) × ((n : ℕ) × Iterates R n i j)
  pub starts : (i : ℕ) → from i ≡ true → to i ≡ true
  pub closed : (x y : ℕ) → IsDone x → to x ≡ true → R x y → to y ≡ true

pub running_begins : (R : ℕ → ℕ → Type 0) (IsDone : ℕ → Type 0) (from : ℕ → Bool) → ((x y : ℕ) → IsDone x → ¬ (R x y)) → Running R IsDone from from
running_begins R IsDone from none = record {
  sound = λ j h. (j, h, (0, refl));
  starts = λ i h. h;
  closed = λ x y d h r. absurd (none x y d r);
}

-- what is done now is done already, is not in the set, or is the position at hand
pub running_skips : (R : ℕ → ℕ → Type 0) (IsDone Later : ℕ → Type 0) (from to : ℕ → Bool) → Running R IsDone from to → ((x y : ℕ) → Later x → to x ≡ true → R x y → IsDone x) → Running R Later from to
running_skips R IsDone Later from to running done = record {
  sound = running.sound;
  starts = running.starts;
  closed = λ x y d h r. running.closed x y (done x y d h r) h r;
}

pub running_puts : (R : ℕ → ℕ → Type 0) (IsDone Later : ℕ → Type 0) (m p : ℕ) (from to new : ℕ → Bool) → Running R IsDone from to → to m ≡ true → R m p → ((j : ℕ) → R m j → j ≡ p) → ¬ (Later p) →
    ((x : ℕ) → Later x → to x ≡ true → IsDone x ⊎ (x ≡ m)) → ((k : ℕ) → new k ≡ cond (k == p) true (to k)) → Running R Later from new
running_puts R IsDone Later m p from to new running here there only later done put = record { sound = sound; starts = λ i h. more i (running.starts i h); closed = closed }
  where
    either : (b : Bool) → cond b true true ≡ true
    either true = refl
    either false = refl

    more : (k : ℕ) → to k ≡ true → new k ≡ true
    more k h = put k ∙ ap (λ (b : Bool). cond (k == p) true b) h ∙ either (k == p)

    old : (k : ℕ) → k ≢ p → new k ≡ true → to k ≡ true
    old k off h = go (k == p) refl
      where
        go : (x : Bool) → (k == p) ≡ x → to k ≡ true
        go true e = absurd (off (eqb-true k p e))
        go false e = sym (put k ∙ ap (λ (b : Bool). cond b true (to k)) e) ∙ h

    sound : (j : ℕ) → new j ≡ true → (i : ℕ) × (from i ≡ true) × ((n : ℕ) × Iterates R n i j)
    sound j h = go (j == p) refl
      where
        go : (x : Bool) → (j == p) ≡ x → (i : ℕ) × (from i ≡ true) × ((n : ℕ) × Iterates R n i j)
        go true e =
            let s = running.sound m here in
            (s.0, s.1, (suc s.2.0, subst (λ (q : ℕ). Iterates R (suc s.2.0) s.0 q) (sym (eqb-true j p e)) (iterates_snoc R s.2.0 s.0 m p s.2.1 there)))
        go false e = running.sound j (old j (eqb-false j p e) h)

    closed : (x y : ℕ) → Later x → new x ≡ true → R x y → new y ≡ true
    closed x y d h r =
        let was = old x (λ e. later (subst Later e d)) h in
        elim (done x d was) [
          | inl before ↦ more y (running.closed x y before was r)
          | inr at ↦ (let e = only y (subst (λ (q : ℕ). R q y) at r) in put y ∙ ap (λ (b : Bool). cond b true (to y)) (same y e))
        ]
      where
        same : (j : ℕ) → j ≡ p → (j == p) ≡ true
        same j e = grind (arith, nat_tests)

pub running_ends : (R : ℕ → ℕ → Type 0) (IsDone : ℕ → Type 0) (from to : ℕ → Bool) → Running R IsDone from to → ((x y : ℕ) → to x ≡ true → R x y → IsDone x) → IsImage (Steps None R) from to
running_ends R IsDone from to running all = record {
  sound = λ j h. let s = running.sound j h in (s.0, s.1, (s.2.0, tt, s.2.1));
  complete = λ i j h r. stays R to (λ x y a b. running.closed x y (all x y a b) a b) r.0 i j (running.starts i h) r.2;
}

pub done_by_none : (i : ℕ) (to : ℕ → Bool) → ((k : ℕ) → i ≤ k → to k ≡ false) → (x : ℕ) → to x ≡ true → x < i
done_by_none i to none x h = go (nat_lt x i) refl
  where
    go : (b : Bool) → nat_lt x i ≡ b → x < i
    go true e = grind (arith, nat_tests)
    go false e = let le : i ≤ x = grind (arith, nat_tests) in absurd (true≢false (sym h ∙ none x le))

pub above_or_at : (m x : ℕ) → m - 1 < x → (m < x) ⊎ (x ≡ m)
above_or_at m x h = go (nat_lt m x) refl
  where
    go : (b : Bool) → nat_lt m x ≡ b → (m < x) ⊎ (x ≡ m)
    go true e = inl (grind (arith, nat_tests))
    go false e = let le : x ≤ m = grind (arith, nat_tests) in inr (omega arith)

-- ---- the same sets, told otherwise

pub spreads_as : (R : ℕ → ℕ → Type 0) (all fresh new newer next : ℕ → Bool) → Spreads R all fresh new next → ((k : ℕ) → newer k ≡ new k) → Spreads R all fresh newer next
spreads_as R all fresh new newer next s same = record { added = λ k. same k ∙ s.added k; led = s.led; unknown = s.unknown; whole = λ i j h r. same j ∙ s.whole i j h r }

pub image_as : (R : ℕ → ℕ → Type 0) (from new to : ℕ → Bool) → IsImage R from new → ((k : ℕ) → to k ≡ new k) → IsImage R from to
image_as R from new to image same = record { sound = λ j h. image.sound j (sym (same j) ∙ h); complete = λ i j h r. same j ∙ image.complete i j h r }

pub or_none : (b c : Bool) → c ≡ false → b ≡ (b || c)
or_none true c e = refl
or_none false c e = sym e

pub positive : (n : ℕ) → not (n == 0) ≡ true → 0 < n
positive n h = grind (arith, nat_tests)

-- a set that leads to itself is where all further steps lead
pub exact_fixed : (R : ℕ → ℕ → Type 0) (n count : ℕ) (from at : ℕ → Bool) → n ≤ count → IsImage (Iterates R n) from at → IsImage R at at → IsImage (Iterates R count) from at
exact_fixed R n zero from at l before step = let e : n ≡ 0 = omega arith in subst (λ (m : ℕ). IsImage (Iterates R m) from at) e before
exact_fixed R n (suc count) from at l before step = go (nat_le n count) refl (λ h. exact_fixed R n count from at h before step)
  where
    go : (b : Bool) → nat_le n count ≡ b → (n ≤ count → IsImage (Iterates R count) from at) → IsImage (Iterates R (suc count)) from at
    go true e rest =
        let le : n ≤ count = grind (arith, nat_tests) in
        subst (λ (m : ℕ). IsImage (Iterates R m) from at) (add-one count) (exact_goes_on R count from at at (rest le) step)
    go false e rest =
        let gt : count < n = grind (arith, nat_tests) in
        let at_end : n ≡ suc count = omega arith in
        subst (λ (m : ℕ). IsImage (Iterates R m) from at) at_end before

pub image_from : (R : ℕ → ℕ → Type 0) (copy from to : ℕ → Bool) → ((k : ℕ) → copy k ≡ from k) → IsImage R copy to → IsImage R from to
image_from R copy from to same image = record { sound = λ j h. let s = image.sound j h in (s.0, sym (same s.0) ∙ s.1, s.2); complete = λ i j h r. image.complete i j (same i ∙ h) r }
