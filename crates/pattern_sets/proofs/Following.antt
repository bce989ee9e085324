-- A run of characters of one set, and a character of another after it.
use Rattle.std.proofs.Common.{◌≡◌, ◌<◌, ◌≤◌, ◌||◌, ◌&&◌, ◌+◌, ◌∙◌, ◌⊎◌, ℕ, zero, suc, Bool, true, false, ap, refl, subst, sym, inl, inr, arith, max, nat_le, nat_lt, true≢false, List, length}
use Rattle.std.proofs.lemmas.Bool.Decides.{nat_tests}
use Rattle.pattern_trees.specs.Patterns.{One}
use Rattle.pattern_sets.specs.Images.{IsImage, IsTaken, Joined, leads}
use Rattle.pattern_sets.proofs.Leading.{or_true}
use Rattle.pattern_sets.proofs.Running.{in_span}
use Rattle.pattern_sets.proofs.Walking.{and_both, and_left, and_right}

-- the positions that were met with a character of a set: all, of those that runs lead to, and of those from one to the end of the last run
pub record IsMet (set : List (ℕ × ℕ)) (text : List ℕ) (i end : ℕ) (to met : ℕ → Bool) : Type 0 where
  pub taken : (k : ℕ) → met k ≡ true → IsTaken set text k
  pub reached : (k : ℕ) → to k ≡ true → IsTaken set text k → met k ≡ true
  pub near : (k : ℕ) → i ≤ k → k < end → IsTaken set text k → met k ≡ true

pub met_begins : (set : List (ℕ × ℕ)) (text : List ℕ) (to met : ℕ → Bool) → ((k : ℕ) → to k ≡ false) → ((k : ℕ) → met k ≡ false) → IsMet set text 0 0 to met
met_begins set text to met none unmet = record {
  taken = λ k h. absurd (true≢false (sym h ∙ unmet k));
  reached = λ k h t. absurd (true≢false (sym h ∙ none k));
  near = λ k a l t. absurd (omega arith);
}

-- one more run
pub met_on : (set : List (ℕ × ℕ)) (text : List ℕ) (least i m old start end next : ℕ) (to new met more : ℕ → Bool) → IsMet set text i old to met → i ≤ m → m < next → start ≡ max m old →
    ((k : ℕ) → more k ≡ true → (met k ≡ true) ⊎ IsTaken set text k) → ((k : ℕ) → met k ≡ true → more k ≡ true) → ((k : ℕ) → start ≤ k → k ≤ end → IsTaken set text k → more k ≡ true) →
    ((k : ℕ) → new k ≡ (to k || (nat_le (m + least) k && nat_le k end))) → IsMet set text next end new more
met_on set text least i m old start end next to new met more before le less begin sound kept whole put = record { taken = taken; reached = reached; near = λ k a l t. known k (omega arith) (omega arith) t }
  where
    known : (k : ℕ) → m ≤ k → k ≤ end → IsTaken set text k → more k ≡ true
    known k a l t = go (nat_lt k start) refl
      where
        go : (x : Bool) → nat_lt k start ≡ x → more k ≡ true
        go true e = let lt : k < start = grind (arith, nat_tests) in kept k (before.near k (omega arith) (omega arith) t)
        go false e = let ge : start ≤ k = grind (arith, nat_tests) in whole k ge l t

    taken : (k : ℕ) → more k ≡ true → IsTaken set text k
    taken k h = elim (sound k h) [
      | inl was ↦ before.taken k was
      | inr t ↦ t
    ]

    reached : (k : ℕ) → new k ≡ true → IsTaken set text k → more k ≡ true
    reached k h t = elim (or_true (to k) (nat_le (m + least) k && nat_le k end) (sym (put k) ∙ h)) [
      | inl was ↦ kept k (before.reached k was t)
      | inr fresh ↦ (let span = in_span (m + least) end k fresh in let first = span.0 in known k (omega arith) span.1 t)
    ]

-- no position past the text was met
pub met_inside : (set : List (ℕ × ℕ)) (text : List ℕ) (i end : ℕ) (to met there : ℕ → Bool) → IsMet set text i end to met → ((k : ℕ) → there k ≡ (to k && met k)) → (k : ℕ) → length text ≤ k → there k ≡ false
met_inside set text i end to met there is both k past = go (there k) refl
  where
    go : (x : Bool) → there k ≡ x → there k ≡ false
    go true e =
        let t = is.taken k (and_right (to k) (met k) (sym (both k) ∙ e)) in
        let inside = t.0 in
        absurd (omega arith)
    go false e = e

-- where runs lead, and then a character of the set
pub met_image : (R : ℕ → ℕ → Type 0) (set : List (ℕ × ℕ)) (text : List ℕ) (i end : ℕ) (from to met there next : ℕ → Bool) → IsImage R from to → IsMet set text i end to met → ((k : ℕ) → there k ≡ (to k && met k)) → next 0 ≡ false →
    ((k : ℕ) → next (k + 1) ≡ there k) → IsImage (Joined R (leads true (One set) text)) from next
met_image R set text i end from to met there next image is both none moved = record { sound = sound; complete = complete }
  where
    sound : (j : ℕ) → next j ≡ true → (x : ℕ) × (from x ≡ true) × Joined R (leads true (One set) text) x j
    sound zero h = absurd (true≢false (sym h ∙ none))
    sound (suc k) h =
        let after : suc k ≡ k + 1 = omega arith in
        let b : (to k && met k) ≡ true = sym (both k) ∙ sym (moved k) ∙ sym (ap next after) ∙ h in
        let s = image.sound k (and_left (to k) (met k) b) in
        let t = is.taken k (and_right (to k) (met k) b) in
        (s.0, s.1, (k, s.2, (t.0, t.1, after)))

    complete : (x j : ℕ) → from x ≡ true → Joined R (leads true (One set) text) x j → next j ≡ true
    complete x j f r =
        let k = r.0 in
        let t = r.2 in
        let led = image.complete x k f r.1 in
        let b = and_both (to k) (met k) led (is.reached k led (t.0, t.1)) in
        subst (λ (y : ℕ). next y ≡ true) (sym t.2) (moved k ∙ both k ∙ b)
