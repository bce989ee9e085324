-- A search for a run of characters of one set that ends before a character of another.
use Rattle.std.proofs.Common.{◌≡◌, ◌<◌, ◌≤◌, ◌+◌, ◌-◌, ◌∙◌, ℕ, Bool, true, false, refl, sym, arith, nat_lt, true≢false, List, length, None}
use Rattle.std.proofs.lemmas.Bool.Decides.{nat_tests}
use Rattle.pattern_trees.specs.Patterns.{One, Repeat}
use Rattle.pattern_sets.specs.Images.{IsTaken, Joined, Meets, Misses, Reaches, Runs, leads}
use Rattle.pattern_sets.proofs.Leading.{IsNext}
use Rattle.pattern_sets.proofs.Running.{iterates_runs, runs_iterates}

-- no run from a position below one meets a character of the other set
abbrev pub Unmet : List (ℕ × ℕ) → List (ℕ × ℕ) → List ℕ → (ℕ → Bool) → ℕ → Type 0
Unmet run last text from i = (k j : ℕ) → from k ≡ true → k < i → Runs run text k j → ¬ (IsTaken last text j)

pub unmet_begins : (run last : List (ℕ × ℕ)) (text : List ℕ) (from : ℕ → Bool) → Unmet run last text from 0
unmet_begins run last text from k j f l = absurd (omega arith)

-- runs that begin within one that meets none end where it does
pub unmet_on : (run last : List (ℕ × ℕ)) (text : List ℕ) (from : ℕ → Bool) (i m end : ℕ) → Unmet run last text from i → IsNext i m from → Misses run last text m end → Unmet run last text from (end + 1)
unmet_on run last text from i m end before next misses k j f l r t = go (nat_lt k i) (nat_lt k m) (nat_lt end j) refl refl refl
  where
    go : (x y z : Bool) → nat_lt k i ≡ x → nat_lt k m ≡ y → nat_lt end j ≡ z → ⊥
    go true y z e g h = before k j f (grind (arith, nat_tests)) r t
    go false true z e g h =
        let ge : i ≤ k = grind (arith, nat_tests) in
        let lt : k < m = grind (arith, nat_tests) in
        true≢false (sym f ∙ next.first k ge lt)
    go false false true e g h =
        let past : end < j = grind (arith, nat_tests) in
        misses.blocked (r.1 end (omega arith) past)
    go false false false e g h =
        let ge : m ≤ k = grind (arith, nat_tests) in
        let le : j ≤ end = grind (arith, nat_tests) in
        let on = r.0 in
        misses.unmet j (omega arith) le t

abbrev pub RunThen : List (ℕ × ℕ) → List (ℕ × ℕ) → List ℕ → ℕ → ℕ → Type 0
RunThen run last text = Joined (leads true (Repeat 0 None (One run)) text) (leads true (One last) text)

-- the search ends at a character of the other set
pub met_reaches : (run last : List (ℕ × ℕ)) (text : List ℕ) (from : ℕ → Bool) (m : ℕ) → from m ≡ true → Meets run last text m → Reaches (RunThen run last text) (length text) from true
met_reaches run last text from m f met =
    let j = met.0 in
    let le = met.1.0 in
    let taken = met.2 in
    let inside = taken.0 in
    let turns = runs_iterates run text (0 + (j - m)) m j (omega arith) met.1 in
    record {
      yes = λ e. (m, j + 1, f, omega arith, (j, (j - m, tt, turns), (inside, taken.1, refl)));
      no = λ e. absurd (true≢false e);
    }

-- no position is left
pub unmet_reaches : (run last : List (ℕ × ℕ)) (text : List ℕ) (from : ℕ → Bool) (i : ℕ) → Unmet run last text from i → ((k : ℕ) → i ≤ k → from k ≡ false) → Reaches (RunThen run last text) (length text) from false
unmet_reaches run last text from i before none = record {
  yes = λ e. absurd (true≢false (sym e));
  no = λ e k j f l r.
      let runs = (iterates_runs run text (0 + r.1.0) k r.0 r.1.2).0 in
      let taken = r.2 in
      go k r.0 f runs (taken.0, taken.1) (nat_lt k i) refl;
}
  where
    go : (k j : ℕ) → from k ≡ true → Runs run text k j → IsTaken last text j → (x : Bool) → nat_lt k i ≡ x → ⊥
    go k j f r t true e = before k j f (grind (arith, nat_tests)) r t
    go k j f r t false e = let ge : i ≤ k = grind (arith, nat_tests) in true≢false (sym f ∙ none k ge)
