-- Choices, lookarounds and steps at hand.
use Rattle.std.proofs.Common.{◌≡◌, ℕ, zero, suc, Bool, true, false, List, [], ◌∷◌, ◌++◌, refl, ap, sym, ◌∙◌, eq-eqb}
use Rattle.std.specs.Prelude.{if◌then◌else◌, nat_eq, not, ◌&&◌}
use Rattle.pattern_trees.specs.declared.tree.Turns.{Turns}
use Rattle.pattern_trees.specs.declared.tree.Look.{Look}
use Rattle.pattern_backtracking.specs.declared.frames.Task.{Task}
use Rattle.pattern_backtracking.specs.declared.frames.First.{First}
use Rattle.pattern_backtracking.specs.declared.frames.First.TheVariants.{Found, Missing, Limit}
use Rattle.pattern_trees.specs.Matching.{Chars, State, is_idle, fewer}
use Rattle.pattern_backtracking.specs.Counting.{step, gives, Trace, ordered_trace, repeated_trace, sought, Ending, found_at, none_left, at_limit, within}
use Rattle.pattern_backtracking.specs.Piles.{whole, turned_trace, answer, is_limit, Says, Goes}
use Rattle.pattern_backtracking.proofs.Traces.{whole-step}

pub ordered-greedy : (t : Turns) (more : Trace) (x : State) → t.min ≡ 0 → t.greedy ≡ true → ordered_trace t more x ≡ more ++ gives x ∷ []
ordered-greedy t more x e g =
    ap (λ n. if nat_eq n 0 then (if t.greedy then more ++ gives x ∷ [] else gives x ∷ more) else more) e ∙ ap (λ b. if b then more ++ gives x ∷ [] else gives x ∷ more) g

pub ordered-lazy : (t : Turns) (more : Trace) (x : State) → t.min ≡ 0 → t.greedy ≡ false → ordered_trace t more x ≡ (gives x ∷ []) ++ more
ordered-lazy t more x e g =
    ap (λ n. if nat_eq n 0 then (if t.greedy then more ++ gives x ∷ [] else gives x ∷ more) else more) e ∙ ap (λ b. if b then more ++ gives x ∷ [] else gives x ∷ more) g

pub turned-idle : (body : State → Trace) (left : ℕ) (t : Turns) (i : ℕ) (y : State) → is_idle t i y ≡ true → turned_trace body left t i y ≡ []
turned-idle body left t i y e = ap (λ b. if b then [] else repeated_trace body left (fewer t) y) e

nat_eq-same : (i j : ℕ) → i ≡ j → nat_eq i j ≡ true
nat_eq-same i j e = eq-eqb i j e

pub is_idle-same : (t : Turns) (i : ℕ) (y : State) → t.min ≡ 0 → y.place ≡ i → is_idle t i y ≡ true
is_idle-same t i y e f = ap (λ n. nat_eq n 0 && nat_eq y.place i) e ∙ nat_eq-same y.place i f

pub not-false : (b : Bool) → not b ≡ false → b ≡ true
not-false true e = refl
not-false false e = sym e

pub answer-denied : (look : Look) (x : State) (first : First) (cs : _) → look.wanted ≡ false → first ≡ Found cs → answer look x first ≡ []
answer-denied look x first cs e f = ap (answer look x) f ∙ ap (λ b. if b then gives (record { place = x.place; captures = cs.items }) ∷ [] else []) e

pub answer-missed : (look : Look) (x : State) (first : First) → look.wanted ≡ true → first ≡ Missing → answer look x first ≡ []
answer-missed look x first e f = ap (answer look x) f ∙ ap (λ b. if b then [] else gives x ∷ []) e

-- a step at hand is taken
pub within-step : (n m : ℕ) (e : Trace) → n ≡ suc m → within n (step ∷ e) ≡ within m e
within-step n m e h = ap (λ k. within k (step ∷ e)) h

pub within-gives : (n : ℕ) (x : State) (e : Trace) → within n (gives x ∷ e) ≡ found_at x n
within-gives zero x e = refl
within-gives (suc n) x e = refl

-- what comes after the search inside a lookaround
resumed : Chars → List Task → Look → State → Trace → Ending → Ending
resumed s ts look x rest (found_at y n) = within n (whole s ts (if look.wanted then gives (record { place = x.place; captures = y.captures }) ∷ [] else []) ++ rest)
resumed s ts look x rest (none_left n) = within n (whole s ts (if look.wanted then [] else gives x ∷ []) ++ rest)
resumed s ts look x rest at_limit = at_limit

sought-within : (s : Chars) (ts : List Task) (look : Look) (x : State) (rest inner : Trace) (n : ℕ) →
    within n (whole s ts (sought look x inner) ++ rest) ≡ resumed s ts look x rest (within n inner)
unfolding resumed
sought-within s ts look x rest [] n = refl
sought-within s ts look x rest (gives y ∷ e) zero = refl
sought-within s ts look x rest (gives y ∷ e) (suc n) = refl
sought-within s ts look x rest (step ∷ e) zero = ap (λ d. within zero (d ++ rest)) (whole-step s ts (sought look x e))
sought-within s ts look x rest (step ∷ e) (suc n) =
    ap (λ d. within (suc n) (d ++ rest)) (whole-step s ts (sought look x e)) ∙ sought-within s ts look x rest e n

-- at the limit
pub sought-limit : (s : Chars) (ts : List Task) (look : Look) (x : State) (rest inner : Trace) (n m : ℕ) (first : First) →
    is_limit first ≡ true → Says first m (within n inner) → within n (whole s ts (sought look x inner) ++ rest) ≡ at_limit
unfolding resumed
sought-limit s ts look x rest inner n m (Found cs) l h = cc
sought-limit s ts look x rest inner n m Missing l h = cc
sought-limit s ts look x rest inner n m Limit l h = sought-within s ts look x rest inner n ∙ ap (resumed s ts look x rest) h

pub sought-answer : (s : Chars) (ts : List Task) (look : Look) (x : State) (rest inner : Trace) (n m : ℕ) (first : First) →
    is_limit first ≡ false → Says first m (within n inner) → within n (whole s ts (sought look x inner) ++ rest) ≡ within m (whole s ts (answer look x first) ++ rest)
unfolding resumed
sought-answer s ts look x rest inner n m (Found cs) l (y, h, k) =
    sought-within s ts look x rest inner n ∙ ap (resumed s ts look x rest) h
    ∙ ap (λ c. within m (whole s ts (if look.wanted then gives (record { place = x.place; captures = c }) ∷ [] else []) ++ rest)) k
sought-answer s ts look x rest inner n m Missing l h = sought-within s ts look x rest inner n ∙ ap (resumed s ts look x rest) h
sought-answer s ts look x rest inner n m Limit l h = cc

pub within-none : (n : ℕ) → within n [] ≡ none_left n
within-none zero = refl
within-none (suc n) = refl

pub within-zero : (n : ℕ) (e : Trace) → n ≡ 0 → within n (step ∷ e) ≡ at_limit
within-zero n e h = ap (λ k. within k (step ∷ e)) h

pub goes-true : (b : Bool) (v w : Ending) → b ≡ true → Goes b v w → v ≡ w
goes-true true v w e h = h
goes-true false v w e h = cc

pub goes-false : (b : Bool) (v w : Ending) → b ≡ false → Goes b v w → v ≡ at_limit
goes-false false v w e h = h
goes-false true v w e h = cc
