-- Patterns that match the empty text at each position.
use Rattle.std.proofs.Common.{◌+◌, ◌-◌, ℕ, zero, suc, Bool, true, false, refl, arith, List, Option, Some, None}
use Rattle.pattern_trees.specs.Patterns.{IsWithin, Iterates, Matches, Pattern, Repeat}
use Rattle.pattern_sets.specs.Images.{IsImage, MatchesEmpty, Steps, leads}
use Rattle.pattern_sets.proofs.Iterating.{iterates_add}
use Rattle.pattern_sets.proofs.Leading.{image_map}

iterates_same : (R : ℕ → ℕ → Type 0) → ((i : ℕ) → R i i) → (n i : ℕ) → Iterates R n i i
iterates_same R same zero i = refl
iterates_same R same (suc n) i = (i, same i, iterates_same R same n i)

no_more : (more : Option ℕ) → IsWithin 0 more
no_more None = tt
no_more (Some more) = omega arith

pub no_turns_empty : (more : Option ℕ) (p : Pattern) → MatchesEmpty (Repeat 0 more p)
no_turns_empty more p text i = (0, no_more more, refl)

pub turns_empty : (least : ℕ) (more : Option ℕ) (p : Pattern) → MatchesEmpty p → MatchesEmpty (Repeat least more p)
turns_empty least more p empty text i = (0, no_more more, iterates_same (λ x y. Matches p text x y) (λ k. empty text k) (least + 0) i)

leads_empty : (forward : Bool) (p : Pattern) (text : List ℕ) → MatchesEmpty p → (i : ℕ) → leads forward p text i i
leads_empty true p text empty i = empty text i
leads_empty false p text empty i = empty text i

-- where a step may take nothing, so many steps lead where at most so many do
pub exact_by_most : (forward : Bool) (p : Pattern) (text : List ℕ) (count : ℕ) (from to : ℕ → Bool) → MatchesEmpty p → IsImage (Steps (Some count) (leads forward p text)) from to → IsImage (Iterates (leads forward p text) count) from to
exact_by_most forward p text count from to empty image =
    let R = leads forward p text in
    image_map (Steps (Some count) R) (Iterates R count) from to image
    (λ i j r. let few = r.1 in iterates_add R (count - r.0) r.0 count i i j (omega arith) (iterates_same R (leads_empty forward p text empty) (count - r.0) i) r.2)
    (λ i j r. (count, omega arith, r))
