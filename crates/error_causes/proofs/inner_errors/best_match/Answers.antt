use Rattle.std.proofs.Common.{ℕ, ◌<◌, ◌≡◌, ◌≤◌, List, None, Option, Some, arith, false, get_or, length, refl, subst}
use Rattle.std.specs.List.{HoldsAt, IsFirstMaxByKey}
use Rattle.std.specs.Option.{MatchOption, option_copied}
use Rattle.std.specs.Prelude.{IfSome}
use Rattle.std.proofs.lemmas.List.{get_or_read}
use Rattle.std.proofs.lemmas.List.Sums.{best_keeps, best_takes}
use Rattle.std.proofs.lemmas.Option.{slice_get_read}
use Rattle.schema_output.specs.declared.errors.ErrorEntry.{ErrorEntry}
use Rattle.error_causes.specs.Causes.{IsFirstDeepest, entry_depth}
use Rattle.error_causes.proofs.inner_errors.best_match.Goals as goal
use Rattle.error_causes.proofs.inner_errors.best_match.Goals.{then-depth_of, else-depth_of}
use denote.Bor.{Bor}

-- the first of the deepest among all errors, if there are any
deepest_at : (es : List ErrorEntry) (n i : ℕ) (o : Option (Bor ErrorEntry)) → (1 ≤ length es → n ≤ length es) → length es ≤ n
    → IfSome o (λ x. x.now ≡ get_or es i x.now) → MatchOption o (length es ≤ i) (λ x. (i < length es) × HoldsAt (λ y. x.now ≡ y) es i)
    → IsFirstMaxByKey entry_depth es n i → IfSome (option_copied o) (IsFirstDeepest es)
deepest_at es n i None most least found here first = tt
deepest_at es n i (Some x) most least found here first =
    let inside : i < length es = here.0 in
    let whole : n ≡ length es = omega (arith, most (omega arith)) in
    (i, slice_get_read es (length es) i x.now refl inside found, subst (λ m. IsFirstMaxByKey entry_depth es m i) whole first)

pub loop-i-preserved : goal.loop-i-preserved
loop-i-preserved c =
    let xs = c.args.errors.now in
    let i = c.loop-i.i in
    let b = c.loop-i.best in
    let at_best = get_or_read xs b c.index-errors-best.result (omega arith) c.index-errors-best.is in
    let at_i = get_or_read xs i c.index-errors-i.result (omega arith) c.index-errors-i.is in
    elim c.if-depth_of.branch [
      | then-depth_of w ↦ rw w.best-is (best_takes entry_depth xs i b c.loop-i.invariant
          (λ d. rw (← (at_best d), ← (at_i d)) (omega (arith, c.depth_of.ensures.depth false, c.depth_of-in-loop-i.ensures.depth false))))
      | else-depth_of w ↦ rw w.best-is (best_keeps entry_depth xs i b c.loop-i.invariant
          (λ d. rw (← (at_best d), ← (at_i d)) (omega (arith, c.depth_of.ensures.depth false, c.depth_of-in-loop-i.ensures.depth false))))
    ]

pub returns-clause-deepest : goal.returns-clause-deepest
returns-clause-deepest c =
    let found = c.get.ensures.lookup in
    rw c.copied.ensures (deepest_at c.args.errors.now c.loop-i.i c.loop-i.best c.get.result c.loop-i.auto.i-end c.loop-i-test.false found.1 found.3 c.loop-i.invariant)
