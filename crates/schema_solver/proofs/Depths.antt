-- How many evaluations are under way, beside how many pairs are in progress.
use Rattle.std.proofs.Common.{◌≡◌, ◌≤◌, ◌<◌, ◌+◌, ◌∙◌, ◌++◌, ◌∷◌, [], ℕ, List, ap, arith, length, subst, sym}
use Rattle.std.specs.Prelude.{min}
use Rattle.std.proofs.lemmas.List.{length-append}
use Rattle.theory_definitions.specs.Instance.{Place}
use Rattle.schema_run_context.specs.Progress.{Pairs}
use Rattle.schema_solver_state.specs.Contexts.{Solver}
use Rattle.schema_solver_state.specs.Answering.{Begins}
use Rattle.schema_solver.specs.Solved.{IsAsDeep}
use Rattle.schema_solver.specs.Solving.{Goes, Setting}

-- while the same pairs are in progress
pub deep_still : (depth : ℕ) (c d : Solver) → d.in_progress ≡ c.in_progress → IsAsDeep depth c → IsAsDeep depth d
deep_still depth c d same deep small = subst (λ (es : Pairs). length es ≤ depth) (sym same) (deep small)

-- one level further
pub deep_below : (depth below : ℕ) (c : Solver) → below ≡ min (depth + 1) 18446744073709551615 → IsAsDeep depth c → IsAsDeep below c
deep_below depth below c is deep small =
    let before : depth < 18446744073709551615 = omega (arith, is, small) in
    let few = deep before in
    omega (arith, is, small, few)

-- once a pair has been begun, one level further
pub deep_begun : (i : ℕ) (p : Place) (old new : Solver) (depth below : ℕ) → Begins i p old new → below ≡ min (depth + 1) 18446744073709551615 → IsAsDeep depth old → IsAsDeep below new
deep_begun i p old new depth below begins is deep small =
    let before : depth < 18446744073709551615 = omega (arith, is, small) in
    let few = deep before in
    let more : length new.in_progress ≡ length old.in_progress + 1 = ap length begins.in_progress ∙ length-append old.in_progress ((i, p) ∷ []) in
    omega (arith, is, small, few, more)
