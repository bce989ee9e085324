use Rattle.std.proofs.Common.{◌≡◌, ◌∙◌, ◌<◌, false, ℕ, ap, get_or, length, subst, sym, true}
use Rattle.std.proofs.lemmas.Bool.{eqb-false, eqb-true}
use Rattle.schema_places.specs.Numbers.{place_at}
use Rattle.schema_run_context.specs.Progress.{busy_at, root_places}
use Rattle.schema_solver_state.specs.Contexts.{Solver, has_pair, solver_places}
use Rattle.schema_solver_state.specs.ContextViews.{pairs_at}
use Rattle.schema_solver_state.proofs.Assuming.{none_busy, some_busy}
use Rattle.schema_solver_state.proofs.context.SolverContext.is_idle.Goals as goal

pub returns-clause-none : goal.returns-clause-none
returns-clause-none c h =
    let i = c.self.inside in
    let ps = root_places i.places in
    let es = pairs_at ps i.pairs.items in
    let k = c.args.place in
    let known = subst (λ (x : Solver). k < length (solver_places x)) (sym c.self.view_is) c.requires.known in
    let count : c.count_at.result ≡ length (busy_at (place_at ps k) es) = c.count_at.ensures.count ∙ ap (λ xs. get_or xs k 0) c.as_slice.ensures.value ∙ c.self.invariant.progress.guards.counted k known in
    subst (λ (x : Solver). (n : ℕ) → has_pair x.in_progress n (place_at (solver_places x) k) ≡ false) c.self.view_is
    (none_busy (place_at ps k) es (sym count ∙ eqb-true c.count_at.result 0 h))

pub returns-clause-some : goal.returns-clause-some
returns-clause-some c h =
    let i = c.self.inside in
    let ps = root_places i.places in
    let es = pairs_at ps i.pairs.items in
    let k = c.args.place in
    let known = subst (λ (x : Solver). k < length (solver_places x)) (sym c.self.view_is) c.requires.known in
    let count : c.count_at.result ≡ length (busy_at (place_at ps k) es) = c.count_at.ensures.count ∙ ap (λ xs. get_or xs k 0) c.as_slice.ensures.value ∙ c.self.invariant.progress.guards.counted k known in
    subst (λ (x : Solver). (n : ℕ) × (has_pair x.in_progress n (place_at (solver_places x) k) ≡ true)) c.self.view_is
    (some_busy (place_at ps k) es (λ empty. eqb-false c.count_at.result 0 h (count ∙ empty)))
