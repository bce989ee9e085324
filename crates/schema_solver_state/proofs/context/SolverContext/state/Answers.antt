use Rattle.std.proofs.Common.{◌≡◌, ◌∙◌, ◌<◌, ◌||◌, false, ap, inl, inr, length, subst, sym, true}
use Rattle.std.specs.Prelude.{Some}
use Rattle.std.proofs.lemmas.Bool.{or_left, or_right}
use Rattle.schema_places.specs.Numbers.{place_at}
use Rattle.schema_run_context.specs.Progress.{root_places}
use Rattle.schema_run_context.specs.Verdicts.{verdict_of}
use Rattle.schema_run_context.proofs.VerdictRows.{read_at}
use Rattle.schema_solver_state.specs.Contexts.{Solver, has_pair, solver_places}
use Rattle.schema_solver_state.specs.ContextViews.{pairs_at}
use Rattle.schema_solver_state.proofs.Assuming.{busy_pair}
use Rattle.schema_solver_state.specs.Saying.{WhatIsSaid}
use Rattle.schema_solver_state.proofs.context.SolverContext.state.Goals as goal

pub returns-in-Some-clause-known : goal.returns-in-Some-clause-known
returns-in-Some-clause-known c =
    let i = c.self.inside in
    let n = c.args.node.0 in
    let k = c.args.place in
    let ps = root_places i.places in
    let h = c.self.invariant.progress in
    let known = subst (λ (x : Solver). k < length (solver_places x)) (sym c.self.view_is) c.requires.known in
    let row = read_at n k ps (pairs_at ps i.pairs.items) i.known h.numbered h.wide_known known in
    let seen : c.verdict_in.result ≡ verdict_of n (place_at (solver_places c.args.self.now) k) c.args.self.now.verdicts
    = c.verdict_in.ensures.verdict ∙ row ∙ ap (λ (x : Solver). verdict_of n (place_at (solver_places x) k) x.verdicts) c.self.view_is in
    inl (sym seen ∙ c.in-Some.is ∙ ap Some (sym (ap (λ (s : WhatIsSaid). s.valid) c.settled.ensures.said)), ap (λ (s : WhatIsSaid). s.leans) c.settled.ensures.said)

pub returns-then-has_bit-clause-known : goal.returns-then-has_bit-clause-known
returns-then-has_bit-clause-known c =
    let i = c.self.inside in
    let n = c.args.node.0 in
    let k = c.args.place in
    let ps = root_places i.places in
    let known = subst (λ (x : Solver). k < length (solver_places x)) (sym c.self.view_is) c.requires.known in
    let busy : has_pair (pairs_at ps i.pairs.items) n (place_at ps k) ≡ true
    = sym (busy_pair n (place_at ps k) (pairs_at ps i.pairs.items)) ∙ sym (c.self.invariant.progress.guards.bits n k known) ∙ sym c.has_bit.ensures.bit ∙ c.if-has_bit.true in
    inr (
      ap (λ (s : WhatIsSaid). s.valid) c.for_now.ensures.yes,
      ap (λ (s : WhatIsSaid). s.leans) c.for_now.ensures.yes,
      subst (λ (x : Solver). (has_pair x.in_progress n (place_at (solver_places x) k) || has_pair x.assumed n (place_at (solver_places x) k)) ≡ true) c.self.view_is
          (or_left (has_pair (pairs_at ps i.pairs.items) n (place_at ps k)) (has_pair (pairs_at ps i.assumed.items) n (place_at ps k)) busy),
    )

pub returns-then-has_bit-2-clause-known : goal.returns-then-has_bit-2-clause-known
returns-then-has_bit-2-clause-known c =
    let i = c.self.inside in
    let n = c.args.node.0 in
    let k = c.args.place in
    let ps = root_places i.places in
    let known = subst (λ (x : Solver). k < length (solver_places x)) (sym c.self.view_is) c.requires.known in
    let yes : has_pair (pairs_at ps i.assumed.items) n (place_at ps k) ≡ true
    = sym (c.self.invariant.assumes.bits n k known) ∙ sym c.has_bit-2.ensures.bit ∙ c.if-has_bit-2.true in
    inr (
      ap (λ (s : WhatIsSaid). s.valid) c.for_now-then-has_bit-2.ensures.yes,
      ap (λ (s : WhatIsSaid). s.leans) c.for_now-then-has_bit-2.ensures.yes,
      subst (λ (x : Solver). (has_pair x.in_progress n (place_at (solver_places x) k) || has_pair x.assumed n (place_at (solver_places x) k)) ≡ true) c.self.view_is
          (or_right (has_pair (pairs_at ps i.pairs.items) n (place_at ps k)) (has_pair (pairs_at ps i.assumed.items) n (place_at ps k)) yes),
    )

pub returns-clause-unknown : goal.returns-clause-unknown
returns-clause-unknown c h =
    let i = c.self.inside in
    let n = c.args.node.0 in
    let k = c.args.place in
    let ps = root_places i.places in
    let progress = c.self.invariant.progress in
    let known = subst (λ (x : Solver). k < length (solver_places x)) (sym c.self.view_is) c.requires.known in
    let row = read_at n k ps (pairs_at ps i.pairs.items) i.known progress.numbered progress.wide_known known in
    let seen : c.verdict_in.result ≡ verdict_of n (place_at (solver_places c.args.self.now) k) c.args.self.now.verdicts
    = c.verdict_in.ensures.verdict ∙ row ∙ ap (λ (x : Solver). verdict_of n (place_at (solver_places x) k) x.verdicts) c.self.view_is in
    sym seen ∙ c.in_default.is

pub returns-clause-idle : goal.returns-clause-idle
returns-clause-idle c h =
    let i = c.self.inside in
    let n = c.args.node.0 in
    let k = c.args.place in
    let ps = root_places i.places in
    let known = subst (λ (x : Solver). k < length (solver_places x)) (sym c.self.view_is) c.requires.known in
    let idle : has_pair (pairs_at ps i.pairs.items) n (place_at ps k) ≡ false
    = sym (busy_pair n (place_at ps k) (pairs_at ps i.pairs.items)) ∙ sym (c.self.invariant.progress.guards.bits n k known) ∙ sym c.has_bit.ensures.bit ∙ c.if-has_bit.false in
    subst (λ (x : Solver). has_pair x.in_progress n (place_at (solver_places x) k) ≡ false) c.self.view_is idle
