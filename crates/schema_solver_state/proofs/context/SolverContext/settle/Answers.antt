use Rattle.std.proofs.Common.{◌≡◌, ◌∙◌, ◌-◌, ◌≤◌, ◌∷◌, List, ap, arith, drop, length, subst, sym, take}
use Rattle.std.proofs.lemmas.List.{drop-map, drop_all, length-map}
use Rattle.theory_definitions.specs.Instance.{Place}
use Rattle.schema_places.specs.Numbers.{OwnNumbers, place_at}
use Rattle.schema_run_context.specs.Progress.{Pairs, root_places}
use Rattle.schema_run_context.specs.ProgressViews.{all_verdicts, pair_of}
use Rattle.schema_solver_state.specs.Contexts.{SettlesAll, Solver, solver_places}
use Rattle.schema_solver_state.specs.ContextViews.{SettlesPairs, pairs_at}
use Rattle.schema_run_context.specs.declared.numbered_pairs.NumberedPair.{NumberedPair}
use Rattle.schema_solver_state.proofs.Assuming.{rest_all, settles_first, settles_one}
use Rattle.schema_solver_state.proofs.context.SolverContext.settle.Goals as goal

pub returns-in_ok-settle_all-clause-settled : goal.returns-in_ok-settle_all-clause-settled
returns-in_ok-settle_all-clause-settled c =
    let i = c.self.inside in
    let n = c.args.node.0 in
    let k = c.args.place in
    let m = c.args.mark in
    let ps = root_places i.places in
    let same = c.in_ok-numbered.ensures.places in
    let own : OwnNumbers ps = subst OwnNumbers same c.len-places.ensures.own in
    let many : length ps ≡ c.len-places.result = sym (c.len-places.ensures.count ∙ ap length same) in
    let new = c.settle_all.new.known in
    let rest : take (length c.deref.result.now - m) (drop m c.deref.result.now) ≡ drop m i.assumed.items = rest_all c.deref.result.now m ∙ ap (drop m) c.deref.ensures.value in
    let settled = subst (λ (xs : List NumberedPair). SettlesPairs c.len-places.result xs c.keep_verdict.new.known new) rest c.in_ok-settle_all.ensures.settled in
    let its = settles_first (pairs_at ps (drop m i.assumed.items)) n (place_at ps k) (all_verdicts ps i.known) (all_verdicts ps c.keep_verdict.new.known) (all_verdicts ps new) (c.in_ok-keep_verdict.ensures.kept ps own many) (settled ps own many) in
    let at_once = subst (λ (xs : Pairs). SettlesAll ((n, place_at ps k) ∷ xs) (all_verdicts ps i.known) (all_verdicts ps new)) (sym (drop-map (pair_of ps) m i.assumed.items)) its in
    subst (λ (qs : List Place). SettlesAll ((n, place_at (solver_places c.args.self.now) k) ∷ drop m c.args.self.now.assumed) c.args.self.now.verdicts (all_verdicts qs new)) (ap root_places (sym c.numbered.follows.holds-at-none))
    (subst (λ (x : Solver). SettlesAll ((n, place_at (solver_places x) k) ∷ drop m x.assumed) x.verdicts (all_verdicts ps new)) c.self.view_is at_once)

pub returns-else-mark-len-clause-settled : goal.returns-else-mark-len-clause-settled
returns-else-mark-len-clause-settled c =
    let i = c.self.inside in
    let n = c.args.node.0 in
    let k = c.args.place in
    let m = c.args.mark in
    let ps = root_places i.places in
    let same = c.in_ok-numbered.ensures.places in
    let own : OwnNumbers ps = subst OwnNumbers same c.len-places.ensures.own in
    let many : length ps ≡ c.len-places.result = sym (c.len-places.ensures.count ∙ ap length same) in
    let new = c.keep_verdict.new.known in
    let size = length-map i.assumed.items (pair_of ps) in
    let short : length (pairs_at ps i.assumed.items) ≤ m = omega (arith, size, c.len.ensures, c.if-mark-len.false, i.assumed.ok.0) in
    let its = settles_one n (place_at ps k) (all_verdicts ps i.known) (all_verdicts ps new) (c.in_ok-keep_verdict.ensures.kept ps own many) in
    let at_once = subst (λ (xs : Pairs). SettlesAll ((n, place_at ps k) ∷ xs) (all_verdicts ps i.known) (all_verdicts ps new)) (sym (drop_all m (pairs_at ps i.assumed.items) short)) its in
    subst (λ (qs : List Place). SettlesAll ((n, place_at (solver_places c.args.self.now) k) ∷ drop m c.args.self.now.assumed) c.args.self.now.verdicts (all_verdicts qs new)) (ap root_places (sym c.numbered.follows.holds-at-none))
    (subst (λ (x : Solver). SettlesAll ((n, place_at (solver_places x) k) ∷ drop m x.assumed) x.verdicts (all_verdicts ps new)) c.self.view_is at_once)
