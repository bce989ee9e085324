use Rattle.std.proofs.Common.{◌≡◌, ◌∙◌, ◌*◌, ◌+◌, ◌++◌, ◌∷◌, ◌<◌, [], List, ap, arith, length, subst, sym, true}
use Rattle.theory_definitions.specs.Instance.{Place}
use Rattle.schema_places.specs.Numbers.{OwnNumbers}
use Rattle.schema_run_context.specs.Progress.{root_places, row_words}
use Rattle.schema_run_context.specs.Rows.{AreWide, PutsBit}
use Rattle.schema_solver_state.specs.Contexts.{Solver, solver_places}
use Rattle.schema_solver_state.specs.ContextViews.{Assumes, SolverHolds}
use Rattle.schema_run_context.specs.declared.numbered_pairs.NumberedPair.{NumberedPair}
use Rattle.schema_solver_state.proofs.Assuming.{assumed_more}
use Rattle.schema_solver_state.proofs.context.SolverContext.assume.Goals as goal

pub invariant_of-self-2 : goal.invariant_of-self-2
invariant_of-self-2 c =
    let i = c.self.inside in
    let n = c.args.node.0 in
    let k = c.args.place in
    let ps = root_places i.places in
    let h = c.self.invariant in
    let w = row_words (length ps) in
    let e : NumberedPair = record { node = c.args.node; place = k } in
    let same = c.in_ok-numbered.ensures.places in
    let own : OwnNumbers ps = subst OwnNumbers same c.len-places.ensures.own in
    let width : c.row_words.result ≡ w = c.row_words.ensures.words ∙ ap row_words (c.len-places.ensures.count ∙ ap length same) in
    let known = subst (λ (y : Solver). k < length (solver_places y)) (sym c.self.view_is) c.requires.known in
    let here : 64 * 0 + k ≡ k = omega arith in
    let made = c.in_ok-make_row.ensures.made in
    let wide : AreWide w c.make_row.new.self = subst (λ v. AreWide v c.make_row.new.self) width (made.wide (subst (λ v. AreWide v i.yeses) (sym width) h.assumes.wide)) in
    let put = subst (λ b. PutsBit n b true c.make_row.new.self c.put_bit.new.self) here c.put_bit.ensures.put in
    let all : c.push_within.new.pairs.items ≡ i.assumed.items ++ e ∷ [] = c.push_within.ensures.pushed ∙ ap (λ (xs : List NumberedPair). xs ++ e ∷ []) c.reserve.ensures.items in
    subst (λ (qs : List Place). SolverHolds qs i.pairs.items i.counts.items i.guard c.push_within.new.pairs.items c.put_bit.new.self i.known) (ap root_places (sym c.numbered.follows.holds-at-none))
    (record {
      progress = h.progress;
      assumes = subst (λ (xs : List NumberedPair). Assumes ps xs c.put_bit.new.self) (sym all) (assumed_more ps i.assumed.items i.yeses c.make_row.new.self c.put_bit.new.self e own known h.assumes made.bits put wide);
    })
