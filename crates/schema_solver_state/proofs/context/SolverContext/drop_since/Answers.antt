use Rattle.std.proofs.Common.{◌≡◌, ◌∙◌, ◌-◌, ◌&&◌, ℕ, List, ap, drop, length, not, subst, sym, take}
use Rattle.std.proofs.lemmas.List.{take-map}
use Rattle.schema_places.specs.Numbers.{OwnNumbers}
use Rattle.schema_run_context.specs.Progress.{root_places}
use Rattle.schema_run_context.specs.ProgressViews.{pair_of}
use Rattle.schema_run_context.specs.Rows.{has_bit, row_in}
use Rattle.schema_run_context.specs.declared.numbered_pairs.NumberedPair.{NumberedPair}
use Rattle.schema_solver_state.specs.Answering.{IsApart}
use Rattle.schema_solver_state.specs.Contexts.{Solver, solver_places}
use Rattle.schema_solver_state.specs.ContextViews.{Assumes, HaveBits, has_number_pair, pairs_at}
use Rattle.schema_solver_state.proofs.Assuming.{assumed_less, have_bits, later_bits, rest_all}
use Rattle.schema_solver_state.proofs.context.SolverContext.drop_since.Goals as goal

pub clear_bits-requires : goal.clear_bits-requires
clear_bits-requires c =
    let i = c.self.inside in
    let ps = root_places i.places in
    let m = c.args.mark in
    let rest : take (length c.deref.result.now - m) (drop m c.deref.result.now) ≡ drop m i.assumed.items = rest_all c.deref.result.now m ∙ ap (drop m) c.deref.ensures.value in
    record { there = subst (λ (xs : List NumberedPair). HaveBits xs i.yeses) (sym rest) (later_bits m i.assumed.items i.yeses (have_bits ps i.assumed.items i.yeses c.self.invariant.assumes)) }

pub invariant_of-self : goal.invariant_of-self
invariant_of-self c =
    let i = c.self.inside in
    let ps = root_places i.places in
    let m = c.args.mark in
    let h = c.self.invariant in
    let own : OwnNumbers ps = subst (λ (x : Solver). OwnNumbers (solver_places x)) (sym c.self.view_is) c.requires.own in
    let new = c.clear_bits.new.rows in
    let rest : take (length c.deref.result.now - m) (drop m c.deref.result.now) ≡ drop m i.assumed.items = rest_all c.deref.result.now m ∙ ap (drop m) c.deref.ensures.value in
    let apart = subst (IsApart m) (sym c.self.view_is) c.requires.apart in
    let cleared = subst (λ (xs : List NumberedPair). (n k : ℕ) → has_bit (row_in new n) k ≡ (has_bit (row_in i.yeses n) k && not (has_number_pair xs n k))) rest c.clear_bits.ensures.cleared in
    record {
      progress = h.progress;
      assumes = subst (λ (xs : List NumberedPair). Assumes ps xs new) (sym c.truncate.ensures.items) (assumed_less ps i.assumed.items i.yeses new m own h.assumes apart cleared c.clear_bits.ensures.wide);
    }

pub returns-then-mark-len-clause-dropped : goal.returns-then-mark-len-clause-dropped
returns-then-mark-len-clause-dropped c =
    let i = c.self.inside in
    let ps = root_places i.places in
    let m = c.args.mark in
    ap (pairs_at ps) c.truncate.ensures.items ∙ sym (take-map (pair_of ps) m i.assumed.items) ∙ ap (λ (x : Solver). take m x.assumed) c.self.view_is
