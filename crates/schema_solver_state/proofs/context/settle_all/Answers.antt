use Rattle.std.proofs.Common.{◌<◌, List, arith, get_or, length, subst, sym, take}
use Rattle.schema_solver_state.specs.ContextViews.{SettlesPairs}
use Rattle.schema_run_context.specs.declared.numbered_pairs.NumberedPair.{NumberedPair}
use Rattle.schema_solver_state.proofs.Assuming.{settles_more, take_next}
use Rattle.schema_solver_state.proofs.context.settle_all.Goals as goal

pub loop-pair-preserved : goal.loop-pair-preserved
loop-pair-preserved c =
    let es = c.args.pairs.now in
    let i = c.loop-pair.pair-index in
    let none : NumberedPair = record { node = record { 0 = 0 }; place = 0 } in
    let within : i < length es = omega (arith, c.loop-pair-test.true) in (
      c.keep_verdict.ensures.wide,
      subst (λ (xs : List NumberedPair). SettlesPairs c.args.places xs c.args.known.now c.keep_verdict.new.known) (sym (take_next es i none within))
          (settles_more c.args.places (take i es) (get_or es i none) c.args.known.now c.loop-pair.known c.keep_verdict.new.known c.loop-pair.invariant.1 c.in_ok-keep_verdict.ensures.kept),
    )
