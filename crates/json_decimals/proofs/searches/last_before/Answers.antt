use Rattle.std.proofs.Common.{arith, inl, refl}
use Rattle.json_decimals.specs.Searches.{IsBracket}
use Rattle.json_decimals.proofs.searches.last_before.Goals as goal

pub loop-bracket-init : goal.loop-bracket-init
loop-bracket-init g c =
    let some = c.requires.some in
    let whole : IsBracket (goal.F-post g c.args.test) 0 c.args.end (record { low = 0; high = c.args.end }) = record { within = (omega arith, omega arith, omega arith); holds = inl refl; fails = inl refl } in
    c.narrowed-bracket-3.ensures.bracket 0 c.args.end (c.narrowed-bracket-2.ensures.bracket 0 c.args.end (c.narrowed-bracket.ensures.bracket 0 c.args.end whole))

pub loop-bracket-preserved : goal.loop-bracket-preserved
loop-bracket-preserved g c = c.narrowed-bracket-in-loop-bracket.ensures.bracket 0 c.args.end c.loop-bracket.invariant
