use Rattle.std.proofs.Common.{◌*◌, ◌-◌, ◌^◌, ◌<◌, ◌∙◌, ap, arith}
use Rattle.std.proofs.Math.Nat.{mul_right_comm}
use Rattle.json_decimals.proofs.Worths.{few_fives, five_moved, still_few}
use Rattle.json_decimals.proofs.amounts.without_fives.Goals as goal

pub overflow_add-fives : goal.overflow_add-fives
overflow_add-fives c =
    let i = c.loop-digits.invariant in
    let odd = i.odd in
    let some : 0 < c.loop-digits.digits = omega arith in
    let up = i.up in
    let few = few_fives c.loop-digits.digits (c.loop-digits.fives - c.args.fives) some i.few in
    omega (arith, few, up, c.requires.small)

pub loop-digits-preserved : goal.loop-digits-preserved
loop-digits-preserved c =
    let i = c.loop-digits.invariant in
    let none = c.loop-digits-test.true in
    let odd = i.odd in
    let up = i.up in
    record {
      same = five_moved c.loop-digits.digits c.loop-digits.fives _ i.same none;
      odd = omega arith;
      up = omega arith;
      few = still_few c.loop-digits.digits (c.loop-digits.fives - c.args.fives) _ _ i.few (omega arith);
    }

pub returns-clause-units : goal.returns-clause-units
returns-clause-units c =
    mul_right_comm c.loop-digits.digits _ _ ∙ ap (λ n. n * 2 ^ c.args.twos) c.loop-digits.invariant.same ∙ mul_right_comm c.args.digits _ _
