use Rattle.std.proofs.Common.{◌≡◌, ◌-◌, ◌*◌, ◌%◌, ◌^◌, ◌<◌, ◌≤◌}
use Rattle.json_decimals.proofs.amounts.without_fives.Given as goal

abbrev pub invariant-loop-digits : goal.invariant-loop-digits
invariant-loop-digits l = record {
  same : l.digits * 5 ^ l.fives ≡ l.initial.digits * 5 ^ l.initial.fives;
  odd : l.digits % 2 ≡ 1;
  up : l.initial.fives ≤ l.fives;
  few : l.digits * 2 ^ (l.fives - l.initial.fives) < 2 ^ 64;
}

abbrev pub decreases-loop-digits : goal.decreases-loop-digits
decreases-loop-digits l = l.digits
