use Rattle.json_decimals.proofs.Division.{by_digits, fewer_fives, fewer_twos, no_divisor, nothing_left}
use Rattle.json_decimals.proofs.amounts.Amount.is_multiple_of.Goals as goal
use Rattle.json_decimals.proofs.amounts.Amount.is_multiple_of.Goals.{then-divisor-eq0-via-then-divisor-eq0, then-divisor-eq0-via-else-divisor-eq0+then-self-divisor, then-divisor-eq0-via-else-divisor-eq0+else-self-divisor+then-self-divisor-2}

pub returns-then-self-eq0 : goal.returns-then-self-eq0
returns-then-self-eq0 c = record { multiple = λ x d X D some_x some_d. nothing_left x d _ _ X D some_x some_d c.if-self-eq0.true }

pub returns-then-divisor-eq0 : goal.returns-then-divisor-eq0
returns-then-divisor-eq0 c =
    record {
      multiple = λ x d X D some_x some_d. elim c.then-divisor-eq0.branch [
        | then-divisor-eq0-via-then-divisor-eq0 w ↦ no_divisor x d _ _ X D some_x some_d c.if-self-eq0.false w.if-divisor-eq0.true
        | then-divisor-eq0-via-else-divisor-eq0+then-self-divisor w ↦ fewer_twos x d _ _ X D some_x some_d c.if-self-eq0.false w.if-divisor-eq0.false w.if-self-divisor.true
        | then-divisor-eq0-via-else-divisor-eq0+else-self-divisor+then-self-divisor-2 w ↦
            fewer_fives x d _ _ X D some_x some_d c.if-self-eq0.false w.if-divisor-eq0.false w.if-self-divisor-2.true
      ];
    }

pub returns : goal.returns
returns c =
    record {
      multiple = λ x d X D some_x some_d. by_digits x d _ _ X D some_x some_d c.if-self-eq0.false c.if-divisor-eq0.false c.if-self-divisor.false c.if-self-divisor-2.false;
    }
