use Rattle.std.proofs.Common.{◌≡◌, true, false, ◌+◌, ◌≤◌, arith, subst}
use Rattle.std.specs.Float.Ieee.{eq}
use Rattle.json_decimals.proofs.Reading.{found, missed_by_tests}
use Rattle.json_decimals.proofs.decimals.short_decimal.Goals as goal

pub returns-then-read-x-clause-some : goal.returns-then-read-x-clause-some
returns-then-read-x-clause-some c =
    let within = c.last_before-power.ensures.within in
    let few = c.last_before-digits.ensures.within in
    let inside : c.last_before-power.result ≤ 800 = omega arith in (
      within,
      found c.args.x (c.last_before-digits.result + 1) c.last_before-power.result c.requires.normal c.requires.positive (omega arith) (omega arith)
          (subst (λ y. eq y c.args.x ≡ true) (c.read.ensures.value inside) c.if-read-x.true),
    )

pub returns-else-read-x-clause-none : goal.returns-else-read-x-clause-none
returns-else-read-x-clause-none c =
    let within = c.last_before-power.ensures.within in
    let inside : c.last_before-power.result ≤ 800 = omega arith in
    missed_by_tests c.args.x c.last_before-power.result c.last_before-digits.result c.requires.normal c.requires.positive within
    c.last_before-power.ensures.holds c.last_before-power.ensures.fails c.last_before-digits.ensures.holds c.last_before-digits.ensures.fails
    (subst (λ y. eq y c.args.x ≡ false) (c.read.ensures.value inside) c.if-read-x.false)
