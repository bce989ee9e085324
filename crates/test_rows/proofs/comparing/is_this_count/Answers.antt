use Rattle.std.proofs.Common.{sym, arith}
use Rattle.test_rows.proofs.Lists.{no_count_above, no_count_below, no_count_wanted_above, no_count_wanted_below}
use Rattle.test_rows.proofs.comparing.is_this_count.Goals as goal

pub returns-in_default : goal.returns-in_default
returns-in_default c = record { count = sym (no_count_below _ _ (omega (arith, c.in_default.len_below))) }

pub returns-in_default-2 : goal.returns-in_default-2
returns-in_default-2 c = record { count = sym (no_count_above _ _ (omega (arith, c.in_default.len_at_least))) }

pub returns-in_default-wanted : goal.returns-in_default-wanted
returns-in_default-wanted c = record { count = sym (no_count_wanted_below _ _ (omega (arith, c.in_default-wanted.len_below))) }

pub returns-in_default-wanted-2 : goal.returns-in_default-wanted-2
returns-in_default-wanted-2 c = record { count = sym (no_count_wanted_above _ _ (omega (arith, c.in_default-wanted.len_at_least))) }
