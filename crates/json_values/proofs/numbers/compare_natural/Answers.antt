use Rattle.std.proofs.Common.{◌∙◌, ap, arith, nat_cmp}
use Rattle.std.specs.Ordering.{nan_last_cmp}
use Rattle.json_values.proofs.Comparing.{natural_far, natural_large, natural_small, top_is}
use Rattle.json_values.proofs.numbers.compare_natural.Goals as goal

pub returns-then-n-le-EXACT : goal.returns-then-n-le-EXACT
returns-then-n-le-EXACT c =
    record {
      order = c.cmp.ensures ∙ ap (λ y. nan_last_cmp y c.args.x) c.nearest_u64_to_f64.ensures
          ∙ natural_small c.args.n c.args.x (omega arith);
    }

pub returns-then-x : goal.returns-then-x
returns-then-x c =
    record {
      order = c.cmp-then-x.ensures ∙ ap (nat_cmp c.args.n) c.saturating_f64_to_u64.ensures
          ∙ natural_large c.args.n c.args.x (omega arith) c.well_formed.1.0.1 (rw top_is at c.if-x.true);
    }

pub returns-else-x : goal.returns-else-x
returns-else-x c = record { order = natural_far c.args.n c.args.x (omega arith) (rw top_is at c.if-x.false) }
