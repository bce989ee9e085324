use Rattle.std.proofs.Common.{List, length, subst, sym}
use Rattle.schema_places.specs.RowViews.{AllWithin}
use Rattle.schema_places.specs.declared.rows.Row.{Row}
use Rattle.schema_places.proofs.Tables.{within_pushed}
use Rattle.schema_places.proofs.rows.Table.push_row.Goals as goal

pub invariant_of-self-2 : goal.invariant_of-self-2
invariant_of-self-2 c =
    let t = c.self.inside in
    record {
      within = subst (λ (rs : List Row). AllWithin (length t.numbers.items) rs) (sym c.in_ok-push.ensures.items) (within_pushed (length t.numbers.items) t.rows.items _ c.self.invariant.within tt);
      small = c.self.invariant.small;
    }
