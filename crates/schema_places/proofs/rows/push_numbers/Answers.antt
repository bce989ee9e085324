use Rattle.std.proofs.Common.{◌≡◌, ◌∙◌, ◌+◌, ◌-◌, ◌++◌, ◌∷◌, [], List, ap, append_assoc, arith, length, subst, suc, sym, ℕ}
use Rattle.schema_places.specs.Rows.{Walks, numbers_from}
use Rattle.schema_places.specs.RowViews.{last_at}
use Rattle.schema_places.proofs.rows.push_numbers.Goals as goal

pub loop-preserved : goal.loop-preserved
loop-preserved c =
    let last = last_at c.args.rows.now in
    let gap = c.args.gap in
    let n = c.loop.number in
    let before = c.loop.numbers.items in
    let left = c.args.count - (c.loop.counter + 1) in
    let more : c.args.count - c.loop.counter ≡ suc left = omega (arith, c.loop-test.true) in
    let walk = subst (λ (m : ℕ). Walks last (length c.args.rows.now) gap n m) more c.loop.invariant.walk in record {
      pushed = ap (λ (xs : List ℕ). xs ++ numbers_from last gap (last (n + gap) + 1) left) c.push_reserved.ensures.items
          ∙ append_assoc before (n ∷ []) (numbers_from last gap (last (n + gap) + 1) left)
          ∙ ap (λ (m : ℕ). before ++ numbers_from last gap n m) (sym more) ∙ c.loop.invariant.pushed;
      walk = walk.2;
      room = omega (arith, c.push_reserved.ensures.len, c.push_reserved.ensures.capacity, c.loop.invariant.room, more);
    }
