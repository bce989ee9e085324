use Rattle.std.proofs.Common.{All, Ok, Some, ap, arith, slice_index_or, subst, true, ◌∙◌}
use Rattle.std.proofs.iter.Next.{says_at}
use Rattle.std.proofs.lemmas.List.{take_all}
use Rattle.std.specs.Fn.{FnReturnsAt}
use Rattle.test_rows.proofs.Taken.{is_list, one_more}
use Rattle.test_rows.proofs.tables.wrong_row.Goals as goal

pub loop-number-preserved : goal.loop-number-preserved
loop-number-preserved g c =
    one_more (λ row. FnReturnsAt g.F.Fn c.args.holds row (Ok true)) c.in-Some.rows.now.items c.loop-number.number c.row-item.result (omega arith) c.loop-number.invariant
    (subst (λ row. FnReturnsAt g.F.Fn c.args.holds row (Ok true)) (c.row-item.is ∙ ap (λ rows. slice_index_or rows c.loop-number.number c.row-item.result) c.deref-row-items.ensures.value) (says_at g.F.Fn c.holds.ensures (c.in_ok-holds.was ∙ ap Ok c.if-not-branch.false)))

pub returns : goal.returns
returns g c = record {
  hold = λ e. (
    c.in-Some.rows.now.items,
    c.in_ok-table.ensures.ok ∙ ap Some (is_list _ _ c.in-Some.ensures),
    subst (All (λ row. FnReturnsAt g.F.Fn c.args.holds row (Ok true))) (take_all c.loop-number.number c.in-Some.rows.now.items (omega arith)) c.loop-number.invariant,
  );
}
