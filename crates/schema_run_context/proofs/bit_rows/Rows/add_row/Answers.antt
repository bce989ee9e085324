use Rattle.std.proofs.Common.{◌≡◌, ◌∙◌, ap, arith, false, subst, sym, List, ℕ}
use Rattle.std.specs.Prelude.{slice_set}
use Rattle.schema_run_context.specs.RowViews.{rows_of}
use Rattle.schema_run_context.specs.Rows.{MakesRow, has_words, row_in}
use Rattle.schema_run_context.proofs.RowsChanged.{row_made, rows_length, rows_written}
use Rattle.schema_run_context.proofs.bit_rows.Rows.add_row.Goals as goal

pub returns-clause-made : goal.returns-clause-made
returns-clause-made c =
    let n = c.args.node in
    let rows = c.make_room.new.rows in
    let v = c.in_ok-row.row in
    let old = rows_of c.self.inside.rows.items in
    let absent = subst (λ (rs : List (List ℕ)). has_words (row_in rs n) ≡ false) (sym c.self.view_is) c.requires.none in
    let size = rows_length rows.items in
    subst (λ (rs : List (List ℕ)). MakesRow n c.args.words rs (rows_of (slice_set rows.items n v))) c.self.view_is
    (row_made n c.args.words old (rows_of rows.items) (rows_of (slice_set rows.items n v)) c.requires.some absent c.in_ok-make_room.ensures.same
    (omega (arith, size, c.in_ok-make_room.ensures.room, rows.ok.0))
    (rows_written rows.items n v ∙ ap (slice_set (rows_of rows.items) n) (c.in_ok-row.ensures.items_if_clones_equal (λ y h. h))))
