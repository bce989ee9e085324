use Rattle.std.proofs.Common.{true≢false, true, false, ◌≡◌, ◌∙◌, ◌<◌, ◌≤◌, ◌+◌, ◌*◌, ◌/◌, ◌%◌, ◌==◌, ℕ, List, zero, suc, cond, ap, ap₂, arith, get_or, length, refl, subst, sym}
use Rattle.std.specs.Prelude.{IsSome, slice_set}
use Rattle.std.specs.Vec.{with_item}
use Rattle.std.specs.Int.{bit_at}
use Rattle.schema_run_context.specs.RowViews.{rows_of}
use Rattle.schema_run_context.specs.Rows.{PutsBit, row_in}
use Rattle.schema_run_context.specs.contracts.bit_rows.Rows.{the_view}
use Rattle.schema_run_context.specs.declared.bit_rows.Rows.TheInside.{Inside}
use Rattle.schema_run_context.proofs.Entering.{whatever_else}
use Rattle.schema_run_context.proofs.RowsChanged.{bit_put, row_found, row_past, row_short, rows_length, rows_written}
use Rattle.schema_run_context.proofs.bit_rows.Rows.put_bit.Goals as goal
use Rattle.schema_run_context.proofs.bit_rows.Rows.put_bit.Goals.{in-Some, in_default}

none_at : (n l : ℕ) → (n < l → false ≡ true) → l ≤ n
none_at n zero h = omega arith
none_at zero (suc l) h = absurd (true≢false (sym (h (omega arith))))
none_at (suc n) (suc l) h = let r = none_at n l (λ k. h (omega arith)) in omega (arith, r)

pub overflow_add-at : goal.overflow_add-at
overflow_add-at c =
    let i = c.self.inside in
    let there = subst (λ (rs : List (List ℕ)). c.args.from + c.args.place / 64 < length (row_in rs c.args.node)) (sym c.self.view_is) c.requires.there in
    let short = row_short i.rows.items c.args.node in
    omega (arith, there, short)

pub returns : goal.returns
returns c = elim c.match-get_mut.branch [
  | in-Some w ↦ (
      let f = c.args.from in
      let p = c.args.place in
      let n = c.args.node in
      let rows = c.self.inside.rows in
      let old = rows_of rows.items in
      let v = w.in-Some.words.now in
      let x = w.with_bit-word.result in
      let room = c.get_mut.ensures.variant.0 (subst IsSome (sym w.in-Some.is) refl) in
      let its = row_found rows.items n v (omega (arith, room, rows.ok.0)) w.in-Some.ensures.value in
      let there = subst (λ (rs : List (List ℕ)). f + p / 64 < length (row_in rs n)) (sym c.self.view_is) c.requires.there in
      let at : f + p / 64 ≡ (64 * f + p) / 64 = omega arith in
      let in_word : p % 64 ≡ (64 * f + p) % 64 = omega arith in
      let within : f + p / 64 < length v.items = subst (λ (ws : List ℕ). f + p / 64 < length ws) its there in
      let word : w.index.result.now ≡ get_or v.items (f + p / 64) 0 = w.index.ensures ∙ whatever_else v.items (f + p / 64) w.index.result.now 0 within in
      let size = rows_length rows.items in
      let ws = slice_set v.items (f + p / 64) x in
      let new : List (List ℕ) = rows_of (slice_set rows.items n (with_item v (f + p / 64) x)) in
      let put : PutsBit n (64 * f + p) c.args.on old new = bit_put n (64 * f + p) c.args.on old new ws x (omega (arith, size, room, rows.ok.0))
      (subst (λ (r : List ℕ). (64 * f + p) / 64 < length r) (sym its) (subst (λ (i : ℕ). i < length v.items) at within))
      (ap (λ (i : ℕ). slice_set v.items i x) at ∙ ap (λ (r : List ℕ). slice_set r ((64 * f + p) / 64) x) (sym its))
      (rows_written rows.items n (with_item v (f + p / 64) x))
      (λ k l. w.with_bit-word.ensures.bits k l ∙ ap₂ (λ (i : ℕ) (y : ℕ). cond (i == k) c.args.on (bit_at y k == 1)) in_word
      (word ∙ ap (λ (i : ℕ). get_or v.items i 0) at ∙ ap (λ (r : List ℕ). get_or r ((64 * f + p) / 64) 0) (sym its))) in
      let now = subst (λ (rs : List (List ℕ)). PutsBit n (64 * f + p) c.args.on rs new) c.self.view_is put in
      record { put = subst (λ (s : Inside). PutsBit n (64 * f + p) c.args.on c.args.self.now (the_view s)) (sym w.self-inside-is) now })
  | in_default w ↦ (
      let n = c.args.node in
      let rows = c.self.inside.rows in
      let there = subst (λ (rs : List (List ℕ)). c.args.from + c.args.place / 64 < length (row_in rs n)) (sym c.self.view_is) c.requires.there in
      let size = rows_length rows.items in
      let none : length rows.items ≤ n = none_at n (length rows.items) (λ l. w.in_default.ensures.variant.1 (omega (arith, l, rows.ok.0))) in
      let past = row_past (rows_of rows.items) n (omega (arith, none, size)) in
      absurd (omega (arith, there, ap (λ (r : List ℕ). length r) past)))
]
