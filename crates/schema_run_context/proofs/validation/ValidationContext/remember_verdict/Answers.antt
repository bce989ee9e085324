use Rattle.std.proofs.Common.{◌≡◌, ◌∙◌, ◌*◌, ◌+◌, ◌<◌, true, List, ap, arith, inl, length, map, subst, sym}
use Rattle.theory_definitions.specs.Instance.{Place}
use Rattle.schema_places.specs.Numbers.{OwnNumbers, place_at}
use Rattle.schema_run_context.specs.ProgressViews.{Holds, all_verdicts, pair_of}
use Rattle.schema_run_context.specs.Progress.{Context, row_words}
use Rattle.schema_run_context.specs.Rows.{AreWide, PutsBit, row_numbers, words_in}
use Rattle.schema_run_context.specs.Verdicts.{Remembers}
use Rattle.schema_run_context.proofs.Entering.{in_row, row_kept, some_place}
use Rattle.schema_run_context.proofs.Few.{few_lists}
use Rattle.schema_run_context.proofs.RowsChanged.{distinct_rows}
use Rattle.schema_run_context.proofs.VerdictRows.{remembered}
use Rattle.schema_run_context.proofs.Widths.{all_wide}
use Rattle.schema_run_context.specs.Progress.{places_in, root_places}
use Rattle.schema_run_context.proofs.validation.ValidationContext.remember_verdict.Goals as goal

pub make_row-requires : goal.make_row-requires
make_row-requires c =
    let i = c.self.inside in
    let ps = root_places i.places in
    let known = subst (λ (x : Context). c.args.place < length (places_in x)) (sym c.self.view_is) c.requires.known in
    let width : c.row_words-words.result ≡ row_words (length ps) = c.row_words-words.ensures.words ∙ ap row_words (c.len.ensures.count ∙ ap length c.in_ok-numbered.ensures.places) in
    let some = some_place c.row_words-words.result c.args.place (length ps) width known in
    record { some = omega (arith, some) }

pub put_bit-requires-2 : goal.put_bit-requires-2
put_bit-requires-2 c =
    let i = c.self.inside in
    let n = c.args.node.0 in
    let k = c.args.place in
    let ps = root_places i.places in
    let known = subst (λ (x : Context). k < length (places_in x)) (sym c.self.view_is) c.requires.known in
    let width : c.row_words-words.result ≡ row_words (length ps) = c.row_words-words.ensures.words ∙ ap row_words (c.len.ensures.count ∙ ap length c.in_ok-numbered.ensures.places) in
    let wide : AreWide (2 * c.row_words-words.result) i.known = subst (λ v. AreWide (2 * v) i.known) (sym width) c.self.invariant.wide_known in
    let size = row_kept n (2 * c.row_words-words.result) (64 * 0 + k) true i.known c.make_row.new.self c.put_bit.new.self c.in_ok-make_row.ensures.made c.put_bit.ensures.put wide in
    let within = in_row c.row_words-words.result k (length ps) width known in
    record { there = omega (arith, size, within) }

pub invariant_of-self-2 : goal.invariant_of-self-2
invariant_of-self-2 c =
    let i = c.self.inside in
    let ps = root_places i.places in
    let h = c.self.invariant in
    let w = row_words (length ps) in
    let same = c.in_ok-numbered.ensures.places in
    let width : c.row_words-words.result ≡ w = c.row_words-words.ensures.words ∙ ap row_words (c.len.ensures.count ∙ ap length same) in
    let made = c.in_ok-make_row.ensures.made in
    let first = c.put_bit.ensures.put in
    let second = c.put_bit-2.ensures.put in
    let wide : AreWide (2 * w) c.make_row.new.self = subst (λ v. AreWide (2 * v) c.make_row.new.self) width (made.wide (subst (λ v. AreWide (2 * v) i.known) (sym width) h.wide_known)) in
    subst (λ (qs : List Place). Holds qs (map (pair_of qs) i.pairs.items) i.counts.items i.guard c.put_bit-2.new.self) (ap root_places (sym c.numbered.follows.holds-at-none)) (record {
      numbered = inl (subst OwnNumbers same c.len.ensures.own);
      distinct = h.distinct;
      guards = h.guards;
      wide_guard = h.wide_guard;
      wide_known = second.wide (2 * w) (first.wide (2 * w) wide);
    })

pub returns-clause-kept : goal.returns-clause-kept
returns-clause-kept c =
    let i = c.self.inside in
    let n = c.args.node.0 in
    let k = c.args.place in
    let ps = root_places i.places in
    let h = c.self.invariant in
    let w = row_words (length ps) in
    let same = c.in_ok-numbered.ensures.places in
    let own : OwnNumbers ps = subst OwnNumbers same c.len.ensures.own in
    let width : c.row_words-words.result ≡ w = c.row_words-words.ensures.words ∙ ap row_words (c.len.ensures.count ∙ ap length same) in
    let known = subst (λ (x : Context). k < length (places_in x)) (sym c.self.view_is) c.requires.known in
    let here : 64 * 0 + k ≡ k = omega arith in
    let made = c.in_ok-make_row.ensures.made in
    let first = subst (λ b. PutsBit n b true c.make_row.new.self c.put_bit.new.self) here c.put_bit.ensures.put in
    let second = subst (λ v. PutsBit n (64 * v + k) c.args.verdict c.put_bit.new.self c.put_bit-2.new.self) width c.put_bit-2.ensures.put in
    let new = c.put_bit-2.new.self in
    let its = remembered n k c.args.verdict ps i.known c.make_row.new.self c.put_bit.new.self new own known made.bits first second in
    subst (λ (qs : List Place). Remembers n (place_at (places_in c.args.self.now) k) c.args.verdict c.args.self.now.verdicts (all_verdicts qs new)) (ap root_places (sym c.numbered.follows.holds-at-none))
    (subst (λ (x : Context). Remembers n (place_at (places_in x) k) c.args.verdict x.verdicts (all_verdicts ps new)) c.self.view_is its)

pub returns-clause-few : goal.returns-clause-few
returns-clause-few c = few_lists (row_numbers c.self.inside.guard) (row_numbers c.put_bit-2.new.self) (distinct_rows c.put_bit-2.new.self)

pub returns-clause-wide : goal.returns-clause-wide
returns-clause-wide c =
    let i = c.self.inside in
    let h = c.self.invariant in
    let w = row_words (length (root_places i.places)) in
    let width : c.row_words-words.result ≡ w = c.row_words-words.ensures.words ∙ ap row_words (c.len.ensures.count ∙ ap length c.in_ok-numbered.ensures.places) in
    let made = c.in_ok-make_row.ensures.made in
    let wide : AreWide (2 * w) c.make_row.new.self = subst (λ v. AreWide (2 * v) c.make_row.new.self) width (made.wide (subst (λ v. AreWide (2 * v) i.known) (sym width) h.wide_known)) in
    let new = c.put_bit-2.new.self in
    subst (λ (qs : List Place). words_in i.guard + words_in new ≡ (length (row_numbers i.guard) + 2 * length (row_numbers new)) * row_words (length qs)) (ap root_places (sym c.numbered.follows.holds-at-none))
    (all_wide w i.guard new h.wide_guard (c.put_bit-2.ensures.put.wide (2 * w) (c.put_bit.ensures.put.wide (2 * w) wide)))
