use Rattle.std.proofs.Common.{◌≡◌, ◌∙◌, ◌==◌, ◌*◌, ◌+◌, ◌<◌, ◌≤◌, ◌++◌, ◌∷◌, [], ℕ, true, false, cond, List, ap, arith, get_or, inl, length, length-append, length-set, map, refl, subst, sym}
use Rattle.std.specs.Prelude.{slice_set}
use Rattle.theory_definitions.specs.Instance.{Place}
use Rattle.schema_places.specs.Numbers.{OwnNumbers, place_at}
use Rattle.schema_run_context.specs.ProgressViews.{Holds, pair_of}
use Rattle.schema_run_context.specs.Progress.{Adds, Context, Distinct, Enters, FewRows, IsWide, Pairs, busy_at, row_words}
use Rattle.schema_run_context.specs.Rows.{AreWide, PutsBit, has_bit, row_in, row_numbers, words_in}
use Rattle.schema_run_context.specs.declared.numbered_pairs.NumberedPair.{NumberedPair}
use Rattle.std.proofs.lemmas.List.{length-map}
use Rattle.schema_run_context.proofs.Alone.{busy_short}
use Rattle.schema_run_context.proofs.Entering.{at_its_own, count_put, pushed, some_place, whatever_else}
use Rattle.schema_run_context.proofs.Few.{few_lists}
use Rattle.schema_run_context.proofs.Guarding.{guards_more, has_row}
use Rattle.schema_run_context.proofs.Pairs.{among, distinct_pushed, enters_new, enters_old}
use Rattle.schema_run_context.proofs.RowsChanged.{distinct_rows, row_there}
use Rattle.schema_run_context.proofs.Widths.{all_wide}
use Rattle.schema_run_context.specs.Progress.{places_in, root_places}
use Rattle.schema_run_context.proofs.validation.ValidationContext.enter.Goals as goal

pub returns-then-has_bit-clause-enters : goal.returns-then-has_bit-clause-enters
returns-then-has_bit-clause-enters c =
    let i = c.self.inside in
    let n = c.args.node.0 in
    let k = c.args.place in
    let ps = root_places i.places in
    let es = map (pair_of ps) i.pairs.items in
    let known = subst (λ (x : Context). k < length (places_in x)) (sym c.self.view_is) c.requires.known in
    let bit : has_bit (row_in i.guard n) k ≡ true = sym c.has_bit.ensures.bit ∙ c.if-has_bit.true in
    subst (λ (x : Context). Enters n (place_at (places_in x) k) x.in_progress true x.in_progress) c.self.view_is
    (enters_old n (place_at ps k) es (sym (c.self.invariant.guards.bits n k known) ∙ bit))

pub returns-then-has_bit-clause-entered : goal.returns-then-has_bit-clause-entered
returns-then-has_bit-clause-entered c =
    let i = c.self.inside in
    let n = c.args.node.0 in
    let there = has_row i.guard n c.args.place (sym c.has_bit.ensures.bit ∙ c.if-has_bit.true) in
    subst (λ (x : Context). Adds n x.entered x.entered) c.self.view_is (row_there n (row_words (length (root_places i.places))) i.guard there).numbers

pub returns-then-has_bit-clause-few : goal.returns-then-has_bit-clause-few
returns-then-has_bit-clause-few c =
    subst FewRows c.self.view_is (few_lists (row_numbers c.self.inside.guard) (row_numbers c.self.inside.known) (distinct_rows c.self.inside.known))

pub returns-then-has_bit-clause-wide : goal.returns-then-has_bit-clause-wide
returns-then-has_bit-clause-wide c =
    let i = c.self.inside in
    subst IsWide c.self.view_is (all_wide (row_words (length (root_places i.places))) i.guard i.known c.self.invariant.wide_guard c.self.invariant.wide_known)

pub make_row-requires : goal.make_row-requires
make_row-requires c =
    let i = c.self.inside in
    let ps = root_places i.places in
    let known = subst (λ (x : Context). c.args.place < length (places_in x)) (sym c.self.view_is) c.requires.known in
    let width : c.row_words.result ≡ row_words (length ps) = c.row_words.ensures.words ∙ ap row_words (c.len-places.ensures.count ∙ ap length c.in_ok-numbered.ensures.places) in
    record { some = some_place c.row_words.result c.args.place (length ps) width known }

pub overflow_add-count : goal.overflow_add-count
overflow_add-count c =
    let i = c.self.inside in
    let k = c.args.place in
    let ps = root_places i.places in
    let es = map (pair_of ps) i.pairs.items in
    let h = c.self.invariant in
    let known = subst (λ (x : Context). k < length (places_in x)) (sym c.self.view_is) c.requires.known in
    let many_places : c.len-places.result ≡ length ps = c.len-places.ensures.count ∙ ap length c.in_ok-numbered.ensures.places in
    let r = c.index-count.result.now in
    let read : r ≡ get_or i.counts.items k 0 = c.index-count.ensures ∙ whatever_else c.make_counts.new.counts.items k r 0 (omega (arith, c.in_ok-make_counts.ensures.made, many_places, known)) ∙ c.make_counts.ensures.same k in
    let short : length (busy_at (place_at ps k) es) ≤ length es = busy_short (place_at ps k) es in
    let many : length es ≡ length i.pairs.items = length-map i.pairs.items (pair_of ps) in
    let size : length c.push_within.new.pairs.items ≡ length i.pairs.items + 1 = ap length c.push_within.ensures.pushed ∙ length-append c.reserve.new.self.items _ ∙ ap (λ (xs : List NumberedPair). length xs + 1) c.reserve.ensures.items in
    let a = c.push_within.new.pairs.ok in
    let b = c.push_within.new.pairs.small in
    let small : r + 1 < 9223372036854775808 = omega (arith, read, short, many, size, h.guards.counted k known, a.0, a.1, b) in
    omega (arith, small)

-- the pairs after one more
after : (c : goal.After-self-3-1) → map (pair_of (root_places c.self.inside.places)) c.push_within.new.pairs.items
    ≡ map (pair_of (root_places c.self.inside.places)) c.self.inside.pairs.items ++ (c.args.node.0, place_at (root_places c.self.inside.places) c.args.place) ∷ []
after c =
    let i = c.self.inside in
    let e : NumberedPair = record { node = c.args.node; place = c.args.place } in
    pushed (root_places i.places) i.pairs.items c.push_within.new.pairs.items e (c.push_within.ensures.pushed ∙ ap (λ (xs : List NumberedPair). xs ++ e ∷ []) c.reserve.ensures.items)

-- it was not in progress
fresh : (c : goal.After-self-3-1) → among c.args.node.0 (busy_at (place_at (root_places c.self.inside.places) c.args.place) (map (pair_of (root_places c.self.inside.places)) c.self.inside.pairs.items)) ≡ false
fresh c =
    let i = c.self.inside in
    let n = c.args.node.0 in
    let k = c.args.place in
    let known = subst (λ (x : Context). k < length (places_in x)) (sym c.self.view_is) c.requires.known in
    sym (c.self.invariant.guards.bits n k known) ∙ sym c.has_bit.ensures.bit ∙ c.if-has_bit.false

pub invariant_of-self-2 : goal.invariant_of-self-2
invariant_of-self-2 c =
    let i = c.self.inside in
    let n = c.args.node.0 in
    let k = c.args.place in
    let ps = root_places i.places in
    let es = map (pair_of ps) i.pairs.items in
    let x : ℕ × Place = (n, place_at ps k) in
    let h = c.self.invariant in
    let w = row_words (length ps) in
    let same = c.in_ok-numbered.ensures.places in
    let own : OwnNumbers ps = subst OwnNumbers same c.len-places.ensures.own in
    let many_places : c.len-places.result ≡ length ps = c.len-places.ensures.count ∙ ap length same in
    let width : c.row_words.result ≡ w = c.row_words.ensures.words ∙ ap row_words many_places in
    let known = subst (λ (y : Context). k < length (places_in y)) (sym c.self.view_is) c.requires.known in
    let here : 64 * 0 + k ≡ k = omega arith in
    let made = c.in_ok-make_row.ensures.made in
    let wide : AreWide w c.make_row.new.self = subst (λ v. AreWide v c.make_row.new.self) width (made.wide (subst (λ v. AreWide v i.guard) (sym width) h.wide_guard)) in
    let put = subst (λ b. PutsBit n b true c.make_row.new.self c.put_bit.new.self) here c.put_bit.ensures.put in
    let counts = c.make_counts.new.counts.items in
    let size : length counts ≡ length ps = c.in_ok-make_counts.ensures.made ∙ many_places in
    let r = c.index-count.result.now in
    let within : k < length counts = omega (arith, size, known) in
    let read : r ≡ get_or counts k 0 = c.index-count.ensures ∙ whatever_else counts k r 0 within in
    subst (λ (qs : List Place). Holds qs (map (pair_of qs) c.push_within.new.pairs.items) (slice_set counts k (r + 1)) c.put_bit.new.self i.known) (ap root_places (sym c.numbered.follows.holds-at-none))
    (subst (λ (xs : Pairs). Holds ps xs (slice_set counts k (r + 1)) c.put_bit.new.self i.known) (sym (after c)) (record {
      numbered = inl own;
      distinct = distinct_pushed n (place_at ps k) es h.distinct (fresh c);
      guards = guards_more ps es i.counts.items (slice_set counts k (r + 1)) i.guard c.make_row.new.self c.put_bit.new.self n k own known h.guards made.bits put (length-set counts k (r + 1) ∙ size)
          (λ j. count_put counts k j (r + 1) within ∙ at_its_own (k == j) k j r (get_or counts j 0) (λ m. get_or counts m 0) refl read ∙ ap (λ (y : ℕ). cond (k == j) (y + 1) y) (c.make_counts.ensures.same j));
      wide_guard = put.wide w wide;
      wide_known = h.wide_known;
    }))

pub returns-clause-enters : goal.returns-clause-enters
returns-clause-enters c =
    let i = c.self.inside in
    let n = c.args.node.0 in
    let k = c.args.place in
    let ps = root_places i.places in
    let es = map (pair_of ps) i.pairs.items in
    let new = map (pair_of ps) c.push_within.new.pairs.items in
    subst (λ (qs : List Place). Enters n (place_at (places_in c.args.self.now) k) c.args.self.now.in_progress false (map (pair_of qs) c.push_within.new.pairs.items)) (ap root_places (sym c.numbered.follows.holds-at-none))
    (subst (λ (x : Context). Enters n (place_at (places_in x) k) x.in_progress false new) c.self.view_is (enters_new n (place_at ps k) es new (after c) (fresh c)))

pub returns-clause-few : goal.returns-clause-few
returns-clause-few c = few_lists (row_numbers c.put_bit.new.self) (row_numbers c.self.inside.known) (distinct_rows c.self.inside.known)

pub returns-clause-wide : goal.returns-clause-wide
returns-clause-wide c =
    let i = c.self.inside in
    let h = c.self.invariant in
    let w = row_words (length (root_places i.places)) in
    let many_places : c.len-places.result ≡ length (root_places i.places) = c.len-places.ensures.count ∙ ap length c.in_ok-numbered.ensures.places in
    let width : c.row_words.result ≡ w = c.row_words.ensures.words ∙ ap row_words many_places in
    let made = c.in_ok-make_row.ensures.made in
    let wide : AreWide w c.make_row.new.self = subst (λ v. AreWide v c.make_row.new.self) width (made.wide (subst (λ v. AreWide v i.guard) (sym width) h.wide_guard)) in
    let new = c.put_bit.new.self in
    subst (λ (qs : List Place). words_in new + words_in i.known ≡ (length (row_numbers new) + 2 * length (row_numbers i.known)) * row_words (length qs)) (ap root_places (sym c.numbered.follows.holds-at-none))
    (all_wide w new i.known (c.put_bit.ensures.put.wide w wide) h.wide_known)

pub returns-clause-distinct : goal.returns-clause-distinct
returns-clause-distinct c =
    let i = c.self.inside in
    let ps = root_places i.places in
    subst (λ (qs : List Place). Distinct (map (pair_of qs) c.push_within.new.pairs.items)) (ap root_places (sym c.numbered.follows.holds-at-none))
    (subst Distinct (sym (after c)) (distinct_pushed c.args.node.0 (place_at ps c.args.place) (map (pair_of ps) i.pairs.items) c.self.invariant.distinct (fresh c)))
