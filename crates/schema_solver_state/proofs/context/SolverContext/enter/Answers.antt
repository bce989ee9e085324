use Rattle.std.proofs.Common.{◌≡◌, ◌∙◌, ◌==◌, ◌*◌, ◌+◌, ◌<◌, ◌≤◌, ◌++◌, ◌∷◌, [], ℕ, true, false, cond, List, ap, arith, get_or, inl, length, length-append, length-set, refl, subst, sym}
use Rattle.std.proofs.lemmas.List.{length-map}
use Rattle.std.specs.Prelude.{slice_set}
use Rattle.theory_definitions.specs.Instance.{Place}
use Rattle.schema_places.specs.Numbers.{OwnNumbers, place_at}
use Rattle.schema_run_context.specs.Progress.{Pairs, busy_at, root_places, row_words}
use Rattle.schema_run_context.specs.ProgressViews.{Holds}
use Rattle.schema_run_context.specs.Rows.{AreWide, PutsBit}
use Rattle.schema_run_context.proofs.Alone.{busy_short}
use Rattle.schema_run_context.proofs.Entering.{at_its_own, count_put, whatever_else}
use Rattle.schema_run_context.proofs.Guarding.{guards_more}
use Rattle.schema_run_context.proofs.Pairs.{among, distinct_pushed}
use Rattle.schema_solver_state.specs.Contexts.{Solver, has_pair, solver_places}
use Rattle.schema_run_context.specs.ProgressViews.{pair_of}
use Rattle.schema_solver_state.specs.ContextViews.{SolverHolds, pairs_at}
use Rattle.schema_run_context.specs.declared.numbered_pairs.NumberedPair.{NumberedPair}
use Rattle.schema_run_context.proofs.Entering.{pushed}
use Rattle.schema_solver_state.proofs.Assuming.{busy_pair}
use Rattle.schema_solver_state.proofs.context.SolverContext.enter.Goals as goal

pub overflow_add-count : goal.overflow_add-count
overflow_add-count c =
    let i = c.self.inside in
    let k = c.args.place in
    let ps = root_places i.places in
    let es = pairs_at ps i.pairs.items in
    let h = c.self.invariant.progress in
    let known = subst (λ (x : Solver). k < length (solver_places x)) (sym c.self.view_is) c.requires.known in
    let many_places : c.len-places.result ≡ length ps = c.len-places.ensures.count ∙ ap length c.in_ok-numbered.ensures.places in
    let r = c.index-count.result.now in
    let read : r ≡ get_or i.counts.items k 0 = c.index-count.ensures ∙ whatever_else c.make_counts.new.counts.items k r 0 (omega (arith, c.in_ok-make_counts.ensures.made, many_places, known)) ∙ c.make_counts.ensures.same k in
    let short : length (busy_at (place_at ps k) es) ≤ length es = busy_short (place_at ps k) es in
    let many : length es ≡ length i.pairs.items = length-map i.pairs.items (pair_of ps) in
    let size : length c.push_within.new.pairs.items ≡ length i.pairs.items + 1 = ap length c.push_within.ensures.pushed ∙ length-append c.reserve.new.self.items _ ∙ ap (λ (xs : List NumberedPair). length xs + 1) c.reserve.ensures.items in
    let a = c.push_within.new.pairs.ok in
    let b = c.push_within.new.pairs.small in
    let small : r + 1 < 9223372036854775808 = omega (arith, read, short, many, size, h.guards.counted k known, a.0, a.1, b) in
    omega (arith, small)

pub invariant_of-self-2 : goal.invariant_of-self-2
invariant_of-self-2 c =
    let i = c.self.inside in
    let n = c.args.node.0 in
    let k = c.args.place in
    let ps = root_places i.places in
    let es = pairs_at ps i.pairs.items in
    let h = c.self.invariant.progress in
    let w = row_words (length ps) in
    let e : NumberedPair = record { node = c.args.node; place = k } in
    let same = c.in_ok-numbered.ensures.places in
    let own : OwnNumbers ps = subst OwnNumbers same c.len-places.ensures.own in
    let many_places : c.len-places.result ≡ length ps = c.len-places.ensures.count ∙ ap length same in
    let width : c.row_words.result ≡ w = c.row_words.ensures.words ∙ ap row_words many_places in
    let known = subst (λ (y : Solver). k < length (solver_places y)) (sym c.self.view_is) c.requires.known in
    let fresh : among n (busy_at (place_at ps k) es) ≡ false = busy_pair n (place_at ps k) es ∙ subst (λ (y : Solver). has_pair y.in_progress n (place_at (solver_places y) k) ≡ false) (sym c.self.view_is) c.requires.is_new in
    let after : pairs_at ps c.push_within.new.pairs.items ≡ es ++ (n, place_at ps k) ∷ []
    = pushed ps i.pairs.items c.push_within.new.pairs.items e (c.push_within.ensures.pushed ∙ ap (λ (xs : List NumberedPair). xs ++ e ∷ []) c.reserve.ensures.items) in
    let here : 64 * 0 + k ≡ k = omega arith in
    let made = c.in_ok-make_row.ensures.made in
    let wide : AreWide w c.make_row.new.self = subst (λ v. AreWide v c.make_row.new.self) width (made.wide (subst (λ v. AreWide v i.guard) (sym width) h.wide_guard)) in
    let put = subst (λ b. PutsBit n b true c.make_row.new.self c.put_bit.new.self) here c.put_bit.ensures.put in
    let counts = c.make_counts.new.counts.items in
    let size : length counts ≡ length ps = c.in_ok-make_counts.ensures.made ∙ many_places in
    let r = c.index-count.result.now in
    let within : k < length counts = omega (arith, size, known) in
    let read : r ≡ get_or counts k 0 = c.index-count.ensures ∙ whatever_else counts k r 0 within in
    let progress : Holds ps (es ++ (n, place_at ps k) ∷ []) (slice_set counts k (r + 1)) c.put_bit.new.self i.known = record {
      numbered = inl own;
      distinct = distinct_pushed n (place_at ps k) es h.distinct fresh;
      guards = guards_more ps es i.counts.items (slice_set counts k (r + 1)) i.guard c.make_row.new.self c.put_bit.new.self n k own known h.guards made.bits put (length-set counts k (r + 1) ∙ size)
          (λ j. count_put counts k j (r + 1) within ∙ at_its_own (k == j) k j r (get_or counts j 0) (λ m. get_or counts m 0) refl read ∙ ap (λ (y : ℕ). cond (k == j) (y + 1) y) (c.make_counts.ensures.same j));
      wide_guard = put.wide w wide;
      wide_known = h.wide_known;
    } in
    subst (λ (qs : List Place). SolverHolds qs c.push_within.new.pairs.items (slice_set counts k (r + 1)) c.put_bit.new.self i.assumed.items i.yeses i.known) (ap root_places (sym c.numbered.follows.holds-at-none))
    (record {
      progress = subst (λ (xs : Pairs). Holds ps xs (slice_set counts k (r + 1)) c.put_bit.new.self i.known) (sym after) progress;
      assumes = c.self.invariant.assumes;
    })
