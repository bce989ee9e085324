use Rattle.std.proofs.Common.{◌≡◌, ◌≤◌, ◌+◌, ◌==◌, ◌&&◌, ◌||◌, ◌∙◌, Bool, ℕ, Some, None, List, ap, length, not, true, false, true≢false, arith, refl, sym, subst}
use Rattle.std.proofs.lemmas.Bool.Decides.{nat_tests}
use Rattle.pattern_trees.specs.declared.tree.Tree.{Tree}
use Rattle.pattern_trees.specs.Patterns.{Iterates, One, Repeat, Then}
use Rattle.pattern_rows.proofs.Bits.{no_bit_of_zero, some_bit}
use Rattle.pattern_sets.specs.Images.{IsImage, Joined, Reaches, in_word, leads}
use Rattle.pattern_trees.specs.Nodes.{node_of}
use Rattle.pattern_trees.specs.Trees.{pattern_of}
use Rattle.pattern_sets.proofs.Leading.{joined_image, joined_then, or_left, or_right}
use Rattle.pattern_sets.proofs.Reaching.{exact_fixed, exact_goes_on, image_as, missing_less, or_none, positive, reached_ends, reached_goes_on, spreads_as, within_ends, within_goes_on}
use Rattle.pattern_sets.proofs.Walking.{either_image, look_unwanted, look_wanted, repeat_image}
use Rattle.pattern_sets.proofs.Looking.{joined_reaches, look_everywhere, look_nowhere, unlook_everywhere, unlook_nowhere, walked_reaches}
use Rattle.pattern_sets.proofs.word_walks.+word_walk.Goals as goal

-- a word that is 0 has no position
none_in : (word : ℕ) → word ≡ 0 → (k : ℕ) → in_word word k ≡ false
none_in word e k = subst (λ (w : ℕ). in_word w k ≡ false) (sym e) (no_bit_of_zero k)

nothing : (n : ℕ) → not (n == 0) ≡ false → n ≡ 0
nothing n h = grind (arith, nat_tests)

pub word_any-returns-then-more-eq0 : goal.word_any-returns-then-more-eq0
word_any-returns-then-more-eq0 t c =
    let R = leads c.args.forward (pattern_of (node_of c.args.body.now)) c.args.text.now in
    let old = in_word c.rounds.reached in
    let more = in_word c.word_spread-more.result in
    let none = none_in c.word_spread-more.result c.if-more-eq0.true in
    record {
      leaves = image_as (λ i j. (n : ℕ) × Unit {0} × Iterates R n i j) (in_word c.args.from) (λ k. old k || more k) old
          (reached_ends R (λ _. Unit {0}) (λ _. Unit {0}) (in_word c.args.from) (λ k. old k || more k) more
          (reached_goes_on R (λ _. Unit {0}) (λ _. Unit {0}) (in_word c.args.from) old (in_word c.rounds.fresh) (λ k. old k || more k) more c.rounds.invariant c.word_spread-more.ensures.spreads (λ n h. h) (λ n h. h))
          (λ n h. h) none)
          (λ k. or_none (old k) (more k) (none k));
    }

pub word_any-rounds-smaller : goal.word_any-rounds-smaller
word_any-rounds-smaller t c =
    let word = c.word_spread-more.result in
    let off = c.if-more-eq0.false in
    let some = some_bit word (omega arith) (omega arith) in
    let within = some.1 in
    let old = in_word c.rounds.reached in
    let more = in_word word in
    let spreads = c.word_spread-more.ensures.spreads in
    let bits = c.either-reached.ensures.bits in
    missing_less old (in_word c.either-reached.result) (λ k h. bits k ∙ or_left (old k) (more k) h) (length c.args.text.now + 64) some.0 (omega arith)
    (spreads.unknown some.0 some.2) (bits some.0 ∙ or_right (old some.0) (more some.0) some.2)

pub word_any-rounds-preserved : goal.word_any-rounds-preserved
word_any-rounds-preserved t c =
    let R = leads c.args.forward (pattern_of (node_of c.args.body.now)) c.args.text.now in
    let old = in_word c.rounds.reached in
    let more = in_word c.word_spread-more.result in
    let new = in_word c.either-reached.result in
    let spreads = spreads_as R old (in_word c.rounds.fresh) (λ k. old k || more k) new more c.word_spread-more.ensures.spreads c.either-reached.ensures.bits in
    reached_goes_on R (λ _. Unit {0}) (λ _. Unit {0}) (in_word c.args.from) old (in_word c.rounds.fresh) new more c.rounds.invariant spreads (λ n h. h) (λ n h. h)

pub word_at_most-returns-then-more-eq0 : goal.word_at_most-returns-then-more-eq0
word_at_most-returns-then-more-eq0 t c =
    let R = leads c.args.forward (pattern_of (node_of c.args.body.now)) c.args.text.now in
    let r = c.rounds._round in
    let old = in_word c.rounds.reached in
    let more = in_word c.word_spread-more.result in
    let none = none_in c.word_spread-more.result c.if-more-eq0.true in
    let few : r + 1 ≤ c.args.most = omega arith in
    record {
      leaves = image_as (λ i j. (n : ℕ) × (n ≤ c.args.most) × Iterates R n i j) (in_word c.args.from) (λ k. old k || more k) old
          (reached_ends R (λ n. n ≤ r + 1) (λ n. n ≤ c.args.most) (in_word c.args.from) (λ k. old k || more k) more
          (reached_goes_on R (λ n. n ≤ r) (λ n. n ≤ r + 1) (in_word c.args.from) old (in_word c.rounds.fresh) (λ k. old k || more k) more c.rounds.invariant.reached c.word_spread-more.ensures.spreads (λ n h. omega arith) (λ n h. omega arith))
          (λ n h. omega arith) none)
          (λ k. or_none (old k) (more k) (none k));
    }

pub word_at_most-rounds-preserved : goal.word_at_most-rounds-preserved
word_at_most-rounds-preserved t c =
    let R = leads c.args.forward (pattern_of (node_of c.args.body.now)) c.args.text.now in
    let r = c.rounds._round in
    let old = in_word c.rounds.reached in
    let more = in_word c.word_spread-more.result in
    let new = in_word c.either-reached.result in
    let spreads = spreads_as R old (in_word c.rounds.fresh) (λ k. old k || more k) new more c.word_spread-more.ensures.spreads c.either-reached.ensures.bits in
    record {
      reached = reached_goes_on R (λ n. n ≤ r) (λ n. n ≤ r + 1) (in_word c.args.from) old (in_word c.rounds.fresh) new more c.rounds.invariant.reached spreads (λ n h. omega arith) (λ n h. omega arith);
      within = within_goes_on R (λ n. n ≤ r) r (in_word c.args.from) old (in_word c.rounds.fresh) new more c.rounds.invariant.reached spreads c.rounds.invariant.within;
    }

pub word_at_most-returns : goal.word_at_most-returns
word_at_most-returns t c =
    let R = leads c.args.forward (pattern_of (node_of c.args.body.now)) c.args.text.now in
    record { leaves = within_ends R c.rounds._round c.args.most (in_word c.args.from) (in_word c.rounds.reached) (in_word c.rounds.fresh) (omega arith) (omega arith) c.rounds.invariant.reached c.rounds.invariant.within }

pub word_choice-returns : goal.word_choice-returns
word_choice-returns t c =
    record {
      walks = either_image c.args.forward (pattern_of (node_of c.args.a.now)) (pattern_of (node_of c.args.b.now)) c.args.text.now (in_word c.args.from) (in_word c.args.from) (in_word c.word_walk-left.result) (in_word c.word_walk-right.result) (in_word c.either.result)
          (λ k. refl) c.word_walk-left.ensures.walks c.word_walk-right.ensures.walks c.either.ensures.bits;
    }

pub word_choice_on-returns : goal.word_choice_on-returns
word_choice_on-returns t c =
    record {
      walks = either_image true (pattern_of (node_of c.args.a.now)) (pattern_of (node_of c.args.b.now)) c.args.text.now (in_word c.args.from) (in_word c.args.from) (in_word c.word_branch-left.result) (in_word c.word_branch-right.result) (in_word c.either.result)
          (λ k. refl) c.word_branch-left.ensures.walks c.word_branch-right.ensures.walks c.either.ensures.bits;
    }

pub word_exactly-returns-then-led-at : goal.word_exactly-returns-then-led-at
word_exactly-returns-then-led-at t c =
    let R = leads c.args.forward (pattern_of (node_of c.args.body.now)) c.args.text.now in
    let at = c.rounds.at in
    let step = subst (λ (w : ℕ). IsImage R (in_word at) (in_word w)) c.if-led-at.true c.word_walk-led.ensures.walks in
    record { leaves = exact_fixed R c.rounds._round c.args.count (in_word c.args.from) (in_word at) (omega arith) c.rounds.invariant step }

pub word_exactly-rounds-preserved : goal.word_exactly-rounds-preserved
word_exactly-rounds-preserved t c =
    let R = leads c.args.forward (pattern_of (node_of c.args.body.now)) c.args.text.now in
    exact_goes_on R c.rounds._round (in_word c.args.from) (in_word c.rounds.at) (in_word c.word_walk-led.result) c.rounds.invariant c.word_walk-led.ensures.walks

pub word_look-returns-then-wanted : goal.word_look-returns-then-wanted
word_look-returns-then-wanted t c =
    record { walks = rw c.if-wanted.true (look_wanted c.args.forward c.args.ahead (pattern_of (node_of c.args.body.now)) c.args.text.now (in_word c.args.from) (in_word c.all.result) (in_word c.word_walk-found.result) (in_word c.both.result) c.all.ensures.all c.word_walk-found.ensures.walks c.both.ensures.bits) }

pub word_look-returns-else-wanted : goal.word_look-returns-else-wanted
word_look-returns-else-wanted t c =
    record { walks = rw c.if-wanted.false (look_unwanted c.args.forward c.args.ahead (pattern_of (node_of c.args.body.now)) c.args.text.now (in_word c.args.from) (in_word c.all.result) (in_word c.word_walk-found.result) (in_word c.without.result) c.all.ensures.all c.word_walk-found.ensures.walks c.without.ensures.bits) }

pub word_turns-returns-in-None : goal.word_turns-returns-in-None
word_turns-returns-in-None t c =
    record { walks = rw c.in-None.is (repeat_image c.args.forward c.args.least None (pattern_of (node_of c.args.body.now)) c.args.text.now (in_word c.args.from) (in_word c.word_exactly-after.result) (in_word c.word_any.result) c.word_exactly-after.ensures.leaves c.word_any.ensures.leaves) }

pub word_turns-returns-in-Some : goal.word_turns-returns-in-Some
word_turns-returns-in-Some t c =
    record { walks = rw c.in-Some.is (repeat_image c.args.forward c.args.least (Some c.in-Some.most) (pattern_of (node_of c.args.body.now)) c.args.text.now (in_word c.args.from) (in_word c.word_exactly-after.result) (in_word c.word_at_most.result) c.word_exactly-after.ensures.leaves c.word_at_most.ensures.leaves) }

pub both_reach-returns : goal.both_reach-returns
both_reach-returns t c =
    let text = c.args.text.now in
    record {
      reaches = joined_reaches (leads c.args.forward (pattern_of (node_of c.args.a.now)) text) (leads c.args.forward (pattern_of (node_of c.args.b.now)) text) (length text) (in_word c.args.from) (in_word c.word_walk-mid.result) c.word_reaches.result
          c.word_walk-mid.ensures.walks c.word_reaches.ensures.reaches;
    }

pub walk_reaches-returns : goal.walk_reaches-returns
walk_reaches-returns t c =
    let text = c.args.text.now in
    let led = in_word c.word_walk-led.result in
    let near = c.both-near.result in
    record {
      reaches = walked_reaches (leads c.args.forward (pattern_of (node_of c.args.tree.now)) text) (length text) (in_word c.args.from) led (in_word near) (not (near == 0)) c.word_walk-led.ensures.walks
          (λ k. c.both-near.ensures.bits k ∙ ap (λ (b : Bool). led k && b) (c.all.ensures.all k))
          (λ h. let some = positive near h in let bit = some_bit near (omega arith) some in (bit.0, bit.2))
          (λ h. none_in near (nothing near h));
    }

-- one pattern after the other, as they were read from their boxes
pair_reaches : (forward found : Bool) (text : List ℕ) (from : ℕ → Bool) (a b x y : Tree) → forward ≡ true → x ≡ a → y ≡ b →
    Reaches (Joined (leads forward (pattern_of (node_of x)) text) (leads forward (pattern_of (node_of y)) text)) (length text) from found → Reaches (leads forward (Then (pattern_of (node_of a)) (pattern_of (node_of b))) text) (length text) from found
pair_reaches false found text from a b x y e d f r = absurd (true≢false (sym e))
pair_reaches true found text from a b x y e d f r =
    let first : Reaches (leads true (Then (pattern_of (node_of a)) (pattern_of (node_of y))) text) (length text) from found =
    subst (λ (t : Tree). Reaches (leads true (Then (pattern_of (node_of t)) (pattern_of (node_of y))) text) (length text) from found) d (record { yes = r.yes; no = r.no }) in
    subst (λ (t : Tree). Reaches (leads true (Then (pattern_of (node_of a)) (pattern_of (node_of t))) text) (length text) from found) f first

pub word_reaches-returns-then-forward-2 : goal.word_reaches-returns-then-forward-2
word_reaches-returns-then-forward-2 t c =
    record {
      reaches = rw c.in-Pair.is (pair_reaches c.args.forward c.both_reach.result c.args.text.now (in_word c.args.from) c.in-Pair.a.value c.in-Pair.b.value c.deref.result.now c.deref-then-forward-2.result.now c.if-forward-2.true c.deref.ensures c.deref-then-forward-2.ensures c.both_reach.ensures.reaches);
    }

pub word_peek-returns-then-wanted : goal.word_peek-returns-then-wanted
word_peek-returns-then-wanted t c =
    let p = pattern_of (node_of c.args.body.now) in
    record {
      walks = λ one. rw c.if-wanted.true (look_everywhere c.args.forward c.args.ahead p c.args.text.now (in_word c.args.from) c.word_reaches.result one c.word_reaches.ensures.reaches c.if-word_reaches.true);
    }

pub word_peek-returns-else-wanted : goal.word_peek-returns-else-wanted
word_peek-returns-else-wanted t c =
    let p = pattern_of (node_of c.args.body.now) in
    record {
      walks = λ one. rw c.if-wanted.false (unlook_nowhere c.args.forward c.args.ahead p c.args.text.now (in_word c.args.from) (in_word 0) c.word_reaches.result one c.word_reaches.ensures.reaches c.if-word_reaches.true no_bit_of_zero);
    }

pub word_peek-returns-then-wanted-2 : goal.word_peek-returns-then-wanted-2
word_peek-returns-then-wanted-2 t c =
    let p = pattern_of (node_of c.args.body.now) in
    record {
      walks = λ one. rw c.if-wanted-2.true (look_nowhere c.args.forward c.args.ahead p c.args.text.now (in_word c.args.from) (in_word 0) c.word_reaches.result one c.word_reaches.ensures.reaches c.if-word_reaches.false no_bit_of_zero);
    }

pub word_peek-returns-else-wanted-2 : goal.word_peek-returns-else-wanted-2
word_peek-returns-else-wanted-2 t c =
    let p = pattern_of (node_of c.args.body.now) in
    record {
      walks = λ one. rw c.if-wanted-2.false (unlook_everywhere c.args.forward c.args.ahead p c.args.text.now (in_word c.args.from) c.word_reaches.result one c.word_reaches.ensures.reaches c.if-word_reaches.false);
    }

pub word_run_pair-returns-in-OneOf : goal.word_run_pair-returns-in-OneOf
word_run_pair-returns-in-OneOf t c =
    let text = c.args.text.now in
    record {
      leaves = rw c.in-OneOf.is (joined_then (leads true (Repeat c.args.least c.args.more (One c.args.run.now.spans.items)) text) (leads true (One c.in-OneOf.last.spans.items) text) (leads true (pattern_of (node_of c.args.rest.now)) text) (in_word c.args.from) (in_word c.times_then-at.result) (in_word c.word_on.result)
          c.times_then-at.ensures.leaves c.word_on.ensures.walks);
    }

pub word_run_pair-returns-in_default : goal.word_run_pair-returns-in_default
word_run_pair-returns-in_default t c =
    let text = c.args.text.now in
    record {
      leaves = joined_image (leads true (Repeat c.args.least c.args.more (One c.args.run.now.spans.items)) text) (Joined (leads true (pattern_of (node_of c.args.first.now)) text) (leads true (pattern_of (node_of c.args.rest.now)) text)) (in_word c.args.from) (in_word c.times_on-at.result) (in_word c.word_row.result)
          c.times_on-at.ensures.walks c.word_row.ensures.leaves;
    }
