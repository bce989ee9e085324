use Rattle.std.proofs.Common.{◌≤◌, ◌+◌, ◌*◌, ◌/◌, ◌∙◌, Some, None, length, arith, refl, sym}
use Rattle.pattern_trees.specs.Patterns.{Iterates}
use Rattle.pattern_rows.specs.Rows.{has}
use Rattle.pattern_sets.specs.Images.{leads}
use Rattle.pattern_trees.specs.Nodes.{node_of}
use Rattle.pattern_trees.specs.Trees.{pattern_of}
use Rattle.pattern_sets.proofs.Leading.{or_left, or_right}
use Rattle.pattern_sets.proofs.Emptiness.{exact_by_most}
use Rattle.pattern_sets.proofs.Reaching.{exact_fixed, exact_goes_on, image_as, image_from, missing_less, reached_ends, reached_goes_on, within_ends, within_goes_on}
use Rattle.pattern_sets.proofs.Walking.{either_image, look_unwanted, look_wanted, peek_unwanted_none, peek_wanted_none, peeking, repeat_image}
use Rattle.pattern_sets.proofs.row_walks.+walk.Goals as goal
use Rattle.pattern_sets.proofs.row_walks.+walk.Goals.{walk_look-then-wanted, walk_look-else-wanted}

pub walk_look-returns : goal.walk_look-returns
walk_look-returns t c =
    let p = pattern_of (node_of c.args.body.now) in
    let text = c.args.text.now in
    let found = c.in_ok-found.ensures.walks.image in
    elim c.if-wanted.branch [
      | walk_look-then-wanted w ↦ (
          let m = w.meet.ensures.width in
          record {
            walks = rw (w.from-is, w.if-wanted.true) (record {
              image = look_wanted c.args.forward c.args.ahead p text (has c.args.from) (has c.in_ok-all.all) (has c.in_ok-found.found) (has w.meet.new.self) c.in_ok-all.ensures.all found w.meet.ensures.both;
              width = m;
            });
          })
      | walk_look-else-wanted w ↦ (
          let m = w.remove.ensures.width in
          record {
            walks = rw (w.from-is, w.if-wanted.false) (record {
              image = look_unwanted c.args.forward c.args.ahead p text (has c.args.from) (has c.in_ok-all.all) (has c.in_ok-found.found) (has w.remove.new.self) c.in_ok-all.ensures.all found w.remove.ensures.both;
              width = m;
            });
          })
    ]

pub walk_any-returns-then-is_empty : goal.walk_any-returns-then-is_empty
walk_any-returns-then-is_empty t c =
    let R = leads c.args.forward (pattern_of (node_of c.args.body.now)) c.args.text.now in
    let from = has c.args.from in
    let wide = c.walk_spread.ensures.all_width in
    let same = c.rounds.invariant.width_all in
    let start = c.rounds.invariant.width_from in
    record {
      leaves = record {
        image = reached_ends R (λ _. Unit {0}) (λ _. Unit {0}) from (has c.walk_spread.new.all) (has c.in_ok-next.next)
            (reached_goes_on R (λ _. Unit {0}) (λ _. Unit {0}) from (has c.rounds.all) (has c.rounds.fresh) (has c.walk_spread.new.all) (has c.in_ok-next.next) c.rounds.invariant.reached c.in_ok-next.ensures.spreads (λ n h. h) (λ n h. h))
            (λ n h. h) (c.is_empty.ensures.empty c.if-is_empty.true);
        width = omega arith;
      };
    }

pub walk_any-rounds-smaller : goal.walk_any-rounds-smaller
walk_any-rounds-smaller t c =
    let some = c.is_empty.ensures.some c.if-is_empty.false in
    let spreads = c.in_ok-next.ensures.spreads in
    let w = c.in_ok-next.ensures.width in
    let f = c.rounds.invariant.width_fresh in
    let within = some.2 in
    let all = has c.rounds.all in
    let new = has c.walk_spread.new.all in
    missing_less all new (λ k h. spreads.added k ∙ or_left (all k) (has c.in_ok-next.next k) h) (64 * (length c.args.text.now / 64) + 64) some.0 (omega arith)
    (spreads.unknown some.0 some.1) (spreads.added some.0 ∙ or_right (all some.0) (has c.in_ok-next.next some.0) some.1)

pub walk_any-rounds-preserved : goal.walk_any-rounds-preserved
walk_any-rounds-preserved t c =
    let R = leads c.args.forward (pattern_of (node_of c.args.body.now)) c.args.text.now in
    let wide = c.walk_spread.ensures.all_width in
    let next = c.in_ok-next.ensures.width in
    let all = c.rounds.invariant.width_all in
    let fresh = c.rounds.invariant.width_fresh in
    record {
      width_all = omega arith;
      width_fresh = omega arith;
      width_from = c.rounds.invariant.width_from;
      reached = reached_goes_on R (λ _. Unit {0}) (λ _. Unit {0}) (has c.args.from) (has c.rounds.all) (has c.rounds.fresh) (has c.walk_spread.new.all) (has c.in_ok-next.next) c.rounds.invariant.reached c.in_ok-next.ensures.spreads (λ n h. h) (λ n h. h);
    }

pub walk_at_most-returns-then-is_empty : goal.walk_at_most-returns-then-is_empty
walk_at_most-returns-then-is_empty t c =
    let R = leads c.args.forward (pattern_of (node_of c.args.body.now)) c.args.text.now in
    let from = has c.args.from in
    let r = c.rounds._round in
    let wide = c.walk_spread.ensures.all_width in
    let same = c.rounds.invariant.width_all in
    let start = c.rounds.invariant.width_from in
    let few : r + 1 ≤ c.args.most = omega arith in
    record {
      leaves = record {
        image = reached_ends R (λ n. n ≤ r + 1) (λ n. n ≤ c.args.most) from (has c.walk_spread.new.all) (has c.in_ok-next.next)
            (reached_goes_on R (λ n. n ≤ r) (λ n. n ≤ r + 1) from (has c.rounds.all) (has c.rounds.fresh) (has c.walk_spread.new.all) (has c.in_ok-next.next) c.rounds.invariant.reached c.in_ok-next.ensures.spreads (λ n h. omega arith) (λ n h. omega arith))
            (λ n h. omega arith) (c.is_empty.ensures.empty c.if-is_empty.true);
        width = omega arith;
      };
    }

pub walk_at_most-rounds-preserved : goal.walk_at_most-rounds-preserved
walk_at_most-rounds-preserved t c =
    let R = leads c.args.forward (pattern_of (node_of c.args.body.now)) c.args.text.now in
    let r = c.rounds._round in
    let wide = c.walk_spread.ensures.all_width in
    let next = c.in_ok-next.ensures.width in
    let all = c.rounds.invariant.width_all in
    let fresh = c.rounds.invariant.width_fresh in
    record {
      width_all = omega arith;
      width_fresh = omega arith;
      width_from = c.rounds.invariant.width_from;
      reached = reached_goes_on R (λ n. n ≤ r) (λ n. n ≤ r + 1) (has c.args.from) (has c.rounds.all) (has c.rounds.fresh) (has c.walk_spread.new.all) (has c.in_ok-next.next) c.rounds.invariant.reached c.in_ok-next.ensures.spreads (λ n h. omega arith) (λ n h. omega arith);
      within = within_goes_on R (λ n. n ≤ r) r (has c.args.from) (has c.rounds.all) (has c.rounds.fresh) (has c.walk_spread.new.all) (has c.in_ok-next.next) c.rounds.invariant.reached c.in_ok-next.ensures.spreads c.rounds.invariant.within;
    }

pub walk_at_most-returns : goal.walk_at_most-returns
walk_at_most-returns t c =
    let R = leads c.args.forward (pattern_of (node_of c.args.body.now)) c.args.text.now in
    let same = c.rounds.invariant.width_all in
    let start = c.rounds.invariant.width_from in
    record {
      leaves = record {
        image = within_ends R c.rounds._round c.args.most (has c.args.from) (has c.rounds.all) (has c.rounds.fresh) (omega arith) (omega arith) c.rounds.invariant.reached c.rounds.invariant.within;
        width = omega arith;
      };
    }

pub walk_choice-returns : goal.walk_choice-returns
walk_choice-returns t c =
    let left = c.in_ok-left.ensures.walks in
    let right = c.in_ok-right.ensures.walks in
    let wide = c.unite.ensures.width in
    let w = left.width in
    record {
      walks = record {
        image = either_image c.args.forward (pattern_of (node_of c.args.a.now)) (pattern_of (node_of c.args.b.now)) c.args.text.now (has c.args.from) (has c.in_ok-other.other) (has c.in_ok-left.left) (has c.in_ok-right.right) (has c.unite.new.self)
            c.in_ok-other.ensures.same left.image right.image c.unite.ensures.both;
        width = omega arith;
      };
    }

pub walk_exactly-returns-then-is_same : goal.walk_exactly-returns-then-is_same
walk_exactly-returns-then-is_same t c =
    let R = leads c.args.forward (pattern_of (node_of c.args.body.now)) c.args.text.now in
    let at = has c.rounds.at in
    let led = has c.in_ok-led.led in
    let alike = c.is_same.ensures.same c.if-is_same.true in
    let copied = c.in_ok-copy.ensures in
    let same = c.rounds.invariant.width_at in
    let start = c.rounds.invariant.width_from in
    let w = c.in_ok-led.ensures.walks.width in
    let cw = copied.width in
    let stepped = image_as R at led at (image_from R (has c.in_ok-copy.field-0) at led copied.same c.in_ok-led.ensures.walks.image) (λ k. sym (alike k)) in
    record {
      leaves = record {
        image = image_as (Iterates R c.args.count) (has c.args.from) at led (exact_fixed R c.rounds._round c.args.count (has c.args.from) at (omega arith) c.rounds.invariant.exact stepped) alike;
        width = omega arith;
      };
    }

pub walk_exactly-rounds-preserved : goal.walk_exactly-rounds-preserved
walk_exactly-rounds-preserved t c =
    let R = leads c.args.forward (pattern_of (node_of c.args.body.now)) c.args.text.now in
    let w = c.in_ok-led.ensures.walks.width in
    let copied = c.in_ok-copy.ensures in
    let cw = copied.width in
    let same = c.rounds.invariant.width_at in
    record {
      width_at = omega arith;
      width_from = c.rounds.invariant.width_from;
      exact = exact_goes_on R c.rounds._round (has c.args.from) (has c.rounds.at) (has c.in_ok-led.led) c.rounds.invariant.exact
          (image_from R (has c.in_ok-copy.field-0) (has c.rounds.at) (has c.in_ok-led.led) copied.same c.in_ok-led.ensures.walks.image);
    }

pub walk_turns-returns-in_ok-walk_any-in-None : goal.walk_turns-returns-in_ok-walk_any-in-None
walk_turns-returns-in_ok-walk_any-in-None t c =
    let after = c.in_ok-after.ensures.leaves in
    let all = c.in_ok-walk_any-in-None.ensures.leaves in
    let a = after.width in
    let b = all.width in
    let to = c.in_ok-walk_any-in-None.field-0 in
    record {
      walks =
          rw c.in-None.is
          (record {
            image = repeat_image c.args.forward c.args.least None (pattern_of (node_of c.args.body.now)) c.args.text.now (has c.args.from) (has c.in_ok-after.after) (has to) after.image all.image;
            width = omega arith;
          });
    }

pub walk_turns-returns-in_ok-walk_at_most-in-Some : goal.walk_turns-returns-in_ok-walk_at_most-in-Some
walk_turns-returns-in_ok-walk_at_most-in-Some t c =
    let after = c.in_ok-after.ensures.leaves in
    let all = c.in_ok-walk_at_most-in-Some.ensures.leaves in
    let a = after.width in
    let b = all.width in
    let to = c.in_ok-walk_at_most-in-Some.field-0 in
    record {
      walks =
          rw c.in-Some.is
          (record {
            image = repeat_image c.args.forward c.args.least (Some c.in-Some.most) (pattern_of (node_of c.args.body.now)) c.args.text.now (has c.args.from) (has c.in_ok-after.after) (has to) after.image all.image;
            width = omega arith;
          });
    }

pub walk_peek-returns-then-wanted : goal.walk_peek-returns-then-wanted
walk_peek-returns-then-wanted t c =
    let p = pattern_of (node_of c.args.body.now) in
    let text = c.args.text.now in
    let from = has c.args.from in
    let led = has c.in_ok-near.near in
    let near = has c.meet.new.self in
    let wide = c.in_ok-none.ensures.width in
    let copied = c.in_ok-copy.ensures.same in
    let image = image_from (leads c.args.ahead p text) (has c.in_ok-copy.field-0) from led copied c.in_ok-near.ensures.walks.image in
    record {
      walks = λ one. rw c.if-wanted.true (record {
        image = peek_wanted_none c.args.forward c.args.ahead p text from led near (has c.in_ok-none.none) (peeking c.args.ahead p text from led near (has c.in_ok-all.all) one image c.meet.ensures.both c.in_ok-all.ensures.all) (c.is_empty.ensures.empty c.if-is_empty.true) c.in_ok-none.ensures.none;
        width = omega arith;
      });
    }

pub walk_peek-returns-else-wanted : goal.walk_peek-returns-else-wanted
walk_peek-returns-else-wanted t c =
    let p = pattern_of (node_of c.args.body.now) in
    let text = c.args.text.now in
    let from = has c.args.from in
    let led = has c.in_ok-near.near in
    let near = has c.meet.new.self in
    let wide = c.in_ok-none.ensures.width in
    let copied = c.in_ok-copy.ensures.same in
    let image = image_from (leads c.args.ahead p text) (has c.in_ok-copy.field-0) from led copied c.in_ok-near.ensures.walks.image in
    record {
      walks = λ one. rw c.if-wanted.false (record {
        image = peek_unwanted_none c.args.forward c.args.ahead p text from led near from (peeking c.args.ahead p text from led near (has c.in_ok-all.all) one image c.meet.ensures.both c.in_ok-all.ensures.all) (c.is_empty.ensures.empty c.if-is_empty.true) (λ k. refl);
        width = refl;
      });
    }

pub walk_least-returns-in_ok-walk_at_most : goal.walk_least-returns-in_ok-walk_at_most
walk_least-returns-in_ok-walk_at_most t c =
    let leaves = c.in_ok-walk_at_most.ensures.leaves in
    record {
      leaves = record {
        image = exact_by_most c.args.forward (pattern_of (node_of c.args.body.now)) c.args.text.now c.args.count (has c.args.from) (has c.in_ok-walk_at_most.field-0)
            (c.matches_empty.ensures.empty c.if-matches_empty.true) leaves.image;
        width = leaves.width;
      };
    }
