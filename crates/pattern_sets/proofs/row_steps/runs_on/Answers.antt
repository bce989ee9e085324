use Rattle.std.proofs.Common.{ℕ, ◌≡◌, ◌+◌, ◌*◌, ◌||◌, ◌&&◌, ◌∙◌, arith, nat_le, sym}
use Rattle.pattern_rows.specs.Rows.{has, width}
use Rattle.pattern_sets.specs.Images.{GoesOn, RunsFor}
use Rattle.pattern_sets.proofs.Leading.{IsNext, below_begins, below_ends}
use Rattle.pattern_sets.proofs.Running.{below_run, put_again, reached_on, run_from, run_within, scan_begins, scan_on}
use Rattle.pattern_sets.proofs.row_steps.runs_on.Goals as goal

pub steps-init : goal.steps-init
steps-init c =
    let set = c.args.set.now.spans.items in
    let text = c.args.text.now in
    record {
      width_to = c.in_ok-to.ensures.width;
      below = below_begins (RunsFor set text c.args.least c.args.most) (has c.args.from.now) (has c.in_ok-to.to) c.in_ok-to.ensures.none;
      scan = scan_begins set text c.args.most;
      inside = omega arith;
      done = omega arith;
      reached = λ k a b. absurd (omega arith);
    }

pub put_span-requires : goal.put_span-requires
put_span-requires c =
    let set = c.args.set.now.spans.items in
    let text = c.args.text.now in
    let ended = c.run_end-end.ensures in
    let next = c.in-Some.ensures.next in
    let within = next.3 in
    let old = c.steps.invariant.inside in
    let wide = c.steps.invariant.width_to in
    let sized = c.requires.sized in
    let short = c.requires.short in
    let goes : GoesOn set text c.run_start-start.result c.min-stop.result c.run_end-end.result = record { on = ended.on; taken = ended.taken; blocked = ended.blocked } in
    let le = run_within set text c.args.most c.in-Some.m c.steps.end c.run_start-start.result c.min-stop.result c.run_end-end.result (64 * width c.args.from.now + 63) c.run_start-start.ensures.start c.min-stop.ensures goes (omega arith) old (omega arith) in
    record { within = omega arith; small = omega arith }

pub overflow_add-past : goal.overflow_add-past
overflow_add-past c =
    let set = c.args.set.now.spans.items in
    let text = c.args.text.now in
    let ended = c.run_end-end.ensures in
    let next = c.in-Some.ensures.next in
    let within = next.3 in
    let old = c.steps.invariant.inside in
    let sized = c.requires.sized in
    let short = c.requires.short in
    let goes : GoesOn set text c.run_start-start.result c.min-stop.result c.run_end-end.result = record { on = ended.on; taken = ended.taken; blocked = ended.blocked } in
    let le = run_within set text c.args.most c.in-Some.m c.steps.end c.run_start-start.result c.min-stop.result c.run_end-end.result (64 * width c.args.from.now + 63) c.run_start-start.ensures.start c.min-stop.ensures goes (omega arith) old (omega arith) in
    omega arith

pub after_run-i-requires : goal.after_run-i-requires
after_run-i-requires c =
    let set = c.args.set.now.spans.items in
    let text = c.args.text.now in
    let ended = c.run_end-end.ensures in
    let next = c.in-Some.ensures.next in
    let within = next.3 in
    let old = c.steps.invariant.inside in
    let sized = c.requires.sized in
    let short = c.requires.short in
    let few = c.requires.few in
    let goes : GoesOn set text c.run_start-start.result c.min-stop.result c.run_end-end.result = record { on = ended.on; taken = ended.taken; blocked = ended.blocked } in
    let le = run_within set text c.args.most c.in-Some.m c.steps.end c.run_start-start.result c.min-stop.result c.run_end-end.result (64 * width c.args.from.now + 63) c.run_start-start.ensures.start c.min-stop.ensures goes (omega arith) old (omega arith) in
    record { small = omega arith }

pub steps-preserved : goal.steps-preserved
steps-preserved c =
    let set = c.args.set.now.spans.items in
    let text = c.args.text.now in
    let least = c.args.least in
    let most = c.args.most in
    let i = c.steps.i in
    let m = c.in-Some.m in
    let end = c.run_end-end.result in
    let then = c.after_run-i.result in
    let from = has c.args.from.now in
    let old = has c.steps.to in
    let new = has c.put_span.new.self in
    let next = c.in-Some.ensures.next in
    let on = next.0 in
    let within = next.3 in
    let far = c.steps.invariant.inside in
    let wide = c.steps.invariant.width_to in
    let same = c.put_span.ensures.width in
    let sized = c.requires.sized in
    let found : IsNext i m from = record { from_on = next.0; set = next.1; first = next.2 } in
    let ended = c.run_end-end.ensures in
    let goes : GoesOn set text c.run_start-start.result c.min-stop.result end = record { on = ended.on; taken = ended.taken; blocked = ended.blocked } in
    let run = run_from set text most i m c.steps.end c.run_start-start.result c.min-stop.result end c.steps.invariant.scan next.0 c.run_start-start.ensures.start c.min-stop.ensures goes in
    let after = c.after_run-i.ensures in
    let put : (k : ℕ) → new k ≡ (old k || (nat_le (m + least) k && nat_le k end)) =
    λ k. put_again (m + least) c.steps.past c.max-first.result end k (old k) (new k) c.max-first.ensures (λ a b. c.steps.invariant.reached k (omega arith) b) (c.put_span.ensures.put k) in
    record {
      width_to = same ∙ wide;
      below = below_run set text least most i m end then from old new c.steps.invariant.below found run after.on after.within put;
      scan = scan_on set text most m end then run after.on;
      inside = run_within set text most m c.steps.end c.run_start-start.result c.min-stop.result end (64 * width c.args.from.now + 63) c.run_start-start.ensures.start c.min-stop.ensures goes (omega arith) far (omega arith);
      done = omega arith;
      reached = λ k a b. reached_on m least end then k old new put after.on a b;
    }

pub returns : goal.returns
returns c =
    let set = c.args.set.now.spans.items in
    record {
      runs = record {
        image = below_ends (RunsFor set c.args.text.now c.args.least c.args.most) c.steps.i (has c.args.from.now) (has c.steps.to) c.steps.invariant.below c.in_default.ensures.next;
        width = c.steps.invariant.width_to ∙ sym c.requires.sized;
      };
    }
