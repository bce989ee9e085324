use Rattle.std.proofs.Common.{◌≡◌, ◌≤◌, ◌&&◌, ◌∙◌, Bool, ℕ, true, false, arith, sym, true≢false, refl}
use Rattle.pattern_trees.specs.Patterns.{One}
use Rattle.pattern_rows.proofs.Bits.{no_bit_of_zero}
use Rattle.pattern_sets.specs.Images.{RunsFor, in_word}
use Rattle.pattern_sets.proofs.Following.{met_begins, met_image, met_inside, met_on}
use Rattle.pattern_sets.proofs.Leading.{IsNext, below_begins, below_ends}
use Rattle.pattern_sets.proofs.Running.{below_run, run_from, run_within, scan_begins, scan_on}
use Rattle.pattern_sets.proofs.Walking.{and_right}
use Rattle.pattern_sets.proofs.word_steps.runs_then.Goals as goal

pub steps-init : goal.steps-init
steps-init c =
    let run = c.args.run.now.spans.items in
    let text = c.args.text.now in
    record {
      below = below_begins (RunsFor run text c.args.least c.args.most) (in_word c.args.from) (in_word 0) no_bit_of_zero;
      scan = scan_begins run text c.args.most;
      short = omega arith;
      met = met_begins c.args.last.now.spans.items text (in_word 0) (in_word 0) no_bit_of_zero no_bit_of_zero;
    }

pub with_span-to-requires : goal.with_span-to-requires
with_span-to-requires c =
    let run = c.args.run.now.spans.items in
    let text = c.args.text.now in
    let m = c.in-Some.m in
    let end = c.met_end-seen.result.end in
    let within = c.in-Some.ensures.next.3 in
    let old = c.steps.invariant.short in
    let fit = c.requires.short in
    let le = run_within run text c.args.most m c.steps.end c.run_start-start.result c.min-stop.result end 63 c.run_start-start.ensures.start c.min-stop.ensures c.met_end-seen.ensures.goes (omega arith) (omega arith) (omega arith) in
    record { within = omega arith }

pub after_run-i-requires : goal.after_run-i-requires
after_run-i-requires c =
    let run = c.args.run.now.spans.items in
    let text = c.args.text.now in
    let m = c.in-Some.m in
    let end = c.met_end-seen.result.end in
    let within = c.in-Some.ensures.next.3 in
    let old = c.steps.invariant.short in
    let fit = c.requires.short in
    let le = run_within run text c.args.most m c.steps.end c.run_start-start.result c.min-stop.result end 63 c.run_start-start.ensures.start c.min-stop.ensures c.met_end-seen.ensures.goes (omega arith) (omega arith) (omega arith) in
    let few = c.requires.few in
    record { small = omega arith }

pub steps-preserved : goal.steps-preserved
steps-preserved c =
    let run = c.args.run.now.spans.items in
    let last = c.args.last.now.spans.items in
    let text = c.args.text.now in
    let i = c.steps.i in
    let m = c.in-Some.m in
    let next = c.in-Some.ensures.next in
    let found : IsNext i m (in_word c.args.from) = record { from_on = next.0; set = next.1; first = next.2 } in
    let seen = c.met_end-seen.ensures in
    let end = c.met_end-seen.result.end in
    let start = c.run_start-start.result in
    let goes = seen.goes in
    let begin = c.run_start-start.ensures.start in
    let from = run_from run text c.args.most i m c.steps.end start c.min-stop.result end c.steps.invariant.scan next.0 begin c.min-stop.ensures goes in
    let after = c.after_run-i.ensures in
    let within = next.3 in
    let old = c.steps.invariant.short in
    let fit = c.requires.short in
    let le = run_within run text c.args.most m c.steps.end start c.min-stop.result end 63 begin c.min-stop.ensures goes (omega arith) (omega arith) (omega arith) in
    let put = c.with_span-to.ensures.bits in
    record {
      below = below_run run text c.args.least c.args.most i m end c.after_run-i.result (in_word c.args.from) (in_word c.steps.to) (in_word c.with_span-to.result) c.steps.invariant.below found from after.on after.within put;
      scan = scan_on run text c.args.most m end c.after_run-i.result from after.on;
      short = omega arith;
      met = met_on last text c.args.least i m c.steps.end start end c.after_run-i.result (in_word c.steps.to) (in_word c.with_span-to.result) (in_word c.steps.met) (in_word c.met_end-seen.result.word) c.steps.invariant.met next.0 after.on begin seen.taken seen.kept seen.met put;
    }

pub moved_on-requires : goal.moved_on-requires
moved_on-requires c =
    let short = c.requires.short in
    record {
      room = met_inside c.args.last.now.spans.items c.args.text.now c.steps.i c.steps.end (in_word c.steps.to) (in_word c.steps.met) (in_word c.both-there.result) c.steps.invariant.met c.both-there.ensures.bits 63 (omega arith);
    }

pub returns : goal.returns
returns c =
    let run = c.args.run.now.spans.items in
    let R = RunsFor run c.args.text.now c.args.least c.args.most in
    let from = in_word c.args.from in
    let image = below_ends R c.steps.i from (in_word c.steps.to) c.steps.invariant.below c.in_default.ensures.next in
    record {
      leaves = met_image R c.args.last.now.spans.items c.args.text.now c.steps.i c.steps.end from (in_word c.steps.to) (in_word c.steps.met) (in_word c.both-there.result) (in_word c.moved_on.result) image c.steps.invariant.met
          c.both-there.ensures.bits c.moved_on.ensures.none c.moved_on.ensures.moved;
    }
