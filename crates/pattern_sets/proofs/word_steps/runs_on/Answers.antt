use Rattle.std.proofs.Common.{arith}
use Rattle.pattern_sets.specs.Images.{GoesOn, RunsFor, in_word}
use Rattle.pattern_sets.proofs.Leading.{IsNext, below_begins, below_ends}
use Rattle.pattern_sets.proofs.Running.{below_run, run_from, run_within, scan_begins, scan_on}
use Rattle.pattern_rows.proofs.Bits.{no_bit_of_zero}
use Rattle.pattern_sets.proofs.word_steps.runs_on.Goals as goal

pub steps-init : goal.steps-init
steps-init c =
    let set = c.args.set.now.spans.items in
    let text = c.args.text.now in
    record {
      below = below_begins (RunsFor set text c.args.least c.args.most) (in_word c.args.from) (in_word 0) no_bit_of_zero;
      scan = scan_begins set text c.args.most;
      short = omega arith;
    }

pub with_span-to-requires : goal.with_span-to-requires
with_span-to-requires c =
    let set = c.args.set.now.spans.items in
    let text = c.args.text.now in
    let m = c.in-Some.m in
    let ended = c.run_end-end.ensures in
    let within = c.in-Some.ensures.next.3 in
    let old = c.steps.invariant.short in
    let fit = c.requires.short in
    let goes : GoesOn set text c.run_start-start.result c.min-stop.result c.run_end-end.result = record { on = ended.on; taken = ended.taken; blocked = ended.blocked } in
    let le = run_within set text c.args.most m c.steps.end c.run_start-start.result c.min-stop.result c.run_end-end.result 63 c.run_start-start.ensures.start c.min-stop.ensures goes (omega arith) (omega arith) (omega arith) in
    record { within = omega arith }

pub after_run-i-requires : goal.after_run-i-requires
after_run-i-requires c =
    let set = c.args.set.now.spans.items in
    let text = c.args.text.now in
    let m = c.in-Some.m in
    let ended = c.run_end-end.ensures in
    let within = c.in-Some.ensures.next.3 in
    let old = c.steps.invariant.short in
    let fit = c.requires.short in
    let goes : GoesOn set text c.run_start-start.result c.min-stop.result c.run_end-end.result = record { on = ended.on; taken = ended.taken; blocked = ended.blocked } in
    let le = run_within set text c.args.most m c.steps.end c.run_start-start.result c.min-stop.result c.run_end-end.result 63 c.run_start-start.ensures.start c.min-stop.ensures goes (omega arith) (omega arith) (omega arith) in
    let few = c.requires.few in
    record { small = omega arith }

pub steps-preserved : goal.steps-preserved
steps-preserved c =
    let set = c.args.set.now.spans.items in
    let text = c.args.text.now in
    let i = c.steps.i in
    let m = c.in-Some.m in
    let next = c.in-Some.ensures.next in
    let found : IsNext i m (in_word c.args.from) = record { from_on = next.0; set = next.1; first = next.2 } in
    let ended = c.run_end-end.ensures in
    let goes : GoesOn set text c.run_start-start.result c.min-stop.result c.run_end-end.result = record { on = ended.on; taken = ended.taken; blocked = ended.blocked } in
    let run = run_from set text c.args.most i m c.steps.end c.run_start-start.result c.min-stop.result c.run_end-end.result c.steps.invariant.scan next.0 c.run_start-start.ensures.start c.min-stop.ensures goes in
    let after = c.after_run-i.ensures in
    let within = next.3 in
    let old = c.steps.invariant.short in
    let fit = c.requires.short in
    let le = run_within set text c.args.most m c.steps.end c.run_start-start.result c.min-stop.result c.run_end-end.result 63 c.run_start-start.ensures.start c.min-stop.ensures goes (omega arith) (omega arith) (omega arith) in
    record {
      below = below_run set text c.args.least c.args.most i m c.run_end-end.result c.after_run-i.result (in_word c.args.from) (in_word c.steps.to) (in_word c.with_span-to.result) c.steps.invariant.below found run after.on after.within c.with_span-to.ensures.bits;
      scan = scan_on set text c.args.most m c.run_end-end.result c.after_run-i.result run after.on;
      short = omega arith;
    }

pub returns : goal.returns
returns c =
    record { runs = below_ends (RunsFor c.args.set.now.spans.items c.args.text.now c.args.least c.args.most) c.steps.i (in_word c.args.from) (in_word c.steps.to) c.steps.invariant.below c.in_default.ensures.next }
