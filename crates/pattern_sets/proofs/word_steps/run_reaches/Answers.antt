use Rattle.pattern_sets.specs.Images.{in_word}
use Rattle.pattern_sets.proofs.Leading.{IsNext}
use Rattle.pattern_sets.proofs.Seeking.{met_reaches, unmet_begins, unmet_on, unmet_reaches}
use Rattle.pattern_sets.proofs.word_steps.run_reaches.Goals as goal

pub search-init : goal.search-init
search-init c = unmet_begins c.args.run.now.spans.items c.args.last.now.spans.items c.args.text.now (in_word c.args.from)

pub search-preserved : goal.search-preserved
search-preserved c =
    let m = c.in-Some.m in
    let next = c.in-Some.ensures.next in
    let found : IsNext c.search.i m (in_word c.args.from) = record { from_on = next.0; set = next.1; first = next.2 } in
    unmet_on c.args.run.now.spans.items c.args.last.now.spans.items c.args.text.now (in_word c.args.from) c.search.i m c.in-Some-unmet_end.end c.search.invariant found c.in-Some-unmet_end.ensures.met

pub returns-in-None : goal.returns-in-None
returns-in-None c =
    record { reaches = met_reaches c.args.run.now.spans.items c.args.last.now.spans.items c.args.text.now (in_word c.args.from) c.in-Some.m c.in-Some.ensures.next.1 c.in-None.ensures.met }

pub returns : goal.returns
returns c =
    record { reaches = unmet_reaches c.args.run.now.spans.items c.args.last.now.spans.items c.args.text.now (in_word c.args.from) c.search.i c.search.invariant c.in_default.ensures.next }
