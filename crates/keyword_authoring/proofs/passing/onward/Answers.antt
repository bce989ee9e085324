use Rattle.std.proofs.Common.{sym, subst, arith, None}
use Rattle.schema_traits.specs.KeywordViews.{reply_of}
use Rattle.keyword_authoring.specs.Asking.{IsNext, IsNextFrom}
use Rattle.keyword_authoring.proofs.NextQuestions.{ended_at_limit, some_ended_at_limit}
use Rattle.keyword_authoring.proofs.passing.onward.Goals as goal

pub returns-else-last-limit-clause-next : goal.returns-else-last-limit-clause-next
returns-else-last-limit-clause-next c = λ texts qs h. subst (λ stage. IsNext qs stage (reply_of texts c.args.reply) None) (sym c.in-Asked.is) (ended_at_limit qs c.in-Asked.last (reply_of texts c.args.reply) (omega arith))

pub returns-else-last-limit-clause-answered : goal.returns-else-last-limit-clause-answered
returns-else-last-limit-clause-answered c = λ texts qs. c.in_ok-take_asked.ensures.answered texts qs c.args.run.now.mode

pub returns-in-Begun-clause-answered : goal.returns-in-Begun-clause-answered
returns-in-Begun-clause-answered c = λ texts qs. c.in_ok-take_asked.ensures.answered texts qs c.args.run.now.mode

pub returns-in-Counted-clause-answered : goal.returns-in-Counted-clause-answered
returns-in-Counted-clause-answered c = λ texts qs. c.in_ok-take_asked.ensures.answered texts qs c.args.run.now.mode

pub returns-in-Ended-clause-answered : goal.returns-in-Ended-clause-answered
returns-in-Ended-clause-answered c = λ texts qs. c.in_ok-take_asked.ensures.answered texts qs c.args.run.now.mode

pub returns-then-last-limit-clause-answered : goal.returns-then-last-limit-clause-answered
returns-then-last-limit-clause-answered c = λ texts qs. c.in_ok-take_asked.ensures.answered texts qs c.args.run.now.mode

pub returns-then-not-onward-clause-answered : goal.returns-then-not-onward-clause-answered
returns-then-not-onward-clause-answered c = λ texts qs. c.in_ok-take_asked.ensures.answered texts qs c.args.run.now.mode

pub returns-else-last-limit-clause-next_from : goal.returns-else-last-limit-clause-next_from
returns-else-last-limit-clause-next_from c = λ texts os h. subst (λ stage. IsNextFrom os stage (reply_of texts c.args.reply) None) (sym c.in-Asked.is) (some_ended_at_limit os c.in-Asked.last (reply_of texts c.args.reply) (omega arith))
