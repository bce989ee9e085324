use Rattle.std.proofs.Common.{ap, sym}
use Rattle.schema_traits.specs.KeywordViews.{answer_of, reply_of}
use Rattle.keyword_authoring.specs.Items.{each_from}
use Rattle.keyword_authoring.specs.Ways.{asked}
use Rattle.keyword_authoring.proofs.EachQuestion.{length_each}
use Rattle.keyword_authoring.proofs.NextQuestions.{stepped, turned}
use Rattle.keyword_authoring.proofs.passing.next_number.Goals as goal

pub returns-clause-turns : goal.returns-clause-turns
returns-clause-turns c = λ texts f. let qs = each_from f c.args.first c.args.count in
    turned qs c.args.run.now c.number_at.new.run (answer_of texts c.args.answer.now) (answer_of texts c.onward.new.answer) (reply_of texts c.args.reply) c.in_ok-place.place
    (c.in_ok-place.ensures.next texts qs (length_each f c.args.first c.args.count)) (c.number_at.ensures.stage f) (c.in_ok-place.ensures.answered texts qs)

pub returns-clause-steps : goal.returns-clause-steps
returns-clause-steps c = λ texts f. let qs = each_from f c.args.first c.args.count in
    stepped qs c.args.run.now (answer_of texts c.args.answer.now) (reply_of texts c.args.reply) c.in_ok-place.place _
    (c.in_ok-place.ensures.next texts qs (length_each f c.args.first c.args.count)) (ap (asked c.args.run.now.mode) (sym (c.number_at.ensures.number f)))
