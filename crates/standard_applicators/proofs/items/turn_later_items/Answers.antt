use Rattle.std.proofs.Common.{◌≡◌, ◌∙◌, sym, subst}
use Rattle.schema_traits.specs.KeywordViews.{answer_of, reply_of, turn_of}
use Rattle.keyword_authoring.specs.Items.{first_at_item, each_from}
use Rattle.keyword_authoring.specs.Ways.{passes_on, way_step, way_turn}
use Rattle.standard_applicators.proofs.items.turn_later_items.Goals as goal

pub returns-clause-turn : goal.returns-clause-turn
returns-clause-turn c = record {
  turns = λ texts. subst (λ n. way_turn (passes_on (each_from first_at_item c.args.before n)) (c.args.run.now, answer_of texts c.args.answer.now) (reply_of texts c.args.reply) ≡ (c.next_number.new.run, answer_of texts c.next_number.new.answer))
      c.items_after-count.ensures.count (c.in_ok-number.ensures.turns texts first_at_item);
  steps = λ texts. subst (λ n. way_step (passes_on (each_from first_at_item c.args.before n)) (c.args.run.now, answer_of texts c.args.answer.now) (reply_of texts c.args.reply) ≡ turn_of c.ask_first_at_item.result)
      c.items_after-count.ensures.count (c.in_ok-number.ensures.steps texts first_at_item ∙ sym c.ask_first_at_item.ensures.step);
}
