use Rattle.std.proofs.Common.{refl}
use Rattle.schema_traits.specs.MakerViews.{maker_reply_of}
use Rattle.keyword_joins.specs.Sides.{side_of}
use Rattle.keyword_joins.specs.declared.both.Both.TheVariants as both
use Rattle.keyword_joins.proofs.TakenTurns.{takes_as}
use Rattle.keyword_joins.proofs.table.turn_either.Goals as goal

pub returns-in_ok-turn-in-First : goal.returns-in_ok-turn-in-First
returns-in_ok-turn-in-First g c = record {
  takes = rw (c.in-First.is, c.first_step.ensures.step) (takes_as both.First both.First g.A.Validate.shape (side_of g.A.Validate.shape g.B.Validate.shape) (λ k. refl)
      (g.S.KeywordTable.waiting c.in-First.maker) (maker_reply_of c.args.reply) c.in_ok-turn-in-First.field-0 (g.S.KeywordTable.waiting c.turn.new.maker) c.in_ok-turn-in-First.ensures.takes);
}

pub returns-in_ok-turn-in-Second : goal.returns-in_ok-turn-in-Second
returns-in_ok-turn-in-Second g c = record {
  takes = rw (c.in-Second.is, c.second_step.ensures.step) (takes_as both.Second both.Second g.B.Validate.shape (side_of g.A.Validate.shape g.B.Validate.shape) (λ k. refl)
      (g.T.KeywordTable.waiting c.in-Second.maker) (maker_reply_of c.args.reply) c.in_ok-turn-in-Second.field-0 (g.T.KeywordTable.waiting c.turn-in-Second.new.maker) c.in_ok-turn-in-Second.ensures.takes);
}
