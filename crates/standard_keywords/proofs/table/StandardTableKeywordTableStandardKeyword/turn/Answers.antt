use Rattle.std.proofs.Common.{refl}
use Rattle.keyword_makers.specs.MakerViews.{waiting_of}
use Rattle.schema_traits.specs.MakerViews.{maker_reply_of}
use Rattle.keyword_joins.proofs.TakenTurns.{takes_as}
use Rattle.standard_assertions.specs.Shapes as assertions
use Rattle.standard_basics.specs.Shapes as basics
use Rattle.standard_formats.specs.Shapes as formats
use Rattle.standard_keywords.specs.Families.{in_family}
use Rattle.standard_keywords.specs.declared.family.Family.TheVariants as family
use Rattle.standard_keywords.proofs.table.StandardTableKeywordTableStandardKeyword.turn.Goals as goal

pub returns-in_ok-turn-in-Assertion : goal.returns-in_ok-turn-in-Assertion
returns-in_ok-turn-in-Assertion c = record {
  takes = rw (c.in-Assertion.is, c.assertion_step.ensures.step) (takes_as family.Assertion family.Assertion assertions.shape_of (in_family assertions.shape_of (λ k. k) (λ k. k) formats.shape_of basics.shape_of) (λ k. refl)
      (waiting_of assertions.shape_of c.in-Assertion.maker) (maker_reply_of c.args.reply) c.in_ok-turn-in-Assertion.field-0 (waiting_of assertions.shape_of c.turn.new.self) c.in_ok-turn-in-Assertion.ensures.takes);
}

pub returns-in_ok-turn-in-Applicator : goal.returns-in_ok-turn-in-Applicator
returns-in_ok-turn-in-Applicator c = record {
  takes = rw (c.in-Applicator.is, c.applicator_step.ensures.step) (takes_as family.Applicator family.Applicator (λ k. k) (in_family assertions.shape_of (λ k. k) (λ k. k) formats.shape_of basics.shape_of) (λ k. refl)
      (waiting_of (λ k. k) c.in-Applicator.maker) (maker_reply_of c.args.reply) c.in_ok-turn-in-Applicator.field-0 (waiting_of (λ k. k) c.turn-in-Applicator.new.self) c.in_ok-turn-in-Applicator.ensures.takes);
}

pub returns-in_ok-turn-in-PatternProperties : goal.returns-in_ok-turn-in-PatternProperties
returns-in_ok-turn-in-PatternProperties c = record {
  takes = rw (c.in-PatternProperties.is, c.pattern_step.ensures.step) (takes_as family.PatternProperties family.PatternProperties (λ k. k) (in_family assertions.shape_of (λ k. k) (λ k. k) formats.shape_of basics.shape_of) (λ k. refl)
      (waiting_of (λ k. k) c.in-PatternProperties.maker) (maker_reply_of c.args.reply) c.in_ok-turn-in-PatternProperties.field-0 (waiting_of (λ k. k) c.turn-in-PatternProperties.new.self) c.in_ok-turn-in-PatternProperties.ensures.takes);
}

pub returns-in_ok-turn-in-Format : goal.returns-in_ok-turn-in-Format
returns-in_ok-turn-in-Format c = record {
  takes = rw (c.in-Format.is, c.format_step.ensures.step) (takes_as family.Format family.Format formats.shape_of (in_family assertions.shape_of (λ k. k) (λ k. k) formats.shape_of basics.shape_of) (λ k. refl)
      (waiting_of formats.shape_of c.in-Format.maker) (maker_reply_of c.args.reply) c.in_ok-turn-in-Format.field-0 (waiting_of formats.shape_of c.turn-in-Format.new.self) c.in_ok-turn-in-Format.ensures.takes);
}

pub returns-in_ok-turn-in-Basic : goal.returns-in_ok-turn-in-Basic
returns-in_ok-turn-in-Basic c = record {
  takes = rw (c.in-Basic.is, c.basic_step.ensures.step) (takes_as family.Basic family.Basic basics.shape_of (in_family assertions.shape_of (λ k. k) (λ k. k) formats.shape_of basics.shape_of) (λ k. refl)
      (waiting_of basics.shape_of c.in-Basic.maker) (maker_reply_of c.args.reply) c.in_ok-turn-in-Basic.field-0 (waiting_of basics.shape_of c.turn-in-Basic.new.self) c.in_ok-turn-in-Basic.ensures.takes);
}
