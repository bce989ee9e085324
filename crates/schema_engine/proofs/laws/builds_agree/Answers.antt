use Rattle.std.proofs.Common.{inl, inr}
use Rattle.std.specs.Prelude.{true}
use Rattle.schema_validator.specs.Handed.{parts_of}
use Rattle.schema_engine.specs.Nesting.{handed_to_both}
use Rattle.schema_engine.proofs.BuildsAgree.{check_fails_for_memory, memory_alone}
use Rattle.schema_engine.proofs.laws.builds_agree.Goals as goal

pub returns : goal.returns
returns c s = record {
  memory = λ resolver table matcher options schema runs runs' nested nested' refuses e builds passes refused.
      let h = handed_to_both c.S.Resolver c.T.KeywordTable c.K.Validate c.M.Matcher resolver table matcher in
      let w = parts_of h.resolver h.table h.matcher (h.words true) options in
      elim refused [
        | inl cause ↦ memory_alone w (c.met.S.Resolver.same resolver) schema options.limit (builds true) e (cause true)
        | inr fails ↦ check_fails_for_memory h.resolver refuses options schema e passes fails
      ];
}
