use Rattle.std.proofs.Common.{◌∙◌, sym, ap, arith}
use Rattle.serde_json.specs.View.{view}
use Rattle.schema_drafts.specs.KeywordViews.{draft_of}
use Rattle.schema_traits.specs.SchemaViews.{schema_step_of}
use Rattle.standard_resolver.specs.DocumentLookups.{is_subschema}
use Rattle.standard_resolver.proofs.OnWay.{first_step, first_steps, is_neither, is_pair, is_single, whole}
use Rattle.standard_resolver.proofs.on_way.is_subschema.Goals as goal

pub returns-then-steps-eq1 : goal.returns-then-steps-eq1
returns-then-steps-eq1 c =
    let d = view c.args.schema.now in
    let steps = c.steps-steps.result.now in
    let path = sym c.steps-steps.ensures.steps ∙ sym (whole schema_step_of 1 steps (omega arith))
    ∙ first_step schema_step_of steps c.index-steps-0-then-steps-eq1.result (omega arith) c.index-steps-0-then-steps-eq1.is in
    record {
      subschema = c.is_single.ensures.among
          ∙ sym (is_single c.args.rule (draft_of c.args.draft) (schema_step_of c.index-steps-0-then-steps-eq1.result) d)
          ∙ ap (λ p. is_subschema c.args.rule (draft_of c.args.draft) p d) (sym path);
    }

pub returns-then-steps-eq2 : goal.returns-then-steps-eq2
returns-then-steps-eq2 c =
    let d = view c.args.schema.now in
    let steps = c.steps-steps.result.now in
    let path = sym c.steps-steps.ensures.steps ∙ sym (whole schema_step_of 2 steps (omega arith))
    ∙ first_steps schema_step_of steps c.index-steps-0.result c.index-steps-1.result (omega arith) c.index-steps-0.is c.index-steps-1.is in
    record {
      subschema = c.is_pair.ensures.among
          ∙ sym (is_pair c.args.rule (draft_of c.args.draft) (schema_step_of c.index-steps-0.result)
          (schema_step_of c.index-steps-1.result) d) ∙ ap (λ p. is_subschema c.args.rule (draft_of c.args.draft) p d) (sym path);
    }

pub returns : goal.returns
returns c =
    record {
      subschema = sym (is_neither c.args.rule (draft_of c.args.draft) schema_step_of c.steps-steps.result.now (view c.args.schema.now)
          (λ e. absurd (omega arith)) (λ e. absurd (omega arith)))
          ∙ ap (λ p. is_subschema c.args.rule (draft_of c.args.draft) p (view c.args.schema.now)) c.steps-steps.ensures.steps;
    }
