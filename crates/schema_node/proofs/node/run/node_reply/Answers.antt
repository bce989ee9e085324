use Rattle.std.proofs.Common.{◌≡◌, arith, refl, rules}
use Rattle.std.proofs.lemmas.Grind.{common_steps}
use Rattle.theory_definitions.specs.Keywords.{for_verdict}
use Rattle.schema_traits.specs.KeywordViews.{mode_of}
use Rattle.schema_traits.specs.declared.keyword.Mode as code
use Rattle.schema_traits.proofs.Replies.{if_ok_always, if_ok_mono}
use Rattle.schema_node.proofs.node.run.node_reply.Goals as goal

-- a mode that is not for the verdict is for more
wants_more : (m : code.Mode) → ¬ (m ≡ code.TheVariants.Verdict) → ¬ (mode_of m ≡ for_verdict)
wants_more code.TheVariants.Verdict h e = h refl
wants_more code.TheVariants.First h e = cc e
wants_more code.TheVariants.All h e = cc e
wants_more code.TheVariants.Evaluate h e = cc e

pub run_node-requires : goal.run_node-requires
run_node-requires g c = record { may = c.requires.may_reply.may; carries = c.requires.may_reply.carries; deep = c.requires.may_reply.deep; more = wants_more c.args.question.now.mode c.in_default.not-Verdict }

pub returns-in_default : goal.returns-in_default
returns-in_default g c = record {
  keeps = first_of (search rules, grind (arith, common_steps));
  counts = first_of (search rules, grind (arith, common_steps));
  visits = if_ok_always c.run_node.result _ (λ mode. absurd (wants_more c.args.question.now.mode c.in_default.not-Verdict mode));
  says = first_of (search rules, grind (arith, common_steps));
  meets = first_of (search rules, grind (arith, common_steps));
  stays = first_of (search rules, grind (arith, common_steps));
  remembers = if_ok_mono c.run_node.result _ _ (λ r says xs is x only e form mode. absurd (wants_more c.args.question.now.mode c.in_default.not-Verdict mode)) c.run_node.ensures.says;
  works = first_of (search rules, grind (arith, common_steps));
}
