use Rattle.std.proofs.Common.{◌∙◌, ap, length, subst, sym}
use Rattle.schema_reports.specs.InstanceViews.{subject_of}
use Rattle.theory_meaning.specs.Numbered.{subject_in}
use Rattle.schema_node_table.specs.NodeTable.{numbered}
use Rattle.schema_run_context.specs.Progress.{Context, NoDeeper}
use Rattle.schema_traits.proofs.Replies.{if_ok_mono}
use Rattle.theory_runs.proofs.RightVerdicts.{layout_from, lays_out_from, none_right, root_lays_out}
use Rattle.schema_node.specs.FirstQuestions.{asking_first}
use Rattle.theory_runs.proofs.Placing.{stands_on}
use Rattle.schema_node.proofs.node.runs.NodesRunNodes.run.Goals as goal

pub run_further-requires : goal.run_further-requires
run_further-requires g c =
    let ns = numbered g.K.Validate.shape c.args.self.now in
    let p = c.args.question.now.place.now in
    let s = subject_of c.args.question.now.instance in
    let c1 = c.forget_verdicts.new.self in
    record {
      known = c.requires.known;
      above = subst (NoDeeper p) (sym (ap (λ (z : Context). z.in_progress) c.forget_verdicts.ensures.forgotten)) c.requires.above;
      stands = stands_on c.args.context.now.root c1.root (asking_first c.args.question.now) (ap (λ (z : Context). z.root) c.forget_verdicts.ensures.forgotten) c.requires.stands;
      wanted = c.requires.wanted;
      goes_on = (layout_from p s, lays_out_from p s, none_right g.K.Validate.words g.K.Validate.is_whole ns (length c.args.self.now) (g.M.Matcher.matching c.args.matcher.now) c1.remembered.assumptions c1.remembered (layout_from p s) c1.verdicts (ap (λ (z : Context). z.verdicts) c.forget_verdicts.ensures.forgotten));
    }

pub returns : goal.returns
returns g c = record {
  speaks = c.run_further.ensures.speaks;
  borrows = c.run_further.ensures.borrows;
  kept = if_ok_mono c.run_further.result _ _ (λ r e. e ∙ ap (λ (z : Context). z.in_progress) c.forget_verdicts.ensures.forgotten) c.run_further.ensures.kept;
  assumes = if_ok_mono c.run_further.result _ _ (λ r e. e ∙ ap (λ (z : Context). z.remembered.assumptions) c.forget_verdicts.ensures.forgotten) c.run_further.ensures.assumes;
  marking = if_ok_mono c.run_further.result _ _ (λ r e. e ∙ ap (λ (z : Context). z.marking) c.forget_verdicts.ensures.forgotten) c.run_further.ensures.marking;
  works = rw (ap (λ (z : Context). z.work) c.forget_verdicts.ensures.forgotten) at c.run_further.ensures.works;
  replies = rw c.forget_verdicts.ensures.forgotten at c.run_further.ensures.replies;
  meets = rw c.forget_verdicts.ensures.forgotten at c.run_further.ensures.meets;
  remembers = rw c.forget_verdicts.ensures.forgotten at c.run_further.ensures.remembers;
  right = if_ok_mono c.run_further.result _ _ (λ r stays root at_place.
      let p = c.args.question.now.place.now in
      let ns = numbered g.K.Validate.shape c.args.self.now in
      let c1 = c.forget_verdicts.new.self in
      stays (subject_in root) (root_lays_out root p (subject_of c.args.question.now.instance) at_place)
      (none_right g.K.Validate.words g.K.Validate.is_whole ns (length c.args.self.now) (g.M.Matcher.matching c.args.matcher.now) c1.remembered.assumptions c1.remembered (subject_in root) c1.verdicts (ap (λ (z : Context). z.verdicts) c.forget_verdicts.ensures.forgotten)))
      c.run_further.ensures.stays;
  visits = rw c.forget_verdicts.ensures.forgotten at c.run_further.ensures.visits;
}
