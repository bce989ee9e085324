use Rattle.std.proofs.Common.{◌∙◌, ap, length, refl, subst, sym}
use Rattle.schema_reports.specs.InstanceViews.{subject_of}
use Rattle.theory_meaning.specs.Numbered.{subject_in}
use Rattle.theory_meaning.proofs.NodeRuns.{runs_say_outcomes}
use Rattle.schema_run_context.specs.Matches.{settling}
use Rattle.theory_runs.specs.NodeMeets.{reading}
use Rattle.schema_node_table.specs.NodeTable.{numbered}
use Rattle.schema_run_context.specs.Progress.{Context, NoDeeper, busy_at, places_in}
use Rattle.schema_run_context.specs.Works.{Budget}
use Rattle.schema_run_steps.specs.Depths.{held}
use Rattle.schema_run_context.proofs.Matches.{completes_once}
use Rattle.schema_node_table.proofs.RankedTable.{ranked_table}
use Rattle.schema_traits.proofs.Replies.{if_ok_mono}
use Rattle.theory_runs.proofs.RightVerdicts.{layout_from, lays_out_from, none_right, root_lays_out}
use Rattle.theory_runs.specs.UnitStates.{evaluating}
use Rattle.theory_runs.proofs.Placing.{stands_on}
use Rattle.schema_node.proofs.node.runs.NodesRunNodes.evaluate_instance.Goals as goal

pub evaluate_root-requires : goal.evaluate_root-requires
evaluate_root-requires g c =
    let ns = numbered g.K.Validate.shape c.args.self.now in
    let p = c.args.place.now in
    let s = subject_of c.args.instance in
    let c1 = c.forget_verdicts.new.self in
    record {
      may_evaluate = record {
        may = record {
          known = c.requires.known;
          ranked = ranked_table g.K.Validate.shape c.args.self.now c.assert_ordered.ensures.ordered.0 c.assert_ordered.ensures.ordered.1;
          above = rw c.given-place.ensures.same (subst (NoDeeper p) (sym (ap (λ (z : Context). z.in_progress) c.forget_verdicts.ensures.forgotten)) c.requires.above);
          wanted = refl;
          stands = rw c.given-place.ensures.same (stands_on c.args.context.now.root c1.root (evaluating s p c.args.path.now) (ap (λ (z : Context). z.root) c.forget_verdicts.ensures.forgotten) c.requires.stands);
          goes_on = rw c.given-place.ensures.same (layout_from p s, lays_out_from p s, none_right g.K.Validate.words g.K.Validate.is_whole ns (length c.args.self.now) (g.M.Matcher.matching c.args.matcher.now) c1.remembered.assumptions c1.remembered (layout_from p s) c1.verdicts (ap (λ (z : Context). z.verdicts) c.forget_verdicts.ensures.forgotten));
        };
        carries = c.given-place.ensures.carries (places_in c1);
        deep = ap held (sym c.given-path.ensures.edges);
      };
      limit = c.depth_limit.ensures.deepest ∙ ap (λ (w : Budget). w.deepest) c.work.ensures.work;
    }

pub returns : goal.returns
returns g c = record {
  kept = if_ok_mono c.evaluate_root.result _ _ (λ u keeps. keeps.in_progress ∙ ap (λ (z : Context). z.in_progress) c.forget_verdicts.ensures.forgotten) c.evaluate_root.ensures.keeps;
  assumes = if_ok_mono c.evaluate_root.result _ _ (λ u keeps. keeps.assumptions ∙ ap (λ (z : Context). z.remembered.assumptions) c.forget_verdicts.ensures.forgotten) c.evaluate_root.ensures.keeps;
  marking = if_ok_mono c.evaluate_root.result _ _ (λ u keeps. keeps.marking ∙ ap (λ (z : Context). z.marking) c.forget_verdicts.ensures.forgotten) c.evaluate_root.ensures.keeps;
  works = rw (ap (λ (z : Context). z.work) c.forget_verdicts.ensures.forgotten) at c.evaluate_root.ensures.works;
  gives =
      let as' = c.args.context.now.remembered.assumptions in
      let w = settling (g.M.Matcher.matching c.args.matcher.now) as' in
      if_ok_mono c.evaluate_root.result _ _ (λ u gives root texts at_place tells once n enough.
      gives (reading w texts root n) (record { stands = at_place; tells = tells; matcher = refl; completes = completes_once as' once }) enough
      ∙ sym (runs_say_outcomes (g.K.Validate.words texts) w.matcher (numbered g.K.Validate.shape c.args.self.now) (subject_in root) as' n c.args.node.0 c.args.path.now c.args.place.now (busy_at c.args.place.now c.args.context.now.in_progress)).1)
      (rw (c.given-path.ensures.same, c.given-place.ensures.same, c.forget_verdicts.ensures.forgotten) at c.evaluate_root.ensures.says);
  meets =
      let as' = c.args.context.now.remembered.assumptions in
      if_ok_mono c.evaluate_root.result _ _ (λ u meets root texts at_place tells once n enough.
      meets texts root n (record { stands = at_place; tells = tells; matcher = refl; completes = completes_once as' once }) enough)
      (rw (c.given-path.ensures.same, c.given-place.ensures.same, c.forget_verdicts.ensures.forgotten) at c.evaluate_root.ensures.meets);
  right = if_ok_mono c.evaluate_root.result _ _ (λ u stays root at_place.
      let p = c.args.place.now in
      let ns = numbered g.K.Validate.shape c.args.self.now in
      let c1 = c.forget_verdicts.new.self in
      stays (subject_in root) (root_lays_out root p (subject_of c.args.instance) at_place)
      (none_right g.K.Validate.words g.K.Validate.is_whole ns (length c.args.self.now) (g.M.Matcher.matching c.args.matcher.now) c1.remembered.assumptions c1.remembered (subject_in root) c1.verdicts (ap (λ (z : Context). z.verdicts) c.forget_verdicts.ensures.forgotten)))
      (rw c.given-place.ensures.same at c.evaluate_root.ensures.stays);
}
