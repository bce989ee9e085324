use Rattle.std.proofs.Common.{◌∙◌, suc, ap, arith, length, refl, sym}
use Rattle.schema_reports.specs.InstanceViews.{subject_of}
use Rattle.theory_meaning.specs.Numbered.{left, subject_in}
use Rattle.schema_traits.specs.KeywordViews.{mode_of}
use Rattle.schema_run_context.specs.Matches.{settling}
use Rattle.theory_runs.specs.NodeMeets.{reading}
use Rattle.schema_node_table.specs.NodeTable.{numbered}
use Rattle.schema_run_context.specs.Progress.{busy_at, places_in}
use Rattle.schema_run_context.specs.Works.{Budget}
use Rattle.schema_run_steps.specs.Depths.{held}
use Rattle.schema_run_steps.proofs.KeywordTurns.{silent, silent_reads}
use Rattle.schema_run_context.proofs.Matches.{completes_once}
use Rattle.theory_runs.proofs.NodeOutcomes.{reply_is}
use Rattle.schema_node_table.proofs.RankedTable.{ranked_table}
use Rattle.schema_traits.proofs.Replies.{if_ok_mono}
use Rattle.schema_node.proofs.node.runs.NodesRunNodes.run_further.Goals as goal

pub node_reply-requires : goal.node_reply-requires
node_reply-requires g c = record {
  may_reply = record {
    may = record {
      known = c.requires.known;
      ranked = ranked_table g.K.Validate.shape c.args.self.now c.assert_ordered.ensures.ordered.0 c.assert_ordered.ensures.ordered.1;
      above = rw c.given-place.ensures.same c.requires.above;
      wanted = c.requires.wanted;
      stands = rw c.given-place.ensures.same c.requires.stands;
      goes_on = rw c.given-place.ensures.same c.requires.goes_on;
    };
    carries = c.given-place.ensures.carries (places_in c.args.context.now);
    deep = ap held (sym c.given-path.ensures.edges);
  };
  limit = c.depth_limit.ensures.deepest ∙ ap (λ (w : Budget). w.deepest) c.work.ensures.work;
}

pub returns : goal.returns
returns g c = record {
  kept = if_ok_mono c.node_reply.result _ _ (λ r keeps. keeps.in_progress) c.node_reply.ensures.keeps;
  assumes = if_ok_mono c.node_reply.result _ _ (λ r keeps. keeps.assumptions) c.node_reply.ensures.keeps;
  marking = if_ok_mono c.node_reply.result _ _ (λ r keeps. keeps.marking) c.node_reply.ensures.keeps;
  works = c.node_reply.ensures.works;
  counts = c.node_reply.ensures.counts;
  replies =
      let as' = c.args.context.now.remembered.assumptions in
      let w = settling (g.M.Matcher.matching c.args.matcher.now) as' in
      if_ok_mono c.node_reply.result _ _ (λ r says root texts at_place tells once n enough.
      (says (reading w texts root n) (record { stands = at_place; tells = tells; matcher = refl; completes = completes_once as' once }) enough).same
      ∙ reply_is (g.K.Validate.words texts) w.matcher (numbered g.K.Validate.shape c.args.self.now) (subject_in root) as' (mode_of c.args.question.now.mode) c.requires.wanted n c.args.node.0 c.args.question.now.path.now c.args.question.now.place.now (busy_at c.args.question.now.place.now c.args.context.now.in_progress))
      (rw (c.given-path.ensures.same, c.given-place.ensures.same) at c.node_reply.ensures.says);
  meets =
      let as' = c.args.context.now.remembered.assumptions in
      if_ok_mono c.node_reply.result _ _ (λ r meets root texts at_place tells once n enough.
      meets texts root n (record { stands = at_place; tells = tells; matcher = refl; completes = completes_once as' once }) enough)
      (rw (c.given-path.ensures.same, c.given-place.ensures.same) at c.node_reply.ensures.meets);
  borrows =
      let ns = numbered g.K.Validate.shape c.args.self.now in
      let w = settling (g.M.Matcher.matching c.args.matcher.now) c.args.context.now.remembered.assumptions in
      let d = left ns (length c.args.self.now) c.args.node.0 (subject_of c.args.question.now.instance) (busy_at c.args.question.now.place.now c.args.context.now.in_progress) in
      if_ok_mono c.node_reply.result _ _ (λ r says root at_place. (says (silent w root (suc d)) (silent_reads g.K.Validate.is_whole ns (length c.args.self.now) w c.args.question.now.place.now (subject_of c.args.question.now.instance) root (suc d) at_place) (omega arith)).borrows) (rw (c.given-path.ensures.same, c.given-place.ensures.same) at c.node_reply.ensures.says);
  speaks =
      let ns = numbered g.K.Validate.shape c.args.self.now in
      let w = settling (g.M.Matcher.matching c.args.matcher.now) c.args.context.now.remembered.assumptions in
      let d = left ns (length c.args.self.now) c.args.node.0 (subject_of c.args.question.now.instance) (busy_at c.args.question.now.place.now c.args.context.now.in_progress) in
      if_ok_mono c.node_reply.result _ _ (λ r says root at_place. (_, (says (silent w root (suc d)) (silent_reads g.K.Validate.is_whole ns (length c.args.self.now) w c.args.question.now.place.now (subject_of c.args.question.now.instance) root (suc d) at_place) (omega arith)).same)) (rw (c.given-path.ensures.same, c.given-place.ensures.same) at c.node_reply.ensures.says);
  stays = rw c.given-place.ensures.same at c.node_reply.ensures.stays;
  remembers = rw (c.given-path.ensures.same, c.given-place.ensures.same) at c.node_reply.ensures.remembers;
  visits = rw c.given-place.ensures.same at c.node_reply.ensures.visits;
}
