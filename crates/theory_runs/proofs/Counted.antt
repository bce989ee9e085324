-- A node is counted before its plan is asked: only the number of nodes that may still be asked has
-- changed.
use Rattle.std.proofs.Common.{◌≡◌, ℕ, Bool, Result, subst, sym}
use Rattle.schema_run_context.specs.Progress.{Context, places_in}
use Rattle.schema_run_context.specs.Works.{Asks}
use Rattle.schema_traits.specs.declared.keyword.Reply as code
use Rattle.schema_traits.proofs.Replies.{if_ok_mono}
use Rattle.schema_reports.specs.declared.evaluation.EvaluationNode.{EvaluationNode}
use Rattle.schema_run_steps.specs.Askings.{asking}
use Rattle.schema_run_steps.specs.EvaluationPlaces.{CarriesItsNumber}
use Rattle.schema_run_steps.specs.declared.question.Question.{Question}
use Rattle.theory_runs.specs.Answered.{Answers, IsAsked, NodeGiven, NodeReplied, PlanGiven, PlanReplied, a_node, a_plan}
use Rattle.theory_runs.specs.RunStates.{MayRun, Setting}
use Rattle.theory_runs.specs.UnitStates.{MayEvaluate}
use Rattle.theory_runs.proofs.Spending.{asks_then}

module _ {K R : Type 0} (g : Setting K R) (q : Question) (i : ℕ) (c c1 : Context) (frame : c1 ≡ record c { work = c1.work }) where
  pub carried : CarriesItsNumber (places_in c) q.place.now → CarriesItsNumber (places_in c1) q.place.now
  carried h = subst (λ (z : Context). CarriesItsNumber (places_in z) q.place.now) (sym frame) h

  pub may_run : MayRun g (asking q) c i → MayRun g (asking q) c1 i
  may_run h = subst (λ (z : Context). MayRun g (asking q) z i) (sym frame) (record { known = h.known; ranked = h.ranked; above = h.above; wanted = h.wanted; stands = h.stands; goes_on = h.goes_on })

  pub may_evaluate : MayEvaluate g (asking q) c i → MayEvaluate g (asking q) c1 i
  may_evaluate h = subst (λ (z : Context). MayEvaluate g (asking q) z i) (sym frame) (record { known = h.known; ranked = h.ranked; above = h.above; wanted = h.wanted; stands = h.stands; goes_on = h.goes_on })

  pub is_asked : IsAsked g q (a_node i) c → IsAsked g q (a_plan i) c1
  is_asked h = record { may = may_run h.may; carries = carried h.carries; deep = h.deep; verdict = h.verdict; stands = tt }

  module _ {E : Type 0} (asks : Asks c.work c1.work) (c' : Context) where
    pub answers : (result : Result Bool E) → Answers g q (a_plan i) c1 c' result → Answers g q (a_node i) c c' result
    answers result h =
        let a = subst (λ (z : Context). Answers g q (a_plan i) z c' result) frame h in
        record {
          keeps = if_ok_mono result _ _ (λ b k. record { root = k.root; in_progress = k.in_progress; assumptions = k.assumptions; marking = k.marking }) a.keeps;
          counts = a.counts;
          visits = a.visits;
          says = a.says;
          meets = a.meets;
          stays = a.stays;
          remembers = if_ok_mono result _ _ (λ b remembers xs is x only e form mode guarded free.
              let r = remembers xs is x only e form mode guarded free in
              record { verdict = r.verdict; told = r.told; read = r.read; counted = r.counted; kept = r.kept }) a.remembers;
          works = if_ok_mono result _ _ (λ b spends. asks_then c.work c1.work c'.work asks spends) a.works;
        }

    pub replied : (result : Result code.Reply E) → PlanReplied g q i c1 c' result → NodeReplied g q i c c' result
    replied result h =
        let a = subst (λ (z : Context). PlanReplied g q i z c' result) frame h in
        record {
          keeps = if_ok_mono result _ _ (λ b k. record { root = k.root; in_progress = k.in_progress; assumptions = k.assumptions; marking = k.marking }) a.keeps;
          counts = a.counts;
          says = a.says;
          meets = a.meets;
          stays = a.stays;
          works = if_ok_mono result _ _ (λ b spends. asks_then c.work c1.work c'.work asks spends) a.works;
        }

    pub given : (result : Result EvaluationNode E) → PlanGiven g q i c1 c' result → NodeGiven g q i c c' result
    given result h =
        let a = subst (λ (z : Context). PlanGiven g q i z c' result) frame h in
        record {
          keeps = if_ok_mono result _ _ (λ b k. record { root = k.root; in_progress = k.in_progress; assumptions = k.assumptions; marking = k.marking }) a.keeps;
          counts = a.counts;
          says = a.says;
          meets = a.meets;
          stays = a.stays;
          works = if_ok_mono result _ _ (λ b spends. asks_then c.work c1.work c'.work asks spends) a.works;
        }
