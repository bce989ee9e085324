-- A keyword's child one step below, if errors are wanted: what its edge may be asked there, and the
-- reply of the child, given that of the edge.
use Rattle.std.proofs.Common.{◌≡◌, ◌∙◌, ◌≤◌, ◌++◌, ◌∷◌, ℕ, Bool, List, Result, Some, [], ap, subst, sym}
use Rattle.theory_definitions.specs.Guarded.{Children, NodeEdge, node_child}
use Rattle.theory_definitions.specs.Instance.{Place, Step, Subject, after_step}
use Rattle.theory_definitions.specs.Keywords.{Question as ChildQuestion, down, here}
use Rattle.theory_meaning.specs.Numbered.{left}
use Rattle.serde_json.specs.View.{view}
use Rattle.schema_traits.specs.declared.keyword.Reply as code
use Rattle.schema_traits.specs.declared.keyword.Reply.TheVariants as told
use Rattle.schema_traits.proofs.Replies.{if_ok_always, if_ok_mono}
use Rattle.schema_run_context.specs.Progress.{Context, NoDeeper, busy_at}
use Rattle.schema_run_context.specs.Works.{Spends}
use Rattle.schema_run_context.proofs.Pairs.{busy-below, deeper-below}
use Rattle.schema_run_steps.specs.Askings.{Asking}
use Rattle.schema_run_steps.specs.NodeRuns.{EdgeReplies, HasChildren, edge_needs}
use Rattle.schema_run_steps.proofs.NodeRuns.{child_below, child_here, falls_below, falls_here}
use Rattle.theory_runs.specs.Answered.{Answered, Replied, RepliedQuietly}
use Rattle.theory_runs.specs.NodeMeets.{EdgeMeets}
use Rattle.theory_runs.specs.Visits.{LeadsNowhere}
use Rattle.theory_runs.specs.RunStates.{ChildSays, EdgeSays, MayRun, MeetsChild, MeetsEdge, Setting, StaysRight, busy, settled_by}
use Rattle.theory_runs.proofs.NodeMeets.{meets_below, meets_here}
use Rattle.theory_runs.proofs.Placing.{stands_below}
use Rattle.theory_runs.proofs.RightVerdicts.{laid_below}

module _ {K R : Type 0} (g : Setting K R) (q : Asking) (i : ℕ) (es : Children) (k : ChildQuestion) (e : NodeEdge) (step : Step) (inner : Subject) (lower : Place) (c : Context)
    (may : MayRun g q c i) (has : HasChildren g.nodes i es) (child : node_child es k.child ≡ Some e) (after : after_step step q.subject ≡ Some inner) (lies : lower ≡ q.place ++ step ∷ []) where
  -- The question there.
  abbrev pub there : Asking
  there = record q { subject = inner; place = lower }

  none_busy : busy_at lower c.in_progress ≡ []
  none_busy = ap (λ (p : Place). busy_at p c.in_progress) lies ∙ busy-below q.place step c.in_progress may.above

  falls : edge_needs g.nodes g.count e inner [] ≤ left g.nodes g.count i q.subject (busy g q c)
  falls = falls_below g.words g.is_whole g.nodes g.count (settled_by g q c) may.ranked i q.subject inner step (busy g q c) e may.known (has k.child e child) after

  pub needs_below : edge_needs g.nodes g.count e inner (busy_at lower c.in_progress) ≤ left g.nodes g.count i q.subject (busy g q c)
  needs_below = subst (λ (taken : List ℕ). edge_needs g.nodes g.count e inner taken ≤ left g.nodes g.count i q.subject (busy g q c)) (sym none_busy) falls

  pub may_below : MayRun g there c e.node
  may_below =
      let (layout, laid, right) = may.goes_on in
      record {
        known = (may.ranked i may.known e (has k.child e child)).0;
        ranked = may.ranked;
        above = subst (λ (p : Place). NoDeeper p c.in_progress) (sym lies) (deeper-below q.place step c.in_progress may.above);
        wanted = may.wanted;
        stands = stands_below (view c.root) q.place q.subject inner step lower may.stands lies after;
        goes_on = (layout, laid_below layout q.place q.subject inner step lower laid lies after, right);
      }

  -- At a place below, the child is asked one step down.
  module _ (below : k.below ≡ down step) where
    pub says_below : (r : code.Reply) → EdgeSays g there c e r → ChildSays g q c i es k r
    says_below r says = child_below g.words g.is_whole g.nodes g.count (settled_by g q c) q.mode q.path q.place (busy g q c) q.subject i es k r e step lower inner child below lies after falls
        (subst (λ (taken : List ℕ). EdgeReplies g.words g.is_whole g.nodes g.count (settled_by g q c) q.mode q.path lower taken inner e r) none_busy says)

    pub meets_there : (c' : Context) → MeetsEdge g there c c' e → MeetsChild g q c c' i es k
    meets_there c' met = meets_below g.words g.is_whole g.nodes g.count (settled_by g q c) q.mode q.path q.place (busy g q c) q.subject i es k c.remembered c'.remembered e step lower inner child below lies after falls
        (subst (λ (taken : List ℕ). EdgeMeets g.words g.is_whole g.nodes g.count (settled_by g q c) q.mode q.path lower taken inner c.remembered c'.remembered e) none_busy met)

    pub stays_there : (c' : Context) → StaysRight g there c c' → StaysRight g q c c'
    stays_there c' stays layout laid right = stays layout (laid_below layout q.place q.subject inner step lower laid lies after) right

    pub answered_below : {E Counts : Type 0} {Remembers : Bool → Type 0} (c' : Context) (result : Result Bool E)
        → Answered g there c c' result Counts (λ b. EdgeSays g there c e (told.Truth b)) (MeetsEdge g there c c' e) Remembers (Spends c.work c'.work)
        → Answered g q c c' result (LeadsNowhere es → c'.visits ≡ c.visits) (λ b. ChildSays g q c i es k (told.Truth b)) (MeetsChild g q c c' i es k) (λ b. Unit {0}) (Spends c.work c'.work)
    answered_below c' result h = record {
      keeps = h.keeps;
      counts = h.counts;
      visits = if_ok_always result _ (λ nowhere. absurd (nowhere k.child e child));
      says = if_ok_mono result _ _ (λ b says. says_below (told.Truth b) says) h.says;
      meets = if_ok_mono result _ _ (λ b met. meets_there c' met) h.meets;
      stays = if_ok_mono result _ _ (λ b stays. stays_there c' stays) h.stays;
      remembers = if_ok_always result _ tt;
      works = h.works;
    }

    pub replied_below : {E : Type 0} (c' : Context) (result : Result code.Reply E) → Replied g there c c' result (EdgeSays g there c e) (MeetsEdge g there c c' e) (Spends c.work c'.work)
        → RepliedQuietly g q c c' result es (ChildSays g q c i es k) (MeetsChild g q c c' i es k)
    replied_below c' result h = record {
      keeps = h.keeps;
      counts = h.counts;
      works = h.works;
      quiet = if_ok_always result _ (λ nowhere. absurd (nowhere k.child e child));
      says = if_ok_mono result _ _ says_below h.says;
      meets = if_ok_mono result _ _ (λ r met. meets_there c' met) h.meets;
      stays = if_ok_mono result _ _ (λ r stays. stays_there c' stays) h.stays;
    }

-- ---- and at the keyword's own place

module _ {K R : Type 0} (g : Setting K R) (q : Asking) (i : ℕ) (es : Children) (k : ChildQuestion) (e : NodeEdge) (c : Context) (may : MayRun g q c i) (has : HasChildren g.nodes i es) (child : node_child es k.child ≡ Some e) where
  pub needs_here : edge_needs g.nodes g.count e q.subject (busy g q c) ≤ left g.nodes g.count i q.subject (busy g q c)
  needs_here = falls_here g.words g.is_whole g.nodes g.count (settled_by g q c) may.ranked i q.subject (busy g q c) e may.known (has k.child e child)

  pub may_here : MayRun g q c e.node
  may_here = record { known = (may.ranked i may.known e (has k.child e child)).0; ranked = may.ranked; above = may.above; wanted = may.wanted; stands = may.stands; goes_on = may.goes_on }

  pub answered_here : {E Counts : Type 0} {Remembers : Bool → Type 0} (c' : Context) (result : Result Bool E) → k.below ≡ here
      → Answered g q c c' result Counts (λ b. EdgeSays g q c e (told.Truth b)) (MeetsEdge g q c c' e) Remembers (Spends c.work c'.work)
      → Answered g q c c' result (LeadsNowhere es → c'.visits ≡ c.visits) (λ b. ChildSays g q c i es k (told.Truth b)) (MeetsChild g q c c' i es k) (λ b. Unit {0}) (Spends c.work c'.work)
  answered_here c' result below h = record {
    keeps = h.keeps;
    counts = h.counts;
    visits = if_ok_always result _ (λ nowhere. absurd (nowhere k.child e child));
    says = if_ok_mono result _ _ (λ b says. child_here g.words g.is_whole g.nodes g.count (settled_by g q c) q.mode q.path q.place (busy g q c) q.subject i es k (told.Truth b) e child below needs_here says) h.says;
    meets = if_ok_mono result _ _ (λ b met. meets_here g.words g.is_whole g.nodes g.count (settled_by g q c) q.mode q.path q.place (busy g q c) q.subject i es k c.remembered c'.remembered e child below needs_here met) h.meets;
    stays = h.stays;
    remembers = if_ok_always result _ tt;
    works = h.works;
  }
