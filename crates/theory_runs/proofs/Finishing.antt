-- If the matcher finishes every match, no run meets an unfinished one. So a verdict may be asked
-- for before errors are, without a change in what is met, and if the verdict is yes there are no
-- errors.
use Rattle.std.proofs.Common.{◌≡◌, ◌∙◌, ◌==◌, ◌∷◌, ◌++◌, ℕ, Bool, true, List, [], refl, sym, ap}
use Rattle.std.specs.Prelude.{All, ◌↔◌}
use Rattle.std.specs.List.{list_any}
use Rattle.std.proofs.lemmas.List.Elements.{All-head}
use Rattle.theory_definitions.specs.Instance.{Place, Subject, Text}
use Rattle.theory_definitions.specs.Keywords.{Answers, Below, Keywords, Mode, Question, for_verdict, here}
use Rattle.theory_definitions.specs.Laws.{Agrees}
use Rattle.theory_definitions.specs.Matching.{Assumptions, Matcher, Matching}
use Rattle.theory_definitions.specs.Meaning.{place_below}
use Rattle.theory_definitions.specs.Reports.{Outcome, accepted, spans_nothing}
use Rattle.theory_definitions.specs.Runs.{Met, Run, no_run}
use Rattle.theory_definitions.specs.Guarded.{Children, NodeEdge, NodeForm, Nodes, across, guarded_node, guarded_within, node_asked, node_child, node_part_met, progress_below, yes_run}
use Rattle.theory_meaning.specs.Members.{IsUnfinished}
use Rattle.theory_meaning.specs.Numbered.{subject_in}
use Rattle.theory_meaning.proofs.Finishing.{RunMeets, child_meets, form_meets, within_meets, yes_meets}
use Rattle.theory_meaning.proofs.PlanMet.{either_has}
use Rattle.schema_traits.specs.FaultViews.{errors_in}
use Rattle.schema_traits.specs.KeywordViews.{reply_of}
use Rattle.schema_traits.specs.MatcherViews.{FinishesEach}
use Rattle.schema_traits.specs.declared.keyword.Reply as code
use Rattle.schema_traits.specs.declared.keyword.Reply.TheVariants as told
use Rattle.schema_run_context.specs.Matches.{settling}
use Rattle.schema_run_context.specs.Progress.{Context, busy_at}
use Rattle.schema_run_context.proofs.Matches.{meets_append, meets_same, moved}
use Rattle.schema_run_steps.specs.Askings.{Asking}
use Rattle.schema_run_steps.specs.NodeRuns.{deep, edge_says}
use Rattle.schema_run_steps.specs.ReplyModes.{accepts, reply_by}
use Rattle.schema_run_steps.proofs.NodeRuns.{agrees_deep, agrees_edge, replies_accepted}
use Rattle.theory_runs.specs.NodeMeets.{EdgeMeets}
use Rattle.theory_runs.specs.RunStates.{EdgeSays, Keeps, MeetsEdge, Setting, busy}

module _ (matcher : Matcher) (finishes : FinishesEach matcher) where
  -- No match is unfinished.
  none_met : (ms : List Met) → All (IsUnfinished matcher) ms → ms ≡ []
  none_met [] h = refl
  none_met (m ∷ ms) h = let (reason, left) = All-head (IsUnfinished matcher) m ms h in absurd (finishes m.pair.pattern m.pair.subject reason left)

  -- ---- numbered nodes

  module _ {K R : Type 0} (keywords : Keywords K R) (nodes : Nodes K) (subject_of : Place → Subject) (as' : Assumptions) where
    abbrev RunsWithin : ℕ → ℕ → Text → Place → List ℕ → Run
    RunsWithin = guarded_within (yes_run nodes) (guarded_node keywords matcher nodes subject_of as')

    abbrev RunsAcross : ℕ → Text → Place → List ℕ → NodeEdge → Below → Run
    RunsAcross n = across (yes_run nodes) (guarded_node keywords matcher nodes subject_of as') (RunsWithin n)

    across_meets : (n : ℕ) (path : Text) (p : Place) (taken : List ℕ) (e : NodeEdge) (b : Below) → RunMeets matcher (RunsAcross n path p taken e b)
    across_meets n path p taken e b = either_has (IsUnfinished matcher) e.guarded
        (either_has (IsUnfinished matcher) (list_any (λ j. j == e.node) (progress_below taken b)) (yes_meets matcher keywords nodes subject_of as' e.node (path ++ e.path) (place_below p b)) (within_meets matcher keywords nodes subject_of as' n e.node (path ++ e.path) (place_below p b) (e.node ∷ progress_below taken b)))
        (within_meets matcher keywords nodes subject_of as' n e.node (path ++ e.path) (place_below p b) (progress_below taken b))

    -- Across an edge, with questions of a bounded depth.
    pub edge_meets_none : (n : ℕ) (path : Text) (p : Place) (taken : List ℕ) (e : NodeEdge) (mode : Mode)
        → (across (yes_run nodes) (guarded_node keywords matcher nodes subject_of as') (guarded_within (yes_run nodes) (guarded_node keywords matcher nodes subject_of as') n) path p taken e here).met mode ≡ []
    edge_meets_none n path p taken e mode = none_met ((RunsAcross n path p taken e here).met mode) ((across_meets n path p taken e here).each mode)

    -- Of a keyword's child, and of a keyword or reference.
    pub child_meets_none : (n : ℕ) (path : Text) (p : Place) (taken : List ℕ) (es : Children) (k : Question) (mode : Mode)
        → (node_asked keywords matcher nodes subject_of no_run es (across (yes_run nodes) (guarded_node keywords matcher nodes subject_of as') (guarded_within (yes_run nodes) (guarded_node keywords matcher nodes subject_of as') n) path p taken) k).met mode ≡ []
    child_meets_none n path p taken es k mode = none_met _ ((child_meets matcher keywords nodes subject_of as' 0 path p (RunsAcross n path p taken) (λ e b. across_meets n path p taken e b) (node_child es k.child) k.below).each mode)

    pub form_meets_none : (n i : ℕ) (path : Text) (p : Place) (taken : List ℕ) (name : Text) (form : NodeForm K) (mode : Mode)
        → node_part_met keywords matcher nodes subject_of as' i path p (across (yes_run nodes) (guarded_node keywords matcher nodes subject_of as') (guarded_within (yes_run nodes) (guarded_node keywords matcher nodes subject_of as') n) path p taken) spans_nothing name form mode ≡ []
    form_meets_none n i path p taken name form mode = none_met _ (form_meets matcher keywords nodes subject_of as' i path p (RunsAcross n path p taken) (λ e b. across_meets n path p taken e b) spans_nothing name form mode)

-- ---- an edge that is first asked for its verdict

module _ {K R : Type 0} (g : Setting K R) (q : Asking) (e : NodeEdge) where
  abbrev verdict_first : Asking
  verdict_first = record q { mode = for_verdict }

  module _ (finishes : FinishesEach g.matcher) where
    -- The run for the verdict meets the same matches as the run for errors.
    pub verdict_meets : (c c' : Context) → MeetsEdge g verdict_first c c' e → MeetsEdge g q c c' e
    verdict_meets c c' met texts root depth reads l =
        let none = edge_meets_none g.matcher finishes (g.words texts) g.nodes (subject_in root) c.remembered.assumptions depth q.path q.place (busy g q c) e in
        meets_same g.matcher c.remembered c'.remembered _ _ (none for_verdict ∙ sym (none q.mode)) (met texts root depth reads l)

    -- After it the run for errors meets the same matches as without it.
    pub meets_after : (c c1 c2 : Context) → Keeps c c1 → MeetsEdge g verdict_first c c1 e → MeetsEdge g q c1 c2 e → MeetsEdge g q c c2 e
    meets_after c c1 c2 keeps first second texts root depth reads l =
        let none = edge_meets_none g.matcher finishes (g.words texts) g.nodes (subject_in root) c.remembered.assumptions depth q.path q.place (busy g q c) e in
        let more = moved (λ es as'. EdgeMeets g.words g.is_whole g.nodes g.count (settling g.matcher as') q.mode q.path q.place (busy_at q.place es) q.subject c1.remembered c2.remembered e) keeps.in_progress keeps.assumptions second texts root depth reads l in
        meets_append g.matcher [] _ c.remembered c1.remembered c2.remembered (meets_same g.matcher c.remembered c1.remembered _ _ (none for_verdict) (first texts root depth reads l)) more

  -- A yes has no errors.
  module _ (agree : (texts : Bool) (m : K) (s : Subject) (matches : Matching) (a : Answers) → ((k : Question) → Agrees (a k)) → ((g.words texts).holds m s matches (λ k. (a k).verdict) ≡ true) ↔ ((g.words texts).faults m s matches a ≡ [])) where
    pub edge_accepts : (c : Context) (b : Bool) (r : code.Reply) → b ≡ true → EdgeSays g verdict_first c e (told.Truth b) → ((texts : Bool) → reply_of texts r ≡ reply_by q.mode accepted) → errors_in r ≡ [] → EdgeSays g q c e r
    edge_accepts c b r is says accepts_it no_errors x reads l =
        let o : Outcome = edge_says g.words g.nodes x q.path q.place (busy g q c) e here in
        let yes : o.verdict ≡ true = ap accepts (sym (says x reads l).same) ∙ is in
        let none : o.errors ≡ [] = (agrees_edge g.words g.nodes agree x (deep g.words g.nodes x) (agrees_deep g.words g.nodes agree x x.depth) q.path q.place (busy g q c) e here).0 yes in
        replies_accepted x q.mode r o accepts_it no_errors yes none
