-- A number from which no guarded edge is reached says and meets the same whatever is in progress at
-- its place, so a verdict that it said there may be read again.
use Rattle.std.proofs.Common.{◌≡◌, ◌∙◌, ◌+◌, ◌<◌, ◌==◌, ◌∷◌, ℕ, zero, suc, Bool, true, false, List, [], refl, sym, ap, subst, arith, true≢false}
use Rattle.std.specs.Prelude.{Contains, Option, Some}
use Rattle.std.specs.List.{list_any}
use Rattle.serde_json.specs.Data.{Data}
use Rattle.theory_definitions.specs.Instance.{Place, Subject, Text}
use Rattle.theory_definitions.specs.Keywords.{Below, Keywords, Mode, for_verdict}
use Rattle.theory_definitions.specs.Laws.{EachKeeps}
use Rattle.theory_definitions.specs.Matching.{Assumptions}
use Rattle.theory_definitions.specs.Remembering.{EachAsksVerdicts}
use Rattle.theory_definitions.specs.Runs.{Run}
use Rattle.theory_definitions.specs.Unfinished.{Remembered}
use Rattle.theory_definitions.specs.Guarded.{NodeEdge, NodeForm, NodePart, NodePlan, Nodes, form_edges, guarded_within, node_always, node_edges, node_keyword, node_never, node_reference, node_these, progress_below, yes_outcome, yes_run}
use Rattle.theory_meaning.specs.Numbered.{Ranked, left, subject_in}
use Rattle.theory_meaning.proofs.NodeRuns.{run_local}
use Rattle.theory_meaning.proofs.Questions.{in_flat_map}
use Rattle.theory_meaning.proofs.Reading.{reads_of}
use Rattle.theory_meaning.proofs.Settles.{NodeAsks, node_local, settles}
use Rattle.schema_traits.specs.declared.keyword.Reply as code
use Rattle.schema_traits.specs.declared.keyword.Reply.TheVariants as told
use Rattle.schema_run_context.specs.Matches.{MeetsEach, Settling, settling}
use Rattle.schema_run_context.specs.Progress.{Context, Pairs, Verdicts, busy_at}
use Rattle.schema_run_context.specs.Verdicts.{Remembers, verdict_of}
use Rattle.schema_node_table.specs.ClosedNumbers.{AreClosed, ReachesNoGuard}
use Rattle.schema_run_steps.specs.Askings.{Asking}
use Rattle.schema_run_steps.specs.ReplyModes.{reply_by}
use Rattle.schema_run_steps.specs.NodeRuns.{NodeReplies, Replies, deep, node_says}
use Rattle.schema_run_steps.proofs.NodeRuns.{free_case, stands_in}
use Rattle.theory_runs.specs.NodeMeets.{NodeMeets, deep_run, node_run}
use Rattle.theory_runs.specs.RightVerdicts.{AreRight, IsRightVerdict}
use Rattle.theory_runs.specs.RunStates.{GoesOn, Keeps, MeetsNode, NodeSays, Setting, StaysRight}
use Rattle.theory_runs.specs.Visits.{EdgeTakes, FormTakes, NodeCounts, PlanTakes, TakesAcross, more_visits}
use Rattle.theory_runs.proofs.RightVerdicts.{computed_right, read_meets, read_replies, right_kept}

-- The edges of each number.
abbrev pub edges_of : {K : Type 0} → Nodes K → ℕ → List NodeEdge
edges_of nodes j = node_edges (nodes.entries j)

at_least : (a d : ℕ) → a < suc (a + d)
at_least a d = omega arith

further : (a b d : ℕ) → b < d → b < suc (a + d)
further a b d low = omega (arith, low)

-- ---- whatever is in progress

module _ {K : Type 0} (instance : Data) (nodes : Nodes K) (closed : ℕ → Bool) (are : AreClosed (edges_of nodes) closed) {X : Type 0} (yes : ℕ → Text → Place → X)
    (node : ℕ → Text → Place → (NodeEdge → Below → X) → X)
    (local : (i : ℕ) (path : Text) (p : Place) (f g : NodeEdge → Below → X) → ((e : NodeEdge) (b : Below) → NodeAsks instance nodes i p e b → f e b ≡ g e b) → node i path p f ≡ node i path p g) where
  pub same_busy : (n i : ℕ) (path : Text) (p : Place) (busy busy' : List ℕ) → closed i ≡ true → guarded_within yes node n i path p busy ≡ guarded_within yes node n i path p busy'
  same_busy zero i path p busy busy' is = refl
  same_busy (suc n) i path p busy busy' is = local i path p _ _ (λ e b asks.
      let at = are i is e asks.edge in
      free_case e.guarded (list_any (λ j. j == e.node) (progress_below busy b)) _ _ _ at.0
      ∙ same_busy n e.node _ _ (progress_below busy b) (progress_below busy' b) at.1
      ∙ sym (free_case e.guarded (list_any (λ j. j == e.node) (progress_below busy' b)) _ _ _ at.0))

module _ {K R : Type 0} (words : Bool → Keywords K R) (laws : (texts : Bool) → EachKeeps (words texts)) (is_whole : K → Bool) (nodes : Nodes K) (count : ℕ) (ranked : Ranked nodes count)
    (w : Settling) (mode : Mode) (path : Text) (p : Place) (s : Subject) (i : ℕ) (known : i < count) (free : ReachesNoGuard (edges_of nodes) i) where
  -- A sufficient depth, whichever of two lists is in progress.
  enough : (d : ℕ) (root : Data) (busy : List ℕ) → subject_in root p ≡ s → left nodes count i s busy < d → left nodes count i (subject_in root p) busy < d
  enough d root busy there low = subst (λ (t : Subject). left nodes count i t busy < d) (sym there) low

  pub replies_whatever : (busy busy' : List ℕ) (r : code.Reply) → NodeReplies words is_whole nodes count w mode path p busy s i r → NodeReplies words is_whole nodes count w mode path p busy' s i r
  replies_whatever busy busy' r says x reads low =
      let d : ℕ = suc (left nodes count i s busy + x.depth) in
      let there = stands_in x.root p s reads.stands in
      let local = node_local (words x.texts) x.matcher x.root nodes (reads_of (words x.texts) (laws x.texts)) x.completion in
      let said : Replies x mode r (guarded_within yes_outcome (node_says words nodes x) d i path p busy)
      = (let h = says (record x { depth = d }) (record { stands = reads.stands; tells = reads.tells; matcher = reads.matcher; completes = reads.completes }) (at_least (left nodes count i s busy) x.depth) in record { same = h.same; borrows = h.borrows }) in
      let same : guarded_within yes_outcome (node_says words nodes x) d i path p busy ≡ deep words nodes x i path p busy'
      = same_busy x.root nodes free.0 free.1 yes_outcome (node_says words nodes x) local d i path p busy busy' free.2
      ∙ settles x.root nodes count ranked yes_outcome (node_says words nodes x) local d x.depth i path p busy' known (enough d x.root busy' there (further (left nodes count i s busy) (left nodes count i s busy') x.depth low)) (enough x.depth x.root busy' there low) in
      record { same = said.same ∙ ap (reply_by mode) same; borrows = said.borrows }

  pub meets_whatever : (busy busy' : List ℕ) (old new : Remembered) → NodeMeets words is_whole nodes count w mode path p busy s old new i → NodeMeets words is_whole nodes count w mode path p busy' s old new i
  meets_whatever busy busy' old new meets texts root depth reads low =
      let d : ℕ = suc (left nodes count i s busy + depth) in
      let there = stands_in root p s reads.stands in
      let run = node_run words nodes w texts root d in
      let local = λ (j : ℕ) (path' : Text) (q : Place) (f g : NodeEdge → Below → Run) (h : (e : NodeEdge) (b : Below) → NodeAsks root nodes j q e b → f e b ≡ g e b). run_local (words texts) w.matcher root nodes (reads_of (words texts) (laws texts)) j path' q w.assumptions f g h in
      let met : MeetsEach w.matcher old ((guarded_within (yes_run nodes) run d i path p busy).met mode) new
      = meets texts root d (record { stands = reads.stands; tells = reads.tells; matcher = reads.matcher; completes = reads.completes }) (at_least (left nodes count i s busy) depth) in
      let same : guarded_within (yes_run nodes) run d i path p busy ≡ deep_run words nodes w texts root depth i path p busy'
      = same_busy root nodes free.0 free.1 (yes_run nodes) run local d i path p busy busy' free.2
      ∙ settles root nodes count ranked (yes_run nodes) run local d depth i path p busy' known (enough d root busy' there (further (left nodes count i s busy) (left nodes count i s busy') depth low)) (enough depth root busy' there low) in
      subst (λ (r : Run). MeetsEach w.matcher old (r.met mode) new) same met

-- ---- no visit is counted

module _ {K : Type 0} (nodes : Nodes K) (closed : ℕ → Bool) (are : AreClosed (edges_of nodes) closed) (p : Place) (vs : Verdicts) where
  first_edge : (e : NodeEdge) (xs : List (NodePart K)) (x : NodePart K) → x.form ≡ node_reference e → Contains (node_edges (node_these (x ∷ xs))) e
  first_edge e xs x is = in_flat_map (λ (y : NodePart K). form_edges y.form) (x ∷ xs) x e (zero, omega arith, refl) (subst (λ (form : NodeForm K). Contains (form_edges form) e) (sym is) (zero, omega arith, refl))

  across_none : (guarded busy : Bool) (read : Option Bool) (on entered : ℕ → Type 0) (n : ℕ) → guarded ≡ false → TakesAcross guarded busy read on entered n → on n
  across_none false busy read on entered n is takes = takes
  across_none true busy read on entered n is takes = absurd (true≢false is)

  plan_takes_none : (takes : NodeEdge → ℕ → Type 0) → ((e : NodeEdge) (n : ℕ) → (e.guarded ≡ false) × (closed e.node ≡ true) → takes e n → n ≡ 0)
      → (plan : NodePlan K) (i n : ℕ) → nodes.entries i ≡ plan → closed i ≡ true → PlanTakes takes plan n → n ≡ 0
  plan_takes_none takes none node_always i n plan is taken = taken
  plan_takes_none takes none node_never i n plan is taken = taken
  plan_takes_none takes none (node_these []) i n plan is taken = taken
  plan_takes_none takes none (node_these (x ∷ xs)) i n plan is taken = go x.form refl taken.0
    where
      go : (form : NodeForm K) → x.form ≡ form → FormTakes takes form n → n ≡ 0
      go (node_keyword m cs) form taken' = taken'.1
      go (node_reference e) form taken' = none e n (are i is e (subst (λ (o : NodePlan K). Contains (node_edges o) e) (sym plan) (first_edge e xs x form))) taken'

  none_taken : (depth : ℕ) (es : Pairs) (e : NodeEdge) (n : ℕ) → (e.guarded ≡ false) × (closed e.node ≡ true) → EdgeTakes nodes p vs depth es e n → n ≡ 0
  none_taken zero es e n at taken = absurd taken
  none_taken (suc depth) es e n at taken =
      plan_takes_none (EdgeTakes nodes p vs depth es) (none_taken depth es) (nodes.entries e.node) e.node n refl at.1 (across_none e.guarded _ _ _ _ n at.0 taken)

  pub node_takes_none : (depth : ℕ) (es : Pairs) (i n : ℕ) → closed i ≡ true → PlanTakes (EdgeTakes nodes p vs depth es) (nodes.entries i) n → n ≡ 0
  node_takes_none depth es i n is = plan_takes_none (EdgeTakes nodes p vs depth es) (none_taken depth es) (nodes.entries i) i n refl is

pub shared_counts : {K : Type 0} (nodes : Nodes K) (q : Asking) (c c' : Context) (i : ℕ) → ReachesNoGuard (edges_of nodes) i → c'.visits ≡ c.visits → NodeCounts nodes q c c' i
shared_counts nodes q c c' i free same mode depth n takes =
    same ∙ ap (λ (k : ℕ). more_visits k c.visits) (sym (node_takes_none nodes free.0 free.1 q.place c.verdicts depth c.in_progress i n free.2 takes))

-- ---- a verdict that is read, and one that is kept

module _ {K R : Type 0} (g : Setting K R) (laws : (texts : Bool) → EachKeeps (g.words texts)) (q : Asking) (wanted : q.mode ≡ for_verdict) (c : Context) (i : ℕ)
    (known : i < g.count) (ranked : Ranked g.nodes g.count) (free : ReachesNoGuard (edges_of g.nodes) i) where
  abbrev Says : List ℕ → Mode → Bool → Type 0
  Says busy mode v = NodeReplies g.words g.is_whole g.nodes g.count (settling g.matcher c.remembered.assumptions) mode q.path q.place busy q.subject i (told.Truth v)

  abbrev Meets : List ℕ → Mode → Remembered → Remembered → Type 0
  Meets busy mode old new = NodeMeets g.words g.is_whole g.nodes g.count (settling g.matcher c.remembered.assumptions) mode q.path q.place busy q.subject old new i

  module _ (goes_on : GoesOn g q c) (v : Bool) (found : verdict_of i q.place c.verdicts ≡ Some v) where
    its_right : IsRightVerdict g.words g.is_whole g.nodes g.count g.matcher c.remembered.assumptions c.remembered i q.place q.subject v
    its_right = let (layout, laid, right) = goes_on in
        subst (λ (z : Subject). IsRightVerdict g.words g.is_whole g.nodes g.count g.matcher c.remembered.assumptions c.remembered i q.place z v) laid.here (right i q.place v found)

    pub read_again : NodeSays g q c i (told.Truth v)
    read_again = replies_whatever g.words laws g.is_whole g.nodes g.count ranked (settling g.matcher c.remembered.assumptions) q.mode q.path q.place q.subject i known free (i ∷ []) (busy_at q.place c.in_progress) (told.Truth v)
        (subst (λ (m : Mode). Says (i ∷ []) m v) (sym wanted) (read_replies g.words g.is_whole g.nodes g.count g.matcher c.remembered.assumptions c.remembered i q.place q.subject v its_right q.path (told.Truth v) (λ texts. refl) refl))

    pub meets_again : (c' : Context) → c'.remembered ≡ c.remembered → MeetsNode g q c c' i
    meets_again c' met = meets_whatever g.words laws g.is_whole g.nodes g.count ranked (settling g.matcher c.remembered.assumptions) q.mode q.path q.place q.subject i known free (i ∷ []) (busy_at q.place c.in_progress) c.remembered c'.remembered
        (subst (λ (m : Mode). Meets (i ∷ []) m c.remembered c'.remembered) (sym wanted) (subst (Meets (i ∷ []) for_verdict c.remembered) (sym met)
        (read_meets g.words g.is_whole g.nodes g.count g.matcher c.remembered.assumptions c.remembered i q.place q.subject v its_right q.path)))

  -- The node was run, and its verdict is remembered.
  module _ (c2 c3 : Context) (v : Bool) (says : NodeSays g q c i (told.Truth v)) (meets : MeetsNode g q c c2 i) (keeps : Keeps c c2) (stays : StaysRight g q c c2)
      (asks : (texts : Bool) → EachAsksVerdicts (g.words texts)) (kept : Remembers i q.place v c2.verdicts c3.verdicts) (met : c3.remembered ≡ c2.remembered) where
    its_kept : IsRightVerdict g.words g.is_whole g.nodes g.count g.matcher c2.remembered.assumptions c2.remembered i q.place q.subject v
    its_kept =
        let says' = replies_whatever g.words laws g.is_whole g.nodes g.count ranked (settling g.matcher c.remembered.assumptions) q.mode q.path q.place q.subject i known free (busy_at q.place c.in_progress) (i ∷ []) (told.Truth v) says in
        let meets' = meets_whatever g.words laws g.is_whole g.nodes g.count ranked (settling g.matcher c.remembered.assumptions) q.mode q.path q.place q.subject i known free (busy_at q.place c.in_progress) (i ∷ []) c.remembered c2.remembered meets in
        let right = computed_right g.words g.is_whole g.nodes g.count g.matcher asks c.remembered.assumptions c.remembered c2.remembered i q.place q.subject q.path (told.Truth v) v (λ texts. refl)
        (subst (λ (m : Mode). Says (i ∷ []) m v) wanted says') (subst (λ (m : Mode). Meets (i ∷ []) m c.remembered c2.remembered) wanted meets') in
        subst (λ (z : Assumptions). IsRightVerdict g.words g.is_whole g.nodes g.count g.matcher z c2.remembered i q.place q.subject v) (sym keeps.assumptions) right

    pub stays_kept : StaysRight g q c c3
    stays_kept layout laid right =
        let right2 = stays layout laid right in
        let right3 = right_kept g.words g.is_whole g.nodes g.count g.matcher c2.remembered.assumptions c2.remembered layout c2.verdicts c3.verdicts i q.place v kept
        (subst (λ (z : Subject). IsRightVerdict g.words g.is_whole g.nodes g.count g.matcher c2.remembered.assumptions c2.remembered i q.place z v) (sym laid.here) its_kept) right2 in
        subst (λ (r : Remembered). AreRight g.words g.is_whole g.nodes g.count g.matcher r.assumptions r layout c3.verdicts) (sym met) right3
