-- The questions of the functions in a solver's cycle, their effect on the context, and their
-- answers.
use Rattle.std.specs.List.{list_any}
use Rattle.std.specs.Prelude.{All, Bool, Contains, List, None, Option, Some, [], false, length, not, suc, true, ℕ, ◌++◌, ◌<◌, ◌==◌, ◌||◌, ◌≡◌, ◌≤◌}
use Rattle.serde_json.specs.Data.{Data}
use Rattle.serde_json.specs.View.{view}
use Rattle.serde_json.specs.declared.value.Value.{Value}
use Rattle.theory_definitions.specs.Instance.{Place, Subject, Text, same_place, subject_at}
use Rattle.theory_definitions.specs.Keywords.{Keywords}
use Rattle.theory_definitions.specs.Matching.{Matcher, completion_of}
use Rattle.theory_definitions.specs.Guarded.{NodeEdge, Nodes, guarded_within, node_edges, node_outcome, yes_outcome}
use Rattle.theory_meaning.specs.Fractions.{node_words}
use Rattle.theory_meaning.specs.Numbered.{Ranked, left, subject_in}
use Rattle.theory_fixed_points.specs.NodesSay.{AreMonotone}
use Rattle.schema_traits.specs.MatcherViews.{FinishesEach}
use Rattle.schema_run_context.specs.Progress.{NoDeeper, Pairs, root_places}
use Rattle.schema_run_context.specs.Verdicts.{verdict_of}
use Rattle.schema_run_steps.specs.NodeRuns.{TellsAll}
use Rattle.theory_fixed_points.specs.Under.{Solving}
use Rattle.theory_fixed_points.specs.Found.{Grows, IsSound, SaysUnder}
use Rattle.theory_fixed_points.specs.Stages.{IsStaged}
use Rattle.theory_fixed_points.specs.Work.{EachOnce, IsBoundedBy, IsCounted, pairs_of}
use Rattle.schema_solver_state.specs.Contexts.{Solver, found_of, has_pair, solver_places}

-- the parts of a solver: the keywords as they are read, the numbered nodes, how many there are,
-- which of them are inlined, the matcher, and how many pairs it may begin, if there is a limit
pub record Setting (K R : Type 0) : Type 0 where
  pub words : Bool → Keywords K R
  pub is_whole : K → Bool
  pub nodes : Nodes K
  pub count : ℕ
  pub is_followed : ℕ → Bool
  pub matcher : Matcher
  pub most : Option ℕ

-- an edge whose pair is looked up in the context: it is guarded, or leads to a number that is not
-- inlined
abbrev pub is_cut : (ℕ → Bool) → NodeEdge → Bool
is_cut is_followed e = e.guarded || not (is_followed e.node)

-- each keyword of these numbers says of itself that it is monotone
abbrev pub EachSays : {S : Type 0} → (S → Bool) → Nodes S → ℕ → Type 0
EachSays says nodes count = (i : ℕ) → i < count → All (λ m. says m ≡ true) (node_words (nodes.entries i))

module _ {K R : Type 0} (g : Setting K R) where
  -- what is solved in a reading of texts; no match stays unfinished, so one outcome is as good as
  -- another
  abbrev pub solving_in : Data → Bool → Solving K R
  solving_in root texts = record {
    keywords = g.words texts;
    matcher = g.matcher;
    nodes = g.nodes;
    count = g.count;
    instance = root;
    completion = completion_of [];
    cut = is_cut g.is_followed;
  }

  -- a fact in each reading
  abbrev pub InEach : Data → (Bool → Solving K R → Type 0) → Type 0
  InEach root fact = (texts : Bool) → TellsAll texts root g.is_whole g.nodes g.count → fact texts (solving_in root texts)

  -- everything that a context holds was found in stages
  abbrev pub IsStagedIn : Solver → Type 0
  IsStagedIn c = InEach (view c.root) (λ texts w. IsStaged w (found_of c))

  -- if each keyword is monotone, everything in it is true of every set that supports itself
  abbrev pub IsSoundIn : Solver → Type 0
  IsSoundIn c = ((texts : Bool) → AreMonotone (g.words texts) g.nodes g.count) → InEach (view c.root) (λ texts w. IsSound w (found_of c))

  -- the list has each number that an edge leads to whose pair is looked up, and perhaps others
  abbrev pub HasEachCut : List ℕ → Type 0
  HasEachCut ns = (i : ℕ) → i < g.count → All (λ e. is_cut g.is_followed e ≡ true → list_any (λ n. e.node == n) ns ≡ true) (node_edges (g.nodes.entries i))

  -- if the count of begun pairs was within what the pairs may have cost before, it is so after
  abbrev pub StaysCounted : Solver → Solver → Type 0
  StaysCounted c c' = (ns : List ℕ) → HasEachCut ns → IsCounted (pairs_of ns (solver_places c)) (length ns) (found_of c) c.begun
      → IsCounted (pairs_of ns (solver_places c)) (length ns) (found_of c') c'.begun

  -- fewer pairs were begun than may be, if there is a limit
  abbrev pub HasRoom : Solver → Type 0
  HasRoom c = (most : ℕ) → g.most ≡ Some most → c.begun < most

  -- if no more pairs were begun than allowed before, no more are after
  abbrev pub StaysWithin : Solver → Solver → Type 0
  StaysWithin c c' = (most : ℕ) → g.most ≡ Some most → c.begun ≤ most → c'.begun ≤ most

  -- a limit is reached that is less than the bound on pairs: if the count is right, even one pair
  -- more than the limit is within the bound
  pub record IsLate (c : Solver) : Type 0 where
    pub most : ℕ
    pub limit : g.most ≡ Some most
    pub within_bound : (ns : List ℕ) → HasEachCut ns → IsCounted (pairs_of ns (solver_places c)) (length ns) (found_of c) c.begun → IsBoundedBy ns (solver_places c) (suc most)

  -- a number of the table may be evaluated for a subject at a place
  pub record MaySolve (c : Solver) (s : Subject) (p : Place) (i : ℕ) : Type 0 where
    pub known : i < g.count
    pub ranked : Ranked g.nodes g.count
    pub finishes : FinishesEach g.matcher
    pub above : NoDeeper p c.in_progress
    pub stands : subject_at (view c.root) p ≡ Some s
    pub sound : IsStagedIn c

  -- what is in progress stays so, only new pairs are assumed, known verdicts stay known, everything
  -- is still found in stages, the count is right, and it is within the limit
  pub record Goes (p : Place) (c c' : Solver) : Type 0 where
    pub root : c'.root ≡ c.root
    pub in_progress : c'.in_progress ≡ c.in_progress
    pub more : Pairs
    pub assumed : c'.assumed ≡ c.assumed ++ more
    pub apart : (i : ℕ) (q : Place) → has_pair more i q ≡ true → has_pair c.assumed i q ≡ false
    pub grew : Grows p (found_of c) (found_of c')
    pub sound : IsStagedIn c'
    pub counted : StaysCounted c c'
    pub within : StaysWithin c c'

-- ---- the steps of a pair

-- it is left, and no pair is begun
pub record Leaves (old end new : Solver) : Type 0 where
  pub root : new.root ≡ end.root
  pub in_progress : new.in_progress ≡ old.in_progress
  pub marking : new.marking ≡ end.marking
  pub begun : new.begun ≡ end.begun

-- nothing is known of the pair, it may begin, and the places of the instance are all different
pub record IsNew {K R : Type 0} (g : Setting K R) (c : Solver) (p : Place) (i : ℕ) : Type 0 where
  pub unknown : verdict_of i p c.verdicts ≡ None
  pub idle : has_pair c.in_progress i p ≡ false
  pub free : has_pair c.assumed i p ≡ false
  pub among : (ns : List ℕ) → HasEachCut g ns → list_any (λ n. i == n) ns ≡ true
  pub there : list_any (same_place p) (solver_places c) ≡ true
  pub once : EachOnce (solver_places c)

-- ---- what it says in the end

-- the verdict of a number of an instance at its root place: it is what the nodes say under guards
-- with no pair in progress, in each reading of texts, by any path and at every depth that is
-- enough, if no match stays unfinished
abbrev pub SaysAsNodes : {K R : Type 0} → Setting K R → Data → ℕ → Bool → Type 0
SaysAsNodes g root i b = InEach g root (λ texts w. (path : Text) (n : ℕ) → left g.nodes g.count i (subject_in root []) [] < n
    → (guarded_within yes_outcome (node_outcome w.keywords w.matcher w.nodes (subject_in root) w.completion) n i path [] []).verdict ≡ b)

-- each verdict that a context holds is what nodes say under guards with no pair in progress
abbrev pub HoldsAsNodes : {K R : Type 0} → Setting K R → Solver → Type 0
HoldsAsNodes g c = InEach g (view c.root) (λ texts w. (i : ℕ) (p : Place) (v : Bool) → verdict_of i p c.verdicts ≡ Some v
    → (path : Text) (n : ℕ) → left g.nodes g.count i (subject_in w.instance p) [] < n
    → (guarded_within yes_outcome (node_outcome w.keywords w.matcher w.nodes (subject_in w.instance) w.completion) n i path p []).verdict ≡ v)

-- the verdict of a number at the root place is what it says under each set that has all pairs that
-- the context accepts, and none that it refuses
abbrev pub RestsOnFound : {K R : Type 0} → Setting K R → Solver → ℕ → Bool → Type 0
RestsOnFound g c i b = InEach g (view c.root) (λ texts w. SaysUnder w (found_of c) i [] b)

-- at most that many pairs are begun: of the numbers whose pairs are looked up, and of the places
abbrev pub BeginsFew : {K R : Type 0} → Setting K R → Value → ℕ → Type 0
BeginsFew g v begun = (ns : List ℕ) → HasEachCut g ns → IsBoundedBy ns (root_places v) begun

-- a limit is less than the bound on pairs: even one pair more than the limit is within the bound
abbrev pub LimitWithinBound : {K R : Type 0} → Setting K R → Value → ℕ → Type 0
LimitWithinBound g v limit = BeginsFew g v (suc limit)

-- the edge is one of a number of the table
abbrev pub IsEdge : {K R : Type 0} → Setting K R → NodeEdge → Type 0
IsEdge g e = (i : ℕ) × (i < g.count) × Contains (node_edges (g.nodes.entries i)) e
