-- What is found by stages, each of which rests on those before it, and what follows from it.
-- Keywords need not be monotone.
use Rattle.std.specs.List.{list_all}
use Rattle.std.specs.Prelude.{Bool, List, None, Option, Some, false, true, ℕ, ◌&&◌, ◌<◌, ◌||◌, ◌≡◌}
use Rattle.theory_definitions.specs.Instance.{Place}
use Rattle.theory_definitions.specs.Keywords.{Below, Question}
use Rattle.theory_definitions.specs.Guarded.{Children, NodeEdge, NodeForm, NodePart, node_asked}
use Rattle.theory_meaning.specs.Numbered.{subject_in}
use Rattle.theory_fixed_points.specs.NodesSay.{form_holds}
use Rattle.theory_fixed_points.specs.Under.{AreAlike, EdgeAnswers, PairSet, Solving, across_by, under_by}
use Rattle.theory_fixed_points.specs.Found.{Found}

-- The pairs that count as yes provisionally: those in progress, and those that are assumed.
abbrev pub for_now : Found → PairSet
for_now f i p = f.busy i p || f.assumed i p

-- The answers agree with what is known; and if `leans` is set, they are yes for the pairs that
-- count as yes provisionally.
pub record Fits (f : Found) (leans : Bool) (answers : EdgeAnswers) : Type 0 where
  pub alike : AreAlike answers
  pub known : (e : NodeEdge) (p : Place) (v : Bool) → f.known e.node p ≡ Some v → answers e p ≡ v
  pub leaning : leans ≡ true → (e : NodeEdge) (p : Place) → for_now f e.node p ≡ true → answers e p ≡ true

-- The answers agree with what was known before a stage; and if `yes` is set, they are yes for the
-- pairs that got a yes in that stage.
pub record FitsStage (known : ℕ → Place → Option Bool) (stage : ℕ → Place → ℕ) (now : ℕ) (yes : Bool) (answers : EdgeAnswers) : Type 0 where
  pub alike : AreAlike answers
  pub before : (e : NodeEdge) (p : Place) (v : Bool) → known e.node p ≡ Some v → stage e.node p < now → answers e p ≡ v
  pub same : yes ≡ true → (e : NodeEdge) (p : Place) → known e.node p ≡ Some true → stage e.node p ≡ now → answers e p ≡ true

-- The stage in which each pair became known, each before the next stage, and what it rests on: a no
-- on what was known before, a yes also on the yeses of its own stage.
pub record Stages {K R : Type 0} (w : Solving K R) (known : ℕ → Place → Option Bool) : Type 0 where
  pub next : ℕ
  pub stage : ℕ → Place → ℕ
  pub before : (i : ℕ) (p : Place) (v : Bool) → known i p ≡ Some v → stage i p < next
  pub inside : (i : ℕ) (p : Place) (v : Bool) → known i p ≡ Some v → i < w.count
  pub rests : (i : ℕ) (p : Place) (v : Bool) → known i p ≡ Some v → (answers : EdgeAnswers) → FitsStage known stage (stage i p) v answers → under_by w answers i p ≡ v

-- The invariant of a solver. No pair has two of the states in progress, assumed and known. At the
-- place of each assumed pair some pair is in progress. Each assumed pair has a number of the table,
-- and says yes with all answers that are yes for the provisional pairs. What is known was found by
-- stages.
pub record IsStaged {K R : Type 0} (w : Solving K R) (f : Found) : Type 0 where
  pub apart : (i : ℕ) (p : Place) → for_now f i p ≡ true → f.known i p ≡ None
  pub once : (i : ℕ) (p : Place) → f.busy i p ≡ true → f.assumed i p ≡ false
  pub placed : (i : ℕ) (p : Place) → f.assumed i p ≡ true → (j : ℕ) × (f.busy j p ≡ true)
  pub within : (i : ℕ) (p : Place) → f.assumed i p ≡ true → i < w.count
  pub held : (i : ℕ) (p : Place) → f.assumed i p ≡ true → (answers : EdgeAnswers) → Fits f true answers → under_by w answers i p ≡ true
  pub stages : Stages w f.known

-- ---- what follows from what is found so far, and whether it depends on provisional answers; a no
-- never does

-- A number says b at a place. A yes may depend on provisional answers only if `leans` is set.
abbrev pub Tells : {K R : Type 0} → Solving K R → Found → ℕ → Place → Bool → Bool → Type 0
Tells w f i p b leans = (answers : EdgeAnswers) → Fits f (b && leans) answers → under_by w answers i p ≡ b

-- A pair says b, in the same sense, whichever edge leads to it.
abbrev pub PairTells : Found → ℕ → Place → Bool → Bool → Type 0
PairTells f i p b leans = (answers : EdgeAnswers) → Fits f (b && leans) answers → (e : NodeEdge) → e.node ≡ i → answers e p ≡ b

module _ {K R : Type 0} (w : Solving K R) (p : Place) where
  -- The answers of the edges of a number at a place.
  abbrev pub edges_by : EdgeAnswers → NodeEdge → Below → Bool
  edges_by answers = across_by w answers (under_by w answers) p

  -- The answers to the questions of a keyword; yes if the request obtained no edge.
  abbrev pub child_by : (NodeEdge → Below → Bool) → Children → Question → Bool
  child_by given es = node_asked w.keywords w.matcher w.nodes (subject_in w.instance) true es given

  -- Whether a keyword or a reference holds, given the answers of its edges.
  abbrev pub form_by : (NodeEdge → Below → Bool) → NodeForm K → Bool
  form_by given = form_holds w.keywords w.matcher w.nodes (subject_in w.instance) w.completion p given

  -- Whether all these parts hold.
  abbrev pub parts_by : EdgeAnswers → List (NodePart K) → Bool
  parts_by answers = list_all (λ x. form_by (edges_by answers) x.form)

  module _ (f : Found) where
    -- An edge says b, in the same sense.
    abbrev pub EdgeTells : NodeEdge → Below → Bool → Bool → Type 0
    EdgeTells e below b leans = (answers : EdgeAnswers) → Fits f (b && leans) answers → edges_by answers e below ≡ b

    -- A keyword or a reference says b, in the same sense.
    abbrev pub FormTells : NodeForm K → Bool → Bool → Type 0
    FormTells form b leans = (answers : EdgeAnswers) → Fits f (b && leans) answers → form_by (edges_by answers) form ≡ b

    -- All these parts together say b, in the same sense.
    abbrev pub PartsTell : List (NodePart K) → Bool → Bool → Type 0
    PartsTell xs b leans = (answers : EdgeAnswers) → Fits f (b && leans) answers → parts_by answers xs ≡ b

    -- Answers of edges at a place that agree with what the edges say: with each no, with each yes
    -- that is not provisional, and, if `leans` is set, with each provisional yes.
    pub record Consistent (leans : Bool) (given : NodeEdge → Below → Bool) : Type 0 where
      pub alike : (a b : NodeEdge) (below : Below) → a.node ≡ b.node → a.guarded ≡ b.guarded → given a below ≡ given b below
      pub yes : (e : NodeEdge) (below : Below) → EdgeTells e below true leans → given e below ≡ true
      pub no : (e : NodeEdge) (below : Below) → EdgeTells e below false false → given e below ≡ false

    -- A child says b to a question of a keyword, in the same sense.
    abbrev pub ChildTells : Children → Question → Bool → Bool → Type 0
    ChildTells es q b leans = (given : NodeEdge → Below → Bool) → Consistent (b && leans) given → child_by given es q ≡ b
