-- A validator as data, and what its nodes say of an instance.
use Rattle.std.specs.Prelude.{◌≡◌, ◌≤◌, ℕ, List, Bool, None, Option, [], true, false, length}
use Rattle.serde_json.specs.Data.{Data}
use Rattle.serde_json.specs.Written.{has_float}
use Rattle.theory_definitions.specs.Drafts.{Draft}
use Rattle.theory_definitions.specs.Matching.{Completion, Matcher}
use Rattle.theory_definitions.specs.Keywords.{Keywords}
use Rattle.theory_definitions.specs.Cover.{Sense, branch_at, evaluate}
use Rattle.theory_definitions.specs.Guarded.{guarded_sense, guarded_units}
use Rattle.theory_meaning.specs.Numbered.{subject_in}
use Rattle.theory_definitions.specs.Reports.{Unit_}
use Rattle.schema_reports.specs.UnitViews.{unit_of}
use Rattle.schema_reports.specs.declared.evaluation.EvaluationNode.{EvaluationNode}
use Rattle.theory_meaning.specs.Means as means
use Rattle.theory_meaning.specs.Fractions.{AreWhole}
use Rattle.schema_node_table.specs.NodeTable.{NodeEntry, numbered}

-- the nodes, the number of the root's node, the root's draft, the matcher, how many runs a call
-- makes at most, how many steps it takes at most and how many evaluations may be open at once, if
-- there are such limits, and for each number of the nodes whether the solver inlines it, if there is
-- a solver
pub record Program (K M : Type 0) : Type 0 where
  pub nodes : List (NodeEntry K)
  pub root : ℕ
  pub draft : Draft
  pub matcher : M
  pub runs : ℕ
  pub work : Option ℕ
  pub depth : Option ℕ
  pub followed : Option (List Bool)

-- a program of these: the nodes, the root's number and draft, the matcher, the limits on runs, on
-- steps and on depth, and the numbers that a solver inlines
abbrev pub program_with : {C M : Type 0} → List (NodeEntry C) → ℕ → Draft → M → ℕ → Option ℕ → Option ℕ → Option (List Bool) → Program C M
program_with nodes root draft matcher runs work depth followed = record {
  nodes = nodes;
  root = root;
  draft = draft;
  matcher = matcher;
  runs = runs;
  work = work;
  depth = depth;
  followed = followed;
}

-- S is what is known of a keyword, R a run with its answer so far
module _ {K S R M : Type 0} (shape : K → S) (words : Bool → Keywords S R) (is_whole : S → Bool) (matching : M → Matcher) (p : Program K M) (instance : Data) where
  -- texts of errors are covered only if the instance holds no fraction and every keyword is whole
  abbrev pub Speaks : Bool → Type 0
  Speaks texts = texts ≡ true → (has_float instance ≡ false) × AreWhole is_whole (numbered shape p.nodes) (length p.nodes)

  -- the nodes mean this sense
  abbrev pub Means : Bool → Sense → Type 0
  Means texts v = means.Means (words texts) (matching p.matcher) (numbered shape p.nodes) p.root instance v

  -- a fact about every sense that the nodes mean
  abbrev pub OfEverySense : (Bool → Sense → Type 0) → Type 0
  OfEverySense fact = (texts : Bool) → Speaks texts → means.OfEverySense (words texts) (matching p.matcher) (numbered shape p.nodes) p.root instance (fact texts)

  -- a fact about what the nodes say from some depth on, even if chains of questions return
  abbrev pub FromSomeDepth : (Bool → Sense → Type 0) → Type 0
  FromSomeDepth fact = (texts : Bool) → Speaks texts → means.FromSomeDepth (words texts) (matching p.matcher) (numbered shape p.nodes) p.root instance (fact texts)

  -- the nodes have these units under each outcome of the matches
  abbrev pub HaveUnits : Bool → (Completion → Unit_) → Type 0
  HaveUnits texts units = means.HaveUnits (words texts) (matching p.matcher) (numbered shape p.nodes) p.root instance units

  -- a fact about every sense that the nodes mean, with all units that they have
  abbrev pub OfEveryEvaluation : (Bool → Sense → (Completion → Unit_) → Type 0) → Type 0
  OfEveryEvaluation fact = (texts : Bool) → Speaks texts → (v : Sense) → Means texts v → (units : Completion → Unit_) → HaveUnits texts units → fact texts v units

  -- at every great enough depth, if the first run of an evaluation meets no unfinished match, the
  -- units are those that the nodes have under every outcome of the matches
  abbrev pub HasUnits : EvaluationNode → Type 0
  HasUnits u = (texts : Bool) → Speaks texts → (deep : ℕ) × ((n : ℕ) → deep ≤ n
      → branch_at (guarded_sense (words texts) (matching p.matcher) (numbered shape p.nodes) (subject_in instance) n p.root) evaluate [] ≡ None
      → (c : Completion) → unit_of texts u ≡ guarded_units (words texts) (matching p.matcher) (numbered shape p.nodes) (subject_in instance) c n p.root [] [] [])
