-- Two compilations of one schema agree. Whichever keywords were made for them and however their
-- nodes are stored, the same keys have the same numbers, and a number runs alike in both, so it has
-- the same meaning.
use Rattle.std.specs.Prelude.{List, [], map, ℕ, ◌≡◌, ◌∷◌}
use Rattle.theory_definitions.specs.Instance.{Place, Subject, Text}
use Rattle.theory_definitions.specs.Matching.{Assumptions}
use Rattle.theory_definitions.specs.Parts.{Parts}
use Rattle.theory_definitions.specs.Plan.{Key}
use Rattle.theory_definitions.specs.Guarded.{NodeForm, NodePart, NodePlan, Nodes, guarded_node, guarded_sense, guarded_within, node_always, node_child, node_keyword, node_never, node_reference, node_these, yes_run}
use Rattle.schema_node_table.specs.NodeTable.{NodeEntry, numbered}
use Rattle.schema_compiler.specs.Compilation.{IsCompilation}
use Rattle.schema_compiler.specs.Finding.{FindsAll, Standing, standing_of}

module _ {K : Type 0} where
  -- the same keyword, whose requests got the same edges, guarded alike; or the same edge of a
  -- reference
  abbrev pub AlikeForm : NodeForm K → NodeForm K → Type 0
  AlikeForm (node_keyword m es) (node_keyword m' es') = (m ≡ m') × ((i : ℕ) → node_child es i ≡ node_child es' i)
  AlikeForm (node_reference e) (node_reference e') = e ≡ e'
  AlikeForm (node_keyword m es) (node_reference e) = ⊥
  AlikeForm (node_reference e) (node_keyword m es) = ⊥

  -- parts with the same name, priority and kind
  pub record AlikePart (x x' : NodePart K) : Type 0 where
    pub name : x.name ≡ x'.name
    pub priority : x.priority ≡ x'.priority
    pub is_leaf : x.is_leaf ≡ x'.is_leaf
    pub form : AlikeForm x.form x'.form

  -- lists of parts that are alike one by one
  abbrev pub AlikeParts : List (NodePart K) → List (NodePart K) → Type 0
  AlikeParts [] [] = Unit {0}
  AlikeParts (x ∷ xs) (x' ∷ xs') = AlikePart x x' × AlikeParts xs xs'
  AlikeParts [] (x ∷ xs) = ⊥
  AlikeParts (x ∷ xs) [] = ⊥

  -- both accept everything, both refuse everything, or their parts are alike: so each edge of one
  -- is an edge of the other, guarded alike
  abbrev pub AlikePlan : NodePlan K → NodePlan K → Type 0
  AlikePlan node_always node_always = Unit {0}
  AlikePlan node_never node_never = Unit {0}
  AlikePlan (node_these xs) (node_these xs') = AlikeParts xs xs'
  AlikePlan node_always node_never = ⊥
  AlikePlan node_always (node_these xs) = ⊥
  AlikePlan node_never node_always = ⊥
  AlikePlan node_never (node_these xs) = ⊥
  AlikePlan (node_these xs) node_always = ⊥
  AlikePlan (node_these xs) node_never = ⊥

module _ {S K R : Type 0} (w : Parts S K R) where
  -- a number has the same plan in both tables, with the same edges guarded, and the same location
  -- and annotations. It has the same run at every place and depth: its answer, its units, and the
  -- unfinished matches that it meets. And it has the same meaning
  pub record AreAlike (nodes nodes' : Nodes K) : Type 0 where
    pub entries : (i : ℕ) → AlikePlan (nodes.entries i) (nodes'.entries i)
    pub locations : (i : ℕ) → nodes.location i ≡ nodes'.location i
    pub absolutes : (i : ℕ) (location : Text) → nodes.absolute i location ≡ nodes'.absolute i location
    pub annotations : (i : ℕ) → nodes.annotations i ≡ nodes'.annotations i
    pub runs : (subject_of : Place → Subject) (as' : Assumptions) (n i : ℕ) (path : Text) (p : Place) (busy : List ℕ)
        → guarded_within (yes_run nodes) (guarded_node w.keywords w.matcher nodes subject_of as') n i path p busy ≡ guarded_within (yes_run nodes') (guarded_node w.keywords w.matcher nodes' subject_of as') n i path p busy
    pub senses : (subject_of : Place → Subject) (n i : ℕ) → guarded_sense w.keywords w.matcher nodes subject_of n i ≡ guarded_sense w.keywords w.matcher nodes' subject_of n i

  -- the keys that a root's key reaches are found in one order, and their numbers have the same
  -- states
  abbrev pub OneOrder : Type 0
  OneOrder = (nested : ℕ) (root : Key S) (keys keys' : List (Key S)) (standings standings' : List Standing) → FindsAll w nested root keys standings → FindsAll w nested root keys' standings'
      → (keys ≡ keys') × (standings ≡ standings')

  -- two compilations of one root that allow the same number of nested targets number the keys
  -- alike, guard the same edges, and run alike
  abbrev pub TablesAgree : {C D : Type 0} → (C → K) → (D → K) → Type 0
  TablesAgree {C} {D} shape shape' = (limit limit' nested : ℕ) (root : Key S) (keys keys' : List (Key S)) (nodes : List (NodeEntry C)) (nodes' : List (NodeEntry D))
      → IsCompilation w shape limit nested root keys nodes → IsCompilation w shape' limit' nested root keys' nodes'
      → (keys ≡ keys') × (map standing_of nodes ≡ map standing_of nodes') × AreAlike (numbered shape nodes) (numbered shape' nodes')
