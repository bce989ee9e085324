-- What a node says and meets if no entry of its plan is told what the others span: each entry by
-- itself, in the order of the plan.
use Rattle.std.specs.List.{list_any}
use Rattle.std.specs.Prelude.{List, [], false, ℕ, ◌∷◌, ◌≡◌}
use Rattle.theory_definitions.specs.Instance.{Place, Subject, Text}
use Rattle.theory_definitions.specs.Reports.{Outcome, Unit_, accepted, spans_nothing}
use Rattle.theory_definitions.specs.Matching.{Assumptions, Completion, Matcher, completion_of}
use Rattle.theory_definitions.specs.Keywords.{Below, Keywords}
use Rattle.theory_definitions.specs.Meaning.{both}
use Rattle.theory_definitions.specs.Units.{Entry}
use Rattle.theory_definitions.specs.Runs.{Looked, Run}
use Rattle.theory_definitions.specs.Guarded.{NodeEdge, NodePart, Nodes, node_part, node_part_met, node_part_spanning, node_part_units, node_told}

-- No entry of the plan is told what the others span.
abbrev pub NoneTold : {K R : Type 0} → Keywords K R → List (NodePart K) → Type 0
NoneTold keywords xs = list_any (λ x. node_told keywords x.form) xs ≡ false

-- No keyword is told what others span.
abbrev pub NeverTold : {K R : Type 0} → Keywords K R → Type 0
NeverTold {K} keywords = (m : K) → keywords.is_told m ≡ false

module _ {K R : Type 0} (keywords : Keywords K R) (matcher : Matcher) (nodes : Nodes K) (subject_of : Place → Subject) where
  module _ (c : Completion) where
    -- The outcome of several entries together, each by itself.
    abbrev pub parts_alone : ℕ → Text → Place → (NodeEdge → Below → Outcome) → List (NodePart K) → Outcome
    parts_alone i path p go [] = accepted
    parts_alone i path p go (x ∷ xs) = both (node_part keywords matcher nodes subject_of c i path p go spans_nothing x.name x.form) (parts_alone i path p go xs)

    -- Several entries with their units, each by itself.
    abbrev pub entries_alone : ℕ → Text → Place → (NodeEdge → Below → Unit_) → List (NodePart K) → List Entry
    entries_alone i path p go [] = []
    entries_alone i path p go (x ∷ xs) = record { priority = x.priority; units = node_part_units keywords matcher nodes subject_of c i path p go spans_nothing x.name x.form } ∷ entries_alone i path p go xs

  module _ (as' : Assumptions) where
    -- An entry with what its run meets, by itself.
    abbrev pub looked_alone : ℕ → Text → Place → (NodeEdge → Below → Run) → NodePart K → Looked
    looked_alone i path p go x = record {
      is_leaf = x.is_leaf;
      is_told = node_told keywords x.form;
      holds = (node_part keywords matcher nodes subject_of (completion_of as') i path p (λ e b. (go e b).outcome tt) spans_nothing x.name x.form).verdict;
      met = node_part_met keywords matcher nodes subject_of as' i path p go spans_nothing x.name x.form;
      spanning = node_part_spanning keywords matcher nodes subject_of as' i path p go x.name x.form;
    }

    -- Several entries with what their runs meet, each by itself.
    abbrev pub each_looked_alone : ℕ → Text → Place → (NodeEdge → Below → Run) → List (NodePart K) → List Looked
    each_looked_alone i path p go [] = []
    each_looked_alone i path p go (x ∷ xs) = looked_alone i path p go x ∷ each_looked_alone i path p go xs
