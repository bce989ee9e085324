-- If no entry of a plan is told what the others span, a node says and meets what its entries do by
-- themselves.
use Rattle.std.proofs.Common.{◌≡◌, ℕ, List, [], ◌∷◌, ◌++◌, refl, ap, ap₂, ◌∙◌, Bool, true, false, ◌||◌}
use Rattle.std.specs.List.{list_any}
use Rattle.theory_definitions.specs.Instance.{Place, Step, Subject, Text}
use Rattle.theory_definitions.specs.Reports.{Outcome, Unit_, spans_nothing}
use Rattle.theory_definitions.specs.Matching.{Assumptions, Completion, Matcher, completion_of}
use Rattle.theory_definitions.specs.Keywords.{Below, Keywords, Mode, for_all, for_first, for_units, for_verdict}
use Rattle.theory_definitions.specs.Meaning.{both, told_of}
use Rattle.theory_definitions.specs.Units.{Entry}
use Rattle.theory_definitions.specs.Runs.{Looked, Met, Run, each_other_met, node_met, plan_met, plan_spanning}
use Rattle.theory_definitions.specs.Guarded.{NodeEdge, NodeForm, NodePart, Nodes, node_entries_of, node_keyword, node_looked, node_looked_at, node_others, node_part, node_part_met, node_part_spanning, node_part_units, node_parts, node_reference, node_told}
use Rattle.theory_meaning.specs.Untold.{NeverTold, NoneTold, each_looked_alone, entries_alone, parts_alone}

-- ---- a list of which nothing passes a test

none_first : (a b : Bool) → (a || b) ≡ false → a ≡ false
none_first true b e = absurd (cc e)
none_first false b e = refl

none_later : (a b : Bool) → (a || b) ≡ false → b ≡ false
none_later true b e = absurd (cc e)
none_later false b e = e

-- ---- keywords that are never told

module _ {K R : Type 0} (keywords : Keywords K R) (never : NeverTold keywords) where
  pub form_untold : (form : NodeForm K) → node_told keywords form ≡ false
  form_untold (node_keyword m es) = never m
  form_untold (node_reference e) = refl

  pub never_none : (xs : List (NodePart K)) → NoneTold keywords xs
  never_none [] = refl
  never_none (x ∷ xs) = ap (λ b. b || list_any (λ y. node_told keywords y.form) xs) (form_untold x.form) ∙ never_none xs

-- ---- a plan

module _ {K R : Type 0} (keywords : Keywords K R) (matcher : Matcher) (nodes : Nodes K) (subject_of : Place → Subject) where
  told_nothing : (others : Step → Bool) (x : NodePart K) (xs : List (NodePart K)) → NoneTold keywords (x ∷ xs) → told_of others (node_told keywords x.form) ≡ spans_nothing
  told_nothing others x xs none = ap (told_of others) (none_first (node_told keywords x.form) (list_any (λ y. node_told keywords y.form) xs) none)

  rest_none : (x : NodePart K) (xs : List (NodePart K)) → NoneTold keywords (x ∷ xs) → NoneTold keywords xs
  rest_none x xs none = none_later (node_told keywords x.form) (list_any (λ y. node_told keywords y.form) xs) none

  module _ (c : Completion) (i : ℕ) (path : Text) (p : Place) where
    pub parts_alone_are : (go : NodeEdge → Below → Outcome) (others : Step → Bool) (xs : List (NodePart K)) → NoneTold keywords xs
        → node_parts keywords matcher nodes subject_of c i path p go others xs ≡ parts_alone keywords matcher nodes subject_of c i path p go xs
    parts_alone_are go others [] none = refl
    parts_alone_are go others (x ∷ xs) none = ap₂ both
        (ap (λ o. node_part keywords matcher nodes subject_of c i path p go o x.name x.form) (told_nothing others x xs none))
        (parts_alone_are go others xs (rest_none x xs none))

    pub entries_alone_are : (go : NodeEdge → Below → Unit_) (others : Step → Bool) (xs : List (NodePart K)) → NoneTold keywords xs
        → node_entries_of keywords matcher nodes subject_of c i path p go others xs ≡ entries_alone keywords matcher nodes subject_of c i path p go xs
    entries_alone_are go others [] none = refl
    entries_alone_are go others (x ∷ xs) none =
        let told = told_nothing others x xs none in
        ap₂ (λ (z : Entry) zs. z ∷ zs) (λ j. record { priority = x.priority; units = node_part_units keywords matcher nodes subject_of c i path p go (told j) x.name x.form })
        (entries_alone_are go others xs (rest_none x xs none))

  module _ (as' : Assumptions) (i : ℕ) (path : Text) (p : Place) (go : NodeEdge → Below → Run) where
    looked_are : (others : Step → Bool) (xs : List (NodePart K)) → NoneTold keywords xs
        → node_looked keywords matcher nodes subject_of as' i path p go others xs ≡ each_looked_alone keywords matcher nodes subject_of as' i path p go xs
    looked_are others [] none = refl
    looked_are others (x ∷ xs) none =
        let told = told_nothing others x xs none in
        ap₂ (λ (z : Looked) zs. z ∷ zs)
        (λ j. record {
          is_leaf = x.is_leaf;
          is_told = node_told keywords x.form;
          holds = (node_part keywords matcher nodes subject_of (completion_of as') i path p (λ e b. (go e b).outcome tt) (told j) x.name x.form).verdict;
          met = node_part_met keywords matcher nodes subject_of as' i path p go (told j) x.name x.form;
          spanning = node_part_spanning keywords matcher nodes subject_of as' i path p go x.name x.form;
        })
        (looked_are others xs (rest_none x xs none))

    none_looked : (others : Step → Bool) (xs : List (NodePart K)) → NoneTold keywords xs → list_any (λ (l : Looked). l.is_told) (node_looked keywords matcher nodes subject_of as' i path p go others xs) ≡ false
    none_looked others [] none = refl
    none_looked others (x ∷ xs) none = ap₂ (λ a b. a || b) (none_first (node_told keywords x.form) (list_any (λ y. node_told keywords y.form) xs) none) (none_looked others xs (rest_none x xs none))

    -- The run of the plan meets what the runs of its entries meet in order.
    pub met_alone_are : (mode : Mode) (xs : List (NodePart K)) → NoneTold keywords xs
        → node_met mode (node_looked_at keywords matcher nodes subject_of as' i path p go xs) ≡ plan_met mode (each_looked_alone keywords matcher nodes subject_of as' i path p go xs)
    met_alone_are mode xs none =
        let others : Step → Bool = node_others keywords matcher nodes subject_of (completion_of as') i path p (λ e b. (go e b).outcome tt) xs in
        let ls : List Looked = node_looked keywords matcher nodes subject_of as' i path p go others xs in
        untold_met mode ls (none_looked others xs none) ∙ ap (plan_met mode) (looked_are others xs none)
      where
        untold_met : (mode : Mode) (ls : List Looked) → list_any (λ (l : Looked). l.is_told) ls ≡ false → node_met mode ls ≡ plan_met mode ls
        untold_met mode ls e = ap (λ (told : Bool). elim told as (λ t. List Met) [
          | false ↦ plan_met mode ls
          | true ↦ elim mode as (λ m. List Met) [ for_verdict ↦ plan_spanning ls | for_first ↦ each_other_met ls ++ plan_met for_first ls | for_all ↦ each_other_met ls ++ plan_met for_all ls | for_units ↦ each_other_met ls ++ plan_met for_units ls ]
        ]) e
