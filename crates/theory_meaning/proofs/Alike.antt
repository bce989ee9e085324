-- The verdict of a node does not depend on its evaluation path, so marked children of the same
-- number and guard have the same answers.
use Rattle.std.proofs.Common.{◌≡◌, ℕ, zero, suc, ◌==◌, Bool, true, false, not, List, [], ◌∷◌, ◌++◌, refl, sym, ap, ap₂, subst}
use Rattle.std.specs.Prelude.{Option, Some, None}
use Rattle.std.specs.List.{list_any}
use Rattle.std.proofs.lemmas.Bool.{eqb-true}
use Rattle.theory_definitions.specs.Instance.{Text, Place, Subject, Step}
use Rattle.theory_definitions.specs.Reports.{Outcome, accepted, spans_nothing}
use Rattle.theory_definitions.specs.Keywords.{Keywords, Below, here}
use Rattle.theory_definitions.specs.Matching.{Matcher, Completion, matching, beside}
use Rattle.theory_definitions.specs.Meaning.{place_below, false_outcome, kept, either_spans, told_of}
use Rattle.theory_definitions.specs.Guarded.{Children, NodeEdge, node_child, same_guard, same_node, same_edge, Nodes, NodePart, NodeForm, node_keyword, node_reference, NodePlan, node_always, node_never, node_these, node_at, node_asked, node_part, node_parts, node_outcome, across, guarded_within, progress_below, yes_outcome, node_others, node_told}
use Rattle.theory_definitions.specs.Laws.{AnsweredAlike}
use Rattle.theory_definitions.proofs.Products.{both_left, both_right, in_either}
use Rattle.theory_meaning.specs.Members.{SaysAlike}
use Rattle.theory_meaning.proofs.SpansRead.{alike_both, alike_itself, alike_kept, alike_span, spans_alike}

-- Edges to the same number that are guarded alike have the same verdicts.
abbrev pub EdgesAlike : (NodeEdge → Below → Outcome) → Type 0
EdgesAlike g = (a b : NodeEdge) → a.node ≡ b.node → a.guarded ≡ b.guarded → (below : Below) → (g a below).verdict ≡ (g b below).verdict

guard_is : (a b : NodeEdge) → same_guard a b ≡ true → a.guarded ≡ b.guarded
guard_is a b = go a.guarded b.guarded
  where
    go : (x y : Bool) → (elim x [ true ↦ y | false ↦ not y ]) ≡ true → x ≡ y
    go true true e = refl
    go true false e = absurd (cc e)
    go false true e = absurd (cc e)
    go false false e = refl

pub guard_same : (a b : NodeEdge) → a.guarded ≡ b.guarded → same_guard a b ≡ true
guard_same a b e = go a.guarded b.guarded e
  where
    go : (x y : Bool) → x ≡ y → (elim x [ true ↦ y | false ↦ not y ]) ≡ true
    go true y h = sym h
    go false y h = ap not (sym h)

module _ {K R : Type 0} (keywords : Keywords K R) (matcher : Matcher) (nodes : Nodes K) (subject_of : Place → Subject) where
  -- So do marked children.
  pub children_alike : (es : Children) (g : NodeEdge → Below → Outcome) → EdgesAlike g → AnsweredAlike (same_edge es) (node_asked keywords matcher nodes subject_of accepted es g)
  children_alike es g alike i j is below = in_either (i == j) (same_node (node_child es i) (node_child es j))
      (λ e. ap (λ k. (node_asked keywords matcher nodes subject_of accepted es g (record { child = k; below = below })).verdict) (eqb-true i j e))
      (go (node_child es i) (node_child es j)) is
    where
      go : (o u : Option NodeEdge) → same_node o u ≡ true
          → (let x : Outcome = elim o [ None ↦ accepted | Some e ↦ g e below ] in x.verdict) ≡ (let x : Outcome = elim u [ None ↦ accepted | Some e ↦ g e below ] in x.verdict)
      go None u e = absurd (cc e)
      go (Some a) None e = absurd (cc e)
      go (Some a) (Some b) e = alike a b (eqb-true a.node b.node (both_left _ _ e)) (guard_is a b (both_right _ _ e)) below

  module _ (c : Completion) where
    abbrev Says : ℕ → ℕ → Text → Place → List ℕ → Outcome
    Says = guarded_within yes_outcome (node_outcome keywords matcher nodes subject_of c)

    module _ (i : ℕ) (path path' : Text) (p : Place) (f g : NodeEdge → Below → Outcome) (same : (e : NodeEdge) (b : Below) → SaysAlike (f e b) (g e b)) where
      option_alike : (o : Option NodeEdge) (b : Below) → SaysAlike (elim o [ None ↦ accepted | Some e ↦ f e b ]) (elim o [ None ↦ accepted | Some e ↦ g e b ])
      option_alike None b = alike_itself accepted
      option_alike (Some e) b = same e b

      pub part_alike : (others : Step → Bool) (name : Text) (form : NodeForm K) → SaysAlike (node_part keywords matcher nodes subject_of c i path p f others name form) (node_part keywords matcher nodes subject_of c i path' p g others name form)
      part_alike others name (node_keyword m es) = record {
        verdict = ap (keywords.holds m (subject_of p) (beside others (matching matcher c))) (λ j q. (option_alike (node_child es q.child) q.below).verdict j);
        spans = spans_alike keywords m (subject_of p) (beside others (matching matcher c)) (node_asked keywords matcher nodes subject_of accepted es f) (node_asked keywords matcher nodes subject_of accepted es g)
            (λ q. (option_alike (node_child es q.child) q.below).verdict) (λ q. (option_alike (node_child es q.child) q.below).spans);
      }
      part_alike others name (node_reference e) = record { verdict = (same e here).verdict; spans = (same e here).spans }

      pub others_alike : (xs : List (NodePart K)) → node_others keywords matcher nodes subject_of c i path p f xs ≡ node_others keywords matcher nodes subject_of c i path' p g xs
      others_alike [] = refl
      others_alike (x ∷ xs) = ap₂ either_spans (alike_span (node_told keywords x.form) _ _ (part_alike spans_nothing x.name x.form)) (others_alike xs)

      parts_alike : (others : Step → Bool) (xs : List (NodePart K)) → SaysAlike (node_parts keywords matcher nodes subject_of c i path p f others xs) (node_parts keywords matcher nodes subject_of c i path' p g others xs)
      parts_alike others [] = alike_itself accepted
      parts_alike others (x ∷ xs) = alike_both _ _ _ _ (part_alike (told_of others (node_told keywords x.form)) x.name x.form) (parts_alike others xs)

      pub node_alike : SaysAlike (node_outcome keywords matcher nodes subject_of c i path p f) (node_outcome keywords matcher nodes subject_of c i path' p g)
      node_alike = go (nodes.entries i)
        where
          go : (o : NodePlan K)
              → SaysAlike (elim o [ node_always ↦ accepted | node_never ↦ false_outcome keywords.texts (node_at keywords matcher nodes subject_of i path p) (subject_of p) | node_these xs ↦ kept (node_parts keywords matcher nodes subject_of c i path p f (node_others keywords matcher nodes subject_of c i path p f xs) xs) ])
              (elim o [ node_always ↦ accepted | node_never ↦ false_outcome keywords.texts (node_at keywords matcher nodes subject_of i path' p) (subject_of p) | node_these xs ↦ kept (node_parts keywords matcher nodes subject_of c i path' p g (node_others keywords matcher nodes subject_of c i path' p g xs) xs) ])
          go node_always = alike_itself accepted
          go node_never = record { verdict = refl; spans = refl }
          go (node_these xs) = alike_kept _ _ (subst (λ o. SaysAlike (node_parts keywords matcher nodes subject_of c i path p f (node_others keywords matcher nodes subject_of c i path p f xs) xs) (node_parts keywords matcher nodes subject_of c i path' p g o xs)) (others_alike xs) (parts_alike (node_others keywords matcher nodes subject_of c i path p f xs) xs))

    -- Edges to the same number that are guarded alike have the same answers with any paths.
    across_alike : (n : ℕ) → ((i : ℕ) (path path' : Text) (p : Place) (busy : List ℕ) → SaysAlike (Says n i path p busy) (Says n i path' p busy))
        → (path path' : Text) (p : Place) (busy : List ℕ) (a b : NodeEdge) → a.node ≡ b.node → a.guarded ≡ b.guarded → (below : Below)
        → SaysAlike (across yes_outcome (node_outcome keywords matcher nodes subject_of c) (Says n) path p busy a below) (across yes_outcome (node_outcome keywords matcher nodes subject_of c) (Says n) path' p busy b below)
    across_alike n free path path' p busy a b first guards below = record { verdict = λ j. (go (first j) (guards j)).verdict j; spans = λ j. (go (first j) (guards j)).spans j }
      where
        go : (k : ℕ) (guarded : Bool)
            → SaysAlike (elim guarded [
              | false ↦ Says n k (path ++ a.path) (place_below p below) (progress_below busy below)
              | true ↦ elim (list_any (λ i. i == k) (progress_below busy below)) [ true ↦ accepted | false ↦ Says n k (path ++ a.path) (place_below p below) (k ∷ progress_below busy below) ]
            ])
            (elim guarded [
              | false ↦ Says n k (path' ++ b.path) (place_below p below) (progress_below busy below)
              | true ↦ elim (list_any (λ i. i == k) (progress_below busy below)) [ true ↦ accepted | false ↦ Says n k (path' ++ b.path) (place_below p below) (k ∷ progress_below busy below) ]
            ])
        go k false = free k (path ++ a.path) (path' ++ b.path) (place_below p below) (progress_below busy below)
        go k true = by (list_any (λ i. i == k) (progress_below busy below))
          where
            by : (t : Bool)
                → SaysAlike (elim t [ true ↦ accepted | false ↦ Says n k (path ++ a.path) (place_below p below) (k ∷ progress_below busy below) ])
                (elim t [ true ↦ accepted | false ↦ Says n k (path' ++ b.path) (place_below p below) (k ∷ progress_below busy below) ])
            by true = alike_itself accepted
            by false = free k (path ++ a.path) (path' ++ b.path) (place_below p below) (k ∷ progress_below busy below)

    -- Verdict and span at every depth are the same with any path.
    pub alike_by_any_path : (n i : ℕ) (path path' : Text) (p : Place) (busy : List ℕ) → SaysAlike (Says n i path p busy) (Says n i path' p busy)
    alike_by_any_path zero i path path' p busy = alike_itself accepted
    alike_by_any_path (suc n) i path path' p busy = node_alike i path path' p
        (across yes_outcome (node_outcome keywords matcher nodes subject_of c) (Says n) path p busy) (across yes_outcome (node_outcome keywords matcher nodes subject_of c) (Says n) path' p busy) (λ e b. across_alike n (alike_by_any_path n) path path' p busy e e refl refl b)

    pub verdict_by_any_path : (n i : ℕ) (path path' : Text) (p : Place) (busy : List ℕ) → (Says n i path p busy).verdict ≡ (Says n i path' p busy).verdict
    verdict_by_any_path n i path path' p busy = (alike_by_any_path n i path path' p busy).verdict

    pub edges_alike : (n : ℕ) (path : Text) (p : Place) (busy : List ℕ) → EdgesAlike (across yes_outcome (node_outcome keywords matcher nodes subject_of c) (Says n) path p busy)
    edges_alike n path p busy a b first guards below = (across_alike n (alike_by_any_path n) path path p busy a b first guards below).verdict

    -- Marked children of a node have the same answers.
    pub asked_alike : (n : ℕ) (path : Text) (p : Place) (busy : List ℕ) (es : Children)
        → AnsweredAlike (same_edge es) (node_asked keywords matcher nodes subject_of accepted es (across yes_outcome (node_outcome keywords matcher nodes subject_of c) (Says n) path p busy))
    asked_alike n path p busy es = children_alike es _ (edges_alike n path p busy)
