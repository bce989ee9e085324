-- What numbered nodes say becomes final at some depth, because the measure decreases with each
-- question.
use Rattle.std.proofs.Common.{◌≡◌, ℕ, zero, suc, ◌<◌, ◌==◌, Bool, true, false, List, [], ◌∷◌, refl, sym, subst, ap, ap₂, arith, ◌∙◌}
use Rattle.std.specs.Prelude.{Contains, Option, Some, None, option_and_then, slice_get, filter_map, map, if◌then◌else◌}
use Rattle.std.specs.List.{list_any, cons_option}
use Rattle.serde_json.specs.Data.{Data}
use Rattle.theory_definitions.specs.Instance.{Text, Place, Subject, Step}
use Rattle.theory_definitions.specs.Reports.{Outcome, accepted, spans_nothing}
use Rattle.theory_definitions.specs.Parts.{Parts}
use Rattle.theory_definitions.specs.Matching.{Completion, Matcher, matching, beside}
use Rattle.theory_definitions.specs.Keywords.{Keywords, Below, here, down, Question}
use Rattle.theory_definitions.specs.Meaning.{subject, place_below, fault_error, reference_outcome, false_outcome, both, kept, either_spans, told_of}
use Rattle.theory_definitions.specs.Laws.{IsPresent, steps_below}
use Rattle.theory_definitions.specs.Guarded.{NodeEdge, node_child, NodeForm, node_keyword, node_reference, NodePart, NodePlan, node_always, node_never, node_these, Nodes, form_edges, node_edges, progress_below, guarded_within, node_at, node_asked, node_part, node_parts, node_outcome, yes_outcome, node_others, node_told}
use Rattle.theory_meaning.specs.Numbered.{Ranked, left, subject_in, GuardedSettles}
use Rattle.theory_meaning.proofs.Reading.{Reads, reads_of}
use Rattle.theory_meaning.proofs.Questions.{later, in_flat_map}
use Rattle.theory_meaning.proofs.Falls.{below_falls, left_below, left_entered, left_lower}
use Rattle.theory_meaning.proofs.Local.{same_outcome, each_asked}
use Rattle.theory_meaning.proofs.SpansRead.{spans_same}
use Rattle.std.proofs.lemmas.List.Elements.{All-contains}

-- The element with a given number is in the list.
pub picked : {A B : Type 0} (h : A → Option B) (xs : List A) (i : ℕ) (y : B) → option_and_then h (slice_get xs i) ≡ Some y → Contains (filter_map h xs) y
picked h [] i y e = absurd (let f : ⊥ = cc in f)
picked {B = B} h (x ∷ xs) zero y e = subst (λ (o : Option B). Contains (cons_option o (filter_map h xs)) y) (sym e) (zero, omega arith, refl)
picked {B = B} h (x ∷ xs) (suc i) y e = go (h x) (picked h xs i y e)
  where
    go : (o : Option B) → Contains (filter_map h xs) y → Contains (cons_option o (filter_map h xs)) y
    go None k = k
    go (Some u) k = later u _ y k

module _ {K : Type 0} (instance : Data) (nodes : Nodes K) where
  -- The edges and the places below that a number may ask.
  pub record NodeAsks (i : ℕ) (p : Place) (e : NodeEdge) (b : Below) : Type 0 where
    pub edge : Contains (node_edges (nodes.entries i)) e
    pub present : IsPresent (subject_in instance p) (steps_below b)

  module _ (count : ℕ) (ranked : Ranked nodes count) where
    pub free_falls : (i : ℕ) (p : Place) (busy : List ℕ) (e : NodeEdge) (b : Below) → i < count → NodeAsks i p e b → e.guarded ≡ false
        → left nodes count e.node (subject_in instance (place_below p b)) (progress_below busy b) < left nodes count i (subject_in instance p) busy
    free_falls i p busy e here l a g = left_lower nodes count i e.node (subject_in instance p) busy ((ranked i l e a.edge).1 g)
    free_falls i p busy e (down s) l a g = left_below nodes count i e.node _ _ busy [] (ranked i l e a.edge).0 (below_falls instance p s a.present)

    pub guarded_falls : (i : ℕ) (p : Place) (busy : List ℕ) (e : NodeEdge) (b : Below) → i < count → NodeAsks i p e b → list_any (λ n. n == e.node) (progress_below busy b) ≡ false
        → left nodes count e.node (subject_in instance (place_below p b)) (e.node ∷ progress_below busy b) < left nodes count i (subject_in instance p) busy
    guarded_falls i p busy e here l a g = left_entered nodes count i e.node (subject_in instance p) busy (ranked i l e a.edge).0 g
    guarded_falls i p busy e (down s) l a g = left_below nodes count i e.node _ _ busy (e.node ∷ []) (ranked i l e a.edge).0 (below_falls instance p s a.present)

    module _ {X : Type 0} (yes : ℕ → Text → Place → X) (node : ℕ → Text → Place → (NodeEdge → Below → X) → X)
        (local : (i : ℕ) (path : Text) (p : Place) (f g : NodeEdge → Below → X) → ((e : NodeEdge) (b : Below) → NodeAsks i p e b → f e b ≡ g e b) → node i path p f ≡ node i path p g) where
      by_guard : (g t : Bool) (u x x' y y' : X) → (g ≡ false → x ≡ x') → (t ≡ false → y ≡ y')
          → ◌≡◌ {A = X} (elim g [ false ↦ x | true ↦ elim t [ true ↦ u | false ↦ y ] ]) (elim g [ false ↦ x' | true ↦ elim t [ true ↦ u | false ↦ y' ] ])
      by_guard false t u x x' y y' h k = h refl
      by_guard true true u x x' y y' h k = refl
      by_guard true false u x x' y y' h k = k refl

      pub settles : (m n i : ℕ) (path : Text) (p : Place) (busy : List ℕ) → i < count
          → left nodes count i (subject_in instance p) busy < m → left nodes count i (subject_in instance p) busy < n
          → guarded_within yes node m i path p busy ≡ guarded_within yes node n i path p busy
      settles zero n i path p busy l a b = absurd (omega arith)
      settles (suc m) zero i path p busy l a b = absurd (omega arith)
      settles (suc m) (suc n) i path p busy l a b = local i path p _ _ (λ e d asks. by_guard e.guarded (list_any (λ j. j == e.node) (progress_below busy d)) _ _ _ _ _
          (λ g. let f = free_falls i p busy e d l asks g in settles m n e.node _ _ (progress_below busy d) (ranked i l e asks.edge).0 (omega arith) (omega arith))
          (λ g. let f = guarded_falls i p busy e d l asks g in settles m n e.node _ _ (e.node ∷ progress_below busy d) (ranked i l e asks.edge).0 (omega arith) (omega arith)))

-- ---- an outcome reads only the answers to questions that the number may ask

module _ {K R : Type 0} (keywords : Keywords K R) (matcher : Matcher) (instance : Data) (nodes : Nodes K) where
  module _ (reads : Reads keywords) (c : Completion) (i : ℕ) (path : Text) (p : Place) (f g : NodeEdge → Below → Outcome) where
    abbrev pub FormAsks : NodeForm K → NodeEdge → Below → Type 0
    FormAsks x e b = Contains (form_edges x) e × IsPresent (subject_in instance p) (steps_below b)

    asked_same : (o : Option NodeEdge) (b : Below) → ((e : NodeEdge) → o ≡ Some e → f e b ≡ g e b)
        → ◌≡◌ {A = Outcome} (elim o [ None ↦ accepted | Some e ↦ f e b ]) (elim o [ None ↦ accepted | Some e ↦ g e b ])
    asked_same None b h = refl
    asked_same (Some e) b h = h e refl

    pub part_same : (others : Step → Bool) (name : Text) (x : NodeForm K) → ((e : NodeEdge) (b : Below) → FormAsks x e b → f e b ≡ g e b)
        → node_part keywords matcher nodes (subject_in instance) c i path p f others name x ≡ node_part keywords matcher nodes (subject_in instance) c i path p g others name x
    part_same others name (node_keyword m es) h =
        let s : Subject = subject_in instance p in
        let qs : List Question = keywords.may_ask m s in
        let each : (q : Question) → Contains qs q → node_asked keywords matcher nodes (subject_in instance) accepted es f q ≡ node_asked keywords matcher nodes (subject_in instance) accepted es g q
        = λ q is. asked_same (node_child es q.child) q.below (λ e at_e. h e q.below (picked (λ o. o) es q.child e at_e, All-contains (λ q. IsPresent s (steps_below q.below)) qs q (reads.present m s) is)) in
        same_outcome
        (reads.holds_reads m s (beside others (matching matcher c)) _ _ (each_asked _ qs (λ q is. ap (λ o. o.verdict) (each q is))))
        (ap (map (fault_error (node_at keywords matcher nodes (subject_in instance) i path p) name)) (reads.faults_read m s (beside others (matching matcher c)) _ _ (each_asked _ qs each)))
        (spans_same keywords m s (beside others (matching matcher c)) _ _ (reads.spans_read m s) each)
    part_same others name (node_reference e) h = ap (reference_outcome (node_at keywords matcher nodes (subject_in instance) i path p) name) (h e here ((zero, omega arith, refl), refl))

    -- What an entry that is not told spans.
    span_same : (told : Bool) (o o' : Outcome) → o ≡ o' → ◌≡◌ {A = Step → Bool} (if told then spans_nothing else o.spans) (if told then spans_nothing else o'.spans)
    span_same told o o' e = ap (λ (u : Outcome). if told then spans_nothing else u.spans) e

    pub others_same : (xs : List (NodePart K)) → ((x : NodePart K) → Contains xs x → (e : NodeEdge) (b : Below) → FormAsks x.form e b → f e b ≡ g e b)
        → node_others keywords matcher nodes (subject_in instance) c i path p f xs ≡ node_others keywords matcher nodes (subject_in instance) c i path p g xs
    others_same [] h = refl
    others_same (x ∷ xs) h = ap₂ either_spans (span_same (node_told keywords x.form) _ _ (part_same spans_nothing x.name x.form (h x (zero, omega arith, refl)))) (others_same xs (λ y is. h y (later x xs y is)))

    parts_same : (others : Step → Bool) (xs : List (NodePart K)) → ((x : NodePart K) → Contains xs x → (e : NodeEdge) (b : Below) → FormAsks x.form e b → f e b ≡ g e b)
        → node_parts keywords matcher nodes (subject_in instance) c i path p f others xs ≡ node_parts keywords matcher nodes (subject_in instance) c i path p g others xs
    parts_same others [] h = refl
    parts_same others (x ∷ xs) h = ap₂ both (part_same (told_of others (node_told keywords x.form)) x.name x.form (h x (zero, omega arith, refl))) (parts_same others xs (λ y is. h y (later x xs y is)))

    plan_same : (o : NodePlan K) → nodes.entries i ≡ o → ((e : NodeEdge) (b : Below) → NodeAsks instance nodes i p e b → f e b ≡ g e b)
        → ◌≡◌ {A = Outcome} (elim o [ node_always ↦ accepted | node_never ↦ false_outcome keywords.texts (node_at keywords matcher nodes (subject_in instance) i path p) (subject_in instance p) | node_these xs ↦ kept (node_parts keywords matcher nodes (subject_in instance) c i path p f (node_others keywords matcher nodes (subject_in instance) c i path p f xs) xs) ])
        (elim o [ node_always ↦ accepted | node_never ↦ false_outcome keywords.texts (node_at keywords matcher nodes (subject_in instance) i path p) (subject_in instance p) | node_these xs ↦ kept (node_parts keywords matcher nodes (subject_in instance) c i path p g (node_others keywords matcher nodes (subject_in instance) c i path p g xs) xs) ])
    plan_same node_always is h = refl
    plan_same node_never is h = refl
    plan_same (node_these xs) is h =
        let each : (x : NodePart K) → Contains xs x → (e : NodeEdge) (b : Below) → FormAsks x.form e b → f e b ≡ g e b
        = λ x in_xs e b asks. h e b (record { edge = subst (λ o. Contains (node_edges o) e) (sym is) (in_flat_map (λ y. form_edges y.form) xs x e in_xs asks.0); present = asks.1 }) in
        ap kept (ap (λ o. node_parts keywords matcher nodes (subject_in instance) c i path p f o xs) (others_same xs each) ∙ parts_same (node_others keywords matcher nodes (subject_in instance) c i path p g xs) xs each)

    pub node_local : ((e : NodeEdge) (b : Below) → NodeAsks instance nodes i p e b → f e b ≡ g e b)
        → node_outcome keywords matcher nodes (subject_in instance) c i path p f ≡ node_outcome keywords matcher nodes (subject_in instance) c i path p g
    node_local = plan_same (nodes.entries i) refl

pub guarded_settles : {S K R : Type 0} (w : Parts S K R) (instance : Data) (nodes : Nodes K) (count : ℕ) → GuardedSettles w instance nodes count
guarded_settles w instance nodes count laws ranked c i path p busy l m n a b =
    settles instance nodes count ranked yes_outcome (node_outcome w.keywords w.matcher nodes (subject w instance) c) (node_local w.keywords w.matcher instance nodes (reads_of w.keywords laws) c) m n i path p busy l a b
