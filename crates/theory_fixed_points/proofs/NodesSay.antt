-- If every keyword is monotone, what numbered nodes say under guards is the greatest solution.
use Rattle.std.proofs.Common.{◌≡◌, ℕ, zero, suc, ◌<◌, ◌==◌, Bool, true, false, ◌&&◌, ◌||◌, List, [], ◌∷◌, refl, sym, subst, ◌∙◌, ap, ap₂, arith, true≢false}
use Rattle.std.specs.Prelude.{All, Contains, Option, Some, None, flat_map}
use Rattle.std.specs.List.{list_all, list_any}
use Rattle.std.proofs.lemmas.Bool.{eqb-true}
use Rattle.std.proofs.lemmas.List.Elements.{All-cons, All-contains, All-nil, Contains-append_right}
use Rattle.serde_json.specs.Data.{Data}
use Rattle.theory_definitions.specs.Instance.{Text, Place, Step, Subject}
use Rattle.theory_definitions.specs.Reports.{Outcome, accepted}
use Rattle.theory_definitions.specs.Matching.{Completion, Matcher, Matching, beside, matching}
use Rattle.theory_definitions.specs.Keywords.{Keywords, Below, here, down, Question}
use Rattle.theory_definitions.specs.Meaning.{place_below, false_outcome, kept, told_of}
use Rattle.theory_definitions.specs.Laws.{IsPresent, steps_below}
use Rattle.theory_definitions.specs.Guarded.{NodeEdge, node_child, NodeForm, node_keyword, node_reference, NodePart, NodePlan, node_always, node_never, node_these, Nodes, form_edges, node_edges, progress_below, across, guarded_within, node_asked, node_at, node_others, node_part, node_parts, node_outcome, node_told, yes_outcome}
use Rattle.theory_meaning.specs.Fractions.{form_words, node_words}
use Rattle.theory_meaning.specs.Numbered.{Ranked, left, subject_in}
use Rattle.theory_meaning.specs.Greatest.{IsMonotone}
use Rattle.theory_meaning.specs.Untold.{NeverTold}
use Rattle.theory_fixed_points.specs.NodesSay.{AreMonotone, AreUntold, form_holds, node_holds, IsNodeSolution, NodesSayGreatest}
use Rattle.theory_meaning.proofs.Reading.{Reads, reads_of}
use Rattle.theory_meaning.proofs.Questions.{in_flat_map}
use Rattle.theory_meaning.proofs.Local.{each_asked}
use Rattle.theory_definitions.proofs.Products.{both_left, both_right, both_true, in_either, or_left}
use Rattle.theory_meaning.proofs.Settles.{picked, NodeAsks, free_falls, guarded_falls, settles, node_local}
use Rattle.theory_meaning.proofs.Alike.{verdict_by_any_path}

-- ---- the verdict of a number depends only on the verdicts of its edges, if no keyword is told

-- Keywords that are never told are not told by any number.
never_all : {K R : Type 0} (keywords : Keywords K R) → NeverTold keywords → (words : List K) → All (λ m. keywords.is_told m ≡ false) words
never_all keywords never [] = All-nil (λ m. keywords.is_told m ≡ false)
never_all keywords never (m ∷ words) = All-cons (λ m. keywords.is_told m ≡ false) m words (never m) (never_all keywords never words)

pub are_untold : {K R : Type 0} (keywords : Keywords K R) → NeverTold keywords → (nodes : Nodes K) (count : ℕ) → AreUntold keywords nodes count
are_untold keywords never nodes count i l = never_all keywords never (node_words (nodes.entries i))

abbrev AreFree : {K R : Type 0} → Keywords K R → List K → Type 0
AreFree {K} keywords words = (m : K) → Contains words m → keywords.is_told m ≡ false

module _ {K R : Type 0} (keywords : Keywords K R) (matcher : Matcher) (nodes : Nodes K) (subject_of : Place → Subject) (c : Completion) (i : ℕ) (path : Text) (p : Place) (f : NodeEdge → Below → Outcome) where
  option_verdict : (o : Option NodeEdge) (b : Below)
      → (let x : Outcome = elim o [ None ↦ accepted | Some e ↦ f e b ] in x.verdict) ≡ (elim o [ None ↦ true | Some e ↦ (f e b).verdict ])
  option_verdict None b = refl
  option_verdict (Some e) b = refl

  part_verdict : (others : Step → Bool) (name : Text) (x : NodeForm K) → AreFree keywords (form_words x)
      → (node_part keywords matcher nodes subject_of c i path p f (told_of others (node_told keywords x)) name x).verdict ≡ form_holds keywords matcher nodes subject_of c p (λ e b. (f e b).verdict) x
  part_verdict others name (node_keyword m es) untold =
      ap (λ told. keywords.holds m (subject_of p) (beside (told_of others told) (matching matcher c)) (λ q. (node_asked keywords matcher nodes subject_of accepted es f q).verdict)) (untold m (zero, omega arith, refl))
      ∙ ap (keywords.holds m (subject_of p) (matching matcher c)) (λ j q. option_verdict (node_child es q.child) q.below j)
  part_verdict others name (node_reference e) untold = refl

  parts_verdict : (others : Step → Bool) (xs : List (NodePart K)) → AreFree keywords (flat_map (λ x. form_words x.form) xs)
      → (node_parts keywords matcher nodes subject_of c i path p f others xs).verdict ≡ list_all (λ x. form_holds keywords matcher nodes subject_of c p (λ e b. (f e b).verdict) x.form) xs
  parts_verdict others [] untold = refl
  parts_verdict others (x ∷ xs) untold = ap₂ (λ a b. a && b)
      (part_verdict others x.name x.form (λ m k. untold m (in_flat_map (λ y. form_words y.form) (x ∷ xs) x m (zero, omega arith, refl) k)))
      (parts_verdict others xs (λ m k. untold m (Contains-append_right (form_words x.form) _ m k)))

  pub node_verdict : AreFree keywords (node_words (nodes.entries i)) → (node_outcome keywords matcher nodes subject_of c i path p f).verdict ≡ node_holds keywords matcher nodes subject_of c i p (λ e b. (f e b).verdict)
  node_verdict untold = go (nodes.entries i) untold
    where
      go : (o : NodePlan K) → AreFree keywords (node_words o)
          → (let x : Outcome = elim o [ node_always ↦ accepted | node_never ↦ false_outcome keywords.texts (node_at keywords matcher nodes subject_of i path p) (subject_of p) | node_these xs ↦ kept (node_parts keywords matcher nodes subject_of c i path p f (node_others keywords matcher nodes subject_of c i path p f xs) xs) ] in x.verdict)
          ≡ (elim o [ node_always ↦ true | node_never ↦ false | node_these xs ↦ list_all (λ x. form_holds keywords matcher nodes subject_of c p (λ e b. (f e b).verdict) x.form) xs ])
      go node_always untold = refl
      go node_never untold = refl
      go (node_these xs) untold = parts_verdict (node_others keywords matcher nodes subject_of c i path p f xs) xs untold

-- ---- another yes among the answers never changes a yes to a no

or_reads : (a b : Bool) → (a ≡ true → b ≡ true) → (a || b) ≡ b
or_reads true b h = sym (h refl)
or_reads false b h = refl

keyword_more : {K R : Type 0} (keywords : Keywords K R) → Reads keywords → (m : K) → IsMonotone keywords m → (s : Subject) (matches : Matching) (a b : Question → Bool)
    → ((q : Question) → Contains (keywords.may_ask m s) q → a q ≡ true → b q ≡ true) → keywords.holds m s matches a ≡ true → keywords.holds m s matches b ≡ true
keyword_more keywords reads m monotone s matches a b h e =
    let both : Question → Bool = λ q. a q || b q in
    sym (reads.holds_reads m s matches both b (each_asked _ (keywords.may_ask m s) (λ q is. or_reads (a q) (b q) (h q is))))
    ∙ monotone.grows s matches a both (λ q is. or_left (a q) (b q) is) e

module _ {K R : Type 0} (keywords : Keywords K R) (reads : Reads keywords) (matcher : Matcher) (nodes : Nodes K) (instance : Data) (c : Completion) where
  -- ---- whether a number holds depends only on the answers of edges that it may ask

  module _ (i : ℕ) (p : Place) (f g : NodeEdge → Below → Bool) where
    option_same : (o : Option NodeEdge) (b : Below) → ((e : NodeEdge) → o ≡ Some e → f e b ≡ g e b) → ◌≡◌ {A = Bool} (elim o [ None ↦ true | Some e ↦ f e b ]) (elim o [ None ↦ true | Some e ↦ g e b ])
    option_same None b h = refl
    option_same (Some e) b h = h e refl

    form_same : (x : NodeForm K) → ((e : NodeEdge) (b : Below) → Contains (form_edges x) e → IsPresent (subject_in instance p) (steps_below b) → f e b ≡ g e b)
        → form_holds keywords matcher nodes (subject_in instance) c p f x ≡ form_holds keywords matcher nodes (subject_in instance) c p g x
    form_same (node_keyword m es) h =
        let s : Subject = subject_in instance p in
        reads.holds_reads m s (matching matcher c) _ _ (each_asked _ (keywords.may_ask m s)
        (λ q is. option_same (node_child es q.child) q.below (λ e at_e. h e q.below (picked (λ o. o) es q.child e at_e) (All-contains (λ q'. IsPresent s (steps_below q'.below)) (keywords.may_ask m s) q (reads.present m s) is))))
    form_same (node_reference e) h = h e here (zero, omega arith, refl) refl

    forms_same : (xs : List (NodePart K)) → ((e : NodeEdge) (b : Below) → Contains (flat_map (λ x. form_edges x.form) xs) e → IsPresent (subject_in instance p) (steps_below b) → f e b ≡ g e b)
        → list_all (λ x. form_holds keywords matcher nodes (subject_in instance) c p f x.form) xs ≡ list_all (λ x. form_holds keywords matcher nodes (subject_in instance) c p g x.form) xs
    forms_same [] h = refl
    forms_same (x ∷ xs) h = ap₂ (λ a b. a && b)
        (form_same x.form (λ e b k. h e b (in_flat_map (λ y. form_edges y.form) (x ∷ xs) x e (zero, omega arith, refl) k)))
        (forms_same xs (λ e b k. h e b (Contains-append_right (form_edges x.form) _ e k)))

    pub node_same : ((e : NodeEdge) (b : Below) → NodeAsks instance nodes i p e b → f e b ≡ g e b)
        → node_holds keywords matcher nodes (subject_in instance) c i p f ≡ node_holds keywords matcher nodes (subject_in instance) c i p g
    node_same h = go (nodes.entries i) (λ e b k there. h e b (record { edge = k; present = there }))
      where
        go : (o : NodePlan K) → ((e : NodeEdge) (b : Below) → Contains (node_edges o) e → IsPresent (subject_in instance p) (steps_below b) → f e b ≡ g e b)
            → ◌≡◌ {A = Bool} (elim o [ node_always ↦ true | node_never ↦ false | node_these xs ↦ list_all (λ x. form_holds keywords matcher nodes (subject_in instance) c p f x.form) xs ])
            (elim o [ node_always ↦ true | node_never ↦ false | node_these xs ↦ list_all (λ x. form_holds keywords matcher nodes (subject_in instance) c p g x.form) xs ])
        go node_always k = refl
        go node_never k = refl
        go (node_these xs) k = forms_same xs k

  -- ---- if they are monotone, more yeses never change a yes to a no

  module _ (i : ℕ) (p : Place) (f g : NodeEdge → Below → Bool) where
    option_more : (o : Option NodeEdge) (b : Below) → ((e : NodeEdge) → o ≡ Some e → f e b ≡ true → g e b ≡ true)
        → (elim o [ None ↦ true | Some e ↦ f e b ]) ≡ true → (elim o [ None ↦ true | Some e ↦ g e b ]) ≡ true
    option_more None b h is = refl
    option_more (Some e) b h is = h e refl is

    form_more : (x : NodeForm K) → ((m : K) → Contains (form_words x) m → IsMonotone keywords m)
        → ((e : NodeEdge) (b : Below) → Contains (form_edges x) e → IsPresent (subject_in instance p) (steps_below b) → f e b ≡ true → g e b ≡ true)
        → form_holds keywords matcher nodes (subject_in instance) c p f x ≡ true → form_holds keywords matcher nodes (subject_in instance) c p g x ≡ true
    form_more (node_keyword m es) monotone h =
        let s : Subject = subject_in instance p in
        keyword_more keywords reads m (monotone m (zero, omega arith, refl)) s (matching matcher c) _ _
        (λ q is. option_more (node_child es q.child) q.below (λ e at_e. h e q.below (picked (λ o. o) es q.child e at_e) (All-contains (λ q'. IsPresent s (steps_below q'.below)) (keywords.may_ask m s) q (reads.present m s) is)))
    form_more (node_reference e) monotone h = h e here (zero, omega arith, refl) refl

    forms_more : (xs : List (NodePart K)) → ((m : K) → Contains (flat_map (λ x. form_words x.form) xs) m → IsMonotone keywords m)
        → ((e : NodeEdge) (b : Below) → Contains (flat_map (λ x. form_edges x.form) xs) e → IsPresent (subject_in instance p) (steps_below b) → f e b ≡ true → g e b ≡ true)
        → list_all (λ x. form_holds keywords matcher nodes (subject_in instance) c p f x.form) xs ≡ true → list_all (λ x. form_holds keywords matcher nodes (subject_in instance) c p g x.form) xs ≡ true
    forms_more [] monotone h is = refl
    forms_more (x ∷ xs) monotone h is = both_true _ _
        (form_more x.form (λ m k. monotone m (in_flat_map (λ y. form_words y.form) (x ∷ xs) x m (zero, omega arith, refl) k)) (λ e b k. h e b (in_flat_map (λ y. form_edges y.form) (x ∷ xs) x e (zero, omega arith, refl) k)) (both_left _ _ is))
        (forms_more xs (λ m k. monotone m (Contains-append_right (form_words x.form) _ m k)) (λ e b k. h e b (Contains-append_right (form_edges x.form) _ e k)) (both_right _ _ is))

    pub node_more : ((m : K) → Contains (node_words (nodes.entries i)) m → IsMonotone keywords m)
        → ((e : NodeEdge) (b : Below) → NodeAsks instance nodes i p e b → f e b ≡ true → g e b ≡ true)
        → node_holds keywords matcher nodes (subject_in instance) c i p f ≡ true → node_holds keywords matcher nodes (subject_in instance) c i p g ≡ true
    node_more monotone h = go (nodes.entries i) monotone (λ e b k there. h e b (record { edge = k; present = there }))
      where
        go : (o : NodePlan K) → ((m : K) → Contains (node_words o) m → IsMonotone keywords m)
            → ((e : NodeEdge) (b : Below) → Contains (node_edges o) e → IsPresent (subject_in instance p) (steps_below b) → f e b ≡ true → g e b ≡ true)
            → (elim o [ node_always ↦ true | node_never ↦ false | node_these xs ↦ list_all (λ x. form_holds keywords matcher nodes (subject_in instance) c p f x.form) xs ]) ≡ true
            → (elim o [ node_always ↦ true | node_never ↦ false | node_these xs ↦ list_all (λ x. form_holds keywords matcher nodes (subject_in instance) c p g x.form) xs ]) ≡ true
        go node_always k l is = refl
        go node_never k l is = is
        go (node_these xs) k l is = forms_more xs k l is

  -- ---- a set of pairs, each of which rests on others of the set

  -- The pair holds if some edges are answered yes, each of which leads to a pair of the set.
  pub record Rests (A : ℕ → Place → Type 0) (i : ℕ) (p : Place) : Type 0 where
    pub answers : NodeEdge → Below → Bool
    pub each : (e : NodeEdge) (b : Below) → NodeAsks instance nodes i p e b → answers e b ≡ true → A e.node (place_below p b)
    pub holds : node_holds keywords matcher nodes (subject_in instance) c i p answers ≡ true

  across_true : (g t : Bool) (x y : Outcome) → x.verdict ≡ true → y.verdict ≡ true
      → (let o : Outcome = elim g [ false ↦ x | true ↦ elim t [ true ↦ accepted | false ↦ y ] ] in o.verdict) ≡ true
  across_true false t x y h k = h
  across_true true true x y h k = refl
  across_true true false x y h k = k

  across_cases : {P : Type 0} (g t : Bool) (x y : Outcome) → (g ≡ false → x.verdict ≡ true → P) → (t ≡ true → P) → (t ≡ false → y.verdict ≡ true → P)
      → (let o : Outcome = elim g [ false ↦ x | true ↦ elim t [ true ↦ accepted | false ↦ y ] ] in o.verdict) ≡ true → P
  across_cases false t x y h k l is = h refl is
  across_cases true true x y h k l is = k refl
  across_cases true false x y h k l is = l refl is

  module _ (count : ℕ) (ranked : Ranked nodes count) (monotone : AreMonotone keywords nodes count) where
    abbrev pub Says : ℕ → ℕ → Text → Place → List ℕ → Outcome
    Says = guarded_within yes_outcome (node_outcome keywords matcher nodes (subject_in instance) c)

    abbrev Across : ℕ → Text → Place → List ℕ → NodeEdge → Below → Outcome
    Across n = across yes_outcome (node_outcome keywords matcher nodes (subject_in instance) c) (Says n)

    pub word_monotone : (i : ℕ) → i < count → (m : K) → Contains (node_words (nodes.entries i)) m → IsMonotone keywords m
    word_monotone i l m is = All-contains (IsMonotone keywords) (node_words (nodes.entries i)) m (monotone i l) is

    word_free : (i : ℕ) → i < count → AreFree keywords (node_words (nodes.entries i))
    word_free i l m is = (word_monotone i l m is).untold

    -- Such pairs are accepted, whatever is in progress and however deep.
    pub accepted_says : (A : ℕ → Place → Type 0) → ((i : ℕ) (p : Place) → i < count → A i p → Rests A i p)
        → (n i : ℕ) (path : Text) (p : Place) (busy : List ℕ) → i < count → A i p → (Says n i path p busy).verdict ≡ true
    accepted_says A rests zero i path p busy l a = refl
    accepted_says A rests (suc n) i path p busy l a =
        let r : Rests A i p = rests i p l a in
        node_verdict keywords matcher nodes (subject_in instance) c i path p (Across n path p busy) (word_free i l)
        ∙ node_more i p r.answers (λ e b. (Across n path p busy e b).verdict) (word_monotone i l)
        (λ e b asks is. across_true e.guarded (list_any (λ j. j == e.node) (progress_below busy b)) _ _
        (accepted_says A rests n e.node _ (place_below p b) _ (ranked i l e asks.edge).0 (r.each e b asks is))
        (accepted_says A rests n e.node _ (place_below p b) _ (ranked i l e asks.edge).0 (r.each e b asks is)))
        r.holds

    -- ---- what is said at a sufficient depth

    abbrev pub Verdict : ℕ → Place → List ℕ → Bool
    Verdict i p busy = (Says (suc (left nodes count i (subject_in instance p) busy)) i [] p busy).verdict

    settled : (n i : ℕ) (path : Text) (p : Place) (busy : List ℕ) → i < count → left nodes count i (subject_in instance p) busy < n → (Says n i path p busy).verdict ≡ Verdict i p busy
    settled n i path p busy l low =
        ap (λ o. o.verdict) (settles instance nodes count ranked yes_outcome (node_outcome keywords matcher nodes (subject_in instance) c) (node_local keywords matcher instance nodes reads c) n (suc (left nodes count i (subject_in instance p) busy)) i path p busy l low (omega arith))
        ∙ verdict_by_any_path keywords matcher nodes (subject_in instance) c (suc (left nodes count i (subject_in instance p) busy)) i path [] p busy

    -- ---- the pairs that a run with nothing in progress reaches by questions that are answered
    -- yes, and what is in progress there

    data Trail (root : ℕ) (top : Place) : ℕ → Place → List ℕ → Type 0 where
      begins : Trail root top root top []
      enters_not : {i : ℕ} {p : Place} {busy : List ℕ} (e : NodeEdge) (b : Below) → Trail root top i p busy → NodeAsks instance nodes i p e b → e.guarded ≡ false
          → Verdict e.node (place_below p b) (progress_below busy b) ≡ true → Trail root top e.node (place_below p b) (progress_below busy b)
      enters : {i : ℕ} {p : Place} {busy : List ℕ} (e : NodeEdge) (b : Below) → Trail root top i p busy → NodeAsks instance nodes i p e b → list_any (λ j. j == e.node) (progress_below busy b) ≡ false
          → Verdict e.node (place_below p b) (e.node ∷ progress_below busy b) ≡ true → Trail root top e.node (place_below p b) (e.node ∷ progress_below busy b)

    abbrev OnTrail : ℕ → Place → ℕ → Place → Type 0
    OnTrail root top i p = (busy : List ℕ) × Trail root top i p busy

    module _ (root : ℕ) (top : Place) where
      trail_yes : Verdict root top [] ≡ true → {i : ℕ} {p : Place} {busy : List ℕ} → Trail root top i p busy → Verdict i p busy ≡ true
      trail_yes is begins = is
      trail_yes is (enters_not e b t asks free said) = said
      trail_yes is (enters e b t asks free said) = said

      progress_on : {p : Place} (busy : List ℕ) (b : Below) → ((j : ℕ) → list_any (λ n. n == j) busy ≡ true → OnTrail root top j p)
          → (j : ℕ) → list_any (λ n. n == j) (progress_below busy b) ≡ true → OnTrail root top j (place_below p b)
      progress_on busy here on j is = on j is
      progress_on busy (down s) on j is = absurd (true≢false (sym is))

      -- Whatever is in progress at a place was reached there.
      carried : {i : ℕ} {p : Place} {busy : List ℕ} → Trail root top i p busy → (j : ℕ) → list_any (λ n. n == j) busy ≡ true → OnTrail root top j p
      carried begins j is = absurd (true≢false (sym is))
      carried (enters_not {busy = busy} e b t asks free said) j is = progress_on busy b (carried t) j is
      carried (enters {p = p} {busy = busy} e b t asks free said) j is = in_either (e.node == j) (list_any (λ n. n == j) (progress_below busy b))
          (λ same. subst (λ k. OnTrail root top k (place_below p b)) (eqb-true e.node j same) (e.node ∷ progress_below busy b, enters e b t asks free said))
          (progress_on busy b (carried t) j) is

      -- So each of these pairs rests on others.
      trail_rests : Verdict root top [] ≡ true → (i : ℕ) (p : Place) → i < count → OnTrail root top i p → Rests (OnTrail root top) i p
      trail_rests is i p l on =
          let busy : List ℕ = on.0 in
          let n : ℕ = left nodes count i (subject_in instance p) busy in
          record {
            answers = λ e b. (Across n [] p busy e b).verdict;
            each = λ e b asks. across_cases e.guarded (list_any (λ j. j == e.node) (progress_below busy b)) _ _
                (λ free said. (progress_below busy b, enters_not e b on.1 asks free (sym (settled n e.node _ _ _ (ranked i l e asks.edge).0 (free_falls instance nodes count ranked i p busy e b l asks free)) ∙ said)))
                (λ met. progress_on busy b (carried on.1) e.node met)
                (λ free said. (e.node ∷ progress_below busy b, enters e b on.1 asks free (sym (settled n e.node _ _ _ (ranked i l e asks.edge).0 (guarded_falls instance nodes count ranked i p busy e b l asks free)) ∙ said)));
            holds = sym (node_verdict keywords matcher nodes (subject_in instance) c i [] p (Across n [] p busy) (word_free i l)) ∙ trail_yes is on.1;
          }

    -- What is said with no pair in progress is a solution.
    pub is_solution : IsNodeSolution keywords matcher nodes (subject_in instance) c count (λ i p. Verdict i p [])
    is_solution i p l is =
        let A : ℕ → Place → Type 0 = OnTrail i p in
        let r : Rests A i p = trail_rests i p is i p l ([], begins) in
        node_more i p r.answers (λ e b. Verdict e.node (place_below p b) []) (word_monotone i l)
        (λ e b asks said. accepted_says A (trail_rests i p is) (suc (left nodes count e.node (subject_in instance (place_below p b)) [])) e.node [] (place_below p b) [] (ranked i l e asks.edge).0 (r.each e b asks said))
        r.holds

    -- The pairs of every solution are accepted.
    pub solution_says : (accepts : ℕ → Place → Bool) → IsNodeSolution keywords matcher nodes (subject_in instance) c count accepts
        → (n i : ℕ) (path : Text) (p : Place) (busy : List ℕ) → i < count → accepts i p ≡ true → (Says n i path p busy).verdict ≡ true
    solution_says accepts solves = accepted_says (λ i p. accepts i p ≡ true) (λ i p l is. record { answers = λ e b. accepts e.node (place_below p b); each = λ e b asks said. said; holds = solves i p l is })

pub nodes_say_greatest : {K R : Type 0} (keywords : Keywords K R) → NodesSayGreatest keywords
nodes_say_greatest keywords laws matcher nodes count ranked monotone instance c i path p l n low =
    let reads : Reads keywords = reads_of keywords laws in (
      λ is. (
        λ j q. Verdict keywords reads matcher nodes instance c count ranked monotone j q [],
        is_solution keywords reads matcher nodes instance c count ranked monotone,
        sym (settled keywords reads matcher nodes instance c count ranked monotone n i path p [] l low) ∙ is,
      ),
      λ h. solution_says keywords reads matcher nodes instance c count ranked monotone h.0 h.1 n i path p [] l h.2,
    )
