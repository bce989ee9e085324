-- The outcome of a number is that of its key, if the questions that both ask have the same answers.
use Rattle.std.proofs.Common.{◌≡◌, ℕ, zero, List, [], ◌∷◌, refl, sym, subst, ◌∙◌, ap, ap₂, arith, Bool}
use Rattle.std.specs.Prelude.{Contains, Option, Some, None, flat_map, map, if◌then◌else◌}
use Rattle.std.proofs.lemmas.List.Elements.{All-contains}
use Rattle.serde_json.specs.Data.{Data}
use Rattle.theory_definitions.specs.Instance.{Text, Place, Subject, Step}
use Rattle.theory_definitions.specs.Reports.{Outcome, accepted, spans_nothing}
use Rattle.theory_definitions.specs.Parts.{Parts}
use Rattle.theory_definitions.specs.Matching.{Completion, matching, beside}
use Rattle.theory_definitions.specs.Keywords.{Below, here, Question}
use Rattle.theory_definitions.specs.Making.{Request}
use Rattle.theory_definitions.specs.Plan.{Key, Edge, Part, Form, keyword, reference, Reference, Plan, always, never, these, plan, child, requested, reference_edge, option_list}
use Rattle.theory_definitions.specs.Meaning.{subject, Where, at, place_below, asked, referred_to, keyword_outcome, reference_outcome, false_outcome, fault_error, both, part_outcome, parts_outcome, outcome_of, kept, others_span, either_spans, form_told, told_of}
use Rattle.theory_meaning.specs.Paths.{edges, part_edges}
use Rattle.theory_definitions.specs.Laws.{IsPresent, steps_below}
use Rattle.theory_definitions.specs.Guarded.{NodeEdge, Children, node_child, NodeForm, node_keyword, node_reference, NodePart, NodePlan, node_always, node_never, node_these, Nodes, form_edges, node_edges, node_at, node_asked, node_part, node_parts, node_outcome, yes_outcome, node_others, node_told}
use Rattle.theory_meaning.specs.Numbered.{Numbers, IsNumber, SameEdge, SameForm, SamePart, SameParts, SamePlan, StandsFor, NumbersSayUnfolding}
use Rattle.theory_meaning.proofs.Reading.{Reads, reads_of}
use Rattle.theory_meaning.proofs.Questions.{later, in_flat_map, PartAsks, by_keyword, by_reference, Asks}
use Rattle.theory_meaning.proofs.Settles.{picked}
use Rattle.theory_meaning.proofs.Simulates.{BothAsk, says_unfolding}
use Rattle.theory_meaning.proofs.Depths.{ByMeasure, measure_on, measure_less, measure_first}
use Rattle.theory_meaning.proofs.Inside.{subschemas_inside}
use Rattle.theory_meaning.proofs.Local.{same_outcome, each_asked}
use Rattle.theory_meaning.proofs.SpansRead.{spans_same}

pub in_option_list : {A : Type 0} (o : Option A) (x : A) → o ≡ Some x → Contains (option_list o) x
in_option_list o x e = subst (λ u. Contains (option_list u) x) (sym e) (zero, omega arith, refl)

module _ {S K R : Type 0} (w : Parts S K R) (instance : Data) where
  -- Whatever may be asked is an edge.
  pub asks_edge : (k : Key S) (p : Place) (edge : Edge S) (q : Place) → Asks w instance k p edge q → Contains (edges w k) edge
  asks_edge k p edge q h = subst (λ (o : Plan K). Contains {X = Edge S} (elim o [ always ↦ [] | never ↦ [] | these xs ↦ flat_map (λ x. part_edges w k x.name x.form) xs ]) edge) (sym h.is_plan)
      (in_flat_map (λ x. part_edges w k x.name x.form) h.xs h.part edge h.is_part (go h.part.name h.part.form q h.asks))
    where
      go : (name : Text) (form : Form K) (q : Place) → PartAsks w instance k p name form edge q → Contains (part_edges w k name form) edge
      go name (keyword m requests absorbed) _ (by_keyword q is at_edge) = picked (requested w k name) requests q.child edge at_edge
      go name (reference kind text) _ (by_reference is) = in_option_list (reference_edge w k name kind text) edge is

module _ {S K R : Type 0} (w : Parts S K R) (instance : Data) (keys : Numbers S) (nodes : Nodes K) where
  module _ (reads : Reads w.keywords) (i : ℕ) (k : Key S) (stands : StandsFor w keys nodes i k) (path : Text) (p : Place) where
    -- The same question of a part of both.
    pub record FormsAsk (name : Text) (x : NodeForm K) (y : Form K) (e : NodeEdge) (b : Below) (edge : Edge S) : Type 0 where
      pub number : IsNumber keys e.node edge.key
      pub same_path : e.path ≡ edge.path
      pub node_edge : Contains (form_edges x) e
      pub present : IsPresent (subject w instance p) (steps_below b)
      pub asks : PartAsks w instance k p name y edge (place_below p b)

    pub at_same : ◌≡◌ {A = Where} (node_at w.keywords w.matcher nodes (subject w instance) i path p) (at w instance k path p)
    at_same = λ j. record { place = p; path = path; location = stands.location j; absolute = λ l. stands.absolute l j }

    -- ---- an answer of any kind

    module _ {X : Type 0} (none : X) (f : NodeEdge → Below → X) (g : Edge S → Place → X) where
      both_asked : (o : Option NodeEdge) (o' : Option (Edge S)) (b : Below) → SameEdge w keys nodes o o'
          → ((e : NodeEdge) (edge : Edge S) → o ≡ Some e → o' ≡ Some edge → IsNumber keys e.node edge.key → e.path ≡ edge.path → f e b ≡ g edge (place_below p b))
          → ◌≡◌ {A = X} (elim o [ None ↦ none | Some e ↦ f e b ]) (elim o' [ None ↦ none | Some edge ↦ g edge (place_below p b) ])
      both_asked None None b s h = refl
      both_asked (Some e) (Some edge) b s h = h e edge refl refl s.0 s.1
      both_asked None (Some edge) b s h = absurd s
      both_asked (Some e) None b s h = absurd s

      pub keyword_asked : (name : Text) (m : K) (es : Children) (m' : K) (requests : List Request) (absorbed : List Text) → SameForm w keys nodes k name (node_keyword m es) (keyword m' requests absorbed)
          → ((e : NodeEdge) (b : Below) (edge : Edge S) → FormsAsk name (node_keyword m es) (keyword m' requests absorbed) e b edge → f e b ≡ g edge (place_below p b))
          → (q : Question) → Contains (w.keywords.may_ask m' (subject w instance p)) q
          → node_asked w.keywords w.matcher nodes (subject w instance) none es f q ≡ asked w instance none k name requests p g q
      keyword_asked name m es m' requests absorbed s h q is = both_asked (node_child es q.child) (child w k name requests q.child) q.below (s.1 q.child)
          (λ e edge at_e at_edge number same_path. h e q.below edge (record {
            number = number;
            same_path = same_path;
            node_edge = picked (λ o. o) es q.child e at_e;
            present = All-contains (λ q'. IsPresent (subject w instance p) (steps_below q'.below)) (w.keywords.may_ask m' (subject w instance p)) q (reads.present m' (subject w instance p)) is;
            asks = by_keyword q is at_edge;
          }))

      pub reference_asked : (name : Text) (e : NodeEdge) (kind : Reference) (text : Text) → SameForm w keys nodes k name (node_reference e) (reference kind text)
          → ((e' : NodeEdge) (b : Below) (edge : Edge S) → FormsAsk name (node_reference e) (reference kind text) e' b edge → f e' b ≡ g edge (place_below p b))
          → f e here ≡ referred_to w instance none k name kind text p g
      reference_asked name e kind text s h = both_asked (Some e) (reference_edge w k name kind text) here s
          (λ e' edge is at_edge number same_path. h e' here edge (record { number = number; same_path = same_path; node_edge = (zero, omega arith, some_is is); present = refl; asks = by_reference at_edge }))
        where
          some_is : {a b : NodeEdge} → ◌≡◌ {A = Option NodeEdge} (Some a) (Some b) → a ≡ b
          some_is {a} q = ap (λ o. elim o [ Some x ↦ x | None ↦ a ]) q

      -- From the parts to the whole.
      pub whole_asks : (xs : List (NodePart K)) (ys : List (Part K)) → nodes.entries i ≡ node_these xs → plan w k ≡ these ys
          → ((e : NodeEdge) (b : Below) (edge : Edge S) → BothAsk w instance keys nodes i k p e b edge → f e b ≡ g edge (place_below p b))
          → (x : NodePart K) (y : Part K) → Contains xs x → Contains ys y
          → (e : NodeEdge) (b : Below) (edge : Edge S) → FormsAsk y.name x.form y.form e b edge → f e b ≡ g edge (place_below p b)
      whole_asks xs ys is_xs is_ys h x y in_xs in_ys e b edge pair =
          let asks : Asks w instance k p edge (place_below p b) = record { xs = ys; is_plan = is_ys; part = y; is_part = in_ys; asks = pair.asks } in
          h e b edge (record {
            number = pair.number;
            path = pair.same_path;
            asks = asks;
            is_edge = asks_edge w instance k p edge (place_below p b) asks;
            node_asks = record { edge = subst (λ o. Contains (node_edges o) e) (sym is_xs) (in_flat_map (λ z. form_edges z.form) xs x e in_xs pair.node_edge); present = pair.present };
          })

    -- The same entries are told.
    pub told_same : (name : Text) (x : NodeForm K) (y : Form K) → SameForm w keys nodes k name x y → node_told w.keywords x ≡ form_told w.keywords y
    told_same name (node_keyword m es) (keyword m' requests absorbed) s = ap w.keywords.is_told s.0
    told_same name (node_reference e) (reference kind text) s = refl
    told_same name (node_keyword m es) (reference kind text) s = absurd s
    told_same name (node_reference e) (keyword m' requests absorbed) s = absurd s

    -- ---- outcomes

    module _ (c : Completion) (f : NodeEdge → Below → Outcome) (g : Edge S → Place → Outcome) where
      form_same : (others : Step → Bool) (name : Text) (x : NodeForm K) (y : Form K) → SameForm w keys nodes k name x y
          → ((e : NodeEdge) (b : Below) (edge : Edge S) → FormsAsk name x y e b edge → f e b ≡ g edge (place_below p b))
          → node_part w.keywords w.matcher nodes (subject w instance) c i path p f others name x ≡ part_outcome w instance c k path p g others name y
      form_same others name (node_keyword m es) (keyword m' requests absorbed) s h =
          let x : Subject = subject w instance p in
          let qs : List Question = w.keywords.may_ask m' x in
          let each = keyword_asked accepted f g name m es m' requests absorbed s h in
          (λ j. keyword_outcome w.keywords (at_same j) name (s.0 j) x (beside others (matching w.matcher c)) (node_asked w.keywords w.matcher nodes (subject w instance) accepted es f))
          ∙ same_outcome
          (reads.holds_reads m' x (beside others (matching w.matcher c)) _ _ (each_asked _ qs (λ q is. ap (λ o. o.verdict) (each q is))))
          (ap (map (fault_error (at w instance k path p) name)) (reads.faults_read m' x (beside others (matching w.matcher c)) _ _ (each_asked _ qs each)))
          (spans_same w.keywords m' x (beside others (matching w.matcher c)) _ _ (reads.spans_read m' x) each)
      form_same others name (node_reference e) (reference kind text) s h = λ j. reference_outcome (at_same j) name (reference_asked accepted f g name e kind text s h j)
      form_same others name (node_keyword m es) (reference kind text) s h = absurd s
      form_same others name (node_reference e) (keyword m' requests absorbed) s h = absurd s

      pub part_same : (others : Step → Bool) (x : NodePart K) (y : Part K) → SamePart w keys nodes k x y
          → ((e : NodeEdge) (b : Below) (edge : Edge S) → FormsAsk y.name x.form y.form e b edge → f e b ≡ g edge (place_below p b))
          → node_part w.keywords w.matcher nodes (subject w instance) c i path p f others x.name x.form ≡ part_outcome w instance c k path p g others y.name y.form
      part_same others x y s h = ap (λ n. node_part w.keywords w.matcher nodes (subject w instance) c i path p f others n x.form) s.name ∙ form_same others y.name x.form y.form s.form h

      span_same : (told told' : Bool) (o o' : Outcome) → told ≡ told' → o ≡ o' → ◌≡◌ {A = Step → Bool} (if told then spans_nothing else o.spans) (if told' then spans_nothing else o'.spans)
      span_same told told' o o' t e = ap₂ (λ b (u : Outcome). if b then spans_nothing else u.spans) t e

      pub others_same : (xs : List (NodePart K)) (ys : List (Part K)) → SameParts w keys nodes k xs ys
          → ((x : NodePart K) (y : Part K) → Contains xs x → Contains ys y → (e : NodeEdge) (b : Below) (edge : Edge S) → FormsAsk y.name x.form y.form e b edge → f e b ≡ g edge (place_below p b))
          → node_others w.keywords w.matcher nodes (subject w instance) c i path p f xs ≡ others_span w instance c k path p g ys
      others_same [] [] s h = refl
      others_same (x ∷ xs) (y ∷ ys) s h = ap₂ either_spans (span_same _ _ _ _ (told_same y.name x.form y.form s.0.form) (part_same spans_nothing x y s.0 (h x y (zero, omega arith, refl) (zero, omega arith, refl)))) (others_same xs ys s.1 (λ x' y' in_x in_y. h x' y' (later x xs x' in_x) (later y ys y' in_y)))
      others_same [] (y ∷ ys) s h = absurd s
      others_same (x ∷ xs) [] s h = absurd s

      parts_same : (others : Step → Bool) (xs : List (NodePart K)) (ys : List (Part K)) → SameParts w keys nodes k xs ys
          → ((x : NodePart K) (y : Part K) → Contains xs x → Contains ys y → (e : NodeEdge) (b : Below) (edge : Edge S) → FormsAsk y.name x.form y.form e b edge → f e b ≡ g edge (place_below p b))
          → node_parts w.keywords w.matcher nodes (subject w instance) c i path p f others xs ≡ parts_outcome w instance c k path p g others ys
      parts_same others [] [] s h = refl
      parts_same others (x ∷ xs) (y ∷ ys) s h =
          let told : told_of others (node_told w.keywords x.form) ≡ told_of others (form_told w.keywords y.form) = ap (told_of others) (told_same y.name x.form y.form s.0.form) in
          ap₂ both
          (ap (λ o. node_part w.keywords w.matcher nodes (subject w instance) c i path p f o x.name x.form) told ∙ part_same (told_of others (form_told w.keywords y.form)) x y s.0 (h x y (zero, omega arith, refl) (zero, omega arith, refl)))
          (parts_same others xs ys s.1 (λ x' y' in_x in_y. h x' y' (later x xs x' in_x) (later y ys y' in_y)))
      parts_same others [] (y ∷ ys) s h = absurd s
      parts_same others (x ∷ xs) [] s h = absurd s

      plan_same : (n : NodePlan K) (o : Plan K) → nodes.entries i ≡ n → plan w k ≡ o → SamePlan w keys nodes k n o
          → ((e : NodeEdge) (b : Below) (edge : Edge S) → BothAsk w instance keys nodes i k p e b edge → f e b ≡ g edge (place_below p b))
          → ◌≡◌ {A = Outcome} (elim n [ node_always ↦ accepted | node_never ↦ false_outcome w.keywords.texts (node_at w.keywords w.matcher nodes (subject w instance) i path p) (subject w instance p) | node_these xs ↦ kept (node_parts w.keywords w.matcher nodes (subject w instance) c i path p f (node_others w.keywords w.matcher nodes (subject w instance) c i path p f xs) xs) ])
          (elim o [ always ↦ accepted | never ↦ false_outcome w.keywords.texts (at w instance k path p) (subject w instance p) | these ys ↦ kept (parts_outcome w instance c k path p g (others_span w instance c k path p g ys) ys) ])
      plan_same node_always always is_n is_o s h = refl
      plan_same node_never never is_n is_o s h = λ j. false_outcome w.keywords.texts (at_same j) (subject w instance p)
      plan_same (node_these xs) (these ys) is_n is_o s h =
          let each = whole_asks accepted f g xs ys is_n is_o h in
          ap kept (ap (λ o. node_parts w.keywords w.matcher nodes (subject w instance) c i path p f o xs) (others_same xs ys s each) ∙ parts_same (others_span w instance c k path p g ys) xs ys s each)
      plan_same node_always never is_n is_o s h = absurd s
      plan_same node_always (these ys) is_n is_o s h = absurd s
      plan_same node_never always is_n is_o s h = absurd s
      plan_same node_never (these ys) is_n is_o s h = absurd s
      plan_same (node_these xs) always is_n is_o s h = absurd s
      plan_same (node_these xs) never is_n is_o s h = absurd s

      pub outcomes_same : ((e : NodeEdge) (b : Below) (edge : Edge S) → BothAsk w instance keys nodes i k p e b edge → f e b ≡ g edge (place_below p b))
          → node_outcome w.keywords w.matcher nodes (subject w instance) c i path p f ≡ outcome_of w instance c k path p g
      outcomes_same h = plan_same (nodes.entries i) (plan w k) refl refl stands.entries h

pub numbers_say_unfolding : {S K R : Type 0} (w : Parts S K R) (keys : Numbers S) (nodes : Nodes K) → NumbersSayUnfolding w keys nodes
numbers_say_unfolding w keys nodes laws values makers state numbered ranked instance c i k path p number none m n low low' =
    says_unfolding w instance keys nodes (subschemas_inside w values makers) state ranked yes_outcome accepted (node_outcome w.keywords w.matcher nodes (subject w instance) c) (outcome_of w instance c)
    (λ i' k' number' path' p' f g h. outcomes_same w instance keys nodes (reads_of w.keywords laws) i' k' (numbered.stands i' k' number') path' p' c f g h)
    (record { key = k; path = path; place = p }) none (ByMeasure w instance keys nodes) (measure_on w instance keys nodes) (measure_less w instance keys nodes) m n i number low
    (measure_first w instance keys nodes n i (record { key = k; path = path; place = p }) low')
