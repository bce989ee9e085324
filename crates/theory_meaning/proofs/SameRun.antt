-- The run of a number is that of its key, if the same runs answer the questions that both ask.
use Rattle.std.proofs.Common.{◌≡◌, ℕ, zero, suc, ◌<◌, ◌≤◌, ◌==◌, Bool, true, false, ◌||◌, List, [], ◌∷◌, length, refl, sym, subst, ◌∙◌, ap, ap₂, arith, true≢false}
use Rattle.std.specs.Prelude.{Contains, Option, Some, None, Decides}
use Rattle.std.proofs.lemmas.Bool.{eqb-true}
use Rattle.std.proofs.lemmas.Slice.Eq.{bytes_eq-Decides}
use Rattle.serde_json.specs.Data.{Data}
use Rattle.theory_definitions.specs.Instance.{Text, Place, Step, to_member, to_item, to_name, same_step, same_place, Subject}
use Rattle.theory_definitions.specs.Reports.{accepted, Unit_, Outcome}
use Rattle.theory_definitions.specs.Drafts.{Draft, draft_4, draft_6, draft_7, draft_2019_09, draft_2020_12, draft_unknown, SchemaPlace, same_draft}
use Rattle.theory_definitions.specs.Keywords.{Marked, a_child, a_reservation, Below, Mode}
use Rattle.theory_definitions.specs.Matching.{Completion, Assumptions, matching, completion_of, beside}
use Rattle.theory_definitions.specs.Parts.{Parts}
use Rattle.theory_definitions.specs.Making.{Request}
use Rattle.theory_definitions.specs.Plan.{Target, Key, Edge, Part, Form, keyword, reference, Plan, always, never, these, plan, child, same_target, same_key, same_edge_key, same_child}
use Rattle.theory_definitions.specs.Meaning.{subject, Where, at, place_below, outcome_of, unfold_, told_of, others_span, form_told}
use Rattle.theory_meaning.specs.Returns.{Asked, questions, Return}
use Rattle.theory_definitions.specs.Units.{no_unit, keyword_units, reference_units, Entry, true_unit, false_unit, plan_unit, annotations_of, part_units, entries_of, unit_of, plain_units, Valued, no_valued, valued_of}
use Rattle.theory_definitions.specs.Laws.{EachKeeps}
use Rattle.theory_meaning.specs.Reach.{IsReach, targets_of, deep_enough}
use Rattle.theory_definitions.specs.Runs.{Run, no_run, Met, keyword_met, part_met, looked, run_node, run, looked_at, node_met, part_spanning, plan_spanning, spanning_met, Looked}
use Rattle.theory_definitions.specs.Cover.{plain, mode_of}
use Rattle.theory_definitions.specs.Guarded.{NodeEdge, Children, node_child, same_node, same_edge, form_edges, node_edges, NodeForm, node_keyword, node_reference, NodePart, NodePlan, node_always, node_never, node_these, Nodes, node_at, node_asked, node_outcome, node_part_units, node_entries_of, node_unit, node_part_met, node_looked, guarded_within, guarded_node, guarded_sense, yes_outcome, yes_run, guarded_units, node_looked_at, node_others, node_part, node_part_spanning, node_told, node_valued, yes_valued}
use Rattle.theory_meaning.specs.Numbered.{Numbers, IsNumber, SameEdge, SameForm, SamePart, SameParts, SamePlan, StandsFor, AreNumbered, Ranked, left, ValuesInside, MakersAskBelow, NumbersMeanUnfolding, NumbersMeanPlain}
use Rattle.theory_meaning.proofs.Reading.{Reads, reads_of}
use Rattle.theory_meaning.proofs.Questions.{later, in_flat_map}
use Rattle.theory_meaning.proofs.RunsRead.{met_reads, units_read, spanning_reads}
use Rattle.theory_meaning.proofs.Depths.{ByMeasure, measure_on, measure_less, measure_first, ByTrail, trail_on, trail_less, trail_first}
use Rattle.theory_meaning.proofs.AtPlaces.{at_places}
use Rattle.theory_meaning.proofs.Reaching.{at_targets}
use Rattle.theory_meaning.proofs.Inside.{subschemas_inside}
use Rattle.theory_definitions.proofs.Products.{both_left, both_right}
use Rattle.theory_definitions.proofs.SameVocabularies.{vocabularies_is}
use Rattle.theory_meaning.proofs.Settles.{picked}
use Rattle.theory_meaning.proofs.Alike.{guard_same}
use Rattle.theory_meaning.proofs.Simulates.{BothAsk, one_key, same_text, same_number, both_true, place_itself, target_itself, says_unfolding}
use Rattle.theory_meaning.proofs.SameOutcome.{FormsAsk, at_same, keyword_asked, reference_asked, whole_asks, part_same, outcomes_same, others_same, told_same}

-- ---- keys that are the same are equal

pub step_is : (s t : Step) → same_step s t ≡ true → s ≡ t
step_is (to_member k) (to_member l) e = ap to_member ((bytes_eq-Decides k l).0 e)
step_is (to_item m) (to_item n) e = ap to_item (eqb-true m n e)
step_is (to_name k) (to_name l) e = ap to_name ((bytes_eq-Decides k l).0 e)
step_is (to_member k) (to_item n) e = absurd (true≢false (sym e))
step_is (to_member k) (to_name n) e = absurd (true≢false (sym e))
step_is (to_item k) (to_member n) e = absurd (true≢false (sym e))
step_is (to_item k) (to_name n) e = absurd (true≢false (sym e))
step_is (to_name k) (to_member n) e = absurd (true≢false (sym e))
step_is (to_name k) (to_item n) e = absurd (true≢false (sym e))

pub place_is : (p q : Place) → same_place p q ≡ true → p ≡ q
place_is [] [] e = refl
place_is (s ∷ p) (t ∷ q) e = ap₂ (λ x xs. x ∷ xs) (step_is s t (both_left _ _ e)) (place_is p q (both_right _ _ e))
place_is [] (t ∷ q) e = absurd (true≢false (sym e))
place_is (s ∷ p) [] e = absurd (true≢false (sym e))

abbrev DraftIs : Draft → Draft → Type 0
DraftIs a b = same_draft a b ≡ true → a ≡ b

draft_is : (a b : Draft) → DraftIs a b
draft_is draft_4 b = elim b as (λ b. DraftIs draft_4 b) [ draft_4 ↦ λ e. refl | draft_6 ↦ λ e. absurd (true≢false (sym e)) | draft_7 ↦ λ e. absurd (true≢false (sym e)) | draft_2019_09 ↦ λ e. absurd (true≢false (sym e)) | draft_2020_12 ↦ λ e. absurd (true≢false (sym e)) | draft_unknown ↦ λ e. absurd (true≢false (sym e)) ]
draft_is draft_6 b = elim b as (λ b. DraftIs draft_6 b) [ draft_6 ↦ λ e. refl | draft_4 ↦ λ e. absurd (true≢false (sym e)) | draft_7 ↦ λ e. absurd (true≢false (sym e)) | draft_2019_09 ↦ λ e. absurd (true≢false (sym e)) | draft_2020_12 ↦ λ e. absurd (true≢false (sym e)) | draft_unknown ↦ λ e. absurd (true≢false (sym e)) ]
draft_is draft_7 b = elim b as (λ b. DraftIs draft_7 b) [ draft_7 ↦ λ e. refl | draft_6 ↦ λ e. absurd (true≢false (sym e)) | draft_4 ↦ λ e. absurd (true≢false (sym e)) | draft_2019_09 ↦ λ e. absurd (true≢false (sym e)) | draft_2020_12 ↦ λ e. absurd (true≢false (sym e)) | draft_unknown ↦ λ e. absurd (true≢false (sym e)) ]
draft_is draft_2019_09 b = elim b as (λ b. DraftIs draft_2019_09 b) [ draft_2019_09 ↦ λ e. refl | draft_6 ↦ λ e. absurd (true≢false (sym e)) | draft_7 ↦ λ e. absurd (true≢false (sym e)) | draft_4 ↦ λ e. absurd (true≢false (sym e)) | draft_2020_12 ↦ λ e. absurd (true≢false (sym e)) | draft_unknown ↦ λ e. absurd (true≢false (sym e)) ]
draft_is draft_2020_12 b = elim b as (λ b. DraftIs draft_2020_12 b) [ draft_2020_12 ↦ λ e. refl | draft_6 ↦ λ e. absurd (true≢false (sym e)) | draft_7 ↦ λ e. absurd (true≢false (sym e)) | draft_2019_09 ↦ λ e. absurd (true≢false (sym e)) | draft_4 ↦ λ e. absurd (true≢false (sym e)) | draft_unknown ↦ λ e. absurd (true≢false (sym e)) ]
draft_is draft_unknown b = elim b as (λ b. DraftIs draft_unknown b) [ draft_unknown ↦ λ e. refl | draft_6 ↦ λ e. absurd (true≢false (sym e)) | draft_7 ↦ λ e. absurd (true≢false (sym e)) | draft_2019_09 ↦ λ e. absurd (true≢false (sym e)) | draft_2020_12 ↦ λ e. absurd (true≢false (sym e)) | draft_4 ↦ λ e. absurd (true≢false (sym e)) ]

pub one_place : (a b p : Place) → same_place a p ≡ true → same_place b p ≡ true → same_place a b ≡ true
one_place a b p e f = subst (λ x. same_place a x ≡ true) (place_is a p e ∙ sym (place_is b p f)) (place_itself a)

schema_place_is : (a b : SchemaPlace) → a.document ≡ b.document → a.path ≡ b.path → a ≡ b
schema_place_is a b d p = λ j. record { document = d j; path = p j }

target_is : {S : Type 0} (a b : Target S) → a.place ≡ b.place → a.state ≡ b.state → a.draft ≡ b.draft → a.vocabularies ≡ b.vocabularies → a ≡ b
target_is a b p s d v = λ j. record { place = p j; state = s j; draft = d j; vocabularies = v j }

module _ {S K R : Type 0} (w : Parts S K R) (states : (a b : S) → Decides (w.resolver.same_state a b) (a ≡ b)) where
  state_itself : (s : S) → w.resolver.same_state s s ≡ true
  state_itself s = (states s s).1 refl

  same_target_is : (a b : Target S) → same_target w a b ≡ true → a ≡ b
  same_target_is a b e =
      let e1 = both_left _ _ e in
      let e2 = both_left _ _ e1 in
      let e3 = both_left _ _ e2 in
      target_is a b (schema_place_is a.place b.place (eqb-true _ _ (both_left _ _ e3)) (place_is _ _ (both_right _ _ e3)))
      ((states a.state b.state).0 (both_right _ _ e2)) (draft_is a.draft b.draft (both_right _ _ e1)) (vocabularies_is _ _ (both_right _ _ e))

  pub same_key_is : (a b : Key S) → same_key w a b ≡ true → a ≡ b
  same_key_is a b e =
      let e1 = both_left _ _ e in
      let e2 = both_left _ _ e1 in
      let target = same_target_is a.target b.target (both_left _ _ e2) in
      let location = (bytes_eq-Decides a.location b.location).0 (both_right _ _ e2) in
      let base = (bytes_eq-Decides a.base b.base).0 (both_right _ _ e1) in
      let start = eqb-true a.start b.start (both_right _ _ e) in
      λ j. record { target = target j; location = location j; base = base j; start = start j }

  key_itself : (k : Key S) → same_key w k k ≡ true
  key_itself k = both_true _ _ (both_true _ _ (both_true _ _ (target_itself w state_itself k.target) (same_text k.location)) (same_text k.base)) (same_number k.start)

  -- If a target is the same as a second one, and that is the same as a third, then the first is the
  -- same as the third.
  pub same_through : (a b c : Target S) → same_target w a b ≡ true → same_target w b c ≡ true → same_target w a c ≡ true
  same_through a b c e f = subst (λ x. same_target w x c ≡ true) (sym (same_target_is a b e)) f

  -- Targets that are the same as a third one are the same.
  pub one_target : (a b k : Target S) → same_target w a k ≡ true → same_target w b k ≡ true → same_target w a b ≡ true
  one_target a b k e f = subst (λ x. same_target w a x ≡ true) (same_target_is a k e ∙ sym (same_target_is b k f)) (target_itself w state_itself a)

-- Two tests that pass together are equal.
one_truth : (a b : Bool) → (a ≡ true → b ≡ true) → (b ≡ true → a ≡ true) → a ≡ b
one_truth true b f g = sym (f refl)
one_truth false true f g = g refl
one_truth false false f g = refl

module _ {S K R : Type 0} (w : Parts S K R) (instance : Data) (keys : Numbers S) (nodes : Nodes K) (reads : Reads w.keywords)
    (states : (a b : S) → Decides (w.resolver.same_state a b) (a ≡ b)) (numbered : AreNumbered w keys nodes)
    (i : ℕ) (k : Key S) (number : IsNumber keys i k) (stands : StandsFor w keys nodes i k) (path : Text) (p : Place) where
  Here : Text → NodeForm K → Form K → NodeEdge → Below → Edge S → Type 0
  Here = FormsAsk w instance keys nodes reads i k stands path p

  x-at : ◌≡◌ {A = Where} (node_at w.keywords w.matcher nodes (subject w instance) i path p) (at w instance k path p)
  x-at = at_same w instance keys nodes reads i k stands path p

  abbrev IsEdge : NodeEdge → Type 0
  IsEdge e = Contains (node_edges (nodes.entries i)) e

  -- Two children with the same key have the same number and are guarded alike, and conversely.
  same_children : (name : Text) (m : K) (es : Children) (m' : K) (requests : List Request) (absorbed : List Text) → SameForm w keys nodes k name (node_keyword m es) (keyword m' requests absorbed)
      → ((e : NodeEdge) → Contains (form_edges (node_keyword m es)) e → IsEdge e) → (a b : Marked) → same_edge es a b ≡ same_child w k name requests a b
  same_children name m es m' requests absorbed s there (a_reservation a) (a_reservation b) = refl
  same_children name m es m' requests absorbed s there (a_reservation a) (a_child b) = refl
  same_children name m es m' requests absorbed s there (a_child a) (a_reservation b) = refl
  same_children name m es m' requests absorbed s there (a_child a) (a_child b) = ap (λ t. (a == b) || t)
      (go (node_child es a) (child w k name requests a) (node_child es b) (child w k name requests b) (λ e is. there e (picked (λ o. o) es a e is)) (λ e is. there e (picked (λ o. o) es b e is)) (s.1 a) (s.1 b))
    where
      inner : (e : NodeEdge) (edge : Edge S) → IsEdge e → IsNumber keys e.node edge.key → (o : Option NodeEdge) (o' : Option (Edge S)) → ((d : NodeEdge) → o ≡ Some d → IsEdge d) → SameEdge w keys nodes o o'
          → same_node (Some e) o ≡ same_edge_key w (Some edge) o'
      inner e edge in_e h None None in_o t = refl
      inner e edge in_e h (Some e') (Some edge') in_o t = one_truth _ _
          (λ is. subst (λ l. same_key w edge.key l ≡ true) (one_key keys e.node edge.key edge'.key h (subst (λ n. IsNumber keys n edge'.key) (sym (eqb-true e.node e'.node (both_left _ _ is))) t.0)) (key_itself w states edge.key))
          (λ is. let one : e.node ≡ e'.node = numbered.once e.node e'.node edge.key h (subst (λ l. IsNumber keys e'.node l) (sym (same_key_is w states edge.key edge'.key is)) t.0) in
          both_true _ _ (subst (λ n. (e.node == n) ≡ true) one (same_number e.node)) (guard_same e e' (numbered.guards i k number e e' in_e (in_o e' refl) one)))
      inner e edge in_e h None (Some edge') in_o t = absurd t
      inner e edge in_e h (Some e') None in_o t = absurd t

      go : (o : Option NodeEdge) (o' : Option (Edge S)) (u : Option NodeEdge) (u' : Option (Edge S)) → ((d : NodeEdge) → o ≡ Some d → IsEdge d) → ((d : NodeEdge) → u ≡ Some d → IsEdge d)
          → SameEdge w keys nodes o o' → SameEdge w keys nodes u u' → same_node o u ≡ same_edge_key w o' u'
      go None None u u' in_o in_u t t' = refl
      go (Some e) (Some edge) u u' in_o in_u t t' = inner e edge (in_o e refl) t.0 u u' in_u t'
      go None (Some edge) u u' in_o in_u t t' = absurd t
      go (Some e) None u u' in_o in_u t t' = absurd t

  -- ---- units

  module _ (c : Completion) (f : NodeEdge → Below → Unit_) (g : Edge S → Place → Unit_) where
    form_units : (others : Step → Bool) (name : Text) (x : NodeForm K) (y : Form K) → SameForm w keys nodes k name x y
        → ((e : NodeEdge) (b : Below) (edge : Edge S) → Here name x y e b edge → f e b ≡ g edge (place_below p b))
        → node_part_units w.keywords w.matcher nodes (subject w instance) c i path p f others name x ≡ part_units w instance c k path p g others name y
    unfolding Here
    form_units others name (node_keyword m es) (keyword m' requests absorbed) s h =
        let t : Subject = subject w instance p in
        let each = keyword_asked w instance keys nodes reads i k stands path p no_unit f g name m es m' requests absorbed s h in
        (λ j. keyword_units w.keywords (x-at j) name (s.0 j) t (beside others (matching w.matcher c)) (node_asked w.keywords w.matcher nodes (subject w instance) no_unit es f))
        ∙ units_read w.keywords reads (at w instance k path p) name m' t (beside others (matching w.matcher c)) _ _ each
    form_units others name (node_reference e) (reference kind text) s h = λ j. reference_units (x-at j) name (reference_asked w instance keys nodes reads i k stands path p no_unit f g name e kind text s h j)
    form_units others name (node_keyword m es) (reference kind text) s h = absurd s
    form_units others name (node_reference e) (keyword m' requests absorbed) s h = absurd s

    entry_same : (others others' : Step → Bool) → others ≡ others' → (x : NodePart K) (y : Part K) → SamePart w keys nodes k x y → ((e : NodeEdge) (b : Below) (edge : Edge S) → Here y.name x.form y.form e b edge → f e b ≡ g edge (place_below p b))
        → ◌≡◌ {A = Entry} (record { priority = x.priority; units = node_part_units w.keywords w.matcher nodes (subject w instance) c i path p f others x.name x.form }) (record { priority = y.priority; units = part_units w instance c k path p g others' y.name y.form })
    entry_same others others' o x y s h =
        let e : node_part_units w.keywords w.matcher nodes (subject w instance) c i path p f others x.name x.form ≡ part_units w instance c k path p g others' y.name y.form
        = (λ j. node_part_units w.keywords w.matcher nodes (subject w instance) c i path p f (o j) (s.name j) x.form) ∙ form_units others' y.name x.form y.form s.form h in
        λ j. record { priority = s.priority j; units = e j }

    entries_same : (others : Step → Bool) (xs : List (NodePart K)) (ys : List (Part K)) → SameParts w keys nodes k xs ys
        → ((x : NodePart K) (y : Part K) → Contains xs x → Contains ys y → (e : NodeEdge) (b : Below) (edge : Edge S) → Here y.name x.form y.form e b edge → f e b ≡ g edge (place_below p b))
        → node_entries_of w.keywords w.matcher nodes (subject w instance) c i path p f others xs ≡ entries_of w instance c k path p g others ys
    entries_same others [] [] s h = refl
    entries_same others (x ∷ xs) (y ∷ ys) s h = ap₂ (λ (z : Entry) zs. z ∷ zs) (entry_same _ _ (ap (told_of others) (told_same w instance keys nodes reads i k stands path p y.name x.form y.form s.0.form)) x y s.0 (h x y (zero, omega arith, refl) (zero, omega arith, refl)))
        (entries_same others xs ys s.1 (λ x' y' in_x in_y. h x' y' (later x xs x' in_x) (later y ys y' in_y)))
    entries_same others [] (y ∷ ys) s h = absurd s
    entries_same others (x ∷ xs) [] s h = absurd s

    plan_units : (says : NodeEdge → Below → Outcome) (says' : Edge S → Place → Outcome) (n : NodePlan K) (o : Plan K) → nodes.entries i ≡ n → plan w k ≡ o → SamePlan w keys nodes k n o
        → ((e : NodeEdge) (b : Below) (edge : Edge S) → BothAsk w instance keys nodes i k p e b edge → says e b ≡ says' edge (place_below p b))
        → ((e : NodeEdge) (b : Below) (edge : Edge S) → BothAsk w instance keys nodes i k p e b edge → f e b ≡ g edge (place_below p b))
        → ◌≡◌ {A = Unit_} (elim n [
          | node_always ↦ true_unit (node_at w.keywords w.matcher nodes (subject w instance) i path p)
          | node_never ↦ false_unit w.keywords.texts (node_at w.keywords w.matcher nodes (subject w instance) i path p) (subject w instance p)
          | node_these xs ↦ plan_unit (node_at w.keywords w.matcher nodes (subject w instance) i path p) (nodes.annotations i) (node_entries_of w.keywords w.matcher nodes (subject w instance) c i path p f (node_others w.keywords w.matcher nodes (subject w instance) c i path p says xs) xs)
        ])
        (elim o [ always ↦ true_unit (at w instance k path p) | never ↦ false_unit w.keywords.texts (at w instance k path p) (subject w instance p) | these ys ↦ plan_unit (at w instance k path p) (annotations_of w k) (entries_of w instance c k path p g (others_span w instance c k path p says' ys) ys) ])
    unfolding Here
    plan_units says says' node_always always is_n is_o s q h = λ j. true_unit (x-at j)
    plan_units says says' node_never never is_n is_o s q h = λ j. false_unit w.keywords.texts (x-at j) (subject w instance p)
    plan_units says says' (node_these xs) (these ys) is_n is_o s q h =
        let o = others_same w instance keys nodes reads i k stands path p c says says' xs ys s (whole_asks w instance keys nodes reads i k stands path p accepted says says' xs ys is_n is_o q) in
        let e = ap (λ u. node_entries_of w.keywords w.matcher nodes (subject w instance) c i path p f u xs) o ∙ entries_same (others_span w instance c k path p says' ys) xs ys s (whole_asks w instance keys nodes reads i k stands path p no_unit f g xs ys is_n is_o h) in
        λ j. plan_unit (x-at j) (stands.annotations j) (e j)
    plan_units says says' node_always never is_n is_o s q h = absurd s
    plan_units says says' node_always (these ys) is_n is_o s q h = absurd s
    plan_units says says' node_never always is_n is_o s q h = absurd s
    plan_units says says' node_never (these ys) is_n is_o s q h = absurd s
    plan_units says says' (node_these xs) always is_n is_o s q h = absurd s
    plan_units says says' (node_these xs) never is_n is_o s q h = absurd s

    units_same : (says : NodeEdge → Below → Outcome) (says' : Edge S → Place → Outcome)
        → ((e : NodeEdge) (b : Below) (edge : Edge S) → BothAsk w instance keys nodes i k p e b edge → says e b ≡ says' edge (place_below p b))
        → ((e : NodeEdge) (b : Below) (edge : Edge S) → BothAsk w instance keys nodes i k p e b edge → f e b ≡ g edge (place_below p b))
        → node_unit w.keywords w.matcher nodes (subject w instance) c i path p says f ≡ unit_of w instance c k path p says' g
    units_same says says' q h = plan_units says says' (nodes.entries i) (plan w k) refl refl stands.entries q h

  -- An outcome and its unit together.
  valued_same : (c : Completion) (f : NodeEdge → Below → Valued) (g : Edge S → Place → Valued)
      → ((e : NodeEdge) (b : Below) (edge : Edge S) → BothAsk w instance keys nodes i k p e b edge → f e b ≡ g edge (place_below p b))
      → node_valued w.keywords w.matcher nodes (subject w instance) c i path p f ≡ valued_of w instance c k path p g
  valued_same c f g h =
      let outcomes = λ (e : NodeEdge) (b : Below) (edge : Edge S) (a : BothAsk w instance keys nodes i k p e b edge). ap (λ (v : Valued). v.outcome) (h e b edge a) in
      let outcome = outcomes_same w instance keys nodes reads i k stands path p c (λ e b. (f e b).outcome) (λ e q. (g e q).outcome) outcomes in
      let units = units_same c (λ e b. (f e b).units) (λ e q. (g e q).units) (λ e b. (f e b).outcome) (λ e q. (g e q).outcome) outcomes (λ e b edge a. ap (λ (v : Valued). v.units) (h e b edge a)) in
      λ j. record { outcome = outcome j; units = units j }

  -- ---- the matches that are met

  module _ (as' : Assumptions) (f : NodeEdge → Below → Run) (g : Edge S → Place → Run) where
    form_met : (others : Step → Bool) (name : Text) (x : NodeForm K) (y : Form K) → SameForm w keys nodes k name x y → ((e : NodeEdge) → Contains (form_edges x) e → IsEdge e)
        → ((e : NodeEdge) (b : Below) (edge : Edge S) → Here name x y e b edge → f e b ≡ g edge (place_below p b))
        → (mode : Mode) → node_part_met w.keywords w.matcher nodes (subject w instance) as' i path p f others name x mode ≡ part_met w instance as' k path p g others name y mode
    unfolding Here
    form_met others name (node_keyword m es) (keyword m' requests absorbed) s there h mode =
        let t : Subject = subject w instance p in
        let each = keyword_asked w instance keys nodes reads i k stands path p no_run f g name m es m' requests absorbed s h in
        let same = same_children name m es m' requests absorbed s there in
        (λ j. keyword_met w.keywords w.matcher as' (x-at j) t (node_asked w.keywords w.matcher nodes (subject w instance) no_run es f) others (λ a b. same a b j) name (s.0 j) mode)
        ∙ met_reads w.keywords reads (at w instance k path p) name m' t w.matcher as' others (same_child w k name requests) mode _ _ each
    form_met others name (node_reference e) (reference kind text) s there h mode = ap (λ r. r.met mode) (reference_asked w instance keys nodes reads i k stands path p no_run f g name e kind text s h)
    form_met others name (node_keyword m es) (reference kind text) s there h mode = absurd s
    form_met others name (node_reference e) (keyword m' requests absorbed) s there h mode = absurd s

    form_spanning : (name : Text) (x : NodeForm K) (y : Form K) → SameForm w keys nodes k name x y → ((e : NodeEdge) → Contains (form_edges x) e → IsEdge e)
        → ((e : NodeEdge) (b : Below) (edge : Edge S) → Here name x y e b edge → f e b ≡ g edge (place_below p b))
        → node_part_spanning w.keywords w.matcher nodes (subject w instance) as' i path p f name x ≡ part_spanning w instance as' k path p g name y
    unfolding Here
    form_spanning name (node_keyword m es) (keyword m' requests absorbed) s there h =
        let t : Subject = subject w instance p in
        let each = keyword_asked w instance keys nodes reads i k stands path p no_run f g name m es m' requests absorbed s h in
        let same = same_children name m es m' requests absorbed s there in
        (λ j. spanning_met w.keywords w.matcher as' (x-at j) t (node_asked w.keywords w.matcher nodes (subject w instance) no_run es f) (λ a b. same a b j) name (s.0 j))
        ∙ spanning_reads w.keywords reads (at w instance k path p) name m' t w.matcher as' (same_child w k name requests) _ _ each
    form_spanning name (node_reference e) (reference kind text) s there h = ap (λ r. r.spanning) (reference_asked w instance keys nodes reads i k stands path p no_run f g name e kind text s h)
    form_spanning name (node_keyword m es) (reference kind text) s there h = absurd s
    form_spanning name (node_reference e) (keyword m' requests absorbed) s there h = absurd s

    looked_same : (others : Step → Bool) (xs : List (NodePart K)) (ys : List (Part K)) → SameParts w keys nodes k xs ys → ((x : NodePart K) → Contains xs x → (e : NodeEdge) → Contains (form_edges x.form) e → IsEdge e)
        → ((x : NodePart K) (y : Part K) → Contains xs x → Contains ys y → (e : NodeEdge) (b : Below) (edge : Edge S) → Here y.name x.form y.form e b edge → f e b ≡ g edge (place_below p b))
        → node_looked w.keywords w.matcher nodes (subject w instance) as' i path p f others xs ≡ looked w instance as' k path p g others ys
    unfolding Here
    looked_same others [] [] s there h = refl
    looked_same others (x ∷ xs) (y ∷ ys) s there h =
        let first = h x y (zero, omega arith, refl) (zero, omega arith, refl) in
        let is_told : node_told w.keywords x.form ≡ form_told w.keywords y.form = told_same w instance keys nodes reads i k stands path p y.name x.form y.form s.0.form in
        let told : Step → Bool = told_of others (form_told w.keywords y.form) in
        let outcome = ap (λ b. node_part w.keywords w.matcher nodes (subject w instance) (completion_of as') i path p (λ e d. (f e d).outcome tt) (told_of others b) x.name x.form) is_told
        ∙ part_same w instance keys nodes reads i k stands path p (completion_of as') (λ e b. (f e b).outcome tt) (λ e q. (g e q).outcome tt) told x y s.0 (λ e b edge a. ap (λ r. r.outcome tt) (first e b edge a)) in
        let met : (mode : Mode) → node_part_met w.keywords w.matcher nodes (subject w instance) as' i path p f (told_of others (node_told w.keywords x.form)) x.name x.form mode ≡ part_met w instance as' k path p g told y.name y.form mode
        = λ mode. (λ j. node_part_met w.keywords w.matcher nodes (subject w instance) as' i path p f (told_of others (is_told j)) (s.0.name j) x.form mode) ∙ form_met told y.name x.form y.form s.0.form (there x (zero, omega arith, refl)) first mode in
        let spanning = ap (λ n. node_part_spanning w.keywords w.matcher nodes (subject w instance) as' i path p f n x.form) s.0.name ∙ form_spanning y.name x.form y.form s.0.form (there x (zero, omega arith, refl)) first in
        let rest = looked_same others xs ys s.1 (λ x' in_x. there x' (later x xs x' in_x)) (λ x' y' in_x in_y. h x' y' (later x xs x' in_x) (later y ys y' in_y)) in
        λ j. record { is_leaf = s.0.is_leaf j; is_told = is_told j; holds = (outcome j).verdict; met = λ mode. met mode j; spanning = spanning j } ∷ rest j
    looked_same others [] (y ∷ ys) s there h = absurd s
    looked_same others (x ∷ xs) [] s there h = absurd s

    plan_meets : (answer : List Looked → List Met) (n : NodePlan K) (o : Plan K) → nodes.entries i ≡ n → plan w k ≡ o → SamePlan w keys nodes k n o
        → ((e : NodeEdge) (b : Below) (edge : Edge S) → BothAsk w instance keys nodes i k p e b edge → f e b ≡ g edge (place_below p b))
        → ◌≡◌ {A = List Met} (elim n [ node_always ↦ [] | node_never ↦ [] | node_these xs ↦ answer (node_looked_at w.keywords w.matcher nodes (subject w instance) as' i path p f xs) ])
        (elim o [ always ↦ [] | never ↦ [] | these ys ↦ answer (looked_at w instance as' k path p g ys) ])
    unfolding Here
    plan_meets answer node_always always is_n is_o s h = refl
    plan_meets answer node_never never is_n is_o s h = refl
    plan_meets answer (node_these xs) (these ys) is_n is_o s h =
        let each = whole_asks w instance keys nodes reads i k stands path p no_run f g xs ys is_n is_o h in
        let outcomes = whole_asks w instance keys nodes reads i k stands path p accepted (λ e b. (f e b).outcome tt) (λ e q. (g e q).outcome tt) xs ys is_n is_o (λ e b edge a. ap (λ r. r.outcome tt) (h e b edge a)) in
        ap answer
        (ap (λ u. node_looked w.keywords w.matcher nodes (subject w instance) as' i path p f u xs) (others_same w instance keys nodes reads i k stands path p (completion_of as') (λ e b. (f e b).outcome tt) (λ e q. (g e q).outcome tt) xs ys s outcomes)
        ∙ looked_same (others_span w instance (completion_of as') k path p (λ e q. (g e q).outcome tt) ys) xs ys s (λ x in_xs e in_x. subst (λ o. Contains (node_edges o) e) (sym is_n) (in_flat_map (λ z. form_edges z.form) xs x e in_xs in_x)) each)
    plan_meets answer node_always never is_n is_o s h = absurd s
    plan_meets answer node_always (these ys) is_n is_o s h = absurd s
    plan_meets answer node_never always is_n is_o s h = absurd s
    plan_meets answer node_never (these ys) is_n is_o s h = absurd s
    plan_meets answer (node_these xs) always is_n is_o s h = absurd s
    plan_meets answer (node_these xs) never is_n is_o s h = absurd s

    pub runs_same : ((e : NodeEdge) (b : Below) (edge : Edge S) → BothAsk w instance keys nodes i k p e b edge → f e b ≡ g edge (place_below p b))
        → guarded_node w.keywords w.matcher nodes (subject w instance) as' i path p f ≡ run_node w instance as' k path p g
    runs_same h =
        let c : Completion = completion_of as' in
        let outcomes = λ (e : NodeEdge) (b : Below) (edge : Edge S) (a : BothAsk w instance keys nodes i k p e b edge). ap (λ r. r.outcome tt) (h e b edge a) in
        let outcome = outcomes_same w instance keys nodes reads i k stands path p c (λ e b. (f e b).outcome tt) (λ e q. (g e q).outcome tt) outcomes in
        let units = units_same c (λ e b. (f e b).units tt) (λ e q. (g e q).units tt) (λ e b. (f e b).outcome tt) (λ e q. (g e q).outcome tt) outcomes (λ e b edge a. ap (λ r. r.units tt) (h e b edge a)) in
        let met : (mode : Mode) → (guarded_node w.keywords w.matcher nodes (subject w instance) as' i path p f).met mode ≡ (run_node w instance as' k path p g).met mode
        = λ mode. plan_meets (node_met mode) (nodes.entries i) (plan w k) refl refl stands.entries h in
        let spanning : (guarded_node w.keywords w.matcher nodes (subject w instance) as' i path p f).spanning ≡ (run_node w instance as' k path p g).spanning = plan_meets plan_spanning (nodes.entries i) (plan w k) refl refl stands.entries h in
        λ j. record { outcome = λ t. outcome j; units = λ t. units j; met = λ mode. met mode j; spanning = spanning j }

-- What both say, for any measure of a sufficient depth.
module _ {S K R : Type 0} (w : Parts S K R) (keys : Numbers S) (nodes : Nodes K) (laws : EachKeeps w.keywords) (values : ValuesInside w) (makers : MakersAskBelow w.table)
    (states : (a b : S) → Decides (w.resolver.same_state a b) (a ≡ b)) (numbered : AreNumbered w keys nodes) (ranked : Ranked nodes (length keys))
    (instance : Data) (i : ℕ) (k : Key S) (number : IsNumber keys i k) (none : ¬ (Return w instance (record { key = k; path = []; place = [] }))) where
  -- A number m deep and its key n deep have the same sense, and the same tree of units under each
  -- completion.
  pub record Agree (m n : ℕ) : Type 0 where
    pub sense : guarded_sense w.keywords w.matcher nodes (subject w instance) m i ≡ plain w instance n k
    pub units : (c : Completion) → guarded_units w.keywords w.matcher nodes (subject w instance) c m i [] [] [] ≡ plain_units w instance c n k [] []

  module _ (Enough : ℕ → ℕ → List ℕ → Asked w instance → Type 0)
      (on : (n i j : ℕ) (busy busy' : List ℕ) (a c : Asked w instance) → Contains (questions w instance a) c → left nodes (length keys) j (subject w instance c.place) busy' < left nodes (length keys) i (subject w instance a.place) busy
      → Enough n i busy a → Enough n j busy' c)
      (one_less : (n i j : ℕ) (busy busy' : List ℕ) (a c : Asked w instance) → Contains (questions w instance a) c → left nodes (length keys) j (subject w instance c.place) busy' < left nodes (length keys) i (subject w instance a.place) busy
      → Enough n i busy a → (n' : ℕ) × (n ≡ suc n') × Enough n' j busy' c) where
    they_agree : (m n : ℕ) → left nodes (length keys) i (subject w instance []) [] < m → Enough n i [] (record { key = k; path = []; place = [] }) → Agree m n
    they_agree m n low enough =
        let inner = subschemas_inside w values makers in
        let reads = reads_of w.keywords laws in
        let says : (c : Completion) → guarded_within yes_outcome (node_outcome w.keywords w.matcher nodes (subject w instance) c) m i [] [] [] ≡ unfold_ w instance c n k [] []
        = λ c. says_unfolding w instance keys nodes inner (state_itself w states) ranked yes_outcome accepted (node_outcome w.keywords w.matcher nodes (subject w instance) c) (outcome_of w instance c)
        (λ i' k' number' path' p' f g h. outcomes_same w instance keys nodes reads i' k' (numbered.stands i' k' number') path' p' c f g h)
        (record { key = k; path = []; place = [] }) none Enough on one_less m n i number low enough in
        let runs : (as' : Assumptions) → guarded_within (yes_run nodes) (guarded_node w.keywords w.matcher nodes (subject w instance) as') m i [] [] [] ≡ run w instance as' n k [] []
        = λ as'. says_unfolding w instance keys nodes inner (state_itself w states) ranked (yes_run nodes) no_run (guarded_node w.keywords w.matcher nodes (subject w instance) as') (run_node w instance as')
        (λ i' k' number' path' p' f g h. runs_same w instance keys nodes reads states numbered i' k' number' (numbered.stands i' k' number') path' p' as' f g h)
        (record { key = k; path = []; place = [] }) none Enough on one_less m n i number low enough in
        record {
          sense = λ j. record { says = λ c. says c j; meets = λ call as'. (runs as' j).met (mode_of call as'); is_match = w.matcher.is_match };
          units = λ c. ap (λ (v : Valued). v.units) (says_unfolding w instance keys nodes inner (state_itself w states) ranked (yes_valued nodes) no_valued (node_valued w.keywords w.matcher nodes (subject w instance) c) (valued_of w instance c)
              (λ i' k' number' path' p' f g h. valued_same w instance keys nodes reads states numbered i' k' number' (numbered.stands i' k' number') path' p' c f g h)
              (record { key = k; path = []; place = [] }) none Enough on one_less m n i number low enough);
        }

  -- At the depth of the plain meaning.
  pub plainly_agree : (reached : List (Key S)) → IsReach w k reached → (m n : ℕ) → left nodes (length keys) i (subject w instance []) [] < m → deep_enough w reached instance ≤ n → Agree m n
  plainly_agree reached reach m n low enough =
      let at_reached = at_targets w instance k (same_through w states) reached reach in
      let targets = targets_of w reached in
      let root : Asked w instance = record { key = k; path = []; place = [] } in
      let there = at_places w instance (reads_of w.keywords laws) k in
      they_agree (ByTrail w instance keys nodes root none targets at_reached there (one_target w states) one_place)
      (trail_on w instance keys nodes root none targets at_reached there (one_target w states) one_place) (trail_less w instance keys nodes root none targets at_reached there (one_target w states) one_place) m n low
      (trail_first w instance keys nodes root none targets at_reached there (one_target w states) one_place n i (omega arith))

pub numbers_mean_unfolding : {S K R : Type 0} (w : Parts S K R) (keys : Numbers S) (nodes : Nodes K) → NumbersMeanUnfolding w keys nodes
numbers_mean_unfolding w keys nodes laws values makers states numbered ranked instance i k number none m n low low' =
    (they_agree w keys nodes laws values makers states numbered ranked instance i k number none (ByMeasure w instance keys nodes) (measure_on w instance keys nodes) (measure_less w instance keys nodes) m n low
    (measure_first w instance keys nodes n i (record { key = k; path = []; place = [] }) low')).sense

pub numbers_mean_plain : {S K R : Type 0} (w : Parts S K R) (keys : Numbers S) (nodes : Nodes K) → NumbersMeanPlain w keys nodes
numbers_mean_plain w keys nodes laws values makers states numbered ranked instance i k number none reached reach m n low enough =
    (plainly_agree w keys nodes laws values makers states numbered ranked instance i k number none reached reach m n low enough).sense
