-- A run of numbered nodes reads only the answers to questions that the keywords may ask, so its
-- result becomes final at some depth, as outcomes do.
use Rattle.std.proofs.Common.{◌≡◌, ℕ, zero, suc, ◌==◌, Bool, true, false, List, [], ◌∷◌, ◌++◌, refl, subst, sym, ap, ap₂, ◌∙◌, arith}
use Rattle.std.specs.Prelude.{Contains, Option, Some, None}
use Rattle.std.specs.List.{list_any}
use Rattle.std.proofs.lemmas.List.Elements.{All-contains}
use Rattle.serde_json.specs.Data.{Data}
use Rattle.theory_definitions.specs.Instance.{Text, Place, Subject, Step}
use Rattle.theory_definitions.specs.Reports.{Unit_, Outcome}
use Rattle.theory_definitions.specs.Matching.{Assumptions, Completion, Matcher, completion_of, matching, beside}
use Rattle.theory_definitions.specs.Keywords.{Below, Keywords, Mode, Question, here}
use Rattle.theory_definitions.specs.Meaning.{place_below, told_of}
use Rattle.theory_definitions.specs.Units.{Entry, false_unit, no_unit, plan_unit, reference_units, true_unit, Valued}
use Rattle.theory_definitions.specs.Runs.{Looked, Met, Run, no_run, node_met, plan_spanning}
use Rattle.theory_definitions.specs.Cover.{mode_of}
use Rattle.theory_definitions.specs.Laws.{IsPresent, steps_below}
use Rattle.theory_definitions.specs.Guarded.{Children, NodeEdge, NodeForm, NodePart, NodePlan, Nodes, across, form_edges, guarded_node, guarded_within, node_always, node_asked, node_at, node_child, node_edges, node_entries_of, node_keyword, node_looked, node_never, node_outcome, node_part_met, node_part_units, node_reference, node_these, node_unit, progress_below, same_edge, yes_outcome, yes_run, node_looked_at, node_others, node_part_spanning, node_told, node_valued, yes_valued}
use Rattle.theory_meaning.specs.Numbered.{GuardedRunsSettle, GuardedSenseSettles, RunsSayOutcomes, subject_in}
use Rattle.theory_meaning.proofs.Reading.{Reads, reads_of}
use Rattle.theory_meaning.proofs.Questions.{later, in_flat_map}
use Rattle.theory_meaning.proofs.Settles.{NodeAsks, node_local, part_same, picked, settles, others_same}
use Rattle.theory_meaning.proofs.RunsRead.{met_reads, units_read, spanning_reads}

module _ {K R : Type 0} (keywords : Keywords K R) (matcher : Matcher) (instance : Data) (nodes : Nodes K) (reads : Reads keywords) (i : ℕ) (path : Text) (p : Place) where
  -- ---- an answer of any kind

  module _ {X : Type 0} (none : X) (f g : NodeEdge → Below → X) where
    abbrev FormAlike : NodeForm K → Type 0
    FormAlike x = (e : NodeEdge) (b : Below) → Contains (form_edges x) e × IsPresent (subject_in instance p) (steps_below b) → f e b ≡ g e b

    abbrev PartsAlike : List (NodePart K) → Type 0
    PartsAlike xs = (x : NodePart K) → Contains xs x → FormAlike x.form

    edge_answers : (o : Option NodeEdge) (b : Below) → ((e : NodeEdge) → o ≡ Some e → f e b ≡ g e b) → ◌≡◌ {A = X} (elim o [ None ↦ none | Some e ↦ f e b ]) (elim o [ None ↦ none | Some e ↦ g e b ])
    edge_answers None b h = refl
    edge_answers (Some e) b h = h e refl

    keyword_answers : (m : K) (es : Children) → FormAlike (node_keyword m es) → (q : Question) → Contains (keywords.may_ask m (subject_in instance p)) q
        → node_asked keywords matcher nodes (subject_in instance) none es f q ≡ node_asked keywords matcher nodes (subject_in instance) none es g q
    keyword_answers m es h q is = let s : Subject = subject_in instance p in
        edge_answers (node_child es q.child) q.below (λ e at_e. h e q.below (picked (λ o. o) es q.child e at_e, All-contains (λ q'. IsPresent s (steps_below q'.below)) (keywords.may_ask m s) q (reads.present m s) is))

    reference_answers : (e : NodeEdge) → FormAlike (node_reference e) → f e here ≡ g e here
    reference_answers e h = h e here ((zero, omega arith, refl), refl)

    first_alike : (x : NodePart K) (xs : List (NodePart K)) → PartsAlike (x ∷ xs) → FormAlike x.form
    first_alike x xs h = h x (zero, omega arith, refl)

    others_alike : (x : NodePart K) (xs : List (NodePart K)) → PartsAlike (x ∷ xs) → PartsAlike xs
    others_alike x xs h y is = h y (later x xs y is)

    plan_alike : (xs : List (NodePart K)) → nodes.entries i ≡ node_these xs → ((e : NodeEdge) (b : Below) → NodeAsks instance nodes i p e b → f e b ≡ g e b) → PartsAlike xs
    plan_alike xs is h x in_xs e b a = h e b (record { edge = subst (λ o. Contains (node_edges o) e) (sym is) (in_flat_map (λ y. form_edges y.form) xs x e in_xs a.0); present = a.1 })

  -- ---- units

  module _ (c : Completion) (f g : NodeEdge → Below → Unit_) where
    form_units : (others : Step → Bool) (name : Text) (x : NodeForm K) → FormAlike no_unit f g x → node_part_units keywords matcher nodes (subject_in instance) c i path p f others name x ≡ node_part_units keywords matcher nodes (subject_in instance) c i path p g others name x
    form_units others name (node_keyword m es) h = units_read keywords reads (node_at keywords matcher nodes (subject_in instance) i path p) name m (subject_in instance p) (beside others (matching matcher c)) _ _ (keyword_answers no_unit f g m es h)
    form_units others name (node_reference e) h = ap (reference_units (node_at keywords matcher nodes (subject_in instance) i path p) name) (reference_answers no_unit f g e h)

    entries_same : (others : Step → Bool) (xs : List (NodePart K)) → PartsAlike no_unit f g xs → node_entries_of keywords matcher nodes (subject_in instance) c i path p f others xs ≡ node_entries_of keywords matcher nodes (subject_in instance) c i path p g others xs
    entries_same others [] h = refl
    entries_same others (x ∷ xs) h = let e = form_units (told_of others (node_told keywords x.form)) x.name x.form (first_alike no_unit f g x xs h) in
        ap₂ (λ (z : Entry) zs. z ∷ zs) (λ j. record { priority = x.priority; units = e j }) (entries_same others xs (others_alike no_unit f g x xs h))

    plan_units : (says says' : NodeEdge → Below → Outcome) (o : NodePlan K) → nodes.entries i ≡ o → ((e : NodeEdge) (b : Below) → NodeAsks instance nodes i p e b → says e b ≡ says' e b) → ((e : NodeEdge) (b : Below) → NodeAsks instance nodes i p e b → f e b ≡ g e b)
        → ◌≡◌ {A = Unit_} (elim o [
          | node_always ↦ true_unit (node_at keywords matcher nodes (subject_in instance) i path p)
          | node_never ↦ false_unit keywords.texts (node_at keywords matcher nodes (subject_in instance) i path p) (subject_in instance p)
          | node_these xs ↦ plan_unit (node_at keywords matcher nodes (subject_in instance) i path p) (nodes.annotations i) (node_entries_of keywords matcher nodes (subject_in instance) c i path p f (node_others keywords matcher nodes (subject_in instance) c i path p says xs) xs)
        ])
        (elim o [
          | node_always ↦ true_unit (node_at keywords matcher nodes (subject_in instance) i path p)
          | node_never ↦ false_unit keywords.texts (node_at keywords matcher nodes (subject_in instance) i path p) (subject_in instance p)
          | node_these xs ↦ plan_unit (node_at keywords matcher nodes (subject_in instance) i path p) (nodes.annotations i) (node_entries_of keywords matcher nodes (subject_in instance) c i path p g (node_others keywords matcher nodes (subject_in instance) c i path p says' xs) xs)
        ])
    plan_units says says' node_always is e h = refl
    plan_units says says' node_never is e h = refl
    plan_units says says' (node_these xs) is e h = ap (plan_unit (node_at keywords matcher nodes (subject_in instance) i path p) (nodes.annotations i))
        (ap (λ o. node_entries_of keywords matcher nodes (subject_in instance) c i path p f o xs) (others_same keywords matcher instance nodes reads c i path p says says' xs (λ x in_xs d b a. e d b (record { edge = subst (λ o. Contains (node_edges o) d) (sym is) (in_flat_map (λ y. form_edges y.form) xs x d in_xs a.0); present = a.1 })))
        ∙ entries_same (node_others keywords matcher nodes (subject_in instance) c i path p says' xs) xs (plan_alike no_unit f g xs is h))

    pub unit_local : (says says' : NodeEdge → Below → Outcome) → ((e : NodeEdge) (b : Below) → NodeAsks instance nodes i p e b → says e b ≡ says' e b) → ((e : NodeEdge) (b : Below) → NodeAsks instance nodes i p e b → f e b ≡ g e b)
        → node_unit keywords matcher nodes (subject_in instance) c i path p says f ≡ node_unit keywords matcher nodes (subject_in instance) c i path p says' g
    unit_local says says' e h = plan_units says says' (nodes.entries i) refl e h

  -- An outcome and its unit together.
  pub valued_local : (c : Completion) (f g : NodeEdge → Below → Valued) → ((e : NodeEdge) (b : Below) → NodeAsks instance nodes i p e b → f e b ≡ g e b) → node_valued keywords matcher nodes (subject_in instance) c i path p f ≡ node_valued keywords matcher nodes (subject_in instance) c i path p g
  valued_local c f g h =
      let outcome = node_local keywords matcher instance nodes reads c i path p (λ e b. (f e b).outcome) (λ e b. (g e b).outcome) (λ e b a. ap (λ v. v.outcome) (h e b a)) in
      let units = unit_local c (λ e b. (f e b).units) (λ e b. (g e b).units) (λ e b. (f e b).outcome) (λ e b. (g e b).outcome) (λ e b a. ap (λ v. v.outcome) (h e b a)) (λ e b a. ap (λ v. v.units) (h e b a)) in
      λ j. record { outcome = outcome j; units = units j }

  -- ---- the matches that are met

  module _ (as' : Assumptions) (f g : NodeEdge → Below → Run) where
    form_met : (others : Step → Bool) (name : Text) (x : NodeForm K) → FormAlike no_run f g x → (mode : Mode)
        → node_part_met keywords matcher nodes (subject_in instance) as' i path p f others name x mode ≡ node_part_met keywords matcher nodes (subject_in instance) as' i path p g others name x mode
    form_met others name (node_keyword m es) h mode = met_reads keywords reads (node_at keywords matcher nodes (subject_in instance) i path p) name m (subject_in instance p) matcher as' others (same_edge es) mode _ _ (keyword_answers no_run f g m es h)
    form_met others name (node_reference e) h mode = ap (λ r. r.met mode) (reference_answers no_run f g e h)

    form_spanning : (name : Text) (x : NodeForm K) → FormAlike no_run f g x → node_part_spanning keywords matcher nodes (subject_in instance) as' i path p f name x ≡ node_part_spanning keywords matcher nodes (subject_in instance) as' i path p g name x
    form_spanning name (node_keyword m es) h = spanning_reads keywords reads (node_at keywords matcher nodes (subject_in instance) i path p) name m (subject_in instance p) matcher as' (same_edge es) _ _ (keyword_answers no_run f g m es h)
    form_spanning name (node_reference e) h = ap (λ r. r.spanning) (reference_answers no_run f g e h)

    looked_same : (others : Step → Bool) (xs : List (NodePart K)) → PartsAlike no_run f g xs → node_looked keywords matcher nodes (subject_in instance) as' i path p f others xs ≡ node_looked keywords matcher nodes (subject_in instance) as' i path p g others xs
    looked_same others [] h = refl
    looked_same others (x ∷ xs) h =
        let first = first_alike no_run f g x xs h in
        let told = told_of others (node_told keywords x.form) in
        let outcome = part_same keywords matcher instance nodes reads (completion_of as') i path p (λ e b. (f e b).outcome tt) (λ e b. (g e b).outcome tt) told x.name x.form (λ e b a. ap (λ r. r.outcome tt) (first e b a)) in
        let met = form_met told x.name x.form first in
        let spanning = form_spanning x.name x.form first in
        ap₂ (λ (z : Looked) zs. z ∷ zs) (λ j. record { is_leaf = x.is_leaf; is_told = node_told keywords x.form; holds = (outcome j).verdict; met = λ mode. met mode j; spanning = spanning j }) (looked_same others xs (others_alike no_run f g x xs h))

    looked_at_same : (xs : List (NodePart K)) → PartsAlike no_run f g xs → node_looked_at keywords matcher nodes (subject_in instance) as' i path p f xs ≡ node_looked_at keywords matcher nodes (subject_in instance) as' i path p g xs
    looked_at_same xs h = ap (λ o. node_looked keywords matcher nodes (subject_in instance) as' i path p f o xs) (others_same keywords matcher instance nodes reads (completion_of as') i path p (λ e b. (f e b).outcome tt) (λ e b. (g e b).outcome tt) xs (λ x is e b a. ap (λ r. r.outcome tt) (h x is e b a)))
        ∙ looked_same (node_others keywords matcher nodes (subject_in instance) (completion_of as') i path p (λ e b. (g e b).outcome tt) xs) xs h

    plan_meets : (answer : List Looked → List Met) (o : NodePlan K) → nodes.entries i ≡ o → ((e : NodeEdge) (b : Below) → NodeAsks instance nodes i p e b → f e b ≡ g e b)
        → ◌≡◌ {A = List Met} (elim o [ node_always ↦ [] | node_never ↦ [] | node_these xs ↦ answer (node_looked_at keywords matcher nodes (subject_in instance) as' i path p f xs) ])
        (elim o [ node_always ↦ [] | node_never ↦ [] | node_these xs ↦ answer (node_looked_at keywords matcher nodes (subject_in instance) as' i path p g xs) ])
    plan_meets answer node_always is h = refl
    plan_meets answer node_never is h = refl
    plan_meets answer (node_these xs) is h = ap answer (looked_at_same xs (plan_alike no_run f g xs is h))

    pub run_local : ((e : NodeEdge) (b : Below) → NodeAsks instance nodes i p e b → f e b ≡ g e b)
        → guarded_node keywords matcher nodes (subject_in instance) as' i path p f ≡ guarded_node keywords matcher nodes (subject_in instance) as' i path p g
    run_local h =
        let c : Completion = completion_of as' in
        let outcomes = λ (e : NodeEdge) (b : Below) (a : NodeAsks instance nodes i p e b). ap (λ r. r.outcome tt) (h e b a) in
        let outcome = node_local keywords matcher instance nodes reads c i path p (λ e b. (f e b).outcome tt) (λ e b. (g e b).outcome tt) outcomes in
        let units = unit_local c (λ e b. (f e b).units tt) (λ e b. (g e b).units tt) (λ e b. (f e b).outcome tt) (λ e b. (g e b).outcome tt) outcomes (λ e b a. ap (λ r. r.units tt) (h e b a)) in
        let met : (mode : Mode) → (guarded_node keywords matcher nodes (subject_in instance) as' i path p f).met mode ≡ (guarded_node keywords matcher nodes (subject_in instance) as' i path p g).met mode
        = λ mode. plan_meets (node_met mode) (nodes.entries i) refl h in
        let spanning : (guarded_node keywords matcher nodes (subject_in instance) as' i path p f).spanning ≡ (guarded_node keywords matcher nodes (subject_in instance) as' i path p g).spanning = plan_meets plan_spanning (nodes.entries i) refl h in
        λ j. record { outcome = λ t. outcome j; units = λ t. units j; met = λ mode. met mode j; spanning = spanning j }

module _ {K R : Type 0} (keywords : Keywords K R) where
  pub guarded_runs_settle : GuardedRunsSettle keywords
  guarded_runs_settle laws matcher nodes count ranked instance as' i path p busy l m n a b =
      settles instance nodes count ranked (yes_run nodes) (guarded_node keywords matcher nodes (subject_in instance) as') (λ j path' q f g h. run_local keywords matcher instance nodes (reads_of keywords laws) j path' q as' f g h) m n i path p busy l a b

  pub guarded_sense_settles : GuardedSenseSettles keywords
  guarded_sense_settles laws matcher nodes count ranked instance i l m n a b =
      let says : (c : Completion) → guarded_within yes_outcome (node_outcome keywords matcher nodes (subject_in instance) c) m i [] [] [] ≡ guarded_within yes_outcome (node_outcome keywords matcher nodes (subject_in instance) c) n i [] [] []
      = λ c. settles instance nodes count ranked yes_outcome (node_outcome keywords matcher nodes (subject_in instance) c) (node_local keywords matcher instance nodes (reads_of keywords laws) c) m n i [] [] [] l a b in
      let runs = λ (as' : Assumptions). guarded_runs_settle laws matcher nodes count ranked instance as' i [] [] [] l m n a b in
      λ j. record { says = λ c. says c j; meets = λ call as'. (runs as' j).met (mode_of call as'); is_match = matcher.is_match }

-- ---- the outcome and the units of a run, whatever is in progress

module _ {X Y : Type 0} (part : X → Y) (yes : ℕ → Text → Place → X) (node : ℕ → Text → Place → (NodeEdge → Below → X) → X) (yes' : ℕ → Text → Place → Y) (node' : ℕ → Text → Place → (NodeEdge → Below → Y) → Y)
    (first : (i : ℕ) (path : Text) (p : Place) → part (yes i path p) ≡ yes' i path p) (step : (i : ℕ) (path : Text) (p : Place) (f : NodeEdge → Below → X) → part (node i path p f) ≡ node' i path p (λ e b. part (f e b))) where
  across_part : (go : ℕ → Text → Place → List ℕ → X) (go' : ℕ → Text → Place → List ℕ → Y) → ((i : ℕ) (path : Text) (p : Place) (busy : List ℕ) → part (go i path p busy) ≡ go' i path p busy)
      → (path : Text) (p : Place) (busy : List ℕ) (e : NodeEdge) (b : Below) → part (across yes node go path p busy e b) ≡ across yes' node' go' path p busy e b
  across_part go go' h path p busy e b = by_guard e.guarded (list_any (λ i. i == e.node) (progress_below busy b)) _ _ _ _ _ _ (first e.node (path ++ e.path) (place_below p b))
      (h e.node (path ++ e.path) (place_below p b) (progress_below busy b)) (h e.node (path ++ e.path) (place_below p b) (e.node ∷ progress_below busy b))
    where
      by_guard : (g t : Bool) (u x y : X) (u' x' y' : Y) → part u ≡ u' → part x ≡ x' → part y ≡ y'
          → ◌≡◌ {A = Y} (part (elim g [ false ↦ x | true ↦ elim t [ true ↦ u | false ↦ y ] ])) (elim g [ false ↦ x' | true ↦ elim t [ true ↦ u' | false ↦ y' ] ])
      by_guard false t u x y u' x' y' s q r = q
      by_guard true true u x y u' x' y' s q r = s
      by_guard true false u x y u' x' y' s q r = r

  pub within_part : (n i : ℕ) (path : Text) (p : Place) (busy : List ℕ) → part (guarded_within yes node n i path p busy) ≡ guarded_within yes' node' n i path p busy
  within_part zero i path p busy = first i path p
  within_part (suc n) i path p busy = step i path p _ ∙ (λ j. node' i path p (λ e b. across_part (guarded_within yes node n) (guarded_within yes' node' n) (within_part n) path p busy e b j))

pub runs_say_outcomes : {K R : Type 0} (keywords : Keywords K R) → RunsSayOutcomes keywords
runs_say_outcomes keywords matcher nodes subject_of as' n i path p busy = (
  within_part (λ (r : Run). r.outcome tt) (yes_run nodes) (guarded_node keywords matcher nodes subject_of as') yes_outcome (node_outcome keywords matcher nodes subject_of (completion_of as')) (λ j path' q. refl) (λ j path' q f. refl) n i path p busy,
  ap (λ (v : Valued). v.units) (within_part run_valued (yes_run nodes) (guarded_node keywords matcher nodes subject_of as') (yes_valued nodes) (node_valued keywords matcher nodes subject_of (completion_of as')) (λ j path' q. refl) (λ j path' q f. refl) n i path p busy),
)
  where
    run_valued : Run → Valued
    run_valued r = record { outcome = r.outcome tt; units = r.units tt }
