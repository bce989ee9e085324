-- Tables with alike plans and the same locations and annotations run alike and have the same
-- meaning.
use Rattle.std.proofs.Common.{◌≡◌, ℕ, List, [], ◌∷◌, refl}
use Rattle.std.specs.Prelude.{Bool, None, Some, if◌then◌else◌}
use Rattle.std.proofs.Math.Path.{fun_ext}
use Rattle.theory_definitions.specs.Instance.{Place, Step, Subject, Text}
use Rattle.theory_definitions.specs.Reports.{Outcome, Unit_, accepted, spans_nothing}
use Rattle.theory_definitions.specs.Matching.{Assumptions, Completion, Matcher, beside, completion_of, matching}
use Rattle.theory_definitions.specs.Keywords.{Below, Keywords, Marked, Mode, a_child, a_reservation, here}
use Rattle.theory_definitions.specs.Meaning.{both, either_spans, false_outcome, keyword_outcome, reference_outcome, kept, told_of}
use Rattle.theory_definitions.specs.Units.{false_unit, keyword_units, no_unit, plan_unit, reference_units, true_unit}
use Rattle.theory_definitions.specs.Runs.{Looked, Met, Run, keyword_met, no_run, node_met, plan_spanning, spanning_met}
use Rattle.theory_definitions.specs.Cover.{mode_of}
use Rattle.theory_definitions.specs.Guarded.{Children, NodeEdge, NodeForm, NodePart, NodePlan, Nodes, guarded_node, guarded_sense, guarded_within, node_always, node_asked, node_at, node_child, node_entries_of, node_keyword, node_looked, node_looked_at, node_never, node_others, node_outcome, node_part, node_part_met, node_part_spanning, node_part_units, node_parts, node_told, node_reference, node_these, node_unit, same_edge, yes_outcome, yes_run}
use Rattle.schema_compiler.specs.Agreeing.{AlikeForm, AlikeParts, AlikePlan}

module _ {K R : Type 0} (keywords : Keywords K R) (matcher : Matcher) (nodes nodes' : Nodes K) (subject_of : Place → Subject)
    (entries : (i : ℕ) → AlikePlan (nodes.entries i) (nodes'.entries i)) (locations : (i : ℕ) → nodes.location i ≡ nodes'.location i)
    (absolutes : (i : ℕ) → nodes.absolute i ≡ nodes'.absolute i) (annotations : (i : ℕ) → nodes.annotations i ≡ nodes'.annotations i) where
  at_same : (i : ℕ) (path : Text) (p : Place) → node_at keywords matcher nodes subject_of i path p ≡ node_at keywords matcher nodes' subject_of i path p
  at_same i path p = λ j. record { place = p; path = path; location = locations i j; absolute = absolutes i j }

  asked_same : {X : Type 0} (none : X) (es es' : Children) → ((i : ℕ) → node_child es i ≡ node_child es' i) → (go : NodeEdge → Below → X)
      → node_asked keywords matcher nodes subject_of none es go ≡ node_asked keywords matcher nodes' subject_of none es' go
  asked_same none es es' same go = fun_ext (λ q. (λ j. elim (same q.child j) [ None ↦ none | Some e ↦ go e q.below ]))

  edges_same : (es es' : Children) → ((i : ℕ) → node_child es i ≡ node_child es' i) → (a b : Marked) → same_edge es a b ≡ same_edge es' a b
  edges_same es es' same (a_child i) (a_child j) = rw (same i, same j) refl
  edges_same es es' same (a_reservation i) (a_reservation j) = refl
  edges_same es es' same (a_child i) (a_reservation j) = refl
  edges_same es es' same (a_reservation i) (a_child j) = refl

  same_edges : (es es' : Children) → ((i : ℕ) → node_child es i ≡ node_child es' i) → same_edge es ≡ same_edge es'
  same_edges es es' same = λ j. λ a b. edges_same es es' same a b j

  -- Alike entries are told alike.
  told_same : (x x' : NodeForm K) → AlikeForm x x' → node_told keywords x ≡ node_told keywords x'
  told_same (node_keyword m es) (node_keyword m' es') h = let meaning = h.0 in λ j. keywords.is_told (meaning j)
  told_same (node_reference e) (node_reference e') h = refl
  told_same (node_keyword m es) (node_reference e) h = absurd h
  told_same (node_reference e) (node_keyword m es) h = absurd h

  -- ---- their answers

  module _ (c : Completion) (i : ℕ) (path : Text) (p : Place) (go : NodeEdge → Below → Outcome) where
    part_same : (others others' : Step → Bool) → others ≡ others' → (name name' : Text) → name ≡ name' → (x x' : NodeForm K) → AlikeForm x x' → node_part keywords matcher nodes subject_of c i path p go others name x ≡ node_part keywords matcher nodes' subject_of c i path p go others' name' x'
    part_same others others' o name name' n (node_keyword m es) (node_keyword m' es') h =
        let meaning = h.0 in
        let asked = asked_same accepted es es' h.1 go in
        let place = at_same i path p in
        λ j. keyword_outcome keywords (place j) (n j) (meaning j) (subject_of p) (beside (o j) (matching matcher c)) (asked j)
    part_same others others' o name name' n (node_reference e) (node_reference e') h = let place = at_same i path p in λ j. reference_outcome (place j) (n j) (go (h j) here)
    part_same others others' o name name' n (node_keyword m es) (node_reference e) h = absurd h
    part_same others others' o name name' n (node_reference e) (node_keyword m es) h = absurd h

    others_same : (xs xs' : List (NodePart K)) → AlikeParts xs xs' → node_others keywords matcher nodes subject_of c i path p go xs ≡ node_others keywords matcher nodes' subject_of c i path p go xs'
    others_same [] [] h = refl
    others_same (x ∷ xs) (x' ∷ xs') h =
        let told = told_same x.form x'.form (h.0).form in
        let first = part_same spans_nothing spans_nothing refl x.name x'.name (h.0).name x.form x'.form (h.0).form in
        let rest = others_same xs xs' h.1 in
        λ j. either_spans (if told j then spans_nothing else (first j).spans) (rest j)
    others_same [] (x ∷ xs) h = absurd h
    others_same (x ∷ xs) [] h = absurd h

    parts_same : (others others' : Step → Bool) → others ≡ others' → (xs xs' : List (NodePart K)) → AlikeParts xs xs' → node_parts keywords matcher nodes subject_of c i path p go others xs ≡ node_parts keywords matcher nodes' subject_of c i path p go others' xs'
    parts_same others others' o [] [] h = refl
    parts_same others others' o (x ∷ xs) (x' ∷ xs') h =
        let told = told_same x.form x'.form (h.0).form in
        let first = part_same (told_of others (node_told keywords x.form)) (told_of others' (node_told keywords x'.form)) (λ j. told_of (o j) (told j)) x.name x'.name (h.0).name x.form x'.form (h.0).form in
        let rest = parts_same others others' o xs xs' h.1 in
        λ j. both (first j) (rest j)
    parts_same others others' o [] (x ∷ xs) h = absurd h
    parts_same others others' o (x ∷ xs) [] h = absurd h

    plan_outcome : (x x' : NodePlan K) → AlikePlan x x'
        → ◌≡◌ {A = Outcome} (elim x [ node_always ↦ accepted | node_never ↦ false_outcome keywords.texts (node_at keywords matcher nodes subject_of i path p) (subject_of p) | node_these xs ↦ kept (node_parts keywords matcher nodes subject_of c i path p go (node_others keywords matcher nodes subject_of c i path p go xs) xs) ])
        (elim x' [ node_always ↦ accepted | node_never ↦ false_outcome keywords.texts (node_at keywords matcher nodes' subject_of i path p) (subject_of p) | node_these xs ↦ kept (node_parts keywords matcher nodes' subject_of c i path p go (node_others keywords matcher nodes' subject_of c i path p go xs) xs) ])
    plan_outcome node_always node_always h = refl
    plan_outcome node_never node_never h = let place = at_same i path p in λ j. false_outcome keywords.texts (place j) (subject_of p)
    plan_outcome (node_these xs) (node_these xs') h = let all = parts_same _ _ (others_same xs xs' h) xs xs' h in λ j. kept (all j)
    plan_outcome node_always node_never h = absurd h
    plan_outcome node_always (node_these xs) h = absurd h
    plan_outcome node_never node_always h = absurd h
    plan_outcome node_never (node_these xs) h = absurd h
    plan_outcome (node_these xs) node_always h = absurd h
    plan_outcome (node_these xs) node_never h = absurd h

    outcome_same : node_outcome keywords matcher nodes subject_of c i path p go ≡ node_outcome keywords matcher nodes' subject_of c i path p go
    outcome_same = plan_outcome (nodes.entries i) (nodes'.entries i) (entries i)

  outcomes_same : (c : Completion) → node_outcome keywords matcher nodes subject_of c ≡ node_outcome keywords matcher nodes' subject_of c
  outcomes_same c = λ j. λ i path p go. outcome_same c i path p go j

  -- ---- their units

  module _ (c : Completion) (i : ℕ) (path : Text) (p : Place) (says : NodeEdge → Below → Outcome) (go : NodeEdge → Below → Unit_) where
    units_same : (others others' : Step → Bool) → others ≡ others' → (name name' : Text) → name ≡ name' → (x x' : NodeForm K) → AlikeForm x x' → node_part_units keywords matcher nodes subject_of c i path p go others name x ≡ node_part_units keywords matcher nodes' subject_of c i path p go others' name' x'
    units_same others others' o name name' n (node_keyword m es) (node_keyword m' es') h =
        let meaning = h.0 in
        let asked = asked_same no_unit es es' h.1 go in
        let place = at_same i path p in
        λ j. keyword_units keywords (place j) (n j) (meaning j) (subject_of p) (beside (o j) (matching matcher c)) (asked j)
    units_same others others' o name name' n (node_reference e) (node_reference e') h = let place = at_same i path p in λ j. reference_units (place j) (n j) (go (h j) here)
    units_same others others' o name name' n (node_keyword m es) (node_reference e) h = absurd h
    units_same others others' o name name' n (node_reference e) (node_keyword m es) h = absurd h

    entries_same : (others others' : Step → Bool) → others ≡ others' → (xs xs' : List (NodePart K)) → AlikeParts xs xs' → node_entries_of keywords matcher nodes subject_of c i path p go others xs ≡ node_entries_of keywords matcher nodes' subject_of c i path p go others' xs'
    entries_same others others' o [] [] h = refl
    entries_same others others' o (x ∷ xs) (x' ∷ xs') h =
        let told = told_same x.form x'.form (h.0).form in
        let first = units_same (told_of others (node_told keywords x.form)) (told_of others' (node_told keywords x'.form)) (λ j. told_of (o j) (told j)) x.name x'.name (h.0).name x.form x'.form (h.0).form in
        let priority = (h.0).priority in
        let rest = entries_same others others' o xs xs' h.1 in
        λ j. record { priority = priority j; units = first j } ∷ rest j
    entries_same others others' o [] (x ∷ xs) h = absurd h
    entries_same others others' o (x ∷ xs) [] h = absurd h

    plan_units : (x x' : NodePlan K) → AlikePlan x x'
        → ◌≡◌ {A = Unit_} (elim x [ node_always ↦ true_unit (node_at keywords matcher nodes subject_of i path p) | node_never ↦ false_unit keywords.texts (node_at keywords matcher nodes subject_of i path p) (subject_of p) | node_these xs ↦ plan_unit (node_at keywords matcher nodes subject_of i path p) (nodes.annotations i) (node_entries_of keywords matcher nodes subject_of c i path p go (node_others keywords matcher nodes subject_of c i path p says xs) xs) ])
        (elim x' [ node_always ↦ true_unit (node_at keywords matcher nodes' subject_of i path p) | node_never ↦ false_unit keywords.texts (node_at keywords matcher nodes' subject_of i path p) (subject_of p) | node_these xs ↦ plan_unit (node_at keywords matcher nodes' subject_of i path p) (nodes'.annotations i) (node_entries_of keywords matcher nodes' subject_of c i path p go (node_others keywords matcher nodes' subject_of c i path p says xs) xs) ])
    plan_units node_always node_always h = let place = at_same i path p in λ j. true_unit (place j)
    plan_units node_never node_never h = let place = at_same i path p in λ j. false_unit keywords.texts (place j) (subject_of p)
    plan_units (node_these xs) (node_these xs') h =
        let place = at_same i path p in
        let all = entries_same _ _ (others_same c i path p says xs xs' h) xs xs' h in
        λ j. plan_unit (place j) (annotations i j) (all j)
    plan_units node_always node_never h = absurd h
    plan_units node_always (node_these xs) h = absurd h
    plan_units node_never node_always h = absurd h
    plan_units node_never (node_these xs) h = absurd h
    plan_units (node_these xs) node_always h = absurd h
    plan_units (node_these xs) node_never h = absurd h

    unit_same : node_unit keywords matcher nodes subject_of c i path p says go ≡ node_unit keywords matcher nodes' subject_of c i path p says go
    unit_same = plan_units (nodes.entries i) (nodes'.entries i) (entries i)

  -- ---- the unfinished matches that their runs meet

  module _ (as' : Assumptions) where
    module _ (i : ℕ) (path : Text) (p : Place) (go : NodeEdge → Below → Run) where
      abbrev says : NodeEdge → Below → Outcome
      says = λ e b. (go e b).outcome tt

      met_same : (others others' : Step → Bool) → others ≡ others' → (name name' : Text) → name ≡ name' → (x x' : NodeForm K) → AlikeForm x x' → (mode : Mode) → node_part_met keywords matcher nodes subject_of as' i path p go others name x mode ≡ node_part_met keywords matcher nodes' subject_of as' i path p go others' name' x' mode
      met_same others others' o name name' n (node_keyword m es) (node_keyword m' es') h mode =
          let meaning = h.0 in
          let asked = asked_same no_run es es' h.1 go in
          let place = at_same i path p in
          let marks = same_edges es es' h.1 in
          λ j. keyword_met keywords matcher as' (place j) (subject_of p) (asked j) (o j) (marks j) (n j) (meaning j) mode
      met_same others others' o name name' n (node_reference e) (node_reference e') h mode = λ j. (go (h j) here).met mode
      met_same others others' o name name' n (node_keyword m es) (node_reference e) h mode = absurd h
      met_same others others' o name name' n (node_reference e) (node_keyword m es) h mode = absurd h

      spanning_same : (name name' : Text) → name ≡ name' → (x x' : NodeForm K) → AlikeForm x x' → node_part_spanning keywords matcher nodes subject_of as' i path p go name x ≡ node_part_spanning keywords matcher nodes' subject_of as' i path p go name' x'
      spanning_same name name' n (node_keyword m es) (node_keyword m' es') h =
          let meaning = h.0 in
          let asked = asked_same no_run es es' h.1 go in
          let place = at_same i path p in
          let marks = same_edges es es' h.1 in
          λ j. spanning_met keywords matcher as' (place j) (subject_of p) (asked j) (marks j) (n j) (meaning j)
      spanning_same name name' n (node_reference e) (node_reference e') h = λ j. (go (h j) here).spanning
      spanning_same name name' n (node_keyword m es) (node_reference e) h = absurd h
      spanning_same name name' n (node_reference e) (node_keyword m es) h = absurd h

      looked_same : (others others' : Step → Bool) → others ≡ others' → (xs xs' : List (NodePart K)) → AlikeParts xs xs' → node_looked keywords matcher nodes subject_of as' i path p go others xs ≡ node_looked keywords matcher nodes' subject_of as' i path p go others' xs'
      looked_same others others' o [] [] h = refl
      looked_same others others' o (x ∷ xs) (x' ∷ xs') h =
          let leaf = (h.0).is_leaf in
          let told = told_same x.form x'.form (h.0).form in
          let holds = part_same (completion_of as') i path p says (told_of others (node_told keywords x.form)) (told_of others' (node_told keywords x'.form)) (λ j. told_of (o j) (told j)) x.name x'.name (h.0).name x.form x'.form (h.0).form in
          let meets = met_same (told_of others (node_told keywords x.form)) (told_of others' (node_told keywords x'.form)) (λ j. told_of (o j) (told j)) x.name x'.name (h.0).name x.form x'.form (h.0).form in
          let spans = spanning_same x.name x'.name (h.0).name x.form x'.form (h.0).form in
          let rest = looked_same others others' o xs xs' h.1 in
          λ j. record { is_leaf = leaf j; is_told = told j; holds = (holds j).verdict; met = λ mode. meets mode j; spanning = spans j } ∷ rest j
      looked_same others others' o [] (x ∷ xs) h = absurd h
      looked_same others others' o (x ∷ xs) [] h = absurd h

      looked_at_same : (xs xs' : List (NodePart K)) → AlikeParts xs xs' → node_looked_at keywords matcher nodes subject_of as' i path p go xs ≡ node_looked_at keywords matcher nodes' subject_of as' i path p go xs'
      looked_at_same xs xs' h = looked_same _ _ (others_same (completion_of as') i path p says xs xs' h) xs xs' h

      plan_meets : (answer : List Looked → List Met) (x x' : NodePlan K) → AlikePlan x x'
          → ◌≡◌ {A = List Met} (elim x [ node_always ↦ [] | node_never ↦ [] | node_these xs ↦ answer (node_looked_at keywords matcher nodes subject_of as' i path p go xs) ])
          (elim x' [ node_always ↦ [] | node_never ↦ [] | node_these xs ↦ answer (node_looked_at keywords matcher nodes' subject_of as' i path p go xs) ])
      plan_meets answer node_always node_always h = refl
      plan_meets answer node_never node_never h = refl
      plan_meets answer (node_these xs) (node_these xs') h = let all = looked_at_same xs xs' h in λ j. answer (all j)
      plan_meets answer node_always node_never h = absurd h
      plan_meets answer node_always (node_these xs) h = absurd h
      plan_meets answer node_never node_always h = absurd h
      plan_meets answer node_never (node_these xs) h = absurd h
      plan_meets answer (node_these xs) node_always h = absurd h
      plan_meets answer (node_these xs) node_never h = absurd h

      run_same : guarded_node keywords matcher nodes subject_of as' i path p go ≡ guarded_node keywords matcher nodes' subject_of as' i path p go
      run_same = λ j. record {
        outcome = λ t. outcome_same (completion_of as') i path p says j;
        units = λ t. unit_same (completion_of as') i path p says (λ e b. (go e b).units tt) j;
        met = λ mode. plan_meets (node_met mode) (nodes.entries i) (nodes'.entries i) (entries i) j;
        spanning = plan_meets plan_spanning (nodes.entries i) (nodes'.entries i) (entries i) j;
      }

    runs_same : guarded_node keywords matcher nodes subject_of as' ≡ guarded_node keywords matcher nodes' subject_of as'
    runs_same = λ j. λ i path p go. run_same i path p go j

  yes_same : yes_run nodes ≡ yes_run nodes'
  yes_same = λ j. λ i path p. record { outcome = λ t. accepted; units = λ t. true_unit (record { place = p; path = path; location = locations i j; absolute = absolutes i j }); met = λ m. []; spanning = [] }

  pub guarded_runs_same : (as' : Assumptions) (n i : ℕ) (path : Text) (p : Place) (busy : List ℕ)
      → guarded_within (yes_run nodes) (guarded_node keywords matcher nodes subject_of as') n i path p busy ≡ guarded_within (yes_run nodes') (guarded_node keywords matcher nodes' subject_of as') n i path p busy
  guarded_runs_same as' n i path p busy = let runs = runs_same as' in λ j. guarded_within (yes_same j) (runs j) n i path p busy

  pub guarded_senses_same : (n i : ℕ) → guarded_sense keywords matcher nodes subject_of n i ≡ guarded_sense keywords matcher nodes' subject_of n i
  guarded_senses_same n i = λ j. record {
    says = λ c. guarded_within yes_outcome (outcomes_same c j) n i [] [] [];
    meets = λ call as'. (guarded_within (yes_same j) (runs_same as' j) n i [] [] []).met (mode_of call as');
    is_match = matcher.is_match;
  }
