-- A plain run reads only the answers to questions that the keywords may ask.
use Rattle.std.proofs.Common.{◌≡◌, zero, List, [], ◌∷◌, refl, ap, ap₂, arith, Bool, ◌∙◌}
use Rattle.std.specs.Prelude.{Contains, Option, Some, None}
use Rattle.serde_json.specs.Data.{Data}
use Rattle.theory_definitions.specs.Instance.{Text, Place, Step}
use Rattle.theory_definitions.specs.Reports.{Unit_, Outcome}
use Rattle.theory_definitions.specs.Matching.{Assumptions, Completion, completion_of, matching, beside}
use Rattle.theory_definitions.specs.Making.{Request}
use Rattle.theory_definitions.specs.Keywords.{Mode, Question}
use Rattle.theory_definitions.specs.Parts.{Parts}
use Rattle.theory_definitions.specs.Plan.{Key, Edge, Part, Form, keyword, reference, Reference, Plan, always, never, these, plan, child, reference_edge, same_child}
use Rattle.theory_definitions.specs.Meaning.{at, subject, asked, referred_to, place_below, told_of, others_span, form_told}
use Rattle.theory_definitions.specs.Units.{Entry, annotations_of, entries_of, false_unit, no_unit, part_units, plan_unit, reference_units, true_unit, unit_of, Valued, valued_of}
use Rattle.theory_definitions.specs.Runs.{Looked, Met, Run, looked, no_run, part_met, run_node, looked_at, node_met, part_spanning, plan_spanning}
use Rattle.theory_meaning.proofs.Reading.{Reads}
use Rattle.theory_meaning.proofs.Questions.{later, PartAsks, by_keyword, by_reference, Asks}
use Rattle.theory_meaning.proofs.Local.{outcome_local, part_same, others_same}
use Rattle.theory_meaning.proofs.RunsRead.{units_read, met_reads, spanning_reads}

module _ {S K R : Type 0} (w : Parts S K R) (instance : Data) (reads : Reads w.keywords) (k : Key S) (path : Text) (p : Place) where
  -- ---- an answer of any kind

  module _ {X : Type 0} (none : X) (f g : Edge S → Place → X) where
    edge_answers : (o : Option (Edge S)) (q : Place) → ((edge : Edge S) → o ≡ Some edge → f edge q ≡ g edge q)
        → ◌≡◌ {A = X} (elim o [ None ↦ none | Some edge ↦ f edge q ]) (elim o [ None ↦ none | Some edge ↦ g edge q ])
    edge_answers None q h = refl
    edge_answers (Some edge) q h = h edge refl

    keyword_answers : (name : Text) (m : K) (requests : List Request) (absorbed : List Text) → ((edge : Edge S) (q : Place) → PartAsks w instance k p name (keyword m requests absorbed) edge q → f edge q ≡ g edge q)
        → (q : Question) → Contains (w.keywords.may_ask m (subject w instance p)) q → asked w instance none k name requests p f q ≡ asked w instance none k name requests p g q
    keyword_answers name m requests absorbed h q is = edge_answers (child w k name requests q.child) (place_below p q.below) (λ edge at_edge. h edge _ (by_keyword q is at_edge))

    reference_answers : (name : Text) (kind : Reference) (text : Text) → ((edge : Edge S) (q : Place) → PartAsks w instance k p name (reference kind text) edge q → f edge q ≡ g edge q)
        → referred_to w instance none k name kind text p f ≡ referred_to w instance none k name kind text p g
    reference_answers name kind text h = edge_answers (reference_edge w k name kind text) p (λ edge is. h edge p (by_reference is))

    PartsAlike : List (Part K) → Type 0
    PartsAlike xs = (x : Part K) → Contains xs x → (edge : Edge S) (q : Place) → PartAsks w instance k p x.name x.form edge q → f edge q ≡ g edge q

    first_alike : (x : Part K) (xs : List (Part K)) → PartsAlike (x ∷ xs) → (edge : Edge S) (q : Place) → PartAsks w instance k p x.name x.form edge q → f edge q ≡ g edge q
    unfolding PartsAlike
    first_alike x xs h = h x (zero, omega arith, refl)

    others_alike : (x : Part K) (xs : List (Part K)) → PartsAlike (x ∷ xs) → PartsAlike xs
    unfolding PartsAlike
    others_alike x xs h y is = h y (later x xs y is)

    plan_alike : (xs : List (Part K)) → plan w k ≡ these xs → ((edge : Edge S) (q : Place) → Asks w instance k p edge q → f edge q ≡ g edge q) → PartsAlike xs
    unfolding PartsAlike
    plan_alike xs is h x in_xs edge q a = h edge q (record { xs = xs; is_plan = is; part = x; is_part = in_xs; asks = a })

  -- ---- units

  module _ (c : Completion) (f g : Edge S → Place → Unit_) where
    form_units : (others : Step → Bool) (name : Text) (form : Form K) → ((edge : Edge S) (q : Place) → PartAsks w instance k p name form edge q → f edge q ≡ g edge q) → part_units w instance c k path p f others name form ≡ part_units w instance c k path p g others name form
    form_units others name (keyword m requests absorbed) h = units_read w.keywords reads (at w instance k path p) name m (subject w instance p) (beside others (matching w.matcher c)) _ _ (keyword_answers no_unit f g name m requests absorbed h)
    form_units others name (reference kind text) h = ap (reference_units (at w instance k path p) name) (reference_answers no_unit f g name kind text h)

    entries_same : (others : Step → Bool) (xs : List (Part K)) → PartsAlike no_unit f g xs → entries_of w instance c k path p f others xs ≡ entries_of w instance c k path p g others xs
    entries_same others [] h = refl
    entries_same others (x ∷ xs) h = let e = form_units (told_of others (form_told w.keywords x.form)) x.name x.form (first_alike no_unit f g x xs h) in
        ap₂ (λ (z : Entry) zs. z ∷ zs) (λ j. record { priority = x.priority; units = e j }) (entries_same others xs (others_alike no_unit f g x xs h))

    plan_units : (says says' : Edge S → Place → Outcome) (o : Plan K) → plan w k ≡ o → ((edge : Edge S) (q : Place) → Asks w instance k p edge q → says edge q ≡ says' edge q) → ((edge : Edge S) (q : Place) → Asks w instance k p edge q → f edge q ≡ g edge q)
        → ◌≡◌ {A = Unit_} (elim o [ always ↦ true_unit (at w instance k path p) | never ↦ false_unit w.keywords.texts (at w instance k path p) (subject w instance p) | these xs ↦ plan_unit (at w instance k path p) (annotations_of w k) (entries_of w instance c k path p f (others_span w instance c k path p says xs) xs) ])
        (elim o [ always ↦ true_unit (at w instance k path p) | never ↦ false_unit w.keywords.texts (at w instance k path p) (subject w instance p) | these xs ↦ plan_unit (at w instance k path p) (annotations_of w k) (entries_of w instance c k path p g (others_span w instance c k path p says' xs) xs) ])
    plan_units says says' always is e h = refl
    plan_units says says' never is e h = refl
    plan_units says says' (these xs) is e h = ap (plan_unit (at w instance k path p) (annotations_of w k))
        (ap (λ o. entries_of w instance c k path p f o xs) (others_same w instance c reads k path p says says' xs (λ x in_xs edge q a. e edge q (record { xs = xs; is_plan = is; part = x; is_part = in_xs; asks = a })))
        ∙ entries_same (others_span w instance c k path p says' xs) xs (plan_alike no_unit f g xs is h))

    pub unit_local : (says says' : Edge S → Place → Outcome) → ((edge : Edge S) (q : Place) → Asks w instance k p edge q → says edge q ≡ says' edge q) → ((edge : Edge S) (q : Place) → Asks w instance k p edge q → f edge q ≡ g edge q) → unit_of w instance c k path p says f ≡ unit_of w instance c k path p says' g
    unit_local says says' e h = plan_units says says' (plan w k) refl e h

  -- An outcome and its unit together.
  pub valued_local : (c : Completion) (f g : Edge S → Place → Valued) → ((edge : Edge S) (q : Place) → Asks w instance k p edge q → f edge q ≡ g edge q) → valued_of w instance c k path p f ≡ valued_of w instance c k path p g
  valued_local c f g h =
      let outcome = outcome_local w instance c reads k path p (λ e q. (f e q).outcome) (λ e q. (g e q).outcome) (λ edge q a. ap (λ v. v.outcome) (h edge q a)) in
      let units = unit_local c (λ e q. (f e q).units) (λ e q. (g e q).units) (λ e q. (f e q).outcome) (λ e q. (g e q).outcome) (λ edge q a. ap (λ v. v.outcome) (h edge q a)) (λ edge q a. ap (λ v. v.units) (h edge q a)) in
      λ j. record { outcome = outcome j; units = units j }

  -- ---- the matches that are met

  module _ (as' : Assumptions) (f g : Edge S → Place → Run) where
    form_met : (others : Step → Bool) (name : Text) (form : Form K) → ((edge : Edge S) (q : Place) → PartAsks w instance k p name form edge q → f edge q ≡ g edge q)
        → (mode : Mode) → part_met w instance as' k path p f others name form mode ≡ part_met w instance as' k path p g others name form mode
    form_met others name (keyword m requests absorbed) h mode = met_reads w.keywords reads (at w instance k path p) name m (subject w instance p) w.matcher as' others (same_child w k name requests) mode _ _ (keyword_answers no_run f g name m requests absorbed h)
    form_met others name (reference kind text) h mode = ap (λ r. r.met mode) (reference_answers no_run f g name kind text h)

    form_spanning : (name : Text) (form : Form K) → ((edge : Edge S) (q : Place) → PartAsks w instance k p name form edge q → f edge q ≡ g edge q)
        → part_spanning w instance as' k path p f name form ≡ part_spanning w instance as' k path p g name form
    form_spanning name (keyword m requests absorbed) h = spanning_reads w.keywords reads (at w instance k path p) name m (subject w instance p) w.matcher as' (same_child w k name requests) _ _ (keyword_answers no_run f g name m requests absorbed h)
    form_spanning name (reference kind text) h = ap (λ r. r.spanning) (reference_answers no_run f g name kind text h)

    looked_same : (others : Step → Bool) (xs : List (Part K)) → PartsAlike no_run f g xs → looked w instance as' k path p f others xs ≡ looked w instance as' k path p g others xs
    looked_same others [] h = refl
    looked_same others (x ∷ xs) h =
        let first = first_alike no_run f g x xs h in
        let told = told_of others (form_told w.keywords x.form) in
        let outcome = part_same w instance (completion_of as') reads k path p (λ e q. (f e q).outcome tt) (λ e q. (g e q).outcome tt) told x.name x.form (λ edge q a. ap (λ r. r.outcome tt) (first edge q a)) in
        let met = form_met told x.name x.form first in
        let spanning = form_spanning x.name x.form first in
        ap₂ (λ (z : Looked) zs. z ∷ zs) (λ j. record { is_leaf = x.is_leaf; is_told = form_told w.keywords x.form; holds = (outcome j).verdict; met = λ mode. met mode j; spanning = spanning j }) (looked_same others xs (others_alike no_run f g x xs h))

    outcomes_alike : (xs : List (Part K)) → PartsAlike no_run f g xs → (x : Part K) → Contains xs x → (edge : Edge S) (q : Place) → PartAsks w instance k p x.name x.form edge q → (f edge q).outcome tt ≡ (g edge q).outcome tt
    unfolding PartsAlike
    outcomes_alike xs h x is edge q a = ap (λ r. r.outcome tt) (h x is edge q a)

    looked_at_same : (xs : List (Part K)) → PartsAlike no_run f g xs → looked_at w instance as' k path p f xs ≡ looked_at w instance as' k path p g xs
    looked_at_same xs h = ap (λ o. looked w instance as' k path p f o xs) (others_same w instance (completion_of as') reads k path p (λ e q. (f e q).outcome tt) (λ e q. (g e q).outcome tt) xs (outcomes_alike xs h))
        ∙ looked_same (others_span w instance (completion_of as') k path p (λ e q. (g e q).outcome tt) xs) xs h

    plan_meets : (answer : List Looked → List Met) (o : Plan K) → plan w k ≡ o → ((edge : Edge S) (q : Place) → Asks w instance k p edge q → f edge q ≡ g edge q)
        → ◌≡◌ {A = List Met} (elim o [ always ↦ [] | never ↦ [] | these xs ↦ answer (looked_at w instance as' k path p f xs) ]) (elim o [ always ↦ [] | never ↦ [] | these xs ↦ answer (looked_at w instance as' k path p g xs) ])
    plan_meets answer always is h = refl
    plan_meets answer never is h = refl
    plan_meets answer (these xs) is h = ap answer (looked_at_same xs (plan_alike no_run f g xs is h))

    pub run_local : ((edge : Edge S) (q : Place) → Asks w instance k p edge q → f edge q ≡ g edge q) → run_node w instance as' k path p f ≡ run_node w instance as' k path p g
    run_local h =
        let c : Completion = completion_of as' in
        let outcomes = λ (edge : Edge S) (q : Place) (a : Asks w instance k p edge q). ap (λ r. r.outcome tt) (h edge q a) in
        let outcome = outcome_local w instance c reads k path p (λ e q. (f e q).outcome tt) (λ e q. (g e q).outcome tt) outcomes in
        let units = unit_local c (λ e q. (f e q).units tt) (λ e q. (g e q).units tt) (λ e q. (f e q).outcome tt) (λ e q. (g e q).outcome tt) outcomes (λ edge q a. ap (λ r. r.units tt) (h edge q a)) in
        let met : (mode : Mode) → (run_node w instance as' k path p f).met mode ≡ (run_node w instance as' k path p g).met mode = λ mode. plan_meets (node_met mode) (plan w k) refl h in
        let spanning : (run_node w instance as' k path p f).spanning ≡ (run_node w instance as' k path p g).spanning = plan_meets plan_spanning (plan w k) refl h in
        λ j. record { outcome = λ t. outcome j; units = λ t. units j; met = λ mode. met mode j; spanning = spanning j }
