-- An outcome reads only the answers to questions that the keywords may ask.
use Rattle.std.proofs.Common.{◌≡◌, zero, List, [], ◌∷◌, refl, ap, ap₂, Bool, arith, ◌∙◌}
use Rattle.std.specs.Prelude.{All, Contains, Option, Some, None, map, if◌then◌else◌}
use Rattle.std.proofs.lemmas.List.Elements.{All-contains_itself}
use Rattle.serde_json.specs.Data.{Data}
use Rattle.theory_definitions.specs.Instance.{Text, Place, Step}
use Rattle.theory_definitions.specs.Reports.{Error, Outcome, accepted, spans_nothing}
use Rattle.theory_definitions.specs.Parts.{Parts}
use Rattle.theory_definitions.specs.Keywords.{Question}
use Rattle.theory_definitions.specs.Matching.{Completion, matching, beside}
use Rattle.theory_definitions.specs.Plan.{Key, Edge, Part, Form, keyword, reference, Plan, always, never, these, plan, child, reference_edge}
use Rattle.theory_definitions.specs.Meaning.{at, subject, asked, place_below, part_outcome, parts_outcome, outcome_of, reference_outcome, false_outcome, fault_error, both, kept, others_span, either_spans, form_told, told_of}
use Rattle.theory_meaning.proofs.Reading.{Reads}
use Rattle.theory_meaning.proofs.Questions.{later, PartAsks, by_keyword, by_reference, Asks}
use Rattle.theory_meaning.proofs.SpansRead.{spans_same}

pub same_outcome : {v v' : Bool} {es es' : List Error} {ss ss' : Step → Bool} → v ≡ v' → es ≡ es' → ss ≡ ss' → ◌≡◌ {A = Outcome} (record { verdict = v; errors = es; spans = ss }) (record { verdict = v'; errors = es'; spans = ss' })
same_outcome p q r = λ i. record { verdict = p i; errors = q i; spans = r i }

pub each_asked : {A : Type 0} (P : A → Type 0) (xs : List A) → ((x : A) → Contains xs x → P x) → All P xs
each_asked P xs h = λ i d is. h _ (All-contains_itself xs i d is)

module _ {S K R : Type 0} (w : Parts S K R) (instance : Data) (c : Completion) (reads : Reads w.keywords) where
  module _ (k : Key S) (path : Text) (p : Place) (f g : Edge S → Place → Outcome) where
    asked_same : (o : Option (Edge S)) (q : Place) → ((edge : Edge S) → o ≡ Some edge → f edge q ≡ g edge q)
        → ◌≡◌ {A = Outcome} (elim o [ None ↦ accepted | Some edge ↦ f edge q ]) (elim o [ None ↦ accepted | Some edge ↦ g edge q ])
    asked_same None q e = refl
    asked_same (Some edge) q e = e edge refl

    pub part_same : (others : Step → Bool) (name : Text) (form : Form K) → ((edge : Edge S) (q : Place) → PartAsks w instance k p name form edge q → f edge q ≡ g edge q)
        → part_outcome w instance c k path p f others name form ≡ part_outcome w instance c k path p g others name form
    part_same others name (keyword m requests absorbed) e =
        let each : (q : Question) → Contains (w.keywords.may_ask m (subject w instance p)) q
        → asked w instance accepted k name requests p f q ≡ asked w instance accepted k name requests p g q
        = λ q is. asked_same (child w k name requests q.child) (place_below p q.below) (λ edge at_edge. e edge _ (by_keyword q is at_edge)) in
        let qs : List Question = w.keywords.may_ask m (subject w instance p) in
        same_outcome
        (reads.holds_reads m (subject w instance p) (beside others (matching w.matcher c)) _ _ (each_asked _ qs (λ q is. ap (λ o. o.verdict) (each q is))))
        (ap (map (fault_error (at w instance k path p) name)) (reads.faults_read m (subject w instance p) (beside others (matching w.matcher c)) _ _ (each_asked _ qs each)))
        (spans_same w.keywords m (subject w instance p) (beside others (matching w.matcher c)) _ _ (reads.spans_read m (subject w instance p)) each)
    part_same others name (reference kind text) e = ap (reference_outcome (at w instance k path p) name) (asked_same (reference_edge w k name kind text) p (λ edge is. e edge p (by_reference is)))

    -- What an entry that is not told spans.
    span_same : (told : Bool) (o o' : Outcome) → o ≡ o' → ◌≡◌ {A = Step → Bool} (if told then spans_nothing else o.spans) (if told then spans_nothing else o'.spans)
    span_same told o o' e = ap (λ (u : Outcome). if told then spans_nothing else u.spans) e

    pub others_same : (xs : List (Part K)) → ((x : Part K) → Contains xs x → (edge : Edge S) (q : Place) → PartAsks w instance k p x.name x.form edge q → f edge q ≡ g edge q)
        → others_span w instance c k path p f xs ≡ others_span w instance c k path p g xs
    others_same [] e = refl
    others_same (x ∷ xs) e = ap₂ either_spans (span_same (form_told w.keywords x.form) _ _ (part_same spans_nothing x.name x.form (e x (zero, omega arith, refl)))) (others_same xs (λ y is. e y (later x xs y is)))

    parts_same : (others : Step → Bool) (xs : List (Part K)) → ((x : Part K) → Contains xs x → (edge : Edge S) (q : Place) → PartAsks w instance k p x.name x.form edge q → f edge q ≡ g edge q)
        → parts_outcome w instance c k path p f others xs ≡ parts_outcome w instance c k path p g others xs
    parts_same others [] e = refl
    parts_same others (x ∷ xs) e = ap₂ both (part_same (told_of others (form_told w.keywords x.form)) x.name x.form (e x (zero, omega arith, refl))) (parts_same others xs (λ y is. e y (later x xs y is)))

    plan_same : (o : Plan K) → ((xs : List (Part K)) → o ≡ these xs → (x : Part K) → Contains xs x → (edge : Edge S) (q : Place) → PartAsks w instance k p x.name x.form edge q → f edge q ≡ g edge q)
        → ◌≡◌ {A = Outcome} (elim o [ always ↦ accepted | never ↦ false_outcome w.keywords.texts (at w instance k path p) (subject w instance p) | these xs ↦ kept (parts_outcome w instance c k path p f (others_span w instance c k path p f xs) xs) ])
        (elim o [ always ↦ accepted | never ↦ false_outcome w.keywords.texts (at w instance k path p) (subject w instance p) | these xs ↦ kept (parts_outcome w instance c k path p g (others_span w instance c k path p g xs) xs) ])
    plan_same always e = refl
    plan_same never e = refl
    plan_same (these xs) e = ap kept (ap (λ o. parts_outcome w instance c k path p f o xs) (others_same xs (e xs refl)) ∙ parts_same (others_span w instance c k path p g xs) xs (e xs refl))

  pub outcome_local : (k : Key S) (path : Text) (p : Place) (f g : Edge S → Place → Outcome)
      → ((edge : Edge S) (q : Place) → Asks w instance k p edge q → f edge q ≡ g edge q) → outcome_of w instance c k path p f ≡ outcome_of w instance c k path p g
  outcome_local k path p f g e = plan_same k path p f g (plan w k) (λ xs is x in_xs edge q asks. e edge q (record { xs = xs; is_plan = is; part = x; is_part = in_xs; asks = asks }))
