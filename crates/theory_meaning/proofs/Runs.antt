-- If no question returns, the plain run under assumptions speaks, in each mode, for every
-- completion that extends them.
use Rattle.std.proofs.Common.{◌≡◌, ℕ, zero, suc, ◌≤◌, List, [], ◌∷◌, ◌++◌, refl, ap, sym, subst, ◌∙◌, Bool, true, false, map, arith}
use Rattle.std.specs.List.{list_any}
use Rattle.std.specs.Prelude.{Decides, Option, Some, None, if◌then◌else◌, option_map}
use Rattle.serde_json.specs.Data.{Data}
use Rattle.theory_definitions.specs.Instance.{Step, Text, Place}
use Rattle.theory_definitions.specs.Pointer.{joined}
use Rattle.theory_definitions.specs.Reports.{Error, Unit_, Outcome, accepted, spans_nothing}
use Rattle.theory_definitions.specs.Parts.{Parts}
use Rattle.theory_definitions.specs.Matching.{Completion, Assumptions, beside, matching, completion_of, Extends}
use Rattle.theory_definitions.specs.Keywords.{Mode, for_verdict, for_first, for_all, for_units}
use Rattle.theory_definitions.specs.Plan.{Key, Edge, height, Part, Form, keyword, reference, Plan, always, never, these, plan, child, reference_edge, same_child, absolute_of}
use Rattle.theory_definitions.specs.Meaning.{at, subject, asked, referred_to, within, unfold_, unfolded, part_outcome, parts_outcome, outcome_of, false_outcome, stamped, kept, form_told, others_span, told_of}
use Rattle.theory_definitions.specs.Units.{Entry, PartUnits, Valued, no_valued, valued_of, plain_units, part_units, entries_of, unit_of, given_units, reference_units, no_unit, annotations_of, true_unit, false_unit, plan_unit}
use Rattle.theory_definitions.specs.Runs.{Looked, Run, looked, looked_at, node_met, part_met, part_spanning, plan_met, plan_spanning, no_run, run_node, run, first_error}
use Rattle.theory_definitions.specs.Laws.{Agrees, EachKeeps, KeepsLaws}
use Rattle.theory_definitions.proofs.Products.{or_left, or_right}
use Rattle.theory_meaning.specs.Returns.{Return}
use Rattle.theory_meaning.specs.Reach.{IsReach, deep_enough, targets_of}
use Rattle.theory_meaning.specs.Headline.{at_root}
use Rattle.theory_meaning.specs.Numbered.{MakersAskBelow, ValuesInside}
use Rattle.theory_meaning.specs.Members.{AllAssumed, SameIn, SaysAlike, Speaks}
use Rattle.theory_meaning.proofs.SameTurns.{assumed_front, assumed_back, keyword_same, same_units}
use Rattle.theory_meaning.proofs.SameSpans.{keyword_spans_alike, told_span}
use Rattle.theory_meaning.proofs.SpansRead.{alike_itself}
use Rattle.theory_meaning.proofs.Plans.{Along, EntrySpeaks, ends, goes, along_in_mode, along_spanning, met_for_units, others_known, same_itself_in, first_stamped}
use Rattle.theory_meaning.proofs.Valid.{part_agrees, node_agrees, node_valid}
use Rattle.theory_meaning.proofs.Reading.{reads_of}
use Rattle.theory_meaning.proofs.Questions.{Asks}
use Rattle.theory_meaning.proofs.PlainRuns.{run_local, valued_local}
use Rattle.theory_meaning.proofs.AtPlaces.{at_places}
use Rattle.theory_meaning.proofs.Reaching.{at_targets}
use Rattle.theory_meaning.proofs.Inside.{subschemas_inside}
use Rattle.theory_meaning.proofs.SameRun.{one_place, one_target, same_through}
use Rattle.theory_meaning.proofs.Steps.{in_steps, steps_unfold}
use Rattle.theory_meaning.proofs.KeysAlike.{KeysAlike, keys_answered, steps_alike}

-- One more entry with the same units.
pub one_more_entry : (priority : ℕ) {x y : PartUnits} {xs ys : List Entry} → x ≡ y → xs ≡ ys
    → ◌≡◌ {A = List Entry} (record { priority = priority; units = x } ∷ xs) (record { priority = priority; units = y } ∷ ys)
one_more_entry priority e es = λ i. record { priority = priority; units = e i } ∷ es i

-- An entry is told the same if the others span alike, or if it is not told.
pub told_alike : (oa ob : Step → Bool) (told : Bool) → (told ≡ true → oa ≡ ob) → told_of oa told ≡ told_of ob told
told_alike oa ob true alike = alike refl
told_alike oa ob false alike = refl

-- ---- a run's outcome is that of its own completion

module _ {S K R : Type 0} (w : Parts S K R) (instance : Data) (as' : Assumptions) where
  by_kind : {X : Type 0} (f : Run → X) (t : Bool) (r r' : Run) (x x' : X) → f r ≡ x → f r' ≡ x' → f (elim t [ true ↦ r | false ↦ r' ]) ≡ (elim t [ true ↦ x | false ↦ x' ])
  by_kind f true r r' x x' e e' = e
  by_kind f false r r' x x' e e' = e'

  within_outcome : (a : Key S → Text → Place → Run) (b : Key S → Text → Place → Outcome) → ((k : Key S) (path : Text) (p : Place) → (a k path p).outcome tt ≡ b k path p)
      → (h : ℕ) (k : Key S) (path : Text) (p : Place) → (within w instance no_run (run_node w instance as') a h k path p).outcome tt ≡ within w instance accepted (outcome_of w instance (completion_of as')) b h k path p
  within_outcome a b s zero k path p = refl
  within_outcome a b s (suc h) k path p = ap (outcome_of w instance (completion_of as') k path p)
      (λ i edge q. by_kind (λ r. r.outcome tt) edge.is_reference (a edge.key (path ++ edge.path) q) (within w instance no_run (run_node w instance as') a h edge.key (path ++ edge.path) q) _ _ (s edge.key (path ++ edge.path) q) (within_outcome a b s h edge.key (path ++ edge.path) q) i)

  pub run_outcome : (n : ℕ) (k : Key S) (path : Text) (p : Place) → (run w instance as' n k path p).outcome tt ≡ unfold_ w instance (completion_of as') n k path p
  run_outcome zero k path p = within_outcome (λ k' path' p'. no_run) (λ k' path' p'. accepted) (λ k' path' p'. refl) (height w k) k path p
  run_outcome (suc n) k path p = within_outcome (run w instance as' n) (unfold_ w instance (completion_of as') n) (run_outcome n) (height w k) k path p

  steps_outcome : (n : ℕ) (k : Key S) (path : Text) (p : Place) → (in_steps w instance no_run (run_node w instance as') n k path p).outcome tt ≡ in_steps w instance accepted (outcome_of w instance (completion_of as')) n k path p
  steps_outcome zero k path p = refl
  steps_outcome (suc n) k path p = ap (outcome_of w instance (completion_of as') k path p) (λ j e q. steps_outcome n e.key (path ++ e.path) q j)

  runs_alike : (n : ℕ) (path : Text) → KeysAlike (λ e q. (in_steps w instance no_run (run_node w instance as') n e.key (path ++ e.path) q).outcome tt)
  runs_alike n path = subst KeysAlike (λ j e q. sym (steps_outcome n e.key (path ++ e.path) q) j) (steps_alike w instance (completion_of as') n path)

-- ---- a run speaks

module _ {S K R : Type 0} (w : Parts S K R) (instance : Data) (absorbs : K → List Text) (laws : (m : K) → KeepsLaws w.keywords m (absorbs m)) (states : (a b : S) → Decides (w.resolver.same_state a b) (a ≡ b))
    (as' : Assumptions) (c : Completion) (mine : Extends (completion_of as') as') (ext : Extends c as') where
  no_run_speaks : Speaks as' no_run accepted no_unit
  no_run_speaks = record { run_agrees = (λ e. refl, λ e. refl); agrees = (λ e. refl, λ e. refl); run_valid = refl; valid = refl; in_mode = λ mode e. same_itself_in mode accepted; units = λ e. refl; spanning = λ e. alike_itself accepted }

  module _ (k : Key S) (path : Text) (p : Place) (f : Edge S → Place → Run) (g : Edge S → Place → Outcome) (u : Edge S → Place → Unit_)
      (speaks : (e : Edge S) (q : Place) → Speaks as' (f e q) (g e q) (u e q)) (alike_run : KeysAlike (λ e q. (f e q).outcome tt)) (alike : KeysAlike g) where
    abbrev g1 : Edge S → Place → Outcome
    g1 e q = (f e q).outcome tt

    abbrev u1 : Edge S → Place → Unit_
    u1 e q = (f e q).units tt

    option_speaks : (o : Option (Edge S)) (q : Place)
        → Speaks as' (elim o [ None ↦ no_run | Some e ↦ f e q ]) (elim o [ None ↦ accepted | Some e ↦ g e q ]) (elim o [ None ↦ no_unit | Some e ↦ u e q ])
    option_speaks None q = no_run_speaks
    option_speaks (Some e) q = speaks e q

    option_outcome : (o : Option (Edge S)) (q : Place) → ◌≡◌ {A = Outcome} (let r : Run = elim o [ None ↦ no_run | Some e ↦ f e q ] in r.outcome tt) (elim o [ None ↦ accepted | Some e ↦ g1 e q ])
    option_outcome None q = refl
    option_outcome (Some e) q = refl

    option_units : (o : Option (Edge S)) (q : Place) → ◌≡◌ {A = Unit_} (let r : Run = elim o [ None ↦ no_run | Some e ↦ f e q ] in r.units tt) (elim o [ None ↦ no_unit | Some e ↦ u1 e q ])
    option_units None q = refl
    option_units (Some e) q = refl

    abbrev own_outcome : (Step → Bool) → Text → Form K → Outcome
    own_outcome = part_outcome w instance (completion_of as') k path p g1

    abbrev its_outcome : (Step → Bool) → Text → Form K → Outcome
    its_outcome = part_outcome w instance c k path p g

    own_agrees : (others : Step → Bool) (name : Text) (form : Form K) → Agrees (own_outcome others name form)
    own_agrees = part_agrees w instance absorbs laws (completion_of as') k path p g1 u1 (λ e q. (speaks e q).run_agrees) (λ e q. (speaks e q).run_valid)

    its_agrees : (others : Step → Bool) (name : Text) (form : Form K) → Agrees (its_outcome others name form)
    its_agrees = part_agrees w instance absorbs laws c k path p g u (λ e q. (speaks e q).agrees) (λ e q. (speaks e q).valid)

    abbrev stamp : Text → Error → Error
    stamp name = stamped (absolute_of w k (joined k.location name))

    in_form : (others : Step → Bool) (name : Text) (form : Form K) (mode : Mode) → AllAssumed as' (part_met w instance as' k path p f others name form mode) → SameIn mode (own_outcome others name form) (its_outcome others name form)
    in_form others name (keyword m requests absorbed) mode e = keyword_same w.keywords w.matcher as' c mine ext (at w instance k path p) (subject w instance p)
        (asked w instance no_run k name requests p f) (asked w instance accepted k name requests p g1) (asked w instance accepted k name requests p g)
        (asked w instance no_unit k name requests p u1) (asked w instance no_unit k name requests p u) others (same_child w k name requests) name m
        (λ q. option_outcome (child w k name requests q.child) _) (λ q. option_units (child w k name requests q.child) _) (λ q. option_speaks (child w k name requests q.child) _)
        (keys_answered w instance states k name requests p g1 alike_run) (keys_answered w instance states k name requests p g alike) (absorbs m) (laws m) mode e
    in_form others name (reference kind text) mode e = by mode ((option_speaks (reference_edge w k name kind text) p).in_mode mode e)
      where
        by : (mode : Mode) → SameIn mode (let r : Run = referred_to w instance no_run k name kind text p f in r.outcome tt) (referred_to w instance accepted k name kind text p g)
            → SameIn mode (own_outcome others name (reference kind text)) (its_outcome others name (reference kind text))
        by for_verdict h = sym (ap (λ o. o.verdict) (option_outcome (reference_edge w k name kind text) p)) ∙ h
        by for_first h = first_stamped (stamp name) _ ∙ (ap (option_map (stamp name)) (sym (ap (λ o. first_error o.errors) (option_outcome (reference_edge w k name kind text) p)) ∙ h) ∙ sym (first_stamped (stamp name) _))
        by for_all h = ap (map (stamp name)) (sym (ap (λ o. o.errors) (option_outcome (reference_edge w k name kind text) p)) ∙ h)
        by for_units h = sym (ap (λ o. o.verdict) (option_outcome (reference_edge w k name kind text) p)) ∙ h

    -- What an entry that is not told spans.
    form_spans : (name : Text) (form : Form K) → AllAssumed as' (part_spanning w instance as' k path p f name form) → SaysAlike (own_outcome spans_nothing name form) (its_outcome spans_nothing name form)
    form_spans name (keyword m requests absorbed) e = keyword_spans_alike w.keywords w.matcher as' c mine ext (at w instance k path p) (subject w instance p)
        (asked w instance no_run k name requests p f) (asked w instance accepted k name requests p g1) (asked w instance accepted k name requests p g)
        (asked w instance no_unit k name requests p u1) (asked w instance no_unit k name requests p u) (same_child w k name requests) name m
        (λ q. option_outcome (child w k name requests q.child) _) (λ q. option_units (child w k name requests q.child) _) (λ q. option_speaks (child w k name requests q.child) _)
        (keys_answered w instance states k name requests p g1 alike_run) (keys_answered w instance states k name requests p g alike) (absorbs m) (laws m) e
    form_spans name (reference kind text) e =
        let same : SaysAlike (let r : Run = referred_to w instance no_run k name kind text p f in r.outcome tt) (referred_to w instance accepted k name kind text p g) = (option_speaks (reference_edge w k name kind text) p).spanning e in
        record {
          verdict = sym (ap (λ o. o.verdict) (option_outcome (reference_edge w k name kind text) p)) ∙ same.verdict;
          spans = sym (ap (λ o. o.spans) (option_outcome (reference_edge w k name kind text) p)) ∙ same.spans;
        }

    -- What a told entry spans itself.
    form_fixed : (others others' : Step → Bool) (name : Text) (form : Form K) → form_told w.keywords form ≡ true → (own_outcome others name form).spans ≡ (its_outcome others' name form).spans
    form_fixed others others' name (keyword m requests absorbed) is = told_span w.keywords m (absorbs m) (laws m) is (subject w instance p) (beside others (matching w.matcher (completion_of as'))) (beside others' (matching w.matcher c))
        (asked w instance accepted k name requests p g1) (asked w instance accepted k name requests p g)
    form_fixed others others' name (reference kind text) is = absurd (cc is)

    entry_speaks : (oa ob : Step → Bool) (x : Part K) (told : Bool) → form_told w.keywords x.form ≡ told
        → EntrySpeaks as' (oa ≡ ob)
        (record {
          is_leaf = x.is_leaf;
          is_told = told;
          holds = (own_outcome (told_of oa told) x.name x.form).verdict;
          met = part_met w instance as' k path p f (told_of oa told) x.name x.form;
          spanning = part_spanning w instance as' k path p f x.name x.form;
        })
        (own_outcome (told_of oa told) x.name x.form) (its_outcome (told_of ob told) x.name x.form)
        (if told then spans_nothing else (own_outcome spans_nothing x.name x.form).spans) (if told then spans_nothing else (its_outcome spans_nothing x.name x.form).spans)
    entry_speaks oa ob x true is = record {
      holds = refl;
      agrees_a = own_agrees oa x.name x.form;
      agrees_b = its_agrees ob x.name x.form;
      in_mode = λ alike mode e. subst (λ o. SameIn mode (own_outcome oa x.name x.form) (its_outcome o x.name x.form)) (alike refl) (in_form oa x.name x.form mode e);
      verdict = λ no. absurd (cc no);
      spans = λ h. form_fixed oa ob x.name x.form is;
      others = λ h. refl;
    }
    entry_speaks oa ob x false is = record {
      holds = refl;
      agrees_a = own_agrees spans_nothing x.name x.form;
      agrees_b = its_agrees spans_nothing x.name x.form;
      in_mode = λ alike mode e. in_form spans_nothing x.name x.form mode e;
      verdict = λ no e. (form_spans x.name x.form e).verdict;
      spans = λ h. (form_spans x.name x.form (h refl)).spans;
      others = λ h. (form_spans x.name x.form (h refl)).spans;
    }

    along : (oa ob : Step → Bool) (xs : List (Part K))
        → Along as' (oa ≡ ob) (looked w instance as' k path p f oa xs) (parts_outcome w instance (completion_of as') k path p g1 oa xs) (parts_outcome w instance c k path p g ob xs)
        (others_span w instance (completion_of as') k path p g1 xs) (others_span w instance c k path p g xs)
    along oa ob [] = ends
    along oa ob (x ∷ xs) = goes (entry_speaks oa ob x (form_told w.keywords x.form) refl) (along oa ob xs)

    -- What the others span in the run, and under the completion.
    abbrev OwnOthers : List (Part K) → Step → Bool
    OwnOthers xs = others_span w instance (completion_of as') k path p g1 xs

    abbrev ItsOthers : List (Part K) → Step → Bool
    ItsOthers xs = others_span w instance c k path p g xs

    form_units : (others : Step → Bool) (name : Text) (form : Form K) → AllAssumed as' (part_met w instance as' k path p f others name form for_units)
        → part_units w instance (completion_of as') k path p u1 others name form ≡ part_units w instance c k path p u others name form
    form_units others name (keyword m requests absorbed) e =
        let same : (w.keywords.units m (subject w instance p) (beside others (matching w.matcher (completion_of as'))) (asked w instance no_unit k name requests p u1) ≡ w.keywords.units m (subject w instance p) (beside others (matching w.matcher c)) (asked w instance no_unit k name requests p u))
        × ((own_outcome others name (keyword m requests absorbed)).verdict ≡ (its_outcome others name (keyword m requests absorbed)).verdict)
        = same_units w.keywords w.matcher as' c mine ext (at w instance k path p) (subject w instance p)
        (asked w instance no_run k name requests p f) (asked w instance accepted k name requests p g1) (asked w instance accepted k name requests p g)
        (asked w instance no_unit k name requests p u1) (asked w instance no_unit k name requests p u) others (same_child w k name requests) name m
        (λ q. option_outcome (child w k name requests q.child) _) (λ q. option_units (child w k name requests q.child) _) (λ q. option_speaks (child w k name requests q.child) _)
        (keys_answered w instance states k name requests p g1 alike_run) (keys_answered w instance states k name requests p g alike) (absorbs m) (laws m) e in
        ap (given_units (at w instance k path p) name) same.0
    form_units others name (reference kind text) e =
        ap (reference_units (at w instance k path p) name)
        (sym (option_units (reference_edge w k name kind text) p) ∙ (option_speaks (reference_edge w k name kind text) p).units e)

    entries_same : (oa ob : Step → Bool) (xs : List (Part K)) → (list_any (λ (l : Looked). l.is_told) (looked w instance as' k path p f oa xs) ≡ true → oa ≡ ob) → AllAssumed as' (plan_met for_units (looked w instance as' k path p f oa xs))
        → entries_of w instance (completion_of as') k path p u1 oa xs ≡ entries_of w instance c k path p u ob xs
    entries_same oa ob [] alike e = refl
    entries_same oa ob (x ∷ xs) alike e =
        let told : Step → Bool = told_of oa (form_told w.keywords x.form) in
        one_more_entry x.priority
        (form_units told x.name x.form (assumed_front as' _ _ e) ∙ ap (λ o. part_units w instance c k path p u o x.name x.form) (told_alike oa ob (form_told w.keywords x.form) (λ t. alike (or_left _ _ t))))
        (entries_same oa ob xs (λ t. alike (or_right _ _ t)) (assumed_back as' (part_met w instance as' k path p f told x.name x.form for_units) _ e))

    in_plan : (o : Plan K) (mode : Mode) → AllAssumed as' (elim o [ always ↦ [] | never ↦ [] | these xs ↦ node_met mode (looked_at w instance as' k path p f xs) ])
        → SameIn mode (elim o [ always ↦ accepted | never ↦ false_outcome w.keywords.texts (at w instance k path p) (subject w instance p) | these xs ↦ kept (parts_outcome w instance (completion_of as') k path p g1 (OwnOthers xs) xs) ])
        (elim o [ always ↦ accepted | never ↦ false_outcome w.keywords.texts (at w instance k path p) (subject w instance p) | these xs ↦ kept (parts_outcome w instance c k path p g (ItsOthers xs) xs) ])
    in_plan always mode e = same_itself_in mode _
    in_plan never mode e = same_itself_in mode _
    in_plan (these xs) mode e = along_in_mode as' (along (OwnOthers xs) (ItsOthers xs) xs) mode e

    spans_in_plan : (o : Plan K) → AllAssumed as' (elim o [ always ↦ [] | never ↦ [] | these xs ↦ plan_spanning (looked_at w instance as' k path p f xs) ])
        → SaysAlike (elim o [ always ↦ accepted | never ↦ false_outcome w.keywords.texts (at w instance k path p) (subject w instance p) | these xs ↦ kept (parts_outcome w instance (completion_of as') k path p g1 (OwnOthers xs) xs) ])
        (elim o [ always ↦ accepted | never ↦ false_outcome w.keywords.texts (at w instance k path p) (subject w instance p) | these xs ↦ kept (parts_outcome w instance c k path p g (ItsOthers xs) xs) ])
    spans_in_plan always e = alike_itself _
    spans_in_plan never e = alike_itself _
    spans_in_plan (these xs) e = along_spanning as' (along (OwnOthers xs) (ItsOthers xs) xs) e

    units_in_plan : (o : Plan K) → AllAssumed as' (elim o [ always ↦ [] | never ↦ [] | these xs ↦ node_met for_units (looked_at w instance as' k path p f xs) ])
        → ◌≡◌ {A = Unit_}
        (elim o [ always ↦ true_unit (at w instance k path p) | never ↦ false_unit w.keywords.texts (at w instance k path p) (subject w instance p) | these xs ↦ plan_unit (at w instance k path p) (annotations_of w k) (entries_of w instance (completion_of as') k path p u1 (OwnOthers xs) xs) ])
        (elim o [ always ↦ true_unit (at w instance k path p) | never ↦ false_unit w.keywords.texts (at w instance k path p) (subject w instance p) | these xs ↦ plan_unit (at w instance k path p) (annotations_of w k) (entries_of w instance c k path p u (ItsOthers xs) xs) ])
    units_in_plan always e = refl
    units_in_plan never e = refl
    units_in_plan (these xs) e = ap (plan_unit (at w instance k path p) (annotations_of w k))
        (entries_same (OwnOthers xs) (ItsOthers xs) xs (others_known as' (along (OwnOthers xs) (ItsOthers xs) xs) for_units (λ is. absurd (cc is)) e) (met_for_units as' (looked_at w instance as' k path p f xs) e))

    node_speaks : Speaks as' (run_node w instance as' k path p f) (outcome_of w instance c k path p g) (unit_of w instance c k path p g u)
    node_speaks = record {
      run_agrees = node_agrees w instance absorbs laws (completion_of as') k path p g1 u1 (λ e q. (speaks e q).run_agrees) (λ e q. (speaks e q).run_valid);
      agrees = node_agrees w instance absorbs laws c k path p g u (λ e q. (speaks e q).agrees) (λ e q. (speaks e q).valid);
      run_valid = node_valid w instance absorbs laws (completion_of as') k path p g1 u1 (λ e q. (speaks e q).run_agrees) (λ e q. (speaks e q).run_valid);
      valid = node_valid w instance absorbs laws c k path p g u (λ e q. (speaks e q).agrees) (λ e q. (speaks e q).valid);
      in_mode = in_plan (plan w k);
      units = units_in_plan (plan w k);
      spanning = spans_in_plan (plan w k);
    }

  -- ---- questions at most n deep

  abbrev StepsValued : ℕ → Key S → Text → Place → Valued
  StepsValued = in_steps w instance no_valued (valued_of w instance c)

  steps_valued : (n : ℕ) (k : Key S) (path : Text) (p : Place) → (StepsValued n k path p).outcome ≡ in_steps w instance accepted (outcome_of w instance c) n k path p
  steps_valued zero k path p = refl
  steps_valued (suc n) k path p = ap (outcome_of w instance c k path p) (λ j e q. steps_valued n e.key (path ++ e.path) q j)

  values_alike : (n : ℕ) (path : Text) → KeysAlike (λ e q. (StepsValued n e.key (path ++ e.path) q).outcome)
  values_alike n path = subst KeysAlike (λ j e q. sym (steps_valued n e.key (path ++ e.path) q) j) (steps_alike w instance c n path)

  steps_speak : (n : ℕ) (k : Key S) (path : Text) (p : Place)
      → Speaks as' (in_steps w instance no_run (run_node w instance as') n k path p) (StepsValued n k path p).outcome (StepsValued n k path p).units
  steps_speak zero k path p = no_run_speaks
  steps_speak (suc n) k path p = node_speaks k path p _ _ _ (λ e q. steps_speak n e.key (path ++ e.path) q) (runs_alike w instance as' n path) (values_alike n path)

-- The outcome of an unfolding with units is that of the unfolding without them.
module _ {S K R : Type 0} (w : Parts S K R) (instance : Data) (c : Completion) where
  valued_by_kind : (t : Bool) (v v' : Valued) (o o' : Outcome) → v.outcome ≡ o → v'.outcome ≡ o' → (let z : Valued = elim t [ true ↦ v | false ↦ v' ] in z.outcome) ≡ (elim t [ true ↦ o | false ↦ o' ])
  valued_by_kind true v v' o o' e e' = e
  valued_by_kind false v v' o o' e e' = e'

  within_valued : (a : Key S → Text → Place → Valued) (b : Key S → Text → Place → Outcome) → ((k : Key S) (path : Text) (p : Place) → (a k path p).outcome ≡ b k path p)
      → (h : ℕ) (k : Key S) (path : Text) (p : Place) → (within w instance no_valued (valued_of w instance c) a h k path p).outcome ≡ within w instance accepted (outcome_of w instance c) b h k path p
  within_valued a b s zero k path p = refl
  within_valued a b s (suc h) k path p = ap (outcome_of w instance c k path p)
      (λ i edge q. valued_by_kind edge.is_reference (a edge.key (path ++ edge.path) q) (within w instance no_valued (valued_of w instance c) a h edge.key (path ++ edge.path) q) _ _ (s edge.key (path ++ edge.path) q) (within_valued a b s h edge.key (path ++ edge.path) q) i)

  pub valued_outcome : (n : ℕ) (k : Key S) (path : Text) (p : Place) → (unfolded w instance no_valued (valued_of w instance c) n k path p).outcome ≡ unfold_ w instance c n k path p
  valued_outcome zero k path p = within_valued (λ k' path' p'. no_valued) (λ k' path' p'. accepted) (λ k' path' p'. refl) (height w k) k path p
  valued_outcome (suc n) k path p = within_valued (unfolded w instance no_valued (valued_of w instance c) n) (unfold_ w instance c n) (valued_outcome n) (height w k) k path p

-- If no question returns, the plain run of a root speaks at every sufficient depth.
module _ {S K R : Type 0} (w : Parts S K R) (each : EachKeeps w.keywords) (values : ValuesInside w) (makers : MakersAskBelow w.table) (states : (a b : S) → Decides (w.resolver.same_state a b) (a ≡ b))
    (instance : Data) (root : Key S) (none : ¬ (Return w instance (at_root w root instance))) (keys : List (Key S)) (reach : IsReach w root keys) (n : ℕ) (enough : deep_enough w keys instance ≤ n) where
  in_steps_is : {X : Type 0} (last : X) (node : Key S → Text → Place → (Edge S → Place → X) → X)
      → ((k : Key S) (path : Text) (p : Place) (f g : Edge S → Place → X) → ((edge : Edge S) (q : Place) → Asks w instance k p edge q → f edge q ≡ g edge q) → node k path p f ≡ node k path p g)
      → in_steps w instance last node n root [] [] ≡ unfolded w instance last node n root [] []
  in_steps_is last node local = steps_unfold w instance last node (subschemas_inside w values makers) local (at_root w root instance) none (targets_of w keys)
      (at_targets w instance root (same_through w states) keys reach) (at_places w instance (reads_of w.keywords each) root) (one_target w states) one_place n n (omega arith) (omega arith)

  pub run_speaks : (as' : Assumptions) (c : Completion) → Extends (completion_of as') as' → Extends c as'
      → Speaks as' (run w instance as' n root [] []) (unfold_ w instance c n root [] []) (plain_units w instance c n root [] [])
  run_speaks as' c mine ext =
      let reads = reads_of w.keywords each in
      let runs : in_steps w instance no_run (run_node w instance as') n root [] [] ≡ run w instance as' n root [] [] = in_steps_is no_run (run_node w instance as') (λ k path p f g h. run_local w instance reads k path p as' f g h) in
      let values : in_steps w instance no_valued (valued_of w instance c) n root [] [] ≡ unfolded w instance no_valued (valued_of w instance c) n root [] [] = in_steps_is no_valued (valued_of w instance c) (λ k path p f g h. valued_local w instance reads k path p c f g h) in
      subst (λ o. Speaks as' (run w instance as' n root [] []) o (plain_units w instance c n root [] [])) (valued_outcome w instance c n root [] [])
      (subst (λ r. Speaks as' r (unfolded w instance no_valued (valued_of w instance c) n root [] []).outcome (plain_units w instance c n root [] [])) runs
      (subst (λ v. Speaks as' (in_steps w instance no_run (run_node w instance as') n root [] []) v.outcome v.units) values
      (steps_speak w instance (λ m. (each m).0) (λ m. (each m).1) states as' c mine ext n root [] [])))
