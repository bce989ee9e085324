-- What numbered nodes say under guards behaves like a plain run.
use Rattle.std.proofs.Common.{◌≡◌, ℕ, zero, suc, List, [], ◌∷◌, ◌++◌, refl, ap, sym, subst, ◌∙◌, Bool, true, false, ◌==◌, map}
use Rattle.std.specs.Prelude.{Option, Some, None, if◌then◌else◌, option_map}
use Rattle.std.specs.List.{list_any}
use Rattle.theory_definitions.specs.Instance.{Step, Text, Place, Subject}
use Rattle.theory_definitions.specs.Pointer.{joined}
use Rattle.theory_definitions.specs.Reports.{Error, Unit_, report_of, Outcome, accepted, spans_nothing}
use Rattle.theory_definitions.specs.Keywords.{Keywords, Question, Below, here, Mode, for_verdict, for_first, for_all, for_units}
use Rattle.theory_definitions.specs.Matching.{Matcher, Completion, Assumptions, beside, matching, completion_of, Extends}
use Rattle.theory_definitions.specs.Meaning.{place_below, stamped, false_outcome, kept, told_of}
use Rattle.theory_definitions.specs.Units.{PartUnits, Valued, given_units, no_unit, reference_units, true_unit, false_unit, plan_unit}
use Rattle.theory_definitions.specs.Runs.{Run, Looked, Met, no_run, node_met, plan_met, plan_spanning}
use Rattle.theory_definitions.specs.Cover.{mode_of}
use Rattle.theory_definitions.specs.Guarded.{Children, NodeEdge, node_child, same_edge, Nodes, NodePart, NodeForm, node_keyword, node_reference, NodePlan, node_always, node_never, node_these, node_at, node_asked, node_part, node_parts, node_outcome, node_part_units, node_entries_of, node_unit, node_part_met, node_looked, guarded_node, across, guarded_within, guarded_sense, progress_below, yes_outcome, yes_run, yes_unit, yes_valued, guarded_units, node_looked_at, node_others, node_part_spanning, node_told, node_valued}
use Rattle.theory_definitions.specs.Laws.{Agrees, KeepsLaws}
use Rattle.theory_definitions.proofs.Products.{or_left, or_right}
use Rattle.theory_meaning.specs.Members.{AllAssumed, SameIn, SaysAlike, Speaks, Follows}
use Rattle.theory_meaning.specs.Promises.{NodesFollow}
use Rattle.theory_meaning.proofs.SameTurns.{assumed_front, assumed_back, keyword_same, same_units}
use Rattle.theory_meaning.proofs.SameSpans.{keyword_spans_alike, told_span}
use Rattle.theory_meaning.proofs.SpansRead.{alike_itself}
use Rattle.theory_meaning.proofs.Plans.{Along, EntrySpeaks, ends, goes, along_in_mode, along_spanning, met_for_units, others_known, same_itself_in, first_stamped, agrees_both}
use Rattle.theory_meaning.proofs.Valid.{EntriesValid, EntryValid, and_true, entries_valid, given_valid, mapped_agrees, none_left, one_more}
use Rattle.theory_meaning.proofs.Runs.{one_more_entry, told_alike}
use Rattle.theory_meaning.proofs.Alike.{EdgesAlike, children_alike, edges_alike}

module _ {K R : Type 0} (keywords : Keywords K R) (matcher : Matcher) (nodes : Nodes K) (subject_of : Place → Subject) (as' : Assumptions) where
  by_kind : (t : Bool) (r r' : Run) (x x' : Outcome) → r.outcome tt ≡ x → r'.outcome tt ≡ x'
      → (let z : Run = elim t [ true ↦ r | false ↦ r' ] in z.outcome tt) ≡ (elim t [ true ↦ x | false ↦ x' ])
  by_kind true r r' x x' e e' = e
  by_kind false r r' x x' e e' = e'

  abbrev RunsWithin : ℕ → ℕ → Text → Place → List ℕ → Run
  RunsWithin = guarded_within (yes_run nodes) (guarded_node keywords matcher nodes subject_of as')

  abbrev SaysWithin : ℕ → ℕ → Text → Place → List ℕ → Outcome
  SaysWithin = guarded_within yes_outcome (node_outcome keywords matcher nodes subject_of (completion_of as'))

  -- The outcomes of the answers of its edges.
  abbrev RunsAcross : ℕ → Text → Place → List ℕ → NodeEdge → Below → Outcome
  RunsAcross n path p busy e b = (across (yes_run nodes) (guarded_node keywords matcher nodes subject_of as') (RunsWithin n) path p busy e b).outcome tt

  abbrev SaysAcross : ℕ → Text → Place → List ℕ → NodeEdge → Below → Outcome
  SaysAcross n = across yes_outcome (node_outcome keywords matcher nodes subject_of (completion_of as')) (SaysWithin n)

  across_outcome : (n : ℕ) → ((i : ℕ) (path : Text) (p : Place) (busy : List ℕ) → (RunsWithin n i path p busy).outcome tt ≡ SaysWithin n i path p busy)
      → (path : Text) (p : Place) (busy : List ℕ) → RunsAcross n path p busy ≡ SaysAcross n path p busy
  across_outcome n each path p busy =
      let Busy : Below → List ℕ = λ b. progress_below busy b in
      let Go : NodeEdge → Below → List ℕ → Run = λ e b l. RunsWithin n e.node (path ++ e.path) (place_below p b) l in
      λ j e b. by_kind e.guarded
      (elim (list_any (λ k. k == e.node) (Busy b)) [ true ↦ yes_run nodes e.node (path ++ e.path) (place_below p b) | false ↦ Go e b (e.node ∷ Busy b) ]) (Go e b (Busy b)) _ _
      (by_kind (list_any (λ k. k == e.node) (Busy b)) (yes_run nodes e.node (path ++ e.path) (place_below p b)) (Go e b (e.node ∷ Busy b)) accepted _ refl (each e.node (path ++ e.path) (place_below p b) (e.node ∷ Busy b)))
      (each e.node (path ++ e.path) (place_below p b) (Busy b)) j

  pub guarded_outcome : (n i : ℕ) (path : Text) (p : Place) (busy : List ℕ)
      → (guarded_within (yes_run nodes) (guarded_node keywords matcher nodes subject_of as') n i path p busy).outcome tt ≡ guarded_within yes_outcome (node_outcome keywords matcher nodes subject_of (completion_of as')) n i path p busy
  guarded_outcome zero i path p busy = refl
  guarded_outcome (suc n) i path p busy = ap (node_outcome keywords matcher nodes subject_of (completion_of as') i path p) (across_outcome n (guarded_outcome n) path p busy)

  -- So they are alike, because the outcomes are.
  runs_alike : (n : ℕ) (path : Text) (p : Place) (busy : List ℕ) → EdgesAlike (RunsAcross n path p busy)
  runs_alike n path p busy = subst EdgesAlike (sym (across_outcome n (guarded_outcome n) path p busy)) (edges_alike keywords matcher nodes subject_of (completion_of as') n path p busy)

-- ---- the outcomes of what nodes say with their units

module _ {K R : Type 0} (keywords : Keywords K R) (matcher : Matcher) (nodes : Nodes K) (subject_of : Place → Subject) (c : Completion) where
  value_by_kind : (t : Bool) (v v' : Valued) (x x' : Outcome) → v.outcome ≡ x → v'.outcome ≡ x' → (let z : Valued = elim t [ true ↦ v | false ↦ v' ] in z.outcome) ≡ (elim t [ true ↦ x | false ↦ x' ])
  value_by_kind true v v' x x' e e' = e
  value_by_kind false v v' x x' e e' = e'

  abbrev ValuesWithin : ℕ → ℕ → Text → Place → List ℕ → Valued
  ValuesWithin = guarded_within (yes_valued nodes) (node_valued keywords matcher nodes subject_of c)

  abbrev Within : ℕ → ℕ → Text → Place → List ℕ → Outcome
  Within = guarded_within yes_outcome (node_outcome keywords matcher nodes subject_of c)

  abbrev ValuesAcross : ℕ → Text → Place → List ℕ → NodeEdge → Below → Outcome
  ValuesAcross n path p busy e b = (across (yes_valued nodes) (node_valued keywords matcher nodes subject_of c) (ValuesWithin n) path p busy e b).outcome

  pub across_valued : (n : ℕ) → ((i : ℕ) (path : Text) (p : Place) (busy : List ℕ) → (ValuesWithin n i path p busy).outcome ≡ Within n i path p busy)
      → (path : Text) (p : Place) (busy : List ℕ) → ValuesAcross n path p busy ≡ across yes_outcome (node_outcome keywords matcher nodes subject_of c) (Within n) path p busy
  across_valued n each path p busy =
      let Busy : Below → List ℕ = λ b. progress_below busy b in
      let Go : NodeEdge → Below → List ℕ → Valued = λ e b l. ValuesWithin n e.node (path ++ e.path) (place_below p b) l in
      λ j e b. value_by_kind e.guarded
      (elim (list_any (λ k. k == e.node) (Busy b)) [ true ↦ yes_valued nodes e.node (path ++ e.path) (place_below p b) | false ↦ Go e b (e.node ∷ Busy b) ]) (Go e b (Busy b)) _ _
      (value_by_kind (list_any (λ k. k == e.node) (Busy b)) (yes_valued nodes e.node (path ++ e.path) (place_below p b)) (Go e b (e.node ∷ Busy b)) accepted _ refl (each e.node (path ++ e.path) (place_below p b) (e.node ∷ Busy b)))
      (each e.node (path ++ e.path) (place_below p b) (Busy b)) j

  pub guarded_valued : (n i : ℕ) (path : Text) (p : Place) (busy : List ℕ)
      → (guarded_within (yes_valued nodes) (node_valued keywords matcher nodes subject_of c) n i path p busy).outcome ≡ guarded_within yes_outcome (node_outcome keywords matcher nodes subject_of c) n i path p busy
  guarded_valued zero i path p busy = refl
  guarded_valued (suc n) i path p busy = ap (node_outcome keywords matcher nodes subject_of c i path p) (across_valued n (guarded_valued n) path p busy)

  values_alike : (n : ℕ) (path : Text) (p : Place) (busy : List ℕ) → EdgesAlike (ValuesAcross n path p busy)
  values_alike n path p busy = subst EdgesAlike (sym (across_valued n (guarded_valued n) path p busy)) (edges_alike keywords matcher nodes subject_of c n path p busy)

module _ {K R : Type 0} (keywords : Keywords K R) (matcher : Matcher) (nodes : Nodes K) (subject_of : Place → Subject) (absorbs : K → List Text) (laws : (m : K) → KeepsLaws keywords m (absorbs m)) where
  -- ---- under one completion

  module _ (c : Completion) (i : ℕ) (path : Text) (p : Place) (g : NodeEdge → Below → Outcome) (u : NodeEdge → Below → Unit_)
      (agrees : (e : NodeEdge) (b : Below) → Agrees (g e b)) (valid : (e : NodeEdge) (b : Below) → (report_of (u e b)).valid ≡ (g e b).verdict) where
    abbrev Out : (Step → Bool) → Text → NodeForm K → Outcome
    Out = node_part keywords matcher nodes subject_of c i path p g

    abbrev Units_of : (Step → Bool) → Text → NodeForm K → PartUnits
    Units_of = node_part_units keywords matcher nodes subject_of c i path p u

    abbrev Others : List (NodePart K) → Step → Bool
    Others = node_others keywords matcher nodes subject_of c i path p g

    option_agrees : (o : Option NodeEdge) (b : Below) → Agrees (elim o [ None ↦ accepted | Some e ↦ g e b ])
    option_agrees None b = (λ e. refl, λ e. refl)
    option_agrees (Some e) b = agrees e b

    option_valid : (o : Option NodeEdge) (b : Below) → (report_of (elim o [ None ↦ no_unit | Some e ↦ u e b ])).valid ≡ (let x : Outcome = elim o [ None ↦ accepted | Some e ↦ g e b ] in x.verdict)
    option_valid None b = refl
    option_valid (Some e) b = valid e b

    pub part_agrees : (others : Step → Bool) (name : Text) (form : NodeForm K) → Agrees (Out others name form)
    part_agrees others name (node_keyword m es) = mapped_agrees _ _ _ spans_nothing ((laws m).agree (subject_of p) (beside others (matching matcher c)) (node_asked keywords matcher nodes subject_of accepted es g) (λ q. option_agrees (node_child es q.child) q.below))
    part_agrees others name (node_reference e) = mapped_agrees _ _ _ spans_nothing (agrees e here)

    form_valid : (others : Step → Bool) (name : Text) (form : NodeForm K) → EntryValid (Units_of others name form) (Out others name form)
    form_valid others name (node_keyword m es) =
        let answers : Question → Unit_ = node_asked keywords matcher nodes subject_of no_unit es u in
        record {
          all = given_valid (node_at keywords matcher nodes subject_of i path p) name (keywords.units m (subject_of p) (beside others (matching matcher c)) answers)
              ∙ ((laws m).units_valid (subject_of p) (beside others (matching matcher c)) answers
              ∙ ap (keywords.holds m (subject_of p) (beside others (matching matcher c))) (λ j q. option_valid (node_child es q.child) q.below j));
        }
    form_valid others name (node_reference e) = record { all = and_true _ ∙ valid e here }

    parts_agree : (others : Step → Bool) (xs : List (NodePart K)) → Agrees (node_parts keywords matcher nodes subject_of c i path p g others xs)
    parts_agree others [] = (λ e. refl, λ e. refl)
    parts_agree others (x ∷ xs) = let told = told_of others (node_told keywords x.form) in
        agrees_both (Out told x.name x.form) (node_parts keywords matcher nodes subject_of c i path p g others xs) (part_agrees told x.name x.form) (parts_agree others xs)

    parts_valid : (others : Step → Bool) (xs : List (NodePart K)) → EntriesValid (node_entries_of keywords matcher nodes subject_of c i path p u others xs) (node_parts keywords matcher nodes subject_of c i path p g others xs)
    parts_valid others [] = none_left
    parts_valid others (x ∷ xs) = one_more (form_valid (told_of others (node_told keywords x.form)) x.name x.form) (parts_valid others xs)

    pub node_agrees : Agrees (node_outcome keywords matcher nodes subject_of c i path p g)
    node_agrees = go (nodes.entries i)
      where
        go : (o : NodePlan K) → Agrees (elim o [ node_always ↦ accepted | node_never ↦ false_outcome keywords.texts (node_at keywords matcher nodes subject_of i path p) (subject_of p) | node_these xs ↦ kept (node_parts keywords matcher nodes subject_of c i path p g (Others xs) xs) ])
        go node_always = (λ e. refl, λ e. refl)
        go node_never = (λ e. absurd (cc e), λ e. absurd (cc e))
        go (node_these xs) = parts_agree (Others xs) xs

    pub node_valid : (report_of (node_unit keywords matcher nodes subject_of c i path p g u)).valid ≡ (node_outcome keywords matcher nodes subject_of c i path p g).verdict
    node_valid = go (nodes.entries i)
      where
        go : (o : NodePlan K) → (report_of (elim o [
          | node_always ↦ true_unit (node_at keywords matcher nodes subject_of i path p)
          | node_never ↦ false_unit keywords.texts (node_at keywords matcher nodes subject_of i path p) (subject_of p)
          | node_these xs ↦ plan_unit (node_at keywords matcher nodes subject_of i path p) (nodes.annotations i) (node_entries_of keywords matcher nodes subject_of c i path p u (Others xs) xs)
        ])).valid
            ≡ (let x : Outcome = elim o [ node_always ↦ accepted | node_never ↦ false_outcome keywords.texts (node_at keywords matcher nodes subject_of i path p) (subject_of p) | node_these xs ↦ kept (node_parts keywords matcher nodes subject_of c i path p g (Others xs) xs) ] in x.verdict)
        go node_always = refl
        go node_never = refl
        go (node_these xs) = entries_valid (parts_valid (Others xs) xs)

  -- ---- a run under assumptions

  module _ (as' : Assumptions) (c : Completion) (mine : Extends (completion_of as') as') (ext : Extends c as') where
    yes_speaks : Speaks as' no_run accepted no_unit
    yes_speaks = record { run_agrees = (λ e. refl, λ e. refl); agrees = (λ e. refl, λ e. refl); run_valid = refl; valid = refl; in_mode = λ mode e. same_itself_in mode accepted; units = λ e. refl; spanning = λ e. alike_itself accepted }

    progress_speaks : (i : ℕ) (path : Text) (p : Place) → Speaks as' (yes_run nodes i path p) (yes_outcome i path p) (yes_unit nodes i path p)
    progress_speaks i path p = record { run_agrees = (λ e. refl, λ e. refl); agrees = (λ e. refl, λ e. refl); run_valid = refl; valid = refl; in_mode = λ mode e. same_itself_in mode accepted; units = λ e. refl; spanning = λ e. alike_itself accepted }

    module _ (i : ℕ) (path : Text) (p : Place) (f : NodeEdge → Below → Run) (g : NodeEdge → Below → Outcome) (u : NodeEdge → Below → Unit_)
        (speaks : (e : NodeEdge) (b : Below) → Speaks as' (f e b) (g e b) (u e b)) (alike_run : EdgesAlike (λ e b. (f e b).outcome tt)) (alike : EdgesAlike g) where
      abbrev g1 : NodeEdge → Below → Outcome
      g1 e b = (f e b).outcome tt

      abbrev u1 : NodeEdge → Below → Unit_
      u1 e b = (f e b).units tt

      option_speaks : (o : Option NodeEdge) (b : Below)
          → Speaks as' (elim o [ None ↦ no_run | Some e ↦ f e b ]) (elim o [ None ↦ accepted | Some e ↦ g e b ]) (elim o [ None ↦ no_unit | Some e ↦ u e b ])
      option_speaks None b = yes_speaks
      option_speaks (Some e) b = speaks e b

      option_outcome : (o : Option NodeEdge) (b : Below) → ◌≡◌ {A = Outcome} (let r : Run = elim o [ None ↦ no_run | Some e ↦ f e b ] in r.outcome tt) (elim o [ None ↦ accepted | Some e ↦ g1 e b ])
      option_outcome None b = refl
      option_outcome (Some e) b = refl

      option_units : (o : Option NodeEdge) (b : Below) → ◌≡◌ {A = Unit_} (let r : Run = elim o [ None ↦ no_run | Some e ↦ f e b ] in r.units tt) (elim o [ None ↦ no_unit | Some e ↦ u1 e b ])
      option_units None b = refl
      option_units (Some e) b = refl

      abbrev Own : (Step → Bool) → Text → NodeForm K → Outcome
      Own = node_part keywords matcher nodes subject_of (completion_of as') i path p g1

      abbrev Its : (Step → Bool) → Text → NodeForm K → Outcome
      Its = node_part keywords matcher nodes subject_of c i path p g

      abbrev Look : (Step → Bool) → List (NodePart K) → List Looked
      Look = node_looked keywords matcher nodes subject_of as' i path p f

      abbrev MetBy : (Step → Bool) → Text → NodeForm K → Mode → List Met
      MetBy = node_part_met keywords matcher nodes subject_of as' i path p f

      abbrev SpanningBy : Text → NodeForm K → List Met
      SpanningBy = node_part_spanning keywords matcher nodes subject_of as' i path p f

      -- What the others span in the run, and under the completion.
      abbrev OwnOthers : List (NodePart K) → Step → Bool
      OwnOthers = node_others keywords matcher nodes subject_of (completion_of as') i path p g1

      abbrev ItsOthers : List (NodePart K) → Step → Bool
      ItsOthers = node_others keywords matcher nodes subject_of c i path p g

      abbrev Asked : {X : Type 0} → X → Children → (NodeEdge → Below → X) → Question → X
      Asked = node_asked keywords matcher nodes subject_of

      abbrev stamp : Text → Error → Error
      stamp name = stamped (nodes.absolute i (joined (nodes.location i) name))

      in_form : (others : Step → Bool) (name : Text) (form : NodeForm K) (mode : Mode) → AllAssumed as' (MetBy others name form mode)
          → SameIn mode (Own others name form) (Its others name form)
      in_form others name (node_keyword m es) mode e = keyword_same keywords matcher as' c mine ext (node_at keywords matcher nodes subject_of i path p) (subject_of p)
          (Asked no_run es f) (Asked accepted es g1) (Asked accepted es g) (Asked no_unit es u1) (Asked no_unit es u) others (same_edge es) name m
          (λ q. option_outcome (node_child es q.child) _) (λ q. option_units (node_child es q.child) _) (λ q. option_speaks (node_child es q.child) _)
          (children_alike keywords matcher nodes subject_of es g1 alike_run) (children_alike keywords matcher nodes subject_of es g alike) (absorbs m) (laws m) mode e
      in_form others name (node_reference e) mode h = by mode ((speaks e here).in_mode mode h)
        where
          by : (mode : Mode) → SameIn mode ((f e here).outcome tt) (g e here) → SameIn mode (Own others name (node_reference e)) (Its others name (node_reference e))
          by for_verdict k = k
          by for_first k = first_stamped (stamp name) _ ∙ (ap (option_map (stamp name)) k ∙ sym (first_stamped (stamp name) _))
          by for_all k = ap (map (stamp name)) k
          by for_units k = k

      -- What an entry that is not told spans.
      form_spans : (name : Text) (form : NodeForm K) → AllAssumed as' (SpanningBy name form) → SaysAlike (Own spans_nothing name form) (Its spans_nothing name form)
      form_spans name (node_keyword m es) e = keyword_spans_alike keywords matcher as' c mine ext (node_at keywords matcher nodes subject_of i path p) (subject_of p)
          (Asked no_run es f) (Asked accepted es g1) (Asked accepted es g) (Asked no_unit es u1) (Asked no_unit es u) (same_edge es) name m
          (λ q. option_outcome (node_child es q.child) _) (λ q. option_units (node_child es q.child) _) (λ q. option_speaks (node_child es q.child) _)
          (children_alike keywords matcher nodes subject_of es g1 alike_run) (children_alike keywords matcher nodes subject_of es g alike) (absorbs m) (laws m) e
      form_spans name (node_reference e) h = record { verdict = ((speaks e here).spanning h).verdict; spans = ((speaks e here).spanning h).spans }

      -- What a told entry spans itself.
      form_fixed : (others others' : Step → Bool) (name : Text) (form : NodeForm K) → node_told keywords form ≡ true → (Own others name form).spans ≡ (Its others' name form).spans
      form_fixed others others' name (node_keyword m es) is = told_span keywords m (absorbs m) (laws m) is (subject_of p) (beside others (matching matcher (completion_of as'))) (beside others' (matching matcher c)) (Asked accepted es g1) (Asked accepted es g)
      form_fixed others others' name (node_reference e) is = absurd (cc is)

      own_agrees : (others : Step → Bool) (name : Text) (form : NodeForm K) → Agrees (Own others name form)
      own_agrees = part_agrees (completion_of as') i path p g1 u1 (λ e b. (speaks e b).run_agrees) (λ e b. (speaks e b).run_valid)

      its_agrees : (others : Step → Bool) (name : Text) (form : NodeForm K) → Agrees (Its others name form)
      its_agrees = part_agrees c i path p g u (λ e b. (speaks e b).agrees) (λ e b. (speaks e b).valid)

      entry_speaks : (oa ob : Step → Bool) (x : NodePart K) (told : Bool) → node_told keywords x.form ≡ told
          → EntrySpeaks as' (oa ≡ ob)
          (record {
            is_leaf = x.is_leaf;
            is_told = told;
            holds = (Own (told_of oa told) x.name x.form).verdict;
            met = MetBy (told_of oa told) x.name x.form;
            spanning = SpanningBy x.name x.form;
          })
          (Own (told_of oa told) x.name x.form) (Its (told_of ob told) x.name x.form)
          (if told then spans_nothing else (Own spans_nothing x.name x.form).spans) (if told then spans_nothing else (Its spans_nothing x.name x.form).spans)
      entry_speaks oa ob x true is = record {
        holds = refl;
        agrees_a = own_agrees oa x.name x.form;
        agrees_b = its_agrees ob x.name x.form;
        in_mode = λ alike mode e. subst (λ o. SameIn mode (Own oa x.name x.form) (Its o x.name x.form)) (alike refl) (in_form oa x.name x.form mode e);
        verdict = λ no. absurd (cc no);
        spans = λ h. form_fixed oa ob x.name x.form is;
        others = λ h. refl;
      }
      entry_speaks oa ob x false is = record {
        holds = refl;
        agrees_a = own_agrees spans_nothing x.name x.form;
        agrees_b = its_agrees spans_nothing x.name x.form;
        in_mode = λ alike mode e. in_form spans_nothing x.name x.form mode e;
        verdict = λ no e. (form_spans x.name x.form e).verdict;
        spans = λ h. (form_spans x.name x.form (h refl)).spans;
        others = λ h. (form_spans x.name x.form (h refl)).spans;
      }

      along : (oa ob : Step → Bool) (xs : List (NodePart K))
          → Along as' (oa ≡ ob) (Look oa xs) (node_parts keywords matcher nodes subject_of (completion_of as') i path p g1 oa xs) (node_parts keywords matcher nodes subject_of c i path p g ob xs) (OwnOthers xs) (ItsOthers xs)
      along oa ob [] = ends
      along oa ob (x ∷ xs) = goes (entry_speaks oa ob x (node_told keywords x.form) refl) (along oa ob xs)

      abbrev OwnUnits : (Step → Bool) → Text → NodeForm K → PartUnits
      OwnUnits = node_part_units keywords matcher nodes subject_of (completion_of as') i path p u1

      abbrev ItsUnits : (Step → Bool) → Text → NodeForm K → PartUnits
      ItsUnits = node_part_units keywords matcher nodes subject_of c i path p u

      form_units : (others : Step → Bool) (name : Text) (form : NodeForm K) → AllAssumed as' (MetBy others name form for_units)
          → OwnUnits others name form ≡ ItsUnits others name form
      form_units others name (node_keyword m es) e =
          let same : (keywords.units m (subject_of p) (beside others (matching matcher (completion_of as'))) (Asked no_unit es u1) ≡ keywords.units m (subject_of p) (beside others (matching matcher c)) (Asked no_unit es u))
          × ((Own others name (node_keyword m es)).verdict ≡ (Its others name (node_keyword m es)).verdict)
          = same_units keywords matcher as' c mine ext (node_at keywords matcher nodes subject_of i path p) (subject_of p)
          (Asked no_run es f) (Asked accepted es g1) (Asked accepted es g) (Asked no_unit es u1) (Asked no_unit es u) others (same_edge es) name m
          (λ q. option_outcome (node_child es q.child) _) (λ q. option_units (node_child es q.child) _) (λ q. option_speaks (node_child es q.child) _)
          (children_alike keywords matcher nodes subject_of es g1 alike_run) (children_alike keywords matcher nodes subject_of es g alike) (absorbs m) (laws m) e in
          ap (given_units (node_at keywords matcher nodes subject_of i path p) name) same.0
      form_units others name (node_reference e) h = ap (reference_units (node_at keywords matcher nodes subject_of i path p) name) ((speaks e here).units h)

      entries_same : (oa ob : Step → Bool) (xs : List (NodePart K)) → (list_any (λ (l : Looked). l.is_told) (Look oa xs) ≡ true → oa ≡ ob) → AllAssumed as' (plan_met for_units (Look oa xs))
          → node_entries_of keywords matcher nodes subject_of (completion_of as') i path p u1 oa xs ≡ node_entries_of keywords matcher nodes subject_of c i path p u ob xs
      entries_same oa ob [] alike e = refl
      entries_same oa ob (x ∷ xs) alike e =
          let told : Step → Bool = told_of oa (node_told keywords x.form) in
          one_more_entry x.priority
          (form_units told x.name x.form (assumed_front as' _ _ e) ∙ ap (λ o. ItsUnits o x.name x.form) (told_alike oa ob (node_told keywords x.form) (λ t. alike (or_left _ _ t))))
          (entries_same oa ob xs (λ t. alike (or_right _ _ t)) (assumed_back as' (MetBy told x.name x.form for_units) _ e))

      abbrev LookAt : List (NodePart K) → List Looked
      LookAt = node_looked_at keywords matcher nodes subject_of as' i path p f

      whole_along : (xs : List (NodePart K)) → Along as' (OwnOthers xs ≡ ItsOthers xs) (LookAt xs) (node_parts keywords matcher nodes subject_of (completion_of as') i path p g1 (OwnOthers xs) xs)
          (node_parts keywords matcher nodes subject_of c i path p g (ItsOthers xs) xs) (OwnOthers xs) (ItsOthers xs)
      whole_along xs = along (OwnOthers xs) (ItsOthers xs) xs

      in_plan : (o : NodePlan K) (mode : Mode) → AllAssumed as' (elim o [ node_always ↦ [] | node_never ↦ [] | node_these xs ↦ node_met mode (LookAt xs) ])
          → SameIn mode (elim o [ node_always ↦ accepted | node_never ↦ false_outcome keywords.texts (node_at keywords matcher nodes subject_of i path p) (subject_of p) | node_these xs ↦ kept (node_parts keywords matcher nodes subject_of (completion_of as') i path p g1 (OwnOthers xs) xs) ])
          (elim o [ node_always ↦ accepted | node_never ↦ false_outcome keywords.texts (node_at keywords matcher nodes subject_of i path p) (subject_of p) | node_these xs ↦ kept (node_parts keywords matcher nodes subject_of c i path p g (ItsOthers xs) xs) ])
      in_plan node_always mode e = same_itself_in mode _
      in_plan node_never mode e = same_itself_in mode _
      in_plan (node_these xs) mode e = along_in_mode as' (whole_along xs) mode e

      spans_in_plan : (o : NodePlan K) → AllAssumed as' (elim o [ node_always ↦ [] | node_never ↦ [] | node_these xs ↦ plan_spanning (LookAt xs) ])
          → SaysAlike (elim o [ node_always ↦ accepted | node_never ↦ false_outcome keywords.texts (node_at keywords matcher nodes subject_of i path p) (subject_of p) | node_these xs ↦ kept (node_parts keywords matcher nodes subject_of (completion_of as') i path p g1 (OwnOthers xs) xs) ])
          (elim o [ node_always ↦ accepted | node_never ↦ false_outcome keywords.texts (node_at keywords matcher nodes subject_of i path p) (subject_of p) | node_these xs ↦ kept (node_parts keywords matcher nodes subject_of c i path p g (ItsOthers xs) xs) ])
      spans_in_plan node_always e = alike_itself _
      spans_in_plan node_never e = alike_itself _
      spans_in_plan (node_these xs) e = along_spanning as' (whole_along xs) e

      units_in_plan : (o : NodePlan K) → AllAssumed as' (elim o [ node_always ↦ [] | node_never ↦ [] | node_these xs ↦ node_met for_units (LookAt xs) ])
          → ◌≡◌ {A = Unit_}
          (elim o [ node_always ↦ true_unit (node_at keywords matcher nodes subject_of i path p) | node_never ↦ false_unit keywords.texts (node_at keywords matcher nodes subject_of i path p) (subject_of p) | node_these xs ↦ plan_unit (node_at keywords matcher nodes subject_of i path p) (nodes.annotations i) (node_entries_of keywords matcher nodes subject_of (completion_of as') i path p u1 (OwnOthers xs) xs) ])
          (elim o [ node_always ↦ true_unit (node_at keywords matcher nodes subject_of i path p) | node_never ↦ false_unit keywords.texts (node_at keywords matcher nodes subject_of i path p) (subject_of p) | node_these xs ↦ plan_unit (node_at keywords matcher nodes subject_of i path p) (nodes.annotations i) (node_entries_of keywords matcher nodes subject_of c i path p u (ItsOthers xs) xs) ])
      units_in_plan node_always e = refl
      units_in_plan node_never e = refl
      units_in_plan (node_these xs) e = ap (plan_unit (node_at keywords matcher nodes subject_of i path p) (nodes.annotations i))
          (entries_same (OwnOthers xs) (ItsOthers xs) xs (others_known as' (whole_along xs) for_units (λ is. absurd (cc is)) e) (met_for_units as' (LookAt xs) e))

      node_speaks : Speaks as' (guarded_node keywords matcher nodes subject_of as' i path p f) (node_outcome keywords matcher nodes subject_of c i path p g) (node_unit keywords matcher nodes subject_of c i path p g u)
      node_speaks = record {
        run_agrees = node_agrees (completion_of as') i path p g1 u1 (λ e b. (speaks e b).run_agrees) (λ e b. (speaks e b).run_valid);
        agrees = node_agrees c i path p g u (λ e b. (speaks e b).agrees) (λ e b. (speaks e b).valid);
        run_valid = node_valid (completion_of as') i path p g1 u1 (λ e b. (speaks e b).run_agrees) (λ e b. (speaks e b).run_valid);
        valid = node_valid c i path p g u (λ e b. (speaks e b).agrees) (λ e b. (speaks e b).valid);
        in_mode = in_plan (nodes.entries i);
        units = units_in_plan (nodes.entries i);
        spanning = spans_in_plan (nodes.entries i);
      }

    by : {r r' : Run} {v v' : Valued} (t : Bool) → Speaks as' r v.outcome v.units → Speaks as' r' v'.outcome v'.units
        → (let z : Valued = elim t [ true ↦ v | false ↦ v' ] in Speaks as' (elim t [ true ↦ r | false ↦ r' ]) z.outcome z.units)
    by true x y = x
    by false x y = y

    values_speak : (n i : ℕ) (path : Text) (p : Place) (busy : List ℕ)
        → Speaks as' (guarded_within (yes_run nodes) (guarded_node keywords matcher nodes subject_of as') n i path p busy)
        (ValuesWithin keywords matcher nodes subject_of c n i path p busy).outcome
        (ValuesWithin keywords matcher nodes subject_of c n i path p busy).units
    values_speak zero i path p busy = progress_speaks i path p
    values_speak (suc n) i path p busy = node_speaks i path p _ _ _ (λ e b.
        by e.guarded
        (by (list_any (λ j. j == e.node) (progress_below busy b)) (progress_speaks e.node (path ++ e.path) (place_below p b))
        (values_speak n e.node (path ++ e.path) (place_below p b) (e.node ∷ progress_below busy b)))
        (values_speak n e.node (path ++ e.path) (place_below p b) (progress_below busy b)))
        (runs_alike keywords matcher nodes subject_of as' n path p busy) (values_alike keywords matcher nodes subject_of c n path p busy)

    pub guarded_speaks : (n i : ℕ) (path : Text) (p : Place) (busy : List ℕ)
        → Speaks as' (guarded_within (yes_run nodes) (guarded_node keywords matcher nodes subject_of as') n i path p busy)
        (guarded_within yes_outcome (node_outcome keywords matcher nodes subject_of c) n i path p busy)
        (guarded_units keywords matcher nodes subject_of c n i path p busy)
    guarded_speaks n i path p busy = subst (λ o. Speaks as' (guarded_within (yes_run nodes) (guarded_node keywords matcher nodes subject_of as') n i path p busy) o (guarded_units keywords matcher nodes subject_of c n i path p busy))
        (guarded_valued keywords matcher nodes subject_of c n i path p busy) (values_speak n i path p busy)

pub guarded_follows : {K R : Type 0} (keywords : Keywords K R) (matcher : Matcher) (nodes : Nodes K) (subject_of : Place → Subject) (absorbs : K → List Text) (laws : (m : K) → KeepsLaws keywords m (absorbs m)) (n i : ℕ)
    → Follows (guarded_sense keywords matcher nodes subject_of n i)
guarded_follows keywords matcher nodes subject_of absorbs laws n i = record {
  agrees = λ c. (guarded_speaks keywords matcher nodes subject_of absorbs laws [] c (λ a b is. absurd (cc is)) (λ a b is. absurd (cc is)) n i [] [] []).agrees;
  speaks = λ call as' c mine ext e. subst (λ o. SameIn (mode_of call as') o (guarded_within yes_outcome (node_outcome keywords matcher nodes subject_of c) n i [] [] []))
      (guarded_outcome keywords matcher nodes subject_of as' n i [] [] [])
      ((guarded_speaks keywords matcher nodes subject_of absorbs laws as' c mine ext n i [] [] []).in_mode (mode_of call as') e);
}

pub all_nodes_follow : {K R : Type 0} (keywords : Keywords K R) → NodesFollow keywords
all_nodes_follow keywords each matcher nodes subject_of n i = guarded_follows keywords matcher nodes subject_of (λ m. (each m).0) (λ m. (each m).1) n i
