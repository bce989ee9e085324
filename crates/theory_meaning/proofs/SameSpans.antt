-- If the run for what a keyword spans meets only matches that are assumed, the keyword has the same
-- verdict, and spans the same, under every completion that extends the assumptions.
use Rattle.std.proofs.Common.{◌≡◌, ℕ, List, [], ◌∷◌, refl, ap, ap₂, sym, subst, ◌∙◌, Bool, true, false, ◌&&◌, ◌||◌}
use Rattle.std.specs.Prelude.{All, Option, Some, None, flat_map}
use Rattle.std.specs.List.{list_any}
use Rattle.std.proofs.lemmas.Bool.{eqb-true}
use Rattle.std.proofs.lemmas.List.Elements.{All-head, All-tail}
use Rattle.theory_definitions.specs.Instance.{Step, Text, Subject, same_step}
use Rattle.theory_definitions.specs.Reports.{Unit_, Outcome, spans_nothing}
use Rattle.theory_definitions.specs.Matching.{Match, finished, unfinished, Matcher, Matching, Pair, matching, settled, Completion, completed, Assumptions, completion_of, Extends}
use Rattle.theory_definitions.specs.Keywords.{Answers, Below, Marked, Mode, Question, Keywords, MatchPoint, Span, child_at, child_here, child_spans, chosen, chosen_here, down, every, for_all, for_first, for_units, for_verdict, here, keyword_spans, of_child, of_choice, one, one_accepted, one_matched, same_below, same_question, span_asked, spans_step}
use Rattle.theory_definitions.specs.Meaning.{Where, keyword_outcome}
use Rattle.theory_definitions.specs.Runs.{Met, Run, is_asked, keyword_met, once, option_met, run_accepts, site_at, span_met, spanning_met, without_verdict}
use Rattle.theory_definitions.specs.Laws.{AnsweredAlike, IsFixed, KeepsLaws}
use Rattle.theory_definitions.proofs.Products.{both_left, both_right, in_either}
use Rattle.theory_meaning.specs.Members.{AllAssumed, SameIn, SaysAlike, Speaks}
use Rattle.theory_meaning.proofs.SameRun.{step_is}
use Rattle.theory_meaning.proofs.SameTurns.{assumed_front, assumed_back, assumed_head, same_verdict}

-- ---- questions that are the same are equal

below_is : (a b : Below) → same_below a b ≡ true → a ≡ b
below_is here here e = refl
below_is here (down t) e = absurd (cc e)
below_is (down s) here e = absurd (cc e)
below_is (down s) (down t) e = ap down (step_is s t e)

question_is : (q r : Question) → same_question q r ≡ true → q ≡ r
question_is q r e =
    let child : q.child ≡ r.child = eqb-true q.child r.child (both_left _ _ e) in
    let below : q.below ≡ r.below = below_is q.below r.below (both_right _ _ e) in
    λ j. record { child = child j; below = below j }

-- ---- a keyword

module _ {K R : Type 0} (keywords : Keywords K R) (matcher : Matcher) (as' : Assumptions) (c : Completion) (mine : Extends (completion_of as') as') (ext : Extends c as')
    (x : Where) (s : Subject) (run_of : Question → Run) (a1 a2 : Question → Outcome) (u1 u2 : Question → Unit_) (same : Marked → Marked → Bool) (name : Text) (m : K)
    (o_is : (q : Question) → (run_of q).outcome tt ≡ a1 q) (u_is : (q : Question) → (run_of q).units tt ≡ u1 q)
    (speaks : (q : Question) → Speaks as' (run_of q) (a2 q) (u2 q)) (alike_1 : AnsweredAlike same a1) (alike_2 : AnsweredAlike same a2) where
  abbrev OwnMatches : Matching
  OwnMatches = matching matcher (completion_of as')

  abbrev ItsMatches : Matching
  ItsMatches = matching matcher c

  abbrev MetFor : Span → List Met
  MetFor = span_met keywords matcher as' x s run_of same name m

  abbrev Accepts : Question → Bool
  Accepts = run_accepts keywords matcher as' x s run_of same name m

  -- What a child says if its run for its span meets only matches that are assumed.
  said : (q : Question) → AllAssumed as' (run_of q).spanning → SaysAlike (a1 q) (a2 q)
  said q e = subst (λ o. SaysAlike o (a2 q)) (o_is q) ((speaks q).spanning e)

  accepts_alike : (q : Question) → AllAssumed as' ((run_of q).met for_verdict) → (a1 q).verdict ≡ (a2 q).verdict
  accepts_alike q e = ap (λ o. o.verdict) (sym (o_is q)) ∙ (speaks q).in_mode for_verdict e

  accepts_is : (q : Question) → Accepts q ≡ (a1 q).verdict
  accepts_is q = ap (λ o. o.verdict) (o_is q)

  option_same : (i : Option ℕ) → AllAssumed as' (option_met keywords matcher as' x s run_of same name m i) → (step : Step) → child_spans a1 i step ≡ child_spans a2 i step
  option_same None e step = refl
  option_same (Some i) e step = ap (λ f. f step) (said (child_here i) e).spans

  -- The child that is chosen, if what its run for its span meets is assumed.
  chosen_assumed : (i : ℕ) (first second : Option ℕ) → AllAssumed as' (MetFor (of_choice i first second))
      → AllAssumed as' (option_met keywords matcher as' x s run_of same name m (chosen (a1 (child_here i)).verdict first second))
  chosen_assumed i first second e = subst (λ v. AllAssumed as' (option_met keywords matcher as' x s run_of same name m (chosen v first second))) (accepts_is (child_here i)) (assumed_back as' (run_of (child_here i)).spanning _ e)

  match_same : (a : Pair) (point : MatchPoint) (t : Match) → AllAssumed as' (elim t [ finished b ↦ [] | unfinished reason ↦ record { pair = a; site = site_at x name point } ∷ [] ])
      → settled (completed (completion_of as') a) t ≡ settled (completed c a) t
  match_same a point (finished b) e = refl
  match_same a point (unfinished reason) e = let (b, is) = assumed_head as' (record { pair = a; site = site_at x name point }) [] e in mine a b is ∙ sym (ext a b is)

  span_same : (p : Span) → AllAssumed as' (MetFor p) → (step : Step) → spans_step OwnMatches a1 step p ≡ spans_step ItsMatches a2 step p
  span_same every e step = refl
  span_same (one t) e step = refl
  span_same (one_matched a point t) e step = ap (λ v. same_step t step && v) (match_same a point (matcher.is_match a.pattern a.subject) e)
  span_same (one_accepted i t) e step = ap (λ v. same_step t step && v) (accepts_alike (child_at i t) e)
  span_same (of_child i) e step = ap (λ f. f step) (said (child_here i) e).spans
  span_same (of_choice i first second) e step =
      let condition = said (child_here i) (assumed_front as' (run_of (child_here i)).spanning _ e) in
      ap₂ (λ a b. a || b) (ap (λ f. f step) condition.spans)
      (option_same (chosen (a1 (child_here i)).verdict first second) (chosen_assumed i first second e) step ∙ ap (λ v. child_spans a2 (chosen v first second) step) condition.verdict)

  spans_same : (ps : List Span) → AllAssumed as' (flat_map MetFor ps) → (step : Step) → list_any (spans_step OwnMatches a1 step) ps ≡ list_any (spans_step ItsMatches a2 step) ps
  spans_same [] e step = refl
  spans_same (p ∷ ps) e step = ap₂ (λ a b. a || b) (span_same p (assumed_front as' (MetFor p) _ e) step) (spans_same ps (assumed_back as' (MetFor p) _ e) step)

  -- ---- a question that was asked for a span

  only_one : (q r : Question) → list_any (same_question q) (r ∷ []) ≡ true → q ≡ r
  only_one q r e = in_either (same_question q r) false (question_is q r) (λ h. absurd (cc h)) e

  at_one : (q r : Question) → q ≡ r → (a1 r).verdict ≡ (a2 r).verdict → (a1 q).verdict ≡ (a2 q).verdict
  at_one q r e h = subst (λ z. (a1 z).verdict ≡ (a2 z).verdict) (sym e) h

  option_asked : (q : Question) (i : Option ℕ) → AllAssumed as' (option_met keywords matcher as' x s run_of same name m i) → list_any (same_question q) (chosen_here i) ≡ true → (a1 q).verdict ≡ (a2 q).verdict
  option_asked q None e is = absurd (cc is)
  option_asked q (Some i) e is = at_one q (child_here i) (only_one q (child_here i) is) (said (child_here i) e).verdict

  span_asked_alike : (q : Question) (p : Span) → AllAssumed as' (MetFor p) → list_any (same_question q) (span_asked Accepts p) ≡ true → (a1 q).verdict ≡ (a2 q).verdict
  span_asked_alike q every e is = absurd (cc is)
  span_asked_alike q (one t) e is = absurd (cc is)
  span_asked_alike q (one_matched a point t) e is = absurd (cc is)
  span_asked_alike q (one_accepted i t) e is = at_one q (child_at i t) (only_one q (child_at i t) is) (accepts_alike (child_at i t) e)
  span_asked_alike q (of_child i) e is = at_one q (child_here i) (only_one q (child_here i) is) (said (child_here i) e).verdict
  span_asked_alike q (of_choice i first second) e is = in_either (same_question q (child_here i)) (list_any (same_question q) (chosen_here (chosen (Accepts (child_here i)) first second)))
      (λ h. at_one q (child_here i) (question_is q (child_here i) h) (said (child_here i) (assumed_front as' (run_of (child_here i)).spanning _ e)).verdict)
      (λ h. option_asked q (chosen (Accepts (child_here i)) first second) (assumed_back as' (run_of (child_here i)).spanning _ e) h) is

  asked_alike : (q : Question) (ps : List Span) → AllAssumed as' (flat_map MetFor ps) → list_any (λ p. list_any (same_question q) (span_asked Accepts p)) ps ≡ true → (a1 q).verdict ≡ (a2 q).verdict
  asked_alike q [] e is = absurd (cc is)
  asked_alike q (p ∷ ps) e is = in_either (list_any (same_question q) (span_asked Accepts p)) (list_any (λ r. list_any (same_question q) (span_asked Accepts r)) ps)
      (span_asked_alike q p (assumed_front as' (MetFor p) _ e)) (asked_alike q ps (assumed_back as' (MetFor p) _ e)) is

  -- ---- the runs that the turns for the verdict ask

  abbrev Once : Question → Run
  Once = once keywords matcher as' x s run_of same name m

  once_outcome : (b : Bool) (r : Run) → (without_verdict b r).outcome tt ≡ r.outcome tt
  once_outcome true r = refl
  once_outcome false r = refl

  once_units : (b : Bool) (r : Run) → (without_verdict b r).units tt ≡ r.units tt
  once_units true r = refl
  once_units false r = refl

  once_speaks : AllAssumed as' (flat_map MetFor (keywords.spans m s)) → (q : Question) → Speaks as' (Once q) (a2 q) (u2 q)
  once_speaks e q = by (is_asked keywords matcher as' x s run_of same name m q) refl
    where
      by : (b : Bool) → is_asked keywords matcher as' x s run_of same name m q ≡ b → Speaks as' (without_verdict b (run_of q)) (a2 q) (u2 q)
      by false is = speaks q
      by true is = record { run_agrees = (speaks q).run_agrees; agrees = (speaks q).agrees; run_valid = (speaks q).run_valid; valid = (speaks q).valid; in_mode = in_mode; units = (speaks q).units; spanning = (speaks q).spanning }
        where
          in_mode : (mode : Mode) → AllAssumed as' ((without_verdict true (run_of q)).met mode) → SameIn mode ((run_of q).outcome tt) (a2 q)
          in_mode for_verdict h = ap (λ o. o.verdict) (o_is q) ∙ asked_alike q (keywords.spans m s) e is
          in_mode for_first h = (speaks q).in_mode for_first h
          in_mode for_all h = (speaks q).in_mode for_all h
          in_mode for_units h = (speaks q).in_mode for_units h

  pub keyword_spans_alike : (absorbed : List Text) → KeepsLaws keywords m absorbed → AllAssumed as' (spanning_met keywords matcher as' x s run_of same name m)
      → SaysAlike (keyword_outcome keywords x name m s OwnMatches a1) (keyword_outcome keywords x name m s ItsMatches a2)
  keyword_spans_alike absorbed laws e =
      let spanned : AllAssumed as' (flat_map MetFor (keywords.spans m s)) = assumed_front as' _ _ e in
      let turned : AllAssumed as' (keyword_met keywords matcher as' x s Once spans_nothing same name m for_verdict) = assumed_back as' (flat_map MetFor (keywords.spans m s)) _ e in
      record {
        verdict = same_verdict keywords matcher as' c mine ext x s Once a1 a2 u1 u2 spans_nothing same name m
            (λ q. once_outcome (is_asked keywords matcher as' x s run_of same name m q) (run_of q) ∙ o_is q) (λ q. once_units (is_asked keywords matcher as' x s run_of same name m q) (run_of q) ∙ u_is q)
            (once_speaks spanned) alike_1 alike_2 absorbed laws turned;
        spans = λ j step. spans_same (keywords.spans m s) spanned step j;
      }

-- ---- a told keyword

module _ (a b : Matching) (f g : Answers) (step : Step) where
  fixed_same : (p : Span) → IsFixed p → spans_step a f step p ≡ spans_step b g step p
  fixed_same every h = refl
  fixed_same (one t) h = refl
  fixed_same (one_matched pair point t) h = absurd h
  fixed_same (one_accepted i t) h = absurd h
  fixed_same (of_child i) h = absurd h
  fixed_same (of_choice i first second) h = absurd h

  each_fixed : (ps : List Span) → All IsFixed ps → list_any (spans_step a f step) ps ≡ list_any (spans_step b g step) ps
  each_fixed [] h = refl
  each_fixed (p ∷ ps) h = ap₂ (λ u v. u || v) (fixed_same p (All-head IsFixed p ps h)) (each_fixed ps (All-tail IsFixed p ps h))

-- A told keyword spans the same whatever the matches and the answers are.
pub told_span : {K R : Type 0} (keywords : Keywords K R) (m : K) (absorbed : List Text) → KeepsLaws keywords m absorbed → keywords.is_told m ≡ true → (s : Subject) (a b : Matching) (f g : Answers)
    → keyword_spans keywords m s a f ≡ keyword_spans keywords m s b g
told_span keywords m absorbed laws told s a b f g = λ j step. each_fixed a b f g step (keywords.spans m s) (laws.told_spans told s) j
