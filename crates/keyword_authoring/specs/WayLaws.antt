-- The laws of a type of keywords by their kinds, proved once. What is left to show of a type is
-- that its keywords ask the same questions whether texts are covered or not, and each at a place
-- that exists.
use Rattle.std.proofs.Common.{◌≡◌, ◌∙◌, ℕ, ◌+◌, ◌<◌, ◌⊎◌, ◌∷◌, [], List, Bool, true, false, Option, Some, None, refl, ap, subst, inl, inr, arith, drop, zero, suc}
use Rattle.std.specs.Prelude.{All, Contains, not, ◌++◌}
use Rattle.std.proofs.lemmas.List.Elements.{Contains-append_right, All-nil}
use Rattle.theory_definitions.specs.Instance.{Subject}
use Rattle.theory_definitions.specs.Reports.{Unit_, report_of}
use Rattle.theory_definitions.specs.Matching.{Matching, Pair}
use Rattle.theory_definitions.specs.Keywords.{Answer, Answers, Marked, Question, Reply, Turn, done, match_text, for_all, for_first, for_units, for_verdict}
use Rattle.theory_definitions.specs.Keywords as spec
use Rattle.theory_definitions.specs.Laws.{AsksRightly, IsPresent, IsRight, answer_in, steps_below}
use Rattle.theory_definitions.specs.Turns.{FunctionLaws, Standing, TurnLaws, reply_to, next, step_at as turn_at}
use Rattle.schema_traits.specs.KeywordViews.{fresh, mode_of, option_list}
use Rattle.schema_traits.specs.declared.keyword.Mode.{Mode}
use Rattle.schema_traits.specs.declared.keyword.Mode.TheVariants as mode
use Rattle.keyword_authoring.specs.declared.run.Stage.{Stage}
use Rattle.keyword_authoring.specs.declared.run.Stage.TheVariants.{Begun, Asked, Counted, Ended}
use Rattle.keyword_authoring.specs.declared.run.Progress.{Progress}
use Rattle.keyword_authoring.specs.Ways.{Way, asks_match, tells, passes_on, passes_some, judges, branches, chosen, left_to_judge, questions, step_at, stage_after, mode_from, left_of, match_point, way_left, way_turns, asked, next_if, next_some, places, nth, goes_on}
use Rattle.keyword_authoring.specs.WayRuns.{replies_by, reply_for, end_at, fits_begun, Keeps, way_falls, way_bounded, way_keeps, way_stands, way_ends}
use Rattle.keyword_authoring.specs.Somes.{first_some, question_of, some_from, somes}
use Rattle.keyword_authoring.specs.Tallies.{asked_in, is_settled, says_yes, tallied, wants_units}
use Rattle.keyword_authoring.specs.WayReads.{way_agrees, way_units_valid, way_holds_reads, way_faults_read, way_units_read, way_stands_inside, way_passes}
use Rattle.keyword_authoring.specs.WayWords.{any_state, left_at_most, nothing_absorbed, run_ends, run_fits, run_replies, words_of}

nth-contains : (i : ℕ) (qs : List Question) (q : Question) → nth i qs ≡ Some q → Contains qs q
nth-contains zero [] q h = cc
nth-contains (suc i) [] q h = cc
nth-contains zero (p ∷ qs) q h = let e : p ≡ q = cc in (zero, omega arith, e)
nth-contains (suc i) (p ∷ qs) q h = Contains-append_right (p ∷ []) qs q (nth-contains i qs q h)

next-contains : (b : Bool) (i : ℕ) (qs : List Question) (q : Question) → next_if b (nth i qs) ≡ Some q → Contains qs q
next-contains true i qs q h = nth-contains i qs q h
next-contains false i qs q h = cc

first_some-contains : (i : ℕ) (os : List (Option Question)) (q : Question) → question_of (first_some i os) ≡ Some q → Contains (somes os) q
first_some-contains i [] q h = cc
first_some-contains i (None ∷ os) q h = first_some-contains (i + 1) os q h
first_some-contains i (Some p ∷ os) q h = let e : p ≡ q = cc in (zero, omega arith, e)

dropped-contains : (i : ℕ) (os : List (Option Question)) (q : Question) → Contains (somes (drop i os)) q → Contains (somes os) q
dropped-contains zero os q h = h
dropped-contains (suc i) [] q h = h
dropped-contains (suc i) (None ∷ os) q h = dropped-contains i os q h
dropped-contains (suc i) (Some p ∷ os) q h = Contains-append_right (p ∷ []) (somes os) q (dropped-contains i os q h)

some-contains : (i : ℕ) (os : List (Option Question)) (q : Question) → question_of (some_from i os) ≡ Some q → Contains (somes os) q
some-contains i os q h = dropped-contains i os q (first_some-contains i (drop i os) q h)

next_some-contains : (b : Bool) (i : ℕ) (os : List (Option Question)) (q : Question) → question_of (next_some b (some_from i os)) ≡ Some q → Contains (somes os) q
next_some-contains true i os q h = some-contains i os q h
next_some-contains false i os q h = cc

chosen-contains : (b : Bool) (q : Question) (one other : Option Question) (p : Question) → chosen b one other ≡ Some p → Contains (q ∷ (option_list one ++ option_list other)) p
chosen-contains true q None other p h = cc
chosen-contains true q (Some y) other p h = Contains-append_right (q ∷ []) (y ∷ option_list other) p (nth-contains 0 (y ∷ option_list other) p h)
chosen-contains false q None None p h = cc
chosen-contains false q None (Some n) p h = Contains-append_right (q ∷ []) (n ∷ []) p (nth-contains 0 (n ∷ []) p h)
chosen-contains false q (Some y) None p h = cc
chosen-contains false q (Some y) (Some n) p h = Contains-append_right (q ∷ y ∷ []) (n ∷ []) p (nth-contains 0 (n ∷ []) p h)

no_question : (w : Way) (q : Question) → None ≡ Some q → Contains (questions w) q
no_question w q h = cc

-- a fact about each turn that asks one of the kind's questions, or requests a match at the keyword,
-- or is the last, is a fact about each of its steps
each_step : (P : Turn → Type 0) (w : Way) → ((m : Mode) (o : Option Question) → ((q : Question) → o ≡ Some q → Contains (questions w) q) → P (asked m o))
    → ((a : Pair) (m : Mode) → P (match_text a (match_point m a.pattern))) → (mode' : Mode) (stage : Stage) (r : Reply) → P (step_at w mode' stage r)
each_step P (tells name ts) asks matched mode' stage r = asks mode' None (no_question (tells name ts))
each_step P (passes_on qs) asks matched mode' Begun r = asks mode' (nth 0 qs) (nth-contains 0 qs)
each_step P (passes_on qs) asks matched mode' (Asked i) r = asks mode' (next_if (goes_on r) (nth (i + 1) qs)) (next-contains (goes_on r) (i + 1) qs)
each_step P (passes_on qs) asks matched mode' (Counted i n) r = asks mode' None (no_question (passes_on qs))
each_step P (passes_on qs) asks matched mode' Ended r = asks mode' None (no_question (passes_on qs))
each_step P (passes_some os) asks matched mode' Begun r = asks mode' (question_of (some_from 0 os)) (some-contains 0 os)
each_step P (passes_some os) asks matched mode' (Asked i) r = asks mode' (question_of (next_some (goes_on r) (some_from (i + 1) os))) (next_some-contains (goes_on r) (i + 1) os)
each_step P (passes_some os) asks matched mode' (Counted i n) r = asks mode' None (no_question (passes_some os))
each_step P (passes_some os) asks matched mode' Ended r = asks mode' None (no_question (passes_some os))
each_step P (judges t qs) asks matched mode' Begun r = asks (asked_in (wants_units t mode')) (nth 0 qs) (nth-contains 0 qs)
each_step P (judges t qs) asks matched mode' (Asked i) r = asks mode' None (no_question (judges t qs))
each_step P (judges t qs) asks matched mode' (Counted i n) r = asks (asked_in (wants_units t mode')) (left_to_judge t mode' (tallied t.enough r n) (nth (i + 1) qs))
    (next-contains (not (is_settled (wants_units t mode') t.enough (tallied t.enough r n))) (i + 1) qs)
each_step P (judges t qs) asks matched mode' Ended r = asks mode' None (no_question (judges t qs))
each_step P (branches q one other) asks matched mode' Begun r = asks mode.Verdict (Some q) (nth-contains 0 (q ∷ (option_list one ++ option_list other)))
each_step P (branches q one other) asks matched mode' (Asked zero) r = asks mode' (chosen (says_yes r) one other) (chosen-contains (says_yes r) q one other)
each_step P (branches q one other) asks matched mode' (Asked (suc i)) r = asks mode' None (no_question (branches q one other))
each_step P (branches q one other) asks matched mode' (Counted i n) r = asks mode' None (no_question (branches q one other))
each_step P (branches q one other) asks matched mode' Ended r = asks mode' None (no_question (branches q one other))
each_step P (asks_match name a text) asks matched mode' Begun r = matched a mode'
each_step P (asks_match name a text) asks matched mode' (Asked i) r = asks mode' None (no_question (asks_match name a text))
each_step P (asks_match name a text) asks matched mode' (Counted i n) r = asks mode' None (no_question (asks_match name a text))
each_step P (asks_match name a text) asks matched mode' Ended r = asks mode' None (no_question (asks_match name a text))

fewer : (a b c d : ℕ) → a ≡ c → b ≡ d → a < b → c < d
fewer a b c d p q h = omega arith

-- the questions and their places are the same whether texts are covered or not
abbrev pub SameQuestions : {M : Type 0} → (Bool → M → Subject → Way) → Type 0
SameQuestions {M} way = (texts : Bool) (m : M) (s : Subject)
    → (questions (way texts m s) ≡ questions (way false m s)) × (places (way texts m s) ≡ places (way false m s))

-- each question is asked at a place that exists
abbrev pub AllPresent : {M : Type 0} → (Bool → M → Subject → Way) → Type 0
AllPresent {M} way = (texts : Bool) (m : M) (s : Subject) → All (λ q. IsPresent s (steps_below q.below)) (questions (way texts m s))

module _ {M : Type 0} (way : Bool → M → Subject → Way) where
  same_left : SameQuestions way → (texts : Bool) (m : M) (s : Subject) (stage : Stage) → way_left (way texts m s) stage ≡ way_left (way false m s) stage
  same_left same texts m s stage = ap (λ n. left_of n stage) (same texts m s).1

  bounded : SameQuestions way → (texts : Bool) (m : M) (s : Subject) → way_left (way false m s) Begun < way_turns (way texts m s)
  bounded same texts m s = subst (λ n. n < way_turns (way texts m s)) (same_left same texts m s Begun) (way_bounded (way texts m s))

  falls : SameQuestions way → (texts : Bool) (m : M) (s : Subject) (mode' : Mode) (stage : Stage) (r : Reply)
      → (step_at (way texts m s) mode' stage r ≡ done) ⊎ (way_left (way false m s) (stage_after (way texts m s) mode' stage r) < way_left (way false m s) stage)
  falls same texts m s mode' stage r = elim (way_falls (way texts m s) mode' stage r) [
    | inl h ↦ inl h
    | inr h ↦ inr (fewer _ _ _ _ (same_left same texts m s (stage_after (way texts m s) mode' stage r)) (same_left same texts m s stage) h)
  ]

  asked_rightly : (texts : Bool) (m : M) (s : Subject) (mode' : Mode) (o : Option Question) → ((q : Question) → o ≡ Some q → Contains (questions (way texts m s)) q)
      → AsksRightly (words_of way texts) m s [] (asked mode' o)
  asked_rightly texts m s mode' None h = tt
  asked_rightly texts m s mode' (Some q) h = h q refl

  asks : (texts : Bool) (m : M) (s : Subject) (mode' : Mode) (stage : Stage) (r : Reply) → AsksRightly (words_of way texts) m s [] (step_at (way texts m s) mode' stage r)
  asks texts m s = each_step (AsksRightly (words_of way texts) m s []) (way texts m s) (asked_rightly texts m s) (λ a m'. (refl, ([], refl), tt))

  ends_rightly : (texts : Bool) (m : M) (s : Subject) (mode' : spec.Mode) (matches : Matching) (a : Answers) (u : Question → Unit_) (same : Marked → Marked → Bool)
      → ((q : Question) → (report_of (u q)).valid ≡ (a q).verdict)
      → IsRight (words_of way texts) m s matches a u same mode' (end_at (way texts m s) (replies_by matches a u) (mode_from mode') Begun (fresh mode'))
  ends_rightly texts m s for_verdict matches a u same valid = way_ends (way texts m s) matches a u valid for_verdict
  ends_rightly texts m s for_first matches a u same valid = way_ends (way texts m s) matches a u valid for_first
  ends_rightly texts m s for_all matches a u same valid = way_ends (way texts m s) matches a u valid for_all
  ends_rightly texts m s for_units matches a u same valid = way_ends (way texts m s) matches a u valid for_units

  same_reply : (texts : Bool) (m : M) (s : Subject) (matches : Matching) (a : Answers) (u : Question → Unit_) (same : Marked → Marked → Bool) (mode' : Mode) (q : Question)
      → answer_in (words_of way texts) m s matches a u same (mode_of mode') q ≡ reply_for mode' a u q
  same_reply texts m s matches a u same mode.Verdict q = refl
  same_reply texts m s matches a u same mode.First q = refl
  same_reply texts m s matches a u same mode.All q = refl
  same_reply texts m s matches a u same mode.Evaluate q = refl

  keeps : (texts : Bool) (m : M) (x : Standing (Progress × Answer)) → run_fits way texts m x → (turn_at (words_of way texts) m x ≡ done → ⊥)
      → Keeps (way texts m x.subject) (run_replies x) x.state.0.mode x.state.0.stage x.state.1 x.reply (next (words_of way texts) m x).reply
  keeps texts m x fits h = way_keeps (way texts m x.subject) (run_replies x) x.state.0.mode x.state.0.stage x.state.1 x.reply (next (words_of way texts) m x).reply fits h
      (λ q m' e. ap (reply_to (words_of way texts) m x.subject x.matches x.answers x.unit_at x.same x.marks) e ∙ same_reply texts m x.subject x.matches x.answers x.unit_at x.same m' q)
      (λ p point e. ap (reply_to (words_of way texts) m x.subject x.matches x.answers x.unit_at x.same x.marks) e)

  pub turn_laws : SameQuestions way → (texts : Bool) (m : M) → TurnLaws (words_of way texts) m (nothing_absorbed way m) (left_at_most way m) (any_state way m) (run_ends way texts m) (run_fits way texts m)
  turn_laws same texts m = record {
    bounded = λ s mode'. bounded same texts m s;
    starts = λ s mode'. tt;
    goes_on = λ s r reply can. tt;
    falls = λ s r reply can. falls same texts m s r.0.mode r.0.stage reply;
    asks = λ s r reply can. asks texts m s r.0.mode r.0.stage reply;
    begins = λ s mode' matches a u same' agrees valid alike. (fits_begun (way texts m s) (replies_by matches a u) (mode_from mode') spec.no_reply, ends_rightly texts m s mode' matches a u same' valid);
    keeps = λ x fits h. let k : Keeps (way texts m x.subject) (run_replies x) x.state.0.mode x.state.0.stage x.state.1 x.reply (next (words_of way texts) m x).reply = keeps texts m x fits h in (k.fits, k.ends);
    stands = λ x fits h. way_stands (way texts m x.subject) (run_replies x) x.state.0.mode x.state.0.stage x.state.1 x.reply fits h;
  }

  pub function_laws : AllPresent way → (texts : Bool) (m : M) → FunctionLaws (words_of way texts) m (nothing_absorbed way m)
  function_laws present texts m = record {
    present = present texts m;
    agree = λ s matches a agrees. way_agrees (way texts m s) matches a agrees;
    units_valid = λ s matches u. way_units_valid (way texts m s) matches u;
    holds_reads = λ s matches a b h. way_holds_reads (way texts m s) matches a b h;
    faults_read = λ s matches a b h. way_faults_read (way texts m s) matches a b h;
    units_read = λ s matches a b h. way_units_read (way texts m s) matches a b h;
    spans_read = λ s. All-nil _;
    spans_stand = λ s. All-nil _;
    told_spans = λ told s. All-nil _;
    stands = λ s matches a. way_stands_inside (way texts m s) matches s [] a;
    passes = λ s matches a. way_passes (way texts m s) matches a;
  }
