-- A keyword with two children that holds if both accept. Its run marks each child, and skips the
-- second if that is marked already, since then it is the same node as the first, with the same
-- answer.
use Rattle.std.proofs.Common.{◌≡◌, ◌∙◌, ℕ, zero, suc, ◌<◌, ◌&&◌, ◌||◌, ◌⊎◌, ◌∷◌, [], List, Bool, true, false, refl, sym, ap, ap₂, arith, inl, inr}
use Rattle.std.specs.List.{list_any}
use Rattle.std.specs.Prelude.{All, if◌then◌else◌, ⊤}
use Rattle.std.proofs.lemmas.List.Elements.{All-nil, All-cons, All-head, All-tail, All-weaker}
use Rattle.theory_definitions.specs.Instance.{Subject, Text}
use Rattle.theory_definitions.specs.Reports.{Unit_, report_of}
use Rattle.theory_definitions.specs.Keywords.{Answer, Answers, Keywords, Marked, Mode, Question, Reply, Turn, a_child, all_of_it, ask, done, first_of_it, for_all, for_first, for_units, for_verdict, here, mark, no_reply, truth, unit_of_it}
use Rattle.theory_definitions.specs.Laws.{AnsweredAlike, AsksRightly, IsPresent, IsRight, steps_below}
use Rattle.theory_definitions.specs.Matching.{Matching}
use Rattle.theory_definitions.specs.Remembering.{AlwaysAsksVerdict, AsksVerdict, EachAsksVerdicts}
use Rattle.theory_definitions.specs.Runs.{with_mark}
use Rattle.theory_definitions.specs.Turns.{FunctionLaws, Standing, TurnLaws, marks_after, next, reply_to, step_at, turned}
use Rattle.theory_meaning.specs.Greatest.{IsMonotone}
use Rattle.theory_meaning.specs.UnitsLead.{EachHandsUnitsOn}
use Rattle.schema_traits.specs.KeywordViews.{fresh}
use Rattle.schema_traits.specs.UnitQuestions.{AlwaysAsksForLess, AsksForLess, AsksNoUnits}
use Rattle.test_laws.specs.Refusals.{agree, and_true, refusals, refusals_pass, refusals_stand, told, told_all, told_first, told_gives, told_valid, told_verdict, unit_of}
use Rattle.test_laws.specs.declared.both_once.Stage.{Stage}
use Rattle.test_laws.specs.declared.both_once.Stage.TheVariants as stage

-- the next stage of the run, and whether the answers so far accepted
abbrev pub Once : Type 0
Once = Stage × Bool

abbrev pub child_at : ℕ → Question
child_at n = record { child = n; below = here }

abbrev pub both : List Question
both = child_at 0 ∷ child_at 1 ∷ []

-- a reply that accepts
abbrev pub says_yes : Reply → Bool
says_yes (truth b) = b
says_yes no_reply = false
says_yes (first_of_it e) = false
says_yes (all_of_it es) = false
says_yes (unit_of_it u) = false

abbrev pub turn_once : Bool → Stage → Bool → Bool → Answer → Once × Answer
turn_once texts stage.MarksFirst accepted said a = ((stage.AsksFirst, accepted), a)
turn_once texts stage.AsksFirst accepted said a = ((stage.MarksSecond, accepted), a)
turn_once texts stage.MarksSecond accepted said a = ((stage.AsksSecond, accepted && said), a)
turn_once texts stage.AsksSecond accepted said a = ((stage.Ends, accepted), if said then told texts accepted a else a)
turn_once texts stage.Ends accepted said a = ((stage.Ends, accepted && said), told texts (accepted && said) a)

-- the second child is skipped if it is marked already
abbrev pub step_once : Stage → Bool → Turn
step_once stage.MarksFirst said = mark (a_child 0)
step_once stage.AsksFirst said = ask (child_at 0) for_verdict
step_once stage.MarksSecond said = mark (a_child 1)
step_once stage.AsksSecond said = if said then done else ask (child_at 1) for_verdict
step_once stage.Ends said = done

abbrev pub once_words : Bool → Keywords ⊤ (Once × Answer)
once_words texts = record {
  texts = texts;
  may_ask = λ m s. both;
  spans = λ m s. [];
  is_told = λ m. false;
  holds = λ m s matches accepts. accepts (child_at 0) && accepts (child_at 1);
  faults = λ m s matches answers. refusals texts ((answers (child_at 0)).verdict && (answers (child_at 1)).verdict);
  units = λ m s matches unit_at. unit_of texts ((report_of (unit_at (child_at 0))).valid && (report_of (unit_at (child_at 1))).valid);
  most_turns = λ m s. 5;
  begin = λ m s mode. ((stage.MarksFirst, true), fresh mode);
  turn = λ m s r reply. turn_once texts r.0.0 r.0.1 (says_yes reply) r.1;
  step = λ m s r reply. step_once r.0.0 (says_yes reply);
  answer = λ r. r.1;
}

abbrev pub once_absorbed : ⊤ → List Text
once_absorbed m = []

abbrev pub left_at : Stage → ℕ
left_at stage.MarksFirst = 4
left_at stage.AsksFirst = 3
left_at stage.MarksSecond = 2
left_at stage.AsksSecond = 1
left_at stage.Ends = 0

abbrev pub once_left : ⊤ → Subject → Once × Answer → ℕ
once_left m s r = left_at r.0.0

abbrev pub once_can_be : Bool → ⊤ → Subject → Once × Answer → Type 0
once_can_be texts m s r = Unit {0}

-- the verdict at the end of the run, from each stage
abbrev pub accepted_at : Stage → Bool → Bool → Bool → Bool → Bool
accepted_at stage.MarksFirst accepted said first second = accepted && (first && second)
accepted_at stage.AsksFirst accepted said first second = accepted && (first && second)
accepted_at stage.MarksSecond accepted said first second = (accepted && said) && second
accepted_at stage.AsksSecond accepted said first second = accepted && second
accepted_at stage.Ends accepted said first second = accepted && said

abbrev pub once_ends : Bool → ⊤ → Standing (Once × Answer) → Answer
once_ends texts m x = told texts (accepted_at x.state.0.0 x.state.0.1 (says_yes x.reply) (x.answers (child_at 0)).verdict (x.answers (child_at 1)).verdict) x.state.1

-- the marks of a run, and what they imply about the second child
abbrev pub fits_at : Stage → Standing (Once × Answer) → Type 0
fits_at stage.MarksFirst x = x.marks ≡ []
fits_at stage.AsksFirst x = x.marks ≡ a_child 0 ∷ []
fits_at stage.MarksSecond x = (x.marks ≡ a_child 0 ∷ []) × (says_yes x.reply ≡ (x.answers (child_at 0)).verdict)
fits_at stage.AsksSecond x = says_yes x.reply ≡ true → (x.state.0.1 && (x.answers (child_at 1)).verdict) ≡ x.state.0.1
fits_at stage.Ends x = Unit {0}

abbrev pub once_fits : Bool → ⊤ → Standing (Once × Answer) → Type 0
once_fits texts m x = AnsweredAlike x.same x.answers × fits_at x.state.0.0 x

-- ---- the laws

few : 4 < 5
few = omega arith

falls : (texts : Bool) (t : Stage) (accepted said : Bool) (a : Answer) → (step_once t said ≡ done) ⊎ (left_at (turn_once texts t accepted said a).0.0 < left_at t)
falls texts stage.MarksFirst accepted said a = inr (omega arith)
falls texts stage.AsksFirst accepted said a = inr (omega arith)
falls texts stage.MarksSecond accepted said a = inr (omega arith)
falls texts stage.AsksSecond accepted said a = inr (omega arith)
falls texts stage.Ends accepted said a = inl refl

asks : (texts : Bool) (m : ⊤) (s : Subject) (t : Stage) (said : Bool) → AsksRightly (once_words texts) m s [] (step_once t said)
asks texts m s stage.MarksFirst said = tt
asks texts m s stage.AsksFirst said = (0, omega arith, refl)
asks texts m s stage.MarksSecond said = tt
asks texts m s stage.AsksSecond true = tt
asks texts m s stage.AsksSecond false = (1, omega arith, refl)
asks texts m s stage.Ends said = tt

is_right : (texts : Bool) (m : ⊤) (s : Subject) (matches : Matching) (a : Answers) (u : Question → Unit_) (same : Marked → Marked → Bool) (mode : Mode)
    → ((q : Question) → (report_of (u q)).valid ≡ (a q).verdict)
    → IsRight (once_words texts) m s matches a u same mode (told texts ((a (child_at 0)).verdict && (a (child_at 1)).verdict) (fresh mode))
is_right texts m s matches a u same for_verdict valid = told_verdict texts _
is_right texts m s matches a u same for_first valid = told_first texts _
is_right texts m s matches a u same for_all valid = told_all texts _
is_right texts m s matches a u same for_units valid = (
  told_gives texts _ ∙ ap₂ (λ x y. unit_of texts (x && y)) (sym (valid (child_at 0))) (sym (valid (child_at 1))),
  told_valid texts _,
)

-- a verdict that equals another adds nothing to it
no_more : (b x y : Bool) → x ≡ y → ((b && y) && x) ≡ (b && y)
no_more b x true e = ap (λ z. (b && true) && z) e ∙ and_true (b && true)
no_more true x false e = refl
no_more false x false e = refl

and_or : (b : Bool) → (b || false) ≡ b
and_or true = refl
and_or false = refl

and_assoc : (b x y : Bool) → ((b && x) && y) ≡ (b && (x && y))
and_assoc true x y = refl
and_assoc false x y = refl

-- the run at this stage
abbrev at_stage : Stage → Standing (Once × Answer) → Standing (Once × Answer)
at_stage t x = record x { state = ((t, x.state.0.1), x.state.1) }

abbrev Kept : Bool → ⊤ → Standing (Once × Answer) → Type 0
Kept texts m x = once_fits texts m (next (once_words texts) m x) × (once_ends texts m (next (once_words texts) m x) ≡ once_ends texts m x)

keeps : (texts : Bool) (m : ⊤) (t : Stage) (x : Standing (Once × Answer)) → once_fits texts m (at_stage t x) → (step_at (once_words texts) m (at_stage t x) ≡ done → ⊥)
    → Kept texts m (at_stage t x)
keeps texts m stage.MarksFirst x fits h = ((fits.0, ap (with_mark x.same (a_child 0)) fits.1), refl)
keeps texts m stage.AsksFirst x fits h = ((fits.0, (fits.1, refl)), ap (λ b. told texts b x.state.1) (and_assoc x.state.0.1 _ _))
keeps texts m stage.MarksSecond x fits h = ((fits.0, marked), refl)
  where
    marked : (list_any (x.same (a_child 1)) x.marks) ≡ true → ((x.state.0.1 && says_yes x.reply) && (x.answers (child_at 1)).verdict) ≡ (x.state.0.1 && says_yes x.reply)
    marked e =
        let again : x.same (a_child 1) (a_child 0) ≡ true = sym (and_or _) ∙ (ap (list_any (x.same (a_child 1))) (sym fits.1.0) ∙ e) in
        let alike : (x.answers (child_at 1)).verdict ≡ (x.answers (child_at 0)).verdict = fits.0 1 0 again here in
        no_more x.state.0.1 (x.answers (child_at 1)).verdict (says_yes x.reply) (alike ∙ sym fits.1.1)
keeps texts m stage.AsksSecond x fits h = second (says_yes x.reply) h
  where
    after : Bool → Standing (Once × Answer)
    after said = record x {
      marks = marks_after (once_words texts) m x.subject x.matches x.answers x.unit_at x.same x.marks (step_once stage.AsksSecond said);
      state = turn_once texts stage.AsksSecond x.state.0.1 said x.state.1;
      reply = reply_to (once_words texts) m x.subject x.matches x.answers x.unit_at x.same x.marks (step_once stage.AsksSecond said);
    }

    second : (said : Bool) → (step_once stage.AsksSecond said ≡ done → ⊥) → once_fits texts m (after said) × (once_ends texts m (after said) ≡ once_ends texts m (at_stage stage.AsksSecond x))
    second true h = absurd (h refl)
    second false h = ((fits.0, tt), refl)
keeps texts m stage.Ends x fits h = absurd (h refl)

stands : (texts : Bool) (m : ⊤) (t : Stage) (x : Standing (Once × Answer)) → once_fits texts m (at_stage t x) → step_at (once_words texts) m (at_stage t x) ≡ done
    → (once_words texts).answer (turned (once_words texts) m (at_stage t x)) ≡ once_ends texts m (at_stage t x)
stands texts m stage.MarksFirst x fits h = absurd (let f : ⊥ = cc in f)
stands texts m stage.AsksFirst x fits h = absurd (let f : ⊥ = cc in f)
stands texts m stage.MarksSecond x fits h = absurd (let f : ⊥ = cc in f)
stands texts m stage.AsksSecond x fits h = by (says_yes x.reply) fits.1 h
  where
    by : (said : Bool) → (said ≡ true → (x.state.0.1 && (x.answers (child_at 1)).verdict) ≡ x.state.0.1) → step_once stage.AsksSecond said ≡ done
        → (if said then told texts x.state.0.1 x.state.1 else x.state.1) ≡ told texts (x.state.0.1 && (x.answers (child_at 1)).verdict) x.state.1
    by true known h = ap (λ b. told texts b x.state.1) (sym (known refl))
    by false known h = absurd (let f : ⊥ = cc in f)
stands texts m stage.Ends x fits h = refl

pub once_turns : (texts : Bool) (m : ⊤) → TurnLaws (once_words texts) m (once_absorbed m) (once_left m) (once_can_be texts m) (once_ends texts m) (once_fits texts m)
once_turns texts m = record {
  bounded = λ s mode. few;
  starts = λ s mode. tt;
  goes_on = λ s r reply can. tt;
  falls = λ s r reply can. falls texts r.0.0 r.0.1 (says_yes reply) r.1;
  asks = λ s r reply can. asks texts m s r.0.0 (says_yes reply);
  begins = λ s mode matches a u same agrees valid alike. ((alike, refl), is_right texts m s matches a u same mode valid);
  keeps = λ x fits h. keeps texts m x.state.0.0 x fits h;
  stands = λ x fits h. stands texts m x.state.0.0 x fits h;
}

-- ---- its functions

both_same : (a b : Question → Bool) → All (λ q. a q ≡ b q) both → (a (child_at 0) && a (child_at 1)) ≡ (b (child_at 0) && b (child_at 1))
both_same a b h = ap₂ (λ x y. x && y) (All-head (λ q. a q ≡ b q) (child_at 0) (child_at 1 ∷ []) h)
    (All-head (λ q. a q ≡ b q) (child_at 1) [] (All-tail (λ q. a q ≡ b q) (child_at 0) (child_at 1 ∷ []) h))

pub once_functions : (texts : Bool) (m : ⊤) → FunctionLaws (once_words texts) m (once_absorbed m)
once_functions texts m = record {
  present = λ s. All-cons (λ q. IsPresent s (steps_below q.below)) (child_at 0) (child_at 1 ∷ []) refl (All-cons (λ q. IsPresent s (steps_below q.below)) (child_at 1) [] refl (All-nil _));
  agree = λ s matches a agrees. agree texts ((a (child_at 0)).verdict && (a (child_at 1)).verdict);
  units_valid = λ s matches u. and_true ((report_of (u (child_at 0))).valid && (report_of (u (child_at 1))).valid);
  holds_reads = λ s matches a b h. both_same a b h;
  faults_read = λ s matches a b h. ap (refusals texts) (both_same (λ q. (a q).verdict) (λ q. (b q).verdict)
      (All-weaker (λ q. a q ≡ b q) (λ q. (a q).verdict ≡ (b q).verdict) (λ q e. ap (λ o. o.verdict) e) both h));
  units_read = λ s matches a b h. ap (unit_of texts) (both_same (λ q. (report_of (a q)).valid) (λ q. (report_of (b q)).valid)
      (All-weaker (λ q. a q ≡ b q) (λ q. (report_of (a q)).valid ≡ (report_of (b q)).valid) (λ q e. ap (λ u. (report_of u).valid) e) both h));
  spans_read = λ s. All-nil _;
  spans_stand = λ s. All-nil _;
  told_spans = λ told s. All-nil _;
  stands = λ s matches a. refusals_stand texts s ((a (child_at 0)).verdict && (a (child_at 1)).verdict);
  passes = λ s matches a. refusals_pass texts a both ((a (child_at 0)).verdict && (a (child_at 1)).verdict);
}

-- ---- it requests only verdicts

step_for_less : (t : Stage) (said : Bool) → AsksForLess (step_once t said)
step_for_less stage.MarksFirst said = tt
step_for_less stage.AsksFirst said = λ e. let f : ⊥ = cc in f
step_for_less stage.MarksSecond said = tt
step_for_less stage.AsksSecond true = tt
step_for_less stage.AsksSecond false = λ e. let f : ⊥ = cc in f
step_for_less stage.Ends said = tt

always_for_less : (texts : Bool) (m : ⊤) (s : Subject) (n : ℕ) (r : Once × Answer) (reply : Reply) → AlwaysAsksForLess (once_words texts) m s n r reply
always_for_less texts m s zero r reply = tt
always_for_less texts m s (suc n) r reply = (step_for_less r.0.0 (says_yes reply), λ next. always_for_less texts m s n ((once_words texts).turn m s r reply) next)

pub once_units : (texts : Bool) → AsksNoUnits (once_words texts)
once_units texts m s mode none = always_for_less texts m s 5 ((stage.MarksFirst, true), fresh mode) no_reply

step_for_verdict : (t : Stage) (said : Bool) → AsksVerdict (step_once t said)
step_for_verdict stage.MarksFirst said = tt
step_for_verdict stage.AsksFirst said = refl
step_for_verdict stage.MarksSecond said = tt
step_for_verdict stage.AsksSecond true = tt
step_for_verdict stage.AsksSecond false = refl
step_for_verdict stage.Ends said = tt

always_verdicts : (texts : Bool) (m : ⊤) (s : Subject) (n : ℕ) (r : Once × Answer) (reply : Reply) → AlwaysAsksVerdict (once_words texts) m s n r reply
always_verdicts texts m s zero r reply = tt
always_verdicts texts m s (suc n) r reply = (step_for_verdict r.0.0 (says_yes reply), λ next. always_verdicts texts m s n ((once_words texts).turn m s r reply) next)

pub once_verdicts : (texts : Bool) → EachAsksVerdicts (once_words texts)
once_verdicts texts m s = always_verdicts texts m s 5 ((stage.MarksFirst, true), fresh for_verdict) no_reply

-- ---- it is monotone, since both children have to accept, and passes no units on

both_stay : (x y v w : Bool) → (x ≡ true → v ≡ true) → (y ≡ true → w ≡ true) → (x && y) ≡ true → (v && w) ≡ true
both_stay true y v w first second h = ap₂ (λ p q. p && q) (first refl) (second h)
both_stay false y v w first second h = absurd (let f : ⊥ = cc in f)

pub once_grows : (texts : Bool) (m : ⊤) → true ≡ true → IsMonotone (once_words texts) m
once_grows texts m h = record {
  untold = refl;
  grows = λ s matches a b where_yes holds. both_stay (a (child_at 0)) (a (child_at 1)) (b (child_at 0)) (b (child_at 1)) (where_yes (child_at 0)) (where_yes (child_at 1)) holds;
}

pub once_hands_on : (texts : Bool) → EachHandsUnitsOn (once_words texts) once_absorbed
once_hands_on texts m s matches u = record { own = All-nil _; absorbed = All-nil _ }
