-- A keyword type that, while it works, marks a number that its maker was given. Its run marks the
-- number and, whatever the answer to the mark is, goes on as a run of another keyword type, which
-- marks nothing. At the end it removes the mark. Its meaning is that of the other type.
use Rattle.std.proofs.Common.{◌≡◌, ℕ, zero, suc, ◌+◌, ◌<◌, ◌⊎◌, [], List, Bool, true, false, refl, ap, arith, inl, inr}
use Rattle.std.specs.Prelude.{if◌then◌else◌}
use Rattle.theory_definitions.specs.Instance.{Subject, Text}
use Rattle.theory_definitions.specs.Keywords.{Answer, Keywords, Mode, Reply, Turn, a_reservation, ask, done, ecma, for_units, for_verdict, mark, match_text, no_reply, unmark, is_spanned}
use Rattle.theory_definitions.specs.Laws.{AsksRightly}
use Rattle.theory_definitions.specs.Remembering.{AlwaysAsksVerdict, AsksVerdict, EachAsksVerdicts}
use Rattle.theory_definitions.specs.Turns.{FunctionLaws, Standing, TurnLaws, marks_after, next, reply_to, step_at, turned}
use Rattle.schema_traits.specs.UnitQuestions.{AlwaysAsksForLess, AsksForLess, AsksNoUnits}
use Rattle.test_laws.specs.declared.marking.Stage.{Stage}
use Rattle.test_laws.specs.declared.marking.Stage.TheVariants as stage

-- a turn neither marks nor removes a mark
abbrev pub MarksNothing : Turn → Type 0
MarksNothing (mark i) = ⊥
MarksNothing unmark = ⊥
MarksNothing _ = Unit {0}

-- the run begins with the mark, if there is one to make
abbrev pub first : Bool → Stage
first true = stage.Marks
first false = stage.Works

-- the stage after a turn of the other run
abbrev pub after : Turn → Stage
after done = stage.Over
after _ = stage.Works

-- if the other run is done, the mark is removed
abbrev pub shown : Bool → Turn → Turn
shown marks done = if marks then unmark else done
shown marks (ask q mode) = ask q mode
shown marks (match_text a point) = match_text a point
shown marks (mark i) = mark i
shown marks unmark = unmark
shown marks (ecma text) = ecma text
shown marks (is_spanned step) = is_spanned step

abbrev pub left_at : Stage → ℕ → ℕ
left_at stage.Marks n = suc (suc n)
left_at stage.Enters n = suc n
left_at stage.Works n = suc n
left_at stage.Over n = 0

module _ {M P : Type 0} (marks : M → Bool) (other : Bool → Keywords M (P × Answer)) where
  -- the stage of the run, the state of the other run, and the answer
  abbrev pub Run : Type 0
  Run = (Stage × P) × Answer

  -- the state of the other run, and the answer
  abbrev pub inside : Run → P × Answer
  inside r = (r.0.1, r.1)

  -- the other run has taken a turn
  abbrev pub worked : Bool → M → Subject → P × Answer → Reply → Run
  worked texts m s r reply = let r' = (other texts).turn m s r reply in ((after ((other texts).step m s r reply), r'.0), r'.1)

  abbrev pub turn_at : Bool → M → Subject → Stage → P × Answer → Reply → Run
  turn_at texts m s stage.Marks r reply = ((stage.Enters, r.0), r.1)
  turn_at texts m s stage.Enters r reply = worked texts m s r no_reply
  turn_at texts m s stage.Works r reply = worked texts m s r reply
  turn_at texts m s stage.Over r reply = ((stage.Over, r.0), r.1)

  abbrev pub step_of : Bool → M → Subject → Stage → P × Answer → Reply → Turn
  step_of texts m s stage.Marks r reply = mark (a_reservation 0)
  step_of texts m s stage.Enters r reply = shown (marks m) ((other texts).step m s r no_reply)
  step_of texts m s stage.Works r reply = shown (marks m) ((other texts).step m s r reply)
  step_of texts m s stage.Over r reply = done

  abbrev pub words : Bool → Keywords M Run
  words texts = record {
    texts = (other texts).texts;
    may_ask = (other texts).may_ask;
    spans = (other texts).spans;
    is_told = (other texts).is_told;
    holds = (other texts).holds;
    faults = (other texts).faults;
    units = (other texts).units;
    most_turns = λ m s. (other texts).most_turns m s + 2;
    begin = λ m s mode. let r = (other texts).begin m s mode in ((first (marks m), r.0), r.1);
    turn = λ m s r reply. turn_at texts m s r.0.0 (inside r) reply;
    step = λ m s r reply. step_of texts m s r.0.0 (inside r) reply;
    answer = λ r. (other texts).answer (inside r);
  }

  module _ (absorbed : M → List Text) (left : M → Subject → P × Answer → ℕ) (other_can : Bool → M → Subject → P × Answer → Type 0)
      (other_ends : Bool → M → Standing (P × Answer) → Answer) (other_fits : Bool → M → Standing (P × Answer) → Type 0) where
    abbrev pub remaining : M → Subject → Run → ℕ
    remaining m s r = left_at r.0.0 (left m s (inside r))

    abbrev pub can_be : Bool → M → Subject → Run → Type 0
    can_be texts m s r = other_can texts m s (inside r)

    -- the state of the other run, which has no marks, with this reply
    abbrev pub seen : Standing Run → Reply → Standing (P × Answer)
    seen x reply = record { subject = x.subject; matches = x.matches; answers = x.answers; unit_at = x.unit_at; same = x.same; marks = []; state = inside x.state; reply = reply }

    abbrev pub ends_at : Bool → M → Stage → Standing Run → Answer
    ends_at texts m stage.Marks x = other_ends texts m (seen x no_reply)
    ends_at texts m stage.Enters x = other_ends texts m (seen x no_reply)
    ends_at texts m stage.Works x = other_ends texts m (seen x x.reply)
    ends_at texts m stage.Over x = (other texts).answer (inside x.state)

    abbrev pub ends : Bool → M → Standing Run → Answer
    ends texts m x = ends_at texts m x.state.0.0 x

    abbrev pub fits_at : Bool → M → Stage → Standing Run → Type 0
    fits_at texts m stage.Marks x = other_fits texts m (seen x no_reply)
    fits_at texts m stage.Enters x = other_fits texts m (seen x no_reply)
    fits_at texts m stage.Works x = other_fits texts m (seen x x.reply)
    fits_at texts m stage.Over x = Unit {0}

    abbrev pub fits : Bool → M → Standing Run → Type 0
    fits texts m x = fits_at texts m x.state.0.0 x

    -- ---- the laws, if the other keyword type keeps them and marks nothing

    module _ (laws : (texts : Bool) (m : M) → TurnLaws (other texts) m (absorbed m) (left m) (other_can texts m) (other_ends texts m) (other_fits texts m))
        (none : (texts : Bool) (m : M) (s : Subject) (r : P × Answer) (reply : Reply) → MarksNothing ((other texts).step m s r reply)) where
      first_left : (b : Bool) (n most : ℕ) → n < most → left_at (first b) n < most + 2
      first_left true n most h = omega (arith, h)
      first_left false n most h = omega (arith, h)

      starts : (texts : Bool) (m : M) (s : Subject) (r : P × Answer) (b : Bool) → other_can texts m s r → can_be texts m s ((first b, r.0), r.1)
      starts texts m s r b h = h

      goes_on : (texts : Bool) (m : M) (s : Subject) (t : Stage) (r : P × Answer) (reply : Reply) → other_can texts m s r → can_be texts m s (turn_at texts m s t r reply)
      goes_on texts m s stage.Marks r reply can = can
      goes_on texts m s stage.Enters r reply can = (laws texts m).goes_on s r no_reply can
      goes_on texts m s stage.Works r reply can = (laws texts m).goes_on s r reply can
      goes_on texts m s stage.Over r reply can = can

      fewer : (t : Turn) (n n' : ℕ) → (t ≡ done) ⊎ (n' < n) → left_at (after t) n' < suc n
      fewer done n n' h = omega arith
      fewer (ask q mode) n n' (inl e) = absurd (let f : ⊥ = cc in f)
      fewer (ask q mode) n n' (inr l) = omega (arith, l)
      fewer (match_text a point) n n' (inl e) = absurd (let f : ⊥ = cc in f)
      fewer (match_text a point) n n' (inr l) = omega (arith, l)
      fewer (mark i) n n' (inl e) = absurd (let f : ⊥ = cc in f)
      fewer (mark i) n n' (inr l) = omega (arith, l)
      fewer unmark n n' (inl e) = absurd (let f : ⊥ = cc in f)
      fewer unmark n n' (inr l) = omega (arith, l)
      fewer (ecma text) n n' (inl e) = absurd (let f : ⊥ = cc in f)
      fewer (is_spanned step) n n' (inl e) = absurd (let f : ⊥ = cc in f)
      fewer (ecma text) n n' (inr l) = omega (arith, l)
      fewer (is_spanned step) n n' (inr l) = omega (arith, l)

      falls : (texts : Bool) (m : M) (s : Subject) (t : Stage) (r : P × Answer) (reply : Reply) → other_can texts m s r
          → (step_of texts m s t r reply ≡ done) ⊎ (remaining m s (turn_at texts m s t r reply) < left_at t (left m s r))
      falls texts m s stage.Marks r reply can = inr (omega arith)
      falls texts m s stage.Enters r reply can = inr (fewer ((other texts).step m s r no_reply) (left m s r) _ ((laws texts m).falls s r no_reply can))
      falls texts m s stage.Works r reply can = inr (fewer ((other texts).step m s r reply) (left m s r) _ ((laws texts m).falls s r reply can))
      falls texts m s stage.Over r reply can = inl refl

      shown_asks : (texts : Bool) (m : M) (s : Subject) (b : Bool) (t : Turn) → AsksRightly (other texts) m s (absorbed m) t → AsksRightly (words texts) m s (absorbed m) (shown b t)
      shown_asks texts m s true done h = tt
      shown_asks texts m s false done h = tt
      shown_asks texts m s b (ask q mode) h = h
      shown_asks texts m s b (match_text a point) h = h
      shown_asks texts m s b (mark i) h = tt
      shown_asks texts m s b unmark h = tt
      shown_asks texts m s b (ecma text) h = tt
      shown_asks texts m s b (is_spanned step) h = tt

      asks : (texts : Bool) (m : M) (s : Subject) (t : Stage) (r : P × Answer) (reply : Reply) → other_can texts m s r → AsksRightly (words texts) m s (absorbed m) (step_of texts m s t r reply)
      asks texts m s stage.Marks r reply can = tt
      asks texts m s stage.Enters r reply can = shown_asks texts m s (marks m) _ ((laws texts m).asks s r no_reply can)
      asks texts m s stage.Works r reply can = shown_asks texts m s (marks m) _ ((laws texts m).asks s r reply can)
      asks texts m s stage.Over r reply can = tt

      -- the other run after a turn with this step, and then this run after it
      abbrev their_next : Bool → M → Standing (P × Answer) → Turn → Standing (P × Answer)
      their_next texts m y t = record y {
        marks = marks_after (other texts) m y.subject y.matches y.answers y.unit_at y.same y.marks t;
        state = turned (other texts) m y;
        reply = reply_to (other texts) m y.subject y.matches y.answers y.unit_at y.same y.marks t;
      }

      abbrev own_next : Bool → M → Standing Run → P × Answer → Turn → Standing Run
      own_next texts m x r t = record x {
        marks = marks_after (words texts) m x.subject x.matches x.answers x.unit_at x.same x.marks (shown (marks m) t);
        state = ((after t, r.0), r.1);
        reply = reply_to (words texts) m x.subject x.matches x.answers x.unit_at x.same x.marks (shown (marks m) t);
      }

      -- a turn of the other run keeps the end of the run
      abbrev Kept : Bool → M → Standing Run → Answer → Type 0
      Kept texts m x end = fits texts m x × (ends texts m x ≡ end)

      works_on : (texts : Bool) (m : M) (x : Standing Run) (reply : Reply) (t : Turn) → MarksNothing t
          → (t ≡ done → (other texts).answer (turned (other texts) m (seen x reply)) ≡ other_ends texts m (seen x reply))
          → ((t ≡ done → ⊥) → other_fits texts m (their_next texts m (seen x reply) t) × (other_ends texts m (their_next texts m (seen x reply) t) ≡ other_ends texts m (seen x reply)))
          → Kept texts m (own_next texts m x (turned (other texts) m (seen x reply)) t) (other_ends texts m (seen x reply))
      works_on texts m x reply done n over goes = (tt, over refl)
      works_on texts m x reply (ask q mode) n over goes = goes (λ e. let f : ⊥ = cc in f)
      works_on texts m x reply (match_text a point) n over goes = goes (λ e. let f : ⊥ = cc in f)
      works_on texts m x reply (ecma text) n over goes = goes (λ e. let f : ⊥ = cc in f)
      works_on texts m x reply (is_spanned step) n over goes = goes (λ e. let f : ⊥ = cc in f)
      works_on texts m x reply (mark i) n over goes = absurd n
      works_on texts m x reply unmark n over goes = absurd n

      worked_on : (texts : Bool) (m : M) (x : Standing Run) (reply : Reply) → other_fits texts m (seen x reply)
          → Kept texts m (own_next texts m x (turned (other texts) m (seen x reply)) (step_at (other texts) m (seen x reply))) (other_ends texts m (seen x reply))
      worked_on texts m x reply h = works_on texts m x reply (step_at (other texts) m (seen x reply)) (none texts m x.subject (inside x.state) reply)
          (λ e. (laws texts m).stands (seen x reply) h e) (λ e. (laws texts m).keeps (seen x reply) h e)

      -- the run at this stage
      abbrev at_stage : Stage → Standing Run → Standing Run
      at_stage t x = record x { state = ((t, x.state.0.1), x.state.1) }

      keeps : (texts : Bool) (m : M) (t : Stage) (x : Standing Run) → fits texts m (at_stage t x) → (step_at (words texts) m (at_stage t x) ≡ done → ⊥)
          → Kept texts m (next (words texts) m (at_stage t x)) (ends texts m (at_stage t x))
      keeps texts m stage.Marks x h goes = (h, refl)
      keeps texts m stage.Enters x h goes = worked_on texts m x no_reply h
      keeps texts m stage.Works x h goes = worked_on texts m x x.reply h
      keeps texts m stage.Over x h goes = absurd (goes refl)

      shown_done : (b : Bool) (t : Turn) → shown b t ≡ done → t ≡ done
      shown_done b done e = refl
      shown_done b (ask q mode) e = e
      shown_done b (match_text a point) e = e
      shown_done b (mark i) e = e
      shown_done b unmark e = e
      shown_done b (ecma text) e = e
      shown_done b (is_spanned step) e = e

      stands : (texts : Bool) (m : M) (t : Stage) (x : Standing Run) → fits texts m (at_stage t x) → step_at (words texts) m (at_stage t x) ≡ done
          → (words texts).answer (turned (words texts) m (at_stage t x)) ≡ ends texts m (at_stage t x)
      stands texts m stage.Marks x h e = absurd (let f : ⊥ = cc in f)
      stands texts m stage.Enters x h e = (laws texts m).stands (seen x no_reply) h (shown_done (marks m) _ e)
      stands texts m stage.Works x h e = (laws texts m).stands (seen x x.reply) h (shown_done (marks m) _ e)
      stands texts m stage.Over x h e = refl

      -- the run at its beginning
      begun : (texts : Bool) (m : M) (b : Bool) (x : Standing Run) → x.reply ≡ no_reply → other_fits texts m (seen x no_reply)
          → fits texts m (at_stage (first b) x) × (ends texts m (at_stage (first b) x) ≡ other_ends texts m (seen x no_reply))
      begun texts m true x e h = (h, refl)
      begun texts m false x e h = (subst_fits h, ap (λ (reply : Reply). other_ends texts m (seen x reply)) e)
        where
          subst_fits : other_fits texts m (seen x no_reply) → other_fits texts m (seen x x.reply)
          subst_fits k = rw e k

      pub turns_keep : (texts : Bool) (m : M) → TurnLaws (words texts) m (absorbed m) (remaining m) (can_be texts m) (ends texts m) (fits texts m)
      turns_keep texts m = record {
        bounded = λ s mode. first_left (marks m) _ _ ((laws texts m).bounded s mode);
        starts = λ s mode. (laws texts m).starts s mode;
        goes_on = λ s r reply can. goes_on texts m s r.0.0 (inside r) reply can;
        falls = λ s r reply can. falls texts m s r.0.0 (inside r) reply can;
        asks = λ s r reply can. asks texts m s r.0.0 (inside r) reply can;
        begins = λ s mode matches a u same agrees valid alike.
            let theirs = (laws texts m).begins s mode matches a u same agrees valid alike in
            let r = (other texts).begin m s mode in
            let x : Standing Run = record { subject = s; matches = matches; answers = a; unit_at = u; same = same; marks = []; state = ((first (marks m), r.0), r.1); reply = no_reply } in
            let own = begun texts m (marks m) x refl theirs.0 in
            (own.0, rw own.1 theirs.1);
        keeps = λ x h goes. keeps texts m x.state.0.0 x h goes;
        stands = λ x h e. stands texts m x.state.0.0 x h e;
      }

    pub functions_keep : ((texts : Bool) (m : M) → FunctionLaws (other texts) m (absorbed m)) → (texts : Bool) (m : M) → FunctionLaws (words texts) m (absorbed m)
    functions_keep laws texts m =
        let l = laws texts m in
        record {
          present = l.present;
          agree = l.agree;
          units_valid = l.units_valid;
          holds_reads = l.holds_reads;
          faults_read = l.faults_read;
          units_read = l.units_read;
          spans_read = l.spans_read;
          spans_stand = l.spans_stand;
          told_spans = l.told_spans;
          stands = l.stands;
          passes = l.passes;
        }

  -- ---- it requests units only if the other type does

  module _ (Less : P × Answer → Type 0) (less_turn : (texts : Bool) (m : M) (s : Subject) (r : P × Answer) (reply : Reply) → Less r → Less ((other texts).turn m s r reply))
      (less_step : (texts : Bool) (m : M) (s : Subject) (r : P × Answer) (reply : Reply) → Less r → AsksForLess ((other texts).step m s r reply)) where
    shown_less : (b : Bool) (t : Turn) → AsksForLess t → AsksForLess (shown b t)
    shown_less true done h = tt
    shown_less false done h = tt
    shown_less b (ask q mode) h = h
    shown_less b (match_text a point) h = h
    shown_less b (mark i) h = tt
    shown_less b unmark h = tt
    shown_less b (ecma text) h = tt
    shown_less b (is_spanned step) h = tt

    step_less : (texts : Bool) (m : M) (s : Subject) (t : Stage) (r : P × Answer) (reply : Reply) → Less r → AsksForLess (step_of texts m s t r reply)
    step_less texts m s stage.Marks r reply h = tt
    step_less texts m s stage.Enters r reply h = shown_less (marks m) _ (less_step texts m s r no_reply h)
    step_less texts m s stage.Works r reply h = shown_less (marks m) _ (less_step texts m s r reply h)
    step_less texts m s stage.Over r reply h = tt

    turn_less : (texts : Bool) (m : M) (s : Subject) (t : Stage) (r : P × Answer) (reply : Reply) → Less r → Less (inside (turn_at texts m s t r reply))
    turn_less texts m s stage.Marks r reply h = h
    turn_less texts m s stage.Enters r reply h = less_turn texts m s r no_reply h
    turn_less texts m s stage.Works r reply h = less_turn texts m s r reply h
    turn_less texts m s stage.Over r reply h = h

    always_less : (texts : Bool) (m : M) (s : Subject) (n : ℕ) (r : Run) (reply : Reply) → Less (inside r) → AlwaysAsksForLess (words texts) m s n r reply
    always_less texts m s zero r reply h = tt
    always_less texts m s (suc n) r reply h = (
      step_less texts m s r.0.0 (inside r) reply h,
      λ again. always_less texts m s n (turn_at texts m s r.0.0 (inside r) reply) again (turn_less texts m s r.0.0 (inside r) reply h),
    )

    pub asks_no_units : ((texts : Bool) (m : M) (s : Subject) (mode : Mode) → ¬ (mode ≡ for_units) → Less ((other texts).begin m s mode)) → (texts : Bool) → AsksNoUnits (words texts)
    asks_no_units starts texts = λ m s mode none. always_less texts m s ((words texts).most_turns m s) ((words texts).begin m s mode) no_reply (starts texts m s mode none)

  -- ---- a run for the verdict requests verdicts, if the other type's does

  module _ (Verdict : P × Answer → Type 0) (verdict_turn : (texts : Bool) (m : M) (s : Subject) (r : P × Answer) (reply : Reply) → Verdict r → Verdict ((other texts).turn m s r reply))
      (verdict_step : (texts : Bool) (m : M) (s : Subject) (r : P × Answer) (reply : Reply) → Verdict r → AsksVerdict ((other texts).step m s r reply)) where
    shown_verdict : (b : Bool) (t : Turn) → AsksVerdict t → AsksVerdict (shown b t)
    shown_verdict true done h = tt
    shown_verdict false done h = tt
    shown_verdict b (ask q mode) h = h
    shown_verdict b (match_text a point) h = h
    shown_verdict b (mark i) h = tt
    shown_verdict b unmark h = tt
    shown_verdict b (ecma text) h = tt
    shown_verdict b (is_spanned step) h = tt

    step_verdict : (texts : Bool) (m : M) (s : Subject) (t : Stage) (r : P × Answer) (reply : Reply) → Verdict r → AsksVerdict (step_of texts m s t r reply)
    step_verdict texts m s stage.Marks r reply h = tt
    step_verdict texts m s stage.Enters r reply h = shown_verdict (marks m) _ (verdict_step texts m s r no_reply h)
    step_verdict texts m s stage.Works r reply h = shown_verdict (marks m) _ (verdict_step texts m s r reply h)
    step_verdict texts m s stage.Over r reply h = tt

    turn_verdict : (texts : Bool) (m : M) (s : Subject) (t : Stage) (r : P × Answer) (reply : Reply) → Verdict r → Verdict (inside (turn_at texts m s t r reply))
    turn_verdict texts m s stage.Marks r reply h = h
    turn_verdict texts m s stage.Enters r reply h = verdict_turn texts m s r no_reply h
    turn_verdict texts m s stage.Works r reply h = verdict_turn texts m s r reply h
    turn_verdict texts m s stage.Over r reply h = h

    always_verdict : (texts : Bool) (m : M) (s : Subject) (n : ℕ) (r : Run) (reply : Reply) → Verdict (inside r) → AlwaysAsksVerdict (words texts) m s n r reply
    always_verdict texts m s zero r reply h = tt
    always_verdict texts m s (suc n) r reply h = (
      step_verdict texts m s r.0.0 (inside r) reply h,
      λ again. always_verdict texts m s n (turn_at texts m s r.0.0 (inside r) reply) again (turn_verdict texts m s r.0.0 (inside r) reply h),
    )

    pub asks_verdicts : ((texts : Bool) (m : M) (s : Subject) → Verdict ((other texts).begin m s for_verdict)) → (texts : Bool) → EachAsksVerdicts (words texts)
    asks_verdicts starts texts = λ m s. always_verdict texts m s ((words texts).most_turns m s) ((words texts).begin m s for_verdict) no_reply (starts texts m s)
