-- The laws of a keyword type, stated for the start of a run and for one turn.
use Rattle.std.specs.List.{list_any}
use Rattle.std.specs.Prelude.{All, Bool, Contains, List, [], true, ℕ, ◌<◌, ◌↔◌, ◌≡◌, ◌⊎◌}
use Rattle.theory_definitions.specs.Instance.{Subject, Text}
use Rattle.theory_definitions.specs.Reports.{Unit_, report_of}
use Rattle.theory_definitions.specs.Matching.{Matching}
use Rattle.theory_definitions.specs.Keywords.{Answer, Answers, Keywords, Marked, Mode, Question, Reply, Turn, all_valid, ask, done, ecma, is_spanned, mark, match_text, no_reply, span_questions, truth, unmark}
use Rattle.theory_definitions.specs.Runs.{with_mark, without_last}
use Rattle.theory_definitions.specs.Laws.{Agrees, AnsweredAlike, AsksRightly, IsPresent, IsRight, PassesUnchanged, StandsInside, answer_in, steps_below, IsFixed, SpanInside}

module _ {K R : Type 0} (keywords : Keywords K R) (m : K) (s : Subject) (matches : Matching) (answers : Answers) (unit_at : Question → Unit_) (same : Marked → Marked → Bool) where
  -- The true reply to a turn of a run that has these marks.
  abbrev pub reply_to : List Marked → Turn → Reply
  reply_to marks (ask q mode) = answer_in keywords m s matches answers unit_at same mode q
  reply_to marks (match_text a point) = truth (matches.matches a.pattern a.subject)
  reply_to marks (mark i) = truth (list_any (same i) marks)
  reply_to marks unmark = no_reply
  reply_to marks (ecma text) = truth (matches.is_ecma text)
  reply_to marks (is_spanned step) = truth (matches.spanned step)
  reply_to marks done = no_reply

  -- The marks that the run has after the turn.
  abbrev pub marks_after : List Marked → Turn → List Marked
  marks_after marks (mark i) = with_mark same i marks
  marks_after marks unmark = without_last marks
  marks_after marks _ = marks

-- A run in progress: the facts from which its turns are answered, its marks, the keyword's state
-- and the last reply.
pub record Standing (R : Type 0) : Type 0 where
  pub subject : Subject
  pub matches : Matching
  pub answers : Answers
  pub unit_at : Question → Unit_
  pub same : Marked → Marked → Bool
  pub marks : List Marked
  pub state : R
  pub reply : Reply

module _ {K R : Type 0} (keywords : Keywords K R) (m : K) where
  -- The next turn of the run.
  abbrev pub step_at : Standing R → Turn
  step_at x = keywords.step m x.subject x.state x.reply

  -- The keyword's state after the next turn.
  abbrev pub turned : Standing R → R
  turned x = keywords.turn m x.subject x.state x.reply

  -- The run after one more turn, which gets the true reply.
  abbrev pub next : Standing R → Standing R
  next x = record x {
    marks = marks_after keywords m x.subject x.matches x.answers x.unit_at x.same x.marks (step_at x);
    state = turned x;
    reply = reply_to keywords m x.subject x.matches x.answers x.unit_at x.same x.marks (step_at x);
  }

  -- The run at its start.
  abbrev pub standing : Subject → Mode → Matching → Answers → (Question → Unit_) → (Marked → Marked → Bool) → Standing R
  standing s mode matches answers unit_at same = record { subject = s; matches = matches; answers = answers; unit_at = unit_at; same = same; marks = []; state = keywords.begin m s mode; reply = no_reply }

-- The laws of a keyword's turns. The state of a run, with the answer so far, determines the end
-- that the matches and answers lead to. After `begin` that end is the right one for the keyword, a
-- turn with the true reply keeps it, and at `done` it is the answer. In the states that a run on
-- the instance can reach, each turn decreases a number and asks only what it may, whatever the
-- replies are. `remaining` is that number, `can_be` says which states a run can reach, `end_of` is
-- the answer in which a run in progress ends, and `Fits` holds of each run in progress.
pub record TurnLaws {K R : Type 0} (keywords : Keywords K R) (m : K) (absorbed : List Text) (remaining : Subject → R → ℕ) (can_be : Subject → R → Type 0) (end_of : Standing R → Answer) (Fits : Standing R → Type 0) : Type 0 where
  pub bounded : (s : Subject) (mode : Mode) → remaining s (keywords.begin m s mode) < keywords.most_turns m s
  pub starts : (s : Subject) (mode : Mode) → can_be s (keywords.begin m s mode)
  pub goes_on : (s : Subject) (r : R) (reply : Reply) → can_be s r → can_be s (keywords.turn m s r reply)
  pub falls : (s : Subject) (r : R) (reply : Reply) → can_be s r → (keywords.step m s r reply ≡ done) ⊎ (remaining s (keywords.turn m s r reply) < remaining s r)
  pub asks : (s : Subject) (r : R) (reply : Reply) → can_be s r → AsksRightly keywords m s absorbed (keywords.step m s r reply)
  pub begins : (s : Subject) (mode : Mode) (matches : Matching) (a : Answers) (u : Question → Unit_) (same : Marked → Marked → Bool)
      → ((q : Question) → Agrees (a q)) → ((q : Question) → (report_of (u q)).valid ≡ (a q).verdict) → AnsweredAlike same a
      → Fits (standing keywords m s mode matches a u same) × IsRight keywords m s matches a u same mode (end_of (standing keywords m s mode matches a u same))
  pub keeps : (x : Standing R) → Fits x → (step_at keywords m x ≡ done → ⊥) → Fits (next keywords m x) × (end_of (next keywords m x) ≡ end_of x)
  pub stands : (x : Standing R) → Fits x → step_at keywords m x ≡ done → keywords.answer (turned keywords m x) ≡ end_of x

-- The functions of a keyword agree with one another, read no more than they may, and stay inside
-- the instance.
pub record FunctionLaws {K R : Type 0} (keywords : Keywords K R) (m : K) (absorbed : List Text) : Type 0 where
  pub present : (s : Subject) → All (λ q. IsPresent s (steps_below q.below)) (keywords.may_ask m s)
  pub agree : (s : Subject) (matches : Matching) (a : Answers) → ((q : Question) → Agrees (a q))
      → (keywords.holds m s matches (λ q. (a q).verdict) ≡ true) ↔ (keywords.faults m s matches a ≡ [])
  -- The keyword's own unit and all units that it absorbs are valid if and only if the keyword
  -- holds.
  pub units_valid : (s : Subject) (matches : Matching) (u : Question → Unit_)
      → all_valid (keywords.units m s matches u) ≡ keywords.holds m s matches (λ q. (report_of (u q)).valid)
  pub holds_reads : (s : Subject) (matches : Matching) (a b : Question → Bool) → All (λ q. a q ≡ b q) (keywords.may_ask m s)
      → keywords.holds m s matches a ≡ keywords.holds m s matches b
  pub faults_read : (s : Subject) (matches : Matching) (a b : Answers) → All (λ q. a q ≡ b q) (keywords.may_ask m s)
      → keywords.faults m s matches a ≡ keywords.faults m s matches b
  pub units_read : (s : Subject) (matches : Matching) (a b : Question → Unit_) → All (λ q. a q ≡ b q) (keywords.may_ask m s)
      → keywords.units m s matches a ≡ keywords.units m s matches b
  -- What a keyword spans depends only on the answers to questions that it may ask.
  pub spans_read : (s : Subject) → All (λ p. All (Contains (keywords.may_ask m s)) (span_questions p)) (keywords.spans m s)
  pub spans_stand : (s : Subject) → All (SpanInside s absorbed) (keywords.spans m s)
  -- What a told keyword spans itself depends on no answer and no match.
  pub told_spans : keywords.is_told m ≡ true → (s : Subject) → All IsFixed (keywords.spans m s)
  pub stands : (s : Subject) (matches : Matching) (a : Answers) → All (StandsInside s absorbed) (keywords.faults m s matches a)
  pub passes : (s : Subject) (matches : Matching) (a : Answers) → All (PassesUnchanged a (keywords.may_ask m s)) (keywords.faults m s matches a)
