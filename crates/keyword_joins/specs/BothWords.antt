-- What a keyword of one of two types says of an instance, and how its runs go: both are as its own
-- type defines. A run of the other type cannot occur: it is done at once, and its answer stays as
-- it is.
use Rattle.std.specs.Prelude.{Bool, List, ℕ}
use Rattle.theory_definitions.specs.Instance.{Subject}
use Rattle.theory_definitions.specs.Reports.{Unit_}
use Rattle.theory_definitions.specs.Matching.{Matching}
use Rattle.theory_definitions.specs.Keywords.{Answer, Answers, Fault, Gives, Keywords, Mode, Question, Reply, Turn, done, Span}
use Rattle.theory_definitions.specs.Turns.{Standing}
use Rattle.keyword_joins.specs.declared.both.Both.{Both}
use Rattle.keyword_joins.specs.declared.both.Both.TheVariants.{First, Second}

-- a run with its answer, as a run of one of two types
abbrev pub as_first : {Q R : Type 0} → Q × Answer → Both Q R × Answer
as_first r = (First r.0, r.1)

abbrev pub as_second : {Q R : Type 0} → R × Answer → Both Q R × Answer
as_second r = (Second r.0, r.1)

module _ {M N Q R : Type 0} (one : Keywords M (Q × Answer)) (other : Keywords N (R × Answer)) where
  abbrev asked : Both M N → Subject → List Question
  asked (First m) s = one.may_ask m s
  asked (Second m) s = other.may_ask m s

  abbrev spanning : Both M N → Subject → List Span
  spanning (First m) s = one.spans m s
  spanning (Second m) s = other.spans m s

  abbrev told : Both M N → Bool
  told (First m) = one.is_told m
  told (Second m) = other.is_told m

  abbrev held : Both M N → Subject → Matching → (Question → Bool) → Bool
  held (First m) s matches accepts = one.holds m s matches accepts
  held (Second m) s matches accepts = other.holds m s matches accepts

  abbrev faulted : Both M N → Subject → Matching → Answers → List Fault
  faulted (First m) s matches answers = one.faults m s matches answers
  faulted (Second m) s matches answers = other.faults m s matches answers

  abbrev given : Both M N → Subject → Matching → (Question → Unit_) → Gives
  given (First m) s matches u = one.units m s matches u
  given (Second m) s matches u = other.units m s matches u

  abbrev turns : Both M N → Subject → ℕ
  turns (First m) s = one.most_turns m s
  turns (Second m) s = other.most_turns m s

  abbrev begun : Both M N → Subject → Mode → Both Q R × Answer
  begun (First m) s mode = as_first (one.begin m s mode)
  begun (Second m) s mode = as_second (other.begin m s mode)

  abbrev turned : Both M N → Subject → Both Q R → Answer → Reply → Both Q R × Answer
  turned (First m) s (First r) a reply = as_first (one.turn m s (r, a) reply)
  turned (First m) s (Second r) a reply = (Second r, a)
  turned (Second m) s (First r) a reply = (First r, a)
  turned (Second m) s (Second r) a reply = as_second (other.turn m s (r, a) reply)

  abbrev stepped : Both M N → Subject → Both Q R → Answer → Reply → Turn
  stepped (First m) s (First r) a reply = one.step m s (r, a) reply
  stepped (First m) s (Second r) a reply = done
  stepped (Second m) s (First r) a reply = done
  stepped (Second m) s (Second r) a reply = other.step m s (r, a) reply

  abbrev joined : Bool → Keywords (Both M N) (Both Q R × Answer)
  joined texts = record {
    texts = texts;
    may_ask = asked;
    spans = spanning;
    is_told = told;
    holds = held;
    faults = faulted;
    units = given;
    most_turns = turns;
    begin = begun;
    turn = λ m s r reply. turned m s r.0 r.1 reply;
    step = λ m s r reply. stepped m s r.0 r.1 reply;
    answer = λ r. r.1;
  }

abbrev pub both_words : {M N Q R : Type 0} → (Bool → Keywords M (Q × Answer)) → (Bool → Keywords N (R × Answer)) → Bool → Keywords (Both M N) (Both Q R × Answer)
both_words one other texts = joined (one texts) (other texts) texts

-- the state of a run of one type, taken from the state of a run of one of two
abbrev pub seen : {Q R : Type 0} → Standing (R × Answer) → Q → Standing (Q × Answer)
seen x r = record {
  subject = x.subject;
  matches = x.matches;
  answers = x.answers;
  unit_at = x.unit_at;
  same = x.same;
  marks = x.marks;
  state = (r, x.state.1);
  reply = x.reply;
}

module _ {M N Q R : Type 0} where
  -- the greatest number of turns that are left
  abbrev left_in : (M → Subject → Q × Answer → ℕ) → (N → Subject → R × Answer → ℕ) → Both M N → Subject → Both Q R → Answer → ℕ
  left_in one other (First m) s (First r) a = one m s (r, a)
  left_in one other (First m) s (Second r) a = 0
  left_in one other (Second m) s (First r) a = 0
  left_in one other (Second m) s (Second r) a = other m s (r, a)

  abbrev pub both_left : (M → Subject → Q × Answer → ℕ) → (N → Subject → R × Answer → ℕ) → Both M N → Subject → Both Q R × Answer → ℕ
  both_left one other m s r = left_in one other m s r.0 r.1

  -- a run can be in the states that its own type allows
  abbrev can_be_in : (M → Subject → Q × Answer → Type 0) → (N → Subject → R × Answer → Type 0) → Both M N → Subject → Both Q R → Answer → Type 0
  can_be_in one other (First m) s (First r) a = one m s (r, a)
  can_be_in one other (First m) s (Second r) a = ⊥
  can_be_in one other (Second m) s (First r) a = ⊥
  can_be_in one other (Second m) s (Second r) a = other m s (r, a)

  abbrev pub both_can_be : (Bool → M → Subject → Q × Answer → Type 0) → (Bool → N → Subject → R × Answer → Type 0) → Bool → Both M N → Subject → Both Q R × Answer → Type 0
  both_can_be one other texts m s r = can_be_in (one texts) (other texts) m s r.0 r.1

  -- the answer with which a run ends
  abbrev ends_in : (M → Standing (Q × Answer) → Answer) → (N → Standing (R × Answer) → Answer) → Both M N → Both Q R → Standing (Both Q R × Answer) → Answer
  ends_in one other (First m) (First r) x = one m (seen x r)
  ends_in one other (First m) (Second r) x = x.state.1
  ends_in one other (Second m) (First r) x = x.state.1
  ends_in one other (Second m) (Second r) x = other m (seen x r)

  abbrev pub both_ends : (Bool → M → Standing (Q × Answer) → Answer) → (Bool → N → Standing (R × Answer) → Answer) → Bool → Both M N → Standing (Both Q R × Answer) → Answer
  both_ends one other texts m x = ends_in (one texts) (other texts) m x.state.0 x

  -- what is true of a run, and of the reply that it takes next
  abbrev fits_in : (M → Standing (Q × Answer) → Type 0) → (N → Standing (R × Answer) → Type 0) → Both M N → Both Q R → Standing (Both Q R × Answer) → Type 0
  fits_in one other (First m) (First r) x = one m (seen x r)
  fits_in one other (First m) (Second r) x = ⊥
  fits_in one other (Second m) (First r) x = ⊥
  fits_in one other (Second m) (Second r) x = other m (seen x r)

  abbrev pub both_fits : (Bool → M → Standing (Q × Answer) → Type 0) → (Bool → N → Standing (R × Answer) → Type 0) → Bool → Both M N → Standing (Both Q R × Answer) → Type 0
  both_fits one other texts m x = fits_in (one texts) (other texts) m x.state.0 x
