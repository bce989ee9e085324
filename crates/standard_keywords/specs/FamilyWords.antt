-- What a keyword of one of the families says of an instance, and how its runs go: both are as its
-- own type defines. A run of another family cannot occur: it is done at once, and its answer stays
-- as it is.
use Rattle.std.specs.Prelude.{Bool, List, ℕ}
use Rattle.theory_definitions.specs.Instance.{Subject}
use Rattle.theory_definitions.specs.Reports.{Unit_}
use Rattle.theory_definitions.specs.Matching.{Matching}
use Rattle.theory_definitions.specs.Keywords.{Answer, Answers, Fault, Gives, Keywords, Mode, Question, Reply, Turn, done, Span}
use Rattle.theory_definitions.specs.Turns.{Standing}
use Rattle.keyword_joins.specs.BothWords.{seen}
use Rattle.standard_keywords.specs.declared.family.Family.{Family}
use Rattle.standard_keywords.specs.declared.family.Family.TheVariants.{Applicator, Assertion, Basic, Format, PatternProperties}

-- a run with its answer, as a run of one of the families
abbrev pub as_run : {Q R : Type 0} → (Q → R) → Q × Answer → R × Answer
as_run embed r = (embed r.0, r.1)

module _ {MA ML MP MF MB RA RL RP RF RB : Type 0} (assertions : Keywords MA (RA × Answer)) (applicators : Keywords ML (RL × Answer)) (patterns : Keywords MP (RP × Answer)) (formats : Keywords MF (RF × Answer)) (basics : Keywords MB (RB × Answer)) where
  abbrev asked : Family MA ML MP MF MB → Subject → List Question
  asked (Assertion m) s = assertions.may_ask m s
  asked (Applicator m) s = applicators.may_ask m s
  asked (PatternProperties m) s = patterns.may_ask m s
  asked (Format m) s = formats.may_ask m s
  asked (Basic m) s = basics.may_ask m s

  abbrev spanning : Family MA ML MP MF MB → Subject → List Span
  spanning (Assertion m) s = assertions.spans m s
  spanning (Applicator m) s = applicators.spans m s
  spanning (PatternProperties m) s = patterns.spans m s
  spanning (Format m) s = formats.spans m s
  spanning (Basic m) s = basics.spans m s

  abbrev told : Family MA ML MP MF MB → Bool
  told (Assertion m) = assertions.is_told m
  told (Applicator m) = applicators.is_told m
  told (PatternProperties m) = patterns.is_told m
  told (Format m) = formats.is_told m
  told (Basic m) = basics.is_told m

  abbrev held : Family MA ML MP MF MB → Subject → Matching → (Question → Bool) → Bool
  held (Assertion m) s matches accepts = assertions.holds m s matches accepts
  held (Applicator m) s matches accepts = applicators.holds m s matches accepts
  held (PatternProperties m) s matches accepts = patterns.holds m s matches accepts
  held (Format m) s matches accepts = formats.holds m s matches accepts
  held (Basic m) s matches accepts = basics.holds m s matches accepts

  abbrev faulted : Family MA ML MP MF MB → Subject → Matching → Answers → List Fault
  faulted (Assertion m) s matches answers = assertions.faults m s matches answers
  faulted (Applicator m) s matches answers = applicators.faults m s matches answers
  faulted (PatternProperties m) s matches answers = patterns.faults m s matches answers
  faulted (Format m) s matches answers = formats.faults m s matches answers
  faulted (Basic m) s matches answers = basics.faults m s matches answers

  abbrev given : Family MA ML MP MF MB → Subject → Matching → (Question → Unit_) → Gives
  given (Assertion m) s matches u = assertions.units m s matches u
  given (Applicator m) s matches u = applicators.units m s matches u
  given (PatternProperties m) s matches u = patterns.units m s matches u
  given (Format m) s matches u = formats.units m s matches u
  given (Basic m) s matches u = basics.units m s matches u

  abbrev turns : Family MA ML MP MF MB → Subject → ℕ
  turns (Assertion m) s = assertions.most_turns m s
  turns (Applicator m) s = applicators.most_turns m s
  turns (PatternProperties m) s = patterns.most_turns m s
  turns (Format m) s = formats.most_turns m s
  turns (Basic m) s = basics.most_turns m s

  abbrev begun : Family MA ML MP MF MB → Subject → Mode → Family RA RL RP RF RB × Answer
  begun (Assertion m) s mode = as_run Assertion (assertions.begin m s mode)
  begun (Applicator m) s mode = as_run Applicator (applicators.begin m s mode)
  begun (PatternProperties m) s mode = as_run PatternProperties (patterns.begin m s mode)
  begun (Format m) s mode = as_run Format (formats.begin m s mode)
  begun (Basic m) s mode = as_run Basic (basics.begin m s mode)

  abbrev turned : Family MA ML MP MF MB → Subject → Family RA RL RP RF RB → Answer → Reply → Family RA RL RP RF RB × Answer
  turned (Assertion m) s (Assertion r) answer reply = as_run Assertion (assertions.turn m s (r, answer) reply)
  turned (Applicator m) s (Applicator r) answer reply = as_run Applicator (applicators.turn m s (r, answer) reply)
  turned (PatternProperties m) s (PatternProperties r) answer reply = as_run PatternProperties (patterns.turn m s (r, answer) reply)
  turned (Format m) s (Format r) answer reply = as_run Format (formats.turn m s (r, answer) reply)
  turned (Basic m) s (Basic r) answer reply = as_run Basic (basics.turn m s (r, answer) reply)
  turned m s r answer reply = (r, answer)

  abbrev stepped : Family MA ML MP MF MB → Subject → Family RA RL RP RF RB → Answer → Reply → Turn
  stepped (Assertion m) s (Assertion r) answer reply = assertions.step m s (r, answer) reply
  stepped (Applicator m) s (Applicator r) answer reply = applicators.step m s (r, answer) reply
  stepped (PatternProperties m) s (PatternProperties r) answer reply = patterns.step m s (r, answer) reply
  stepped (Format m) s (Format r) answer reply = formats.step m s (r, answer) reply
  stepped (Basic m) s (Basic r) answer reply = basics.step m s (r, answer) reply
  stepped m s r answer reply = done

  abbrev joined : Bool → Keywords (Family MA ML MP MF MB) (Family RA RL RP RF RB × Answer)
  joined texts = record {
    texts = texts;
    may_ask = asked;
    spans = spanning;
    is_told = told;
    holds = held;
    faults = faulted;
    units = given;
    most_turns = turns;
    begin = begun;
    turn = λ m s r reply. turned m s r.0 r.1 reply;
    step = λ m s r reply. stepped m s r.0 r.1 reply;
    answer = λ r. r.1;
  }

abbrev pub family_words : {MA ML MP MF MB RA RL RP RF RB : Type 0} → (Bool → Keywords MA (RA × Answer)) → (Bool → Keywords ML (RL × Answer)) → (Bool → Keywords MP (RP × Answer)) → (Bool → Keywords MF (RF × Answer)) → (Bool → Keywords MB (RB × Answer)) → Bool → Keywords (Family MA ML MP MF MB) (Family RA RL RP RF RB × Answer)
family_words assertions applicators patterns formats basics texts = joined (assertions texts) (applicators texts) (patterns texts) (formats texts) (basics texts) texts

module _ {MA ML MP MF MB RA RL RP RF RB : Type 0} where
  -- the greatest number of turns that are left
  abbrev left_in : (MA → Subject → RA × Answer → ℕ) → (ML → Subject → RL × Answer → ℕ) → (MP → Subject → RP × Answer → ℕ) → (MF → Subject → RF × Answer → ℕ) → (MB → Subject → RB × Answer → ℕ) → Family MA ML MP MF MB → Subject → Family RA RL RP RF RB → Answer → ℕ
  left_in a l p f b (Assertion m) s (Assertion r) answer = a m s (r, answer)
  left_in a l p f b (Applicator m) s (Applicator r) answer = l m s (r, answer)
  left_in a l p f b (PatternProperties m) s (PatternProperties r) answer = p m s (r, answer)
  left_in a l p f b (Format m) s (Format r) answer = f m s (r, answer)
  left_in a l p f b (Basic m) s (Basic r) answer = b m s (r, answer)
  left_in a l p f b m s r answer = 0

  abbrev pub family_left : (MA → Subject → RA × Answer → ℕ) → (ML → Subject → RL × Answer → ℕ) → (MP → Subject → RP × Answer → ℕ) → (MF → Subject → RF × Answer → ℕ) → (MB → Subject → RB × Answer → ℕ) → Family MA ML MP MF MB → Subject → Family RA RL RP RF RB × Answer → ℕ
  family_left a l p f b m s r = left_in a l p f b m s r.0 r.1

  -- a run can be in the states that its own type allows
  abbrev can_be_in : (MA → Subject → RA × Answer → Type 0) → (ML → Subject → RL × Answer → Type 0) → (MP → Subject → RP × Answer → Type 0) → (MF → Subject → RF × Answer → Type 0) → (MB → Subject → RB × Answer → Type 0) → Family MA ML MP MF MB → Subject → Family RA RL RP RF RB → Answer → Type 0
  can_be_in a l p f b (Assertion m) s (Assertion r) answer = a m s (r, answer)
  can_be_in a l p f b (Applicator m) s (Applicator r) answer = l m s (r, answer)
  can_be_in a l p f b (PatternProperties m) s (PatternProperties r) answer = p m s (r, answer)
  can_be_in a l p f b (Format m) s (Format r) answer = f m s (r, answer)
  can_be_in a l p f b (Basic m) s (Basic r) answer = b m s (r, answer)
  can_be_in a l p f b m s r answer = ⊥

  abbrev pub family_can_be : (Bool → MA → Subject → RA × Answer → Type 0) → (Bool → ML → Subject → RL × Answer → Type 0) → (Bool → MP → Subject → RP × Answer → Type 0) → (Bool → MF → Subject → RF × Answer → Type 0) → (Bool → MB → Subject → RB × Answer → Type 0) → Bool → Family MA ML MP MF MB → Subject → Family RA RL RP RF RB × Answer → Type 0
  family_can_be a l p f b texts m s r = can_be_in (a texts) (l texts) (p texts) (f texts) (b texts) m s r.0 r.1

  -- the answer with which a run ends
  abbrev ends_in : (MA → Standing (RA × Answer) → Answer) → (ML → Standing (RL × Answer) → Answer) → (MP → Standing (RP × Answer) → Answer) → (MF → Standing (RF × Answer) → Answer) → (MB → Standing (RB × Answer) → Answer) → Family MA ML MP MF MB → Family RA RL RP RF RB → Standing (Family RA RL RP RF RB × Answer) → Answer
  ends_in a l p f b (Assertion m) (Assertion r) x = a m (seen x r)
  ends_in a l p f b (Applicator m) (Applicator r) x = l m (seen x r)
  ends_in a l p f b (PatternProperties m) (PatternProperties r) x = p m (seen x r)
  ends_in a l p f b (Format m) (Format r) x = f m (seen x r)
  ends_in a l p f b (Basic m) (Basic r) x = b m (seen x r)
  ends_in a l p f b m r x = x.state.1

  abbrev pub family_ends : (Bool → MA → Standing (RA × Answer) → Answer) → (Bool → ML → Standing (RL × Answer) → Answer) → (Bool → MP → Standing (RP × Answer) → Answer) → (Bool → MF → Standing (RF × Answer) → Answer) → (Bool → MB → Standing (RB × Answer) → Answer) → Bool → Family MA ML MP MF MB → Standing (Family RA RL RP RF RB × Answer) → Answer
  family_ends a l p f b texts m x = ends_in (a texts) (l texts) (p texts) (f texts) (b texts) m x.state.0 x

  -- what is true of a run, and of the reply that it takes next
  abbrev fits_in : (MA → Standing (RA × Answer) → Type 0) → (ML → Standing (RL × Answer) → Type 0) → (MP → Standing (RP × Answer) → Type 0) → (MF → Standing (RF × Answer) → Type 0) → (MB → Standing (RB × Answer) → Type 0) → Family MA ML MP MF MB → Family RA RL RP RF RB → Standing (Family RA RL RP RF RB × Answer) → Type 0
  fits_in a l p f b (Assertion m) (Assertion r) x = a m (seen x r)
  fits_in a l p f b (Applicator m) (Applicator r) x = l m (seen x r)
  fits_in a l p f b (PatternProperties m) (PatternProperties r) x = p m (seen x r)
  fits_in a l p f b (Format m) (Format r) x = f m (seen x r)
  fits_in a l p f b (Basic m) (Basic r) x = b m (seen x r)
  fits_in a l p f b m r x = ⊥

  abbrev pub family_fits : (Bool → MA → Standing (RA × Answer) → Type 0) → (Bool → ML → Standing (RL × Answer) → Type 0) → (Bool → MP → Standing (RP × Answer) → Type 0) → (Bool → MF → Standing (RF × Answer) → Type 0) → (Bool → MB → Standing (RB × Answer) → Type 0) → Bool → Family MA ML MP MF MB → Standing (Family RA RL RP RF RB × Answer) → Type 0
  family_fits a l p f b texts m x = fits_in (a texts) (l texts) (p texts) (f texts) (b texts) m x.state.0 x
