-- What keywords read.
use Rattle.std.proofs.Common.{◌≡◌, List, Bool}
use Rattle.std.specs.Prelude.{All, Contains}
use Rattle.theory_definitions.specs.Instance.{Subject, Text}
use Rattle.theory_definitions.specs.Reports.{Unit_}
use Rattle.theory_definitions.specs.Keywords.{Keywords, Question, Answers, Mode, no_reply, span_questions}
use Rattle.theory_definitions.specs.Matching.{Matching}
use Rattle.theory_definitions.specs.Laws.{IsPresent, steps_below, AlwaysAsksRightly, EachKeeps}

-- Whatever a keyword may ask is present, and its result depends only on those answers.
pub record Reads {K R : Type 0} (keywords : Keywords K R) : Type 0 where
  pub present : (m : K) (s : Subject) → All (λ q. IsPresent s (steps_below q.below)) (keywords.may_ask m s)
  pub holds_reads : (m : K) (s : Subject) (matches : Matching) (a b : Question → Bool) → All (λ q. a q ≡ b q) (keywords.may_ask m s)
      → keywords.holds m s matches a ≡ keywords.holds m s matches b
  pub faults_read : (m : K) (s : Subject) (matches : Matching) (a b : Answers) → All (λ q. a q ≡ b q) (keywords.may_ask m s)
      → keywords.faults m s matches a ≡ keywords.faults m s matches b
  pub units_read : (m : K) (s : Subject) (matches : Matching) (a b : Question → Unit_) → All (λ q. a q ≡ b q) (keywords.may_ask m s)
      → keywords.units m s matches a ≡ keywords.units m s matches b
  pub spans_read : (m : K) (s : Subject) → All (λ p. All (Contains (keywords.may_ask m s)) (span_questions p)) (keywords.spans m s)
  pub absorbs : K → List Text
  pub asks : (m : K) (s : Subject) (mode : Mode) → AlwaysAsksRightly keywords m s (absorbs m) (keywords.most_turns m s) (keywords.begin m s mode) no_reply

pub reads_of : {K R : Type 0} (keywords : Keywords K R) → EachKeeps keywords → Reads keywords
reads_of keywords laws = record {
  present = λ m. (laws m).1.present;
  holds_reads = λ m. (laws m).1.holds_reads;
  faults_read = λ m. (laws m).1.faults_read;
  units_read = λ m. (laws m).1.units_read;
  spans_read = λ m. (laws m).1.spans_read;
  absorbs = λ m. (laws m).0;
  asks = λ m. (laws m).1.asks;
}
