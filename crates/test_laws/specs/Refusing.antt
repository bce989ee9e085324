-- A keyword that refuses every instance. Its run has no state at all: a turn takes the mode from
-- the answer.
use Rattle.std.proofs.Common.{◌≡◌, ℕ, suc, zero, ◌<◌, [], List, Bool, false, true, refl, arith, inl}
use Rattle.std.specs.Prelude.{⊤}
use Rattle.std.proofs.lemmas.List.Elements.{All-nil, All-cons}
use Rattle.theory_definitions.specs.Instance.{Subject, Text}
use Rattle.theory_definitions.specs.Reports.{Unit_}
use Rattle.theory_definitions.specs.Keywords.{Answer, Answers, Keywords, Marked, Mode, Question, Reply, done, for_all, for_first, for_units, for_verdict, no_reply}
use Rattle.theory_definitions.specs.Laws.{IsRight, PassesUnchanged, StandsInside}
use Rattle.theory_definitions.specs.Matching.{Matching}
use Rattle.theory_definitions.specs.Remembering.{AlwaysAsksVerdict, EachAsksVerdicts}
use Rattle.theory_definitions.specs.Turns.{FunctionLaws, Standing, TurnLaws}
use Rattle.theory_meaning.specs.Greatest.{IsMonotone}
use Rattle.theory_meaning.specs.UnitsLead.{EachHandsUnitsOn}
use Rattle.schema_traits.specs.KeywordViews.{fresh}
use Rattle.schema_traits.specs.UnitQuestions.{AlwaysAsksForLess, AsksNoUnits}
use Rattle.test_laws.specs.Refusals.{refusal, refused_in, refusals, unit_of}

abbrev pub refusing_words : Bool → Keywords ⊤ (⊤ × Answer)
refusing_words texts = record {
  texts = texts;
  may_ask = λ m s. [];
  spans = λ m s. [];
  is_told = λ m. false;
  holds = λ m s matches accepts. false;
  faults = λ m s matches answers. refusals texts false;
  units = λ m s matches unit_at. unit_of texts false;
  most_turns = λ m s. 1;
  begin = λ m s mode. (tt, fresh mode);
  turn = λ m s r reply. (r.0, refused_in texts r.1.mode);
  step = λ m s r reply. done;
  answer = λ r. r.1;
}

abbrev pub refusing_absorbed : ⊤ → List Text
refusing_absorbed m = []

abbrev pub refusing_left : ⊤ → Subject → ⊤ × Answer → ℕ
refusing_left m s r = 0

abbrev pub refusing_can_be : Bool → ⊤ → Subject → ⊤ × Answer → Type 0
refusing_can_be texts m s r = Unit {0}

abbrev pub refusing_ends : Bool → ⊤ → Standing (⊤ × Answer) → Answer
refusing_ends texts m x = refused_in texts x.state.1.mode

abbrev pub refusing_fits : Bool → ⊤ → Standing (⊤ × Answer) → Type 0
refusing_fits texts m x = Unit {0}

is_right : (texts : Bool) (m : ⊤) (s : Subject) (matches : Matching) (a : Answers) (u : Question → Unit_) (same : Marked → Marked → Bool) (mode : Mode)
    → IsRight (refusing_words texts) m s matches a u same mode (refused_in texts mode)
is_right texts m s matches a u same for_verdict = refl
is_right texts m s matches a u same for_first = refl
is_right texts m s matches a u same for_all = refl
is_right texts m s matches a u same for_units = (refl, refl)

none_left : 0 < 1
none_left = omega arith

pub refusing_turns : (texts : Bool) (m : ⊤) → TurnLaws (refusing_words texts) m (refusing_absorbed m) (refusing_left m) (refusing_can_be texts m) (refusing_ends texts m) (refusing_fits texts m)
refusing_turns texts m = record {
  bounded = λ s mode. none_left;
  starts = λ s mode. tt;
  goes_on = λ s r reply can. tt;
  falls = λ s r reply can. inl refl;
  asks = λ s r reply can. tt;
  begins = λ s mode matches a u same agrees valid alike. (tt, is_right texts m s matches a u same mode);
  keeps = λ x fits h. absurd (h refl);
  stands = λ x fits h. refl;
}

pub refusing_functions : (texts : Bool) (m : ⊤) → FunctionLaws (refusing_words texts) m (refusing_absorbed m)
refusing_functions texts m = record {
  present = λ s. All-nil _;
  agree = λ s matches a agrees. (λ h. cc, λ h. cc);
  units_valid = λ s matches u. refl;
  holds_reads = λ s matches a b h. refl;
  faults_read = λ s matches a b h. refl;
  units_read = λ s matches a b h. refl;
  spans_read = λ s. All-nil _;
  spans_stand = λ s. All-nil _;
  told_spans = λ told s. All-nil _;
  stands = λ s matches a. All-cons (StandsInside s []) (refusal texts) [] (refl, ([], refl), tt) (All-nil _);
  passes = λ s matches a. All-cons (PassesUnchanged a []) (refusal texts) [] tt (All-nil _);
}

-- ---- it asks nothing, so it requests no units, and nothing beyond verdicts

asks_nothing : (texts : Bool) (m : ⊤) (s : Subject) (n : ℕ) (r : ⊤ × Answer) (reply : Reply) → AlwaysAsksForLess (refusing_words texts) m s n r reply
asks_nothing texts m s zero r reply = tt
asks_nothing texts m s (suc n) r reply = (tt, λ next. asks_nothing texts m s n ((refusing_words texts).turn m s r reply) next)

pub refusing_units : (texts : Bool) → AsksNoUnits (refusing_words texts)
refusing_units texts m s mode none = asks_nothing texts m s 1 (tt, fresh mode) no_reply

always_verdicts : (texts : Bool) (m : ⊤) (s : Subject) (n : ℕ) (r : ⊤ × Answer) (reply : Reply) → AlwaysAsksVerdict (refusing_words texts) m s n r reply
always_verdicts texts m s zero r reply = tt
always_verdicts texts m s (suc n) r reply = (tt, λ next. always_verdicts texts m s n ((refusing_words texts).turn m s r reply) next)

pub refusing_verdicts : (texts : Bool) → EachAsksVerdicts (refusing_words texts)
refusing_verdicts texts m s = always_verdicts texts m s 1 (tt, fresh for_verdict) no_reply

-- ---- it does not say that it is monotone, and passes no units on

pub refusing_grows : (texts : Bool) (m : ⊤) → false ≡ true → IsMonotone (refusing_words texts) m
refusing_grows texts m h = absurd (let f : ⊥ = cc in f)

pub refusing_hands_on : (texts : Bool) → EachHandsUnitsOn (refusing_words texts) refusing_absorbed
refusing_hands_on texts m s matches u = record { own = All-nil _; absorbed = All-nil _ }
