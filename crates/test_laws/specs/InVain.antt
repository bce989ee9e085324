-- A keyword that accepts every instance, and asks its only child in vain: it drops the reply. So it
-- keeps every law except those about requests, whatever it requests.
use Rattle.std.proofs.Common.{◌≡◌, ℕ, zero, suc, ◌<◌, ◌⊎◌, ◌∷◌, [], List, Bool, true, false, refl, arith, inl, inr}
use Rattle.std.specs.Prelude.{if◌then◌else◌, ⊤}
use Rattle.std.proofs.lemmas.List.Elements.{All-nil, All-cons}
use Rattle.theory_definitions.specs.Instance.{Subject, Text}
use Rattle.theory_definitions.specs.Reports.{Unit_}
use Rattle.theory_definitions.specs.Keywords.{Answer, Answers, Keywords, Marked, Mode, Question, Reply, Turn, ask, done, for_all, for_first, for_units, for_verdict, here, no_reply}
use Rattle.theory_definitions.specs.Laws.{AsksRightly, IsPresent, IsRight, steps_below}
use Rattle.theory_definitions.specs.Matching.{Matching}
use Rattle.theory_definitions.specs.Remembering.{AlwaysAsksVerdict, AsksVerdict, EachAsksVerdicts}
use Rattle.theory_definitions.specs.Turns.{FunctionLaws, Standing, TurnLaws}
use Rattle.theory_meaning.specs.Greatest.{IsMonotone}
use Rattle.theory_meaning.specs.UnitsLead.{EachHandsUnitsOn}
use Rattle.schema_traits.specs.KeywordViews.{fresh, no_gives}
use Rattle.schema_traits.specs.UnitQuestions.{AlwaysAsksForLess, AsksForLess, AsksNoUnits}

abbrev pub only_child : Question
only_child = record { child = 0; below = here }

-- a turn asks, unless one before it has asked
abbrev pub step_vain : Mode → Bool → Turn
step_vain asked has_asked = if has_asked then done else ask only_child asked

abbrev pub vain_words : Mode → Bool → Keywords ⊤ (Bool × Answer)
vain_words asked texts = record {
  texts = texts;
  may_ask = λ m s. only_child ∷ [];
  spans = λ m s. [];
  is_told = λ m. false;
  holds = λ m s matches accepts. true;
  faults = λ m s matches answers. [];
  units = λ m s matches unit_at. no_gives;
  most_turns = λ m s. 2;
  begin = λ m s mode. (false, fresh mode);
  turn = λ m s r reply. (true, r.1);
  step = λ m s r reply. step_vain asked r.0;
  answer = λ r. r.1;
}

abbrev pub vain_absorbed : ⊤ → List Text
vain_absorbed m = []

abbrev pub left_at : Bool → ℕ
left_at has_asked = if has_asked then 0 else 1

abbrev pub vain_left : ⊤ → Subject → Bool × Answer → ℕ
vain_left m s r = left_at r.0

abbrev pub vain_can_be : Bool → ⊤ → Subject → Bool × Answer → Type 0
vain_can_be texts m s r = Unit {0}

abbrev pub vain_ends : Bool → ⊤ → Standing (Bool × Answer) → Answer
vain_ends texts m x = x.state.1

abbrev pub vain_fits : Bool → ⊤ → Standing (Bool × Answer) → Type 0
vain_fits texts m x = Unit {0}

-- ---- the laws, whatever it requests

one_left : 1 < 2
one_left = omega arith

falls : (asked : Mode) (has_asked : Bool) → (step_vain asked has_asked ≡ done) ⊎ (0 < left_at has_asked)
falls asked true = inl refl
falls asked false = inr (omega arith)

asks : (asked : Mode) (texts : Bool) (m : ⊤) (s : Subject) (has_asked : Bool) → AsksRightly (vain_words asked texts) m s [] (step_vain asked has_asked)
asks asked texts m s true = tt
asks asked texts m s false = (0, omega arith, refl)

is_right : (asked : Mode) (texts : Bool) (m : ⊤) (s : Subject) (matches : Matching) (a : Answers) (u : Question → Unit_) (same : Marked → Marked → Bool) (mode : Mode)
    → IsRight (vain_words asked texts) m s matches a u same mode (fresh mode)
is_right asked texts m s matches a u same for_verdict = refl
is_right asked texts m s matches a u same for_first = refl
is_right asked texts m s matches a u same for_all = refl
is_right asked texts m s matches a u same for_units = (refl, refl)

pub vain_turns : (asked : Mode) (texts : Bool) (m : ⊤) → TurnLaws (vain_words asked texts) m (vain_absorbed m) (vain_left m) (vain_can_be texts m) (vain_ends texts m) (vain_fits texts m)
vain_turns asked texts m = record {
  bounded = λ s mode. one_left;
  starts = λ s mode. tt;
  goes_on = λ s r reply can. tt;
  falls = λ s r reply can. falls asked r.0;
  asks = λ s r reply can. asks asked texts m s r.0;
  begins = λ s mode matches a u same agrees valid alike. (tt, is_right asked texts m s matches a u same mode);
  keeps = λ x fits h. (tt, refl);
  stands = λ x fits h. refl;
}

pub vain_functions : (asked : Mode) (texts : Bool) (m : ⊤) → FunctionLaws (vain_words asked texts) m (vain_absorbed m)
vain_functions asked texts m = record {
  present = λ s. All-cons (λ q. IsPresent s (steps_below q.below)) only_child [] refl (All-nil _);
  agree = λ s matches a agrees. (λ h. refl, λ h. refl);
  units_valid = λ s matches u. refl;
  holds_reads = λ s matches a b h. refl;
  faults_read = λ s matches a b h. refl;
  units_read = λ s matches a b h. refl;
  spans_read = λ s. All-nil _;
  spans_stand = λ s. All-nil _;
  told_spans = λ told s. All-nil _;
  stands = λ s matches a. All-nil _;
  passes = λ s matches a. All-nil _;
}

-- ---- it requests no units, unless its request is for units

abbrev pub IsLess : Mode → Type 0
IsLess for_units = ⊥
IsLess _ = Unit {0}

less : (asked : Mode) → IsLess asked → ¬ (asked ≡ for_units)
less for_verdict h = λ e. let f : ⊥ = cc in f
less for_first h = λ e. let f : ⊥ = cc in f
less for_all h = λ e. let f : ⊥ = cc in f
less for_units h = absurd h

step_for_less : (asked : Mode) (has_asked : Bool) → IsLess asked → AsksForLess (step_vain asked has_asked)
step_for_less asked true h = tt
step_for_less asked false h = less asked h

always_for_less : (asked : Mode) (texts : Bool) (m : ⊤) (s : Subject) (n : ℕ) (r : Bool × Answer) (reply : Reply) → IsLess asked → AlwaysAsksForLess (vain_words asked texts) m s n r reply
always_for_less asked texts m s zero r reply h = tt
always_for_less asked texts m s (suc n) r reply h = (step_for_less asked r.0 h, λ next. always_for_less asked texts m s n (true, r.1) next h)

pub vain_units : (asked : Mode) → IsLess asked → (texts : Bool) → AsksNoUnits (vain_words asked texts)
vain_units asked h texts m s mode none = always_for_less asked texts m s 2 (false, fresh mode) no_reply h

-- ---- it requests only verdicts, if its request is for a verdict

step_for_verdict : (has_asked : Bool) → AsksVerdict (step_vain for_verdict has_asked)
step_for_verdict true = tt
step_for_verdict false = refl

always_verdicts : (texts : Bool) (m : ⊤) (s : Subject) (n : ℕ) (r : Bool × Answer) (reply : Reply) → AlwaysAsksVerdict (vain_words for_verdict texts) m s n r reply
always_verdicts texts m s zero r reply = tt
always_verdicts texts m s (suc n) r reply = (step_for_verdict r.0, λ next. always_verdicts texts m s n (true, r.1) next)

pub vain_verdicts : (texts : Bool) → EachAsksVerdicts (vain_words for_verdict texts)
vain_verdicts texts m s = always_verdicts texts m s 2 (false, fresh for_verdict) no_reply

-- ---- its verdict does not depend on an answer, and it passes no units on

pub vain_grows : (asked : Mode) (texts : Bool) (m : ⊤) → true ≡ true → IsMonotone (vain_words asked texts) m
vain_grows asked texts m h = record { untold = refl; grows = λ s matches a b where_yes holds. holds }

pub vain_hands_on : (asked : Mode) (texts : Bool) → EachHandsUnitsOn (vain_words asked texts) vain_absorbed
vain_hands_on asked texts m s matches u = record { own = All-nil _; absorbed = All-nil _ }
