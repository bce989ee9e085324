-- A keyword that matches its pattern against the name of each member of an object, at the name's
-- place, and refuses if a name does not match. Its run holds the place of the next name. The
-- abstract value of the keyword is its pattern.
use Rattle.std.proofs.Common.{◌≡◌, ◌∙◌, ℕ, zero, suc, ◌+◌, ◌<◌, ◌&&◌, ◌⊎◌, ◌∷◌, [], List, Bool, None, Option, Some, true, refl, sym, ap, add-one, arith, drop, inl, inr, length}
use Rattle.std.specs.List.{list_all}
use Rattle.std.specs.Prelude.{All, map, false}
use Rattle.std.proofs.lemmas.List.Elements.{All-cons, All-head, All-nil, All-tail}
use Rattle.theory_definitions.specs.Instance.{Subject, Text, to_name}
use Rattle.theory_definitions.specs.Reports.{Unit_}
use Rattle.theory_definitions.specs.Keywords.{Answer, Answers, Keywords, Marked, Mode, Question, Reply, Turn, done, for_all, for_first, for_units, for_verdict, match_text, no_reply, truth}
use Rattle.theory_definitions.specs.Laws.{AsksRightly, IsPresent, IsRight, steps_below}
use Rattle.theory_definitions.specs.Matching.{Matching}
use Rattle.theory_definitions.specs.Remembering.{AlwaysAsksVerdict, AsksVerdict, EachAsksVerdicts}
use Rattle.theory_definitions.specs.Turns.{FunctionLaws, Standing, TurnLaws, marks_after, reply_to}
use Rattle.theory_meaning.specs.Greatest.{IsMonotone}
use Rattle.theory_meaning.specs.UnitsLead.{EachHandsUnitsOn}
use Rattle.schema_traits.specs.KeywordViews.{fresh}
use Rattle.schema_traits.specs.UnitQuestions.{AlwaysAsksForLess, AsksForLess, AsksNoUnits}
use Rattle.keyword_authoring.specs.Members.{at_name, subject_names}
use Rattle.keyword_authoring.specs.Places.{names_present}
use Rattle.test_laws.specs.EachItem.{one_more, so_far}
use Rattle.test_laws.specs.OwnSpot.{name_point}
use Rattle.test_laws.specs.Refusals.{agree, and_true, refusals, refusals_pass, refusals_stand, told, told_all, told_first, told_gives, told_valid, told_verdict, unit_of}

-- the place of the next name, and whether those before matched
abbrev pub Next : Type 0
Next = ℕ × Bool

abbrev pub names_from : ℕ → Subject → List Text
names_from k s = drop k (subject_names s)

abbrev pub first_name : List Text → Option Text
first_name [] = None
first_name (n ∷ ns) = Some n

abbrev pub all_matched : Text → Matching → List Text → Bool
all_matched pattern matching names = list_all (λ n. matching.matches pattern n) names

abbrev pub holds_by : Text → Subject → Matching → Bool
holds_by pattern s matching = all_matched pattern matching (subject_names s)

abbrev pub turn_name : Bool → Option Text → ℕ → Bool → Answer → Next × Answer
turn_name texts None k accepted a = ((k, accepted), told texts accepted a)
turn_name texts (Some n) k accepted a = ((k + 1, accepted), a)

abbrev pub step_name : Text → Option Text → Turn
step_name pattern None = done
step_name pattern (Some n) = match_text (record { pattern = pattern; subject = n }) (name_point n)

abbrev pub name_words : Bool → Keywords Text (Next × Answer)
name_words texts = record {
  texts = texts;
  may_ask = λ m s. [];
  spans = λ m s. [];
  is_told = λ m. false;
  holds = λ m s matches accepts. holds_by m s matches;
  faults = λ m s matches answers. refusals texts (holds_by m s matches);
  units = λ m s matches unit_at. unit_of texts (holds_by m s matches);
  most_turns = λ m s. length (subject_names s) + 1;
  begin = λ m s mode. ((0, true), fresh mode);
  turn = λ m s r reply. turn_name texts (first_name (names_from r.0.0 s)) r.0.0 (so_far r.0.1 reply) r.1;
  step = λ m s r reply. step_name m (first_name (names_from r.0.0 s));
  answer = λ r. r.1;
}

abbrev pub name_absorbed : Text → List Text
name_absorbed m = []

abbrev pub name_left : Text → Subject → Next × Answer → ℕ
name_left m s r = length (names_from r.0.0 s)

abbrev pub name_can_be : Bool → Text → Subject → Next × Answer → Type 0
name_can_be texts m s r = Unit {0}

abbrev pub name_ends : Bool → Text → Standing (Next × Answer) → Answer
name_ends texts m x = told texts (so_far x.state.0.1 x.reply && all_matched m x.matches (names_from x.state.0.0 x.subject)) x.state.1

abbrev pub name_fits : Bool → Text → Standing (Next × Answer) → Type 0
name_fits texts m x = Unit {0}

-- ---- the laws

fewer : (n : ℕ) → n < n + 1
fewer n = omega arith

-- the names after the first
after_first : (k : ℕ) (names : List Text) (n : Text) (ns : List Text) → drop k names ≡ n ∷ ns → drop (suc k) names ≡ ns
after_first zero [] n ns e = absurd (let f : ⊥ = cc in f)
after_first zero (l ∷ ls) n ns e = cc
after_first (suc k) [] n ns e = absurd (let f : ⊥ = cc in f)
after_first (suc k) (l ∷ ls) n ns e = after_first k ls n ns e

after_next : (k : ℕ) (names : List Text) (n : Text) (ns : List Text) → drop k names ≡ n ∷ ns → drop (k + 1) names ≡ ns
after_next k names n ns e = ap (λ j. drop j names) (add-one k) ∙ after_first k names n ns e

less : (a b : ℕ) (ns : List Text) → a ≡ length ns → b ≡ suc (length ns) → a < b
less a b ns e h = omega (arith, e, h)

falls : (texts : Bool) (m : Text) (s : Subject) (k : ℕ) (b : Bool) (a : Answer) (names : List Text) → names_from k s ≡ names
    → (step_name m (first_name names) ≡ done) ⊎ (name_left m s (turn_name texts (first_name names) k b a) < length (names_from k s))
falls texts m s k b a [] e = inl refl
falls texts m s k b a (n ∷ ns) e = inr (less _ _ ns (ap length (after_next k (subject_names s) n ns e)) (ap length e))

-- each name is at a place that exists
abbrev NameThere : Subject → Text → Type 0
NameThere s n = IsPresent s (to_name n ∷ [])

each_there : (s : Subject) (names : List Text) → All (λ q. IsPresent s (steps_below q.below)) (map at_name names) → All (NameThere s) names
each_there s [] h = All-nil _
each_there s (n ∷ ns) h = All-cons (NameThere s) n ns (All-head (λ q. IsPresent s (steps_below q.below)) (at_name n) (map at_name ns) h)
    (each_there s ns (All-tail (λ q. IsPresent s (steps_below q.below)) (at_name n) (map at_name ns) h))

asks_at : (texts : Bool) (m : Text) (s : Subject) (k : ℕ) (names : List Text) → All (NameThere s) names
    → AsksRightly (name_words texts) m s [] (step_name m (first_name (drop k names)))
asks_at texts m s zero [] h = tt
asks_at texts m s zero (n ∷ ns) h = (All-head (NameThere s) n ns h, ([], refl), tt)
asks_at texts m s (suc k) [] h = tt
asks_at texts m s (suc k) (n ∷ ns) h = asks_at texts m s k ns (All-tail (NameThere s) n ns h)

is_right : (texts : Bool) (m : Text) (s : Subject) (matches : Matching) (a : Answers) (u : Question → Unit_) (same : Marked → Marked → Bool) (mode : Mode)
    → IsRight (name_words texts) m s matches a u same mode (told texts (holds_by m s matches) (fresh mode))
is_right texts m s matches a u same for_verdict = told_verdict texts (holds_by m s matches)
is_right texts m s matches a u same for_first = told_first texts (holds_by m s matches)
is_right texts m s matches a u same for_all = told_all texts (holds_by m s matches)
is_right texts m s matches a u same for_units = (told_gives texts (holds_by m s matches), told_valid texts (holds_by m s matches))

-- the run after a turn, with these names left
abbrev after : Bool → Text → Standing (Next × Answer) → List Text → Standing (Next × Answer)
after texts m x names = record x {
  marks = marks_after (name_words texts) m x.subject x.matches x.answers x.unit_at x.same x.marks (step_name m (first_name names));
  state = turn_name texts (first_name names) x.state.0.0 (so_far x.state.0.1 x.reply) x.state.1;
  reply = reply_to (name_words texts) m x.subject x.matches x.answers x.unit_at x.same x.marks (step_name m (first_name names));
}

keeps : (texts : Bool) (m : Text) (x : Standing (Next × Answer)) (names : List Text) → names_from x.state.0.0 x.subject ≡ names
    → (step_name m (first_name names) ≡ done → ⊥) → name_ends texts m (after texts m x names) ≡ name_ends texts m x
keeps texts m x [] e h = absurd (h refl)
keeps texts m x (n ∷ ns) e h =
    let so : Bool = so_far x.state.0.1 x.reply in
    ap (λ b. told texts b x.state.1) (
    ap (λ ls. so_far so (truth (x.matches.matches m n)) && all_matched m x.matches ls) (after_next x.state.0.0 (subject_names x.subject) n ns e)
    ∙ (one_more so (x.matches.matches m n) (all_matched m x.matches ns) ∙ ap (λ ls. so && all_matched m x.matches ls) (sym e))
    )

stands : (texts : Bool) (m : Text) (x : Standing (Next × Answer)) (names : List Text) → names_from x.state.0.0 x.subject ≡ names
    → step_name m (first_name names) ≡ done
    → (turn_name texts (first_name names) x.state.0.0 (so_far x.state.0.1 x.reply) x.state.1).1 ≡ name_ends texts m x
stands texts m x [] e h =
    let so : Bool = so_far x.state.0.1 x.reply in
    ap (λ b. told texts b x.state.1) (sym (ap (λ ls. so && all_matched m x.matches ls) e ∙ and_true so))
stands texts m x (n ∷ ns) e h = absurd (let f : ⊥ = cc in f)

pub name_turns : (texts : Bool) (m : Text) → TurnLaws (name_words texts) m (name_absorbed m) (name_left m) (name_can_be texts m) (name_ends texts m) (name_fits texts m)
name_turns texts m = record {
  bounded = λ s mode. fewer (length (subject_names s));
  starts = λ s mode. tt;
  goes_on = λ s r reply can. tt;
  falls = λ s r reply can. falls texts m s r.0.0 (so_far r.0.1 reply) r.1 (names_from r.0.0 s) refl;
  asks = λ s r reply can. asks_at texts m s r.0.0 (subject_names s) (each_there s (subject_names s) (names_present s));
  begins = λ s mode matches a u same agrees valid alike. (tt, is_right texts m s matches a u same mode);
  keeps = λ x fits h. (tt, keeps texts m x (names_from x.state.0.0 x.subject) refl h);
  stands = λ x fits h. stands texts m x (names_from x.state.0.0 x.subject) refl h;
}

-- ---- its functions

pub name_functions : (texts : Bool) (m : Text) → FunctionLaws (name_words texts) m (name_absorbed m)
name_functions texts m = record {
  present = λ s. All-nil _;
  agree = λ s matches a agrees. agree texts (holds_by m s matches);
  units_valid = λ s matches u. and_true (holds_by m s matches);
  holds_reads = λ s matches a b h. refl;
  faults_read = λ s matches a b h. refl;
  units_read = λ s matches a b h. refl;
  spans_read = λ s. All-nil _;
  spans_stand = λ s. All-nil _;
  told_spans = λ told s. All-nil _;
  stands = λ s matches a. refusals_stand texts s (holds_by m s matches);
  passes = λ s matches a. refusals_pass texts a [] (holds_by m s matches);
}

-- ---- it asks no child

step_for_less : (m : Text) (o : Option Text) → AsksForLess (step_name m o)
step_for_less m None = tt
step_for_less m (Some n) = tt

always_for_less : (texts : Bool) (m : Text) (s : Subject) (n : ℕ) (r : Next × Answer) (reply : Reply) → AlwaysAsksForLess (name_words texts) m s n r reply
always_for_less texts m s zero r reply = tt
always_for_less texts m s (suc n) r reply = (step_for_less m (first_name (names_from r.0.0 s)), λ next. always_for_less texts m s n ((name_words texts).turn m s r reply) next)

pub name_units : (texts : Bool) → AsksNoUnits (name_words texts)
name_units texts m s mode none = always_for_less texts m s (length (subject_names s) + 1) ((0, true), fresh mode) no_reply

step_for_verdict : (m : Text) (o : Option Text) → AsksVerdict (step_name m o)
step_for_verdict m None = tt
step_for_verdict m (Some n) = tt

always_verdicts : (texts : Bool) (m : Text) (s : Subject) (n : ℕ) (r : Next × Answer) (reply : Reply) → AlwaysAsksVerdict (name_words texts) m s n r reply
always_verdicts texts m s zero r reply = tt
always_verdicts texts m s (suc n) r reply = (step_for_verdict m (first_name (names_from r.0.0 s)), λ next. always_verdicts texts m s n ((name_words texts).turn m s r reply) next)

pub name_verdicts : (texts : Bool) → EachAsksVerdicts (name_words texts)
name_verdicts texts m s = always_verdicts texts m s (length (subject_names s) + 1) ((0, true), fresh for_verdict) no_reply

-- ---- its verdict does not depend on an answer, and it passes no units on

pub name_grows : (texts : Bool) (m : Text) → true ≡ true → IsMonotone (name_words texts) m
name_grows texts m h = record { untold = refl; grows = λ s matches a b where_yes holds. holds }

pub name_hands_on : (texts : Bool) → EachHandsUnitsOn (name_words texts) name_absorbed
name_hands_on texts m s matches u = record { own = All-nil _; absorbed = All-nil _ }
