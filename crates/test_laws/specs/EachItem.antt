-- A keyword that validates each item against its only child, the last item first. Its run holds the
-- number of items that are left, which it stores at the beginning. So its questions are right, and
-- it ends within the bound on its turns, only if no more items are left than the instance has.
use Rattle.std.proofs.Common.{◌≡◌, ◌∙◌, ℕ, zero, suc, ◌+◌, ◌<◌, ◌≤◌, ◌&&◌, ◌⊎◌, ◌∷◌, [], List, Bool, true, false, not, refl, sym, ap, ap₂, arith, inl, inr}
use Rattle.std.specs.Prelude.{All, Contains, ⊤}
use Rattle.std.specs.List.{list_all}
use Rattle.std.proofs.lemmas.List.Elements.{All-nil, All-cons, All-head, All-tail, All-weaker, Contains-append_right}
use Rattle.theory_definitions.specs.Instance.{Subject, Text}
use Rattle.theory_definitions.specs.Reports.{Unit_, report_of}
use Rattle.theory_definitions.specs.Keywords.{Answer, Answers, Keywords, Marked, Mode, Question, Reply, Turn, all_of_it, ask, done, first_of_it, for_all, for_first, for_units, for_verdict, no_reply, truth, unit_of_it}
use Rattle.theory_definitions.specs.Laws.{AsksRightly, IsPresent, IsRight, steps_below}
use Rattle.theory_definitions.specs.Matching.{Matching}
use Rattle.theory_definitions.specs.Remembering.{AlwaysAsksVerdict, AsksVerdict, EachAsksVerdicts}
use Rattle.theory_definitions.specs.Turns.{FunctionLaws, Standing, TurnLaws, next, step_at, turned}
use Rattle.theory_meaning.specs.Greatest.{IsMonotone}
use Rattle.theory_meaning.specs.UnitsLead.{EachHandsUnitsOn}
use Rattle.schema_traits.specs.KeywordViews.{fresh}
use Rattle.schema_traits.specs.UnitQuestions.{AlwaysAsksForLess, AsksForLess, AsksNoUnits}
use Rattle.keyword_authoring.specs.Items.{first_at_item, item_count}
use Rattle.keyword_authoring.specs.Places.{item_present}
use Rattle.keyword_authoring.specs.WayGrows.{way_grows}
use Rattle.keyword_authoring.specs.Ways.{passes_on}
use Rattle.test_laws.specs.Refusals.{agree, and_true, refusals, refusals_pass, refusals_stand, told, told_all, told_first, told_gives, told_valid, told_verdict, unit_of}

-- the number of items that are left, and whether those before were accepted
abbrev pub Left : Type 0
Left = ℕ × Bool

-- the questions at this many items, the last one first
abbrev pub down_from : ℕ → List Question
down_from zero = []
down_from (suc n) = first_at_item n ∷ down_from n

abbrev pub all_items : Subject → List Question
all_items s = down_from (item_count s)

abbrev pub holds_by : Subject → (Question → Bool) → Bool
holds_by s accepts = list_all accepts (all_items s)

-- a reply that refuses
abbrev pub says_no : Reply → Bool
says_no (truth b) = not b
says_no no_reply = false
says_no (first_of_it e) = false
says_no (all_of_it es) = false
says_no (unit_of_it u) = false

abbrev pub so_far : Bool → Reply → Bool
so_far accepted reply = accepted && not (says_no reply)

abbrev pub turn_left : Bool → ℕ → Bool → Answer → Left × Answer
turn_left texts zero accepted a = ((0, accepted), told texts accepted a)
turn_left texts (suc n) accepted a = ((n, accepted), a)

abbrev pub step_left : ℕ → Turn
step_left zero = done
step_left (suc n) = ask (first_at_item n) for_verdict

abbrev pub each_words : Bool → Keywords ⊤ (Left × Answer)
each_words texts = record {
  texts = texts;
  may_ask = λ m s. all_items s;
  spans = λ m s. [];
  is_told = λ m. false;
  holds = λ m s matches accepts. holds_by s accepts;
  faults = λ m s matches answers. refusals texts (holds_by s (λ q. (answers q).verdict));
  units = λ m s matches unit_at. unit_of texts (holds_by s (λ q. (report_of (unit_at q)).valid));
  most_turns = λ m s. item_count s + 1;
  begin = λ m s mode. ((item_count s, true), fresh mode);
  turn = λ m s r reply. turn_left texts r.0.0 (so_far r.0.1 reply) r.1;
  step = λ m s r reply. step_left r.0.0;
  answer = λ r. r.1;
}

abbrev pub each_absorbed : ⊤ → List Text
each_absorbed m = []

abbrev pub each_left : ⊤ → Subject → Left × Answer → ℕ
each_left m s r = r.0.0

-- no more items are left than the instance has
abbrev pub each_can_be : Bool → ⊤ → Subject → Left × Answer → Type 0
each_can_be texts m s r = r.0.0 ≤ item_count s

abbrev pub each_ends : Bool → ⊤ → Standing (Left × Answer) → Answer
each_ends texts m x = told texts (so_far x.state.0.1 x.reply && list_all (λ q. (x.answers q).verdict) (down_from x.state.0.0)) x.state.1

abbrev pub each_fits : Bool → ⊤ → Standing (Left × Answer) → Type 0
each_fits texts m x = Unit {0}

-- ---- the laws

fewer : (n : ℕ) → n < n + 1
fewer n = omega arith

itself : (n : ℕ) → n ≤ n
itself n = omega arith

below : (n k : ℕ) → suc n ≤ k → n < k
below n k h = omega (arith, h)

less : (n k : ℕ) → suc n ≤ k → n ≤ k
less n k h = omega (arith, h)

falls : (texts : Bool) (n : ℕ) (b : Bool) (a : Answer) → (step_left n ≡ done) ⊎ ((turn_left texts n b a).0.0 < n)
falls texts zero b a = inl refl
falls texts (suc n) b a = inr (omega arith)

stays : (texts : Bool) (n k : ℕ) (b : Bool) (a : Answer) → n ≤ k → (turn_left texts n b a).0.0 ≤ k
stays texts zero k b a h = h
stays texts (suc n) k b a h = less n k h

-- the keyword asks about each item that is left
asked : (n k : ℕ) → suc n ≤ k → Contains (down_from k) (first_at_item n)
asked n zero h = absurd (omega (arith, h))
asked n (suc k) h = go (asked n k) (at_most n k h)
  where
    at_most : (n k : ℕ) → suc n ≤ suc k → (n ≡ k) ⊎ (suc n ≤ k)
    at_most zero zero h = inl refl
    at_most zero (suc k) h = inr (omega arith)
    at_most (suc n) zero h = absurd (omega (arith, h))
    at_most (suc n) (suc k) h = elim (at_most n k (omega (arith, h))) [ inl e ↦ inl (ap suc e) | inr l ↦ inr (omega (arith, l)) ]

    go : (suc n ≤ k → Contains (down_from k) (first_at_item n)) → (n ≡ k) ⊎ (suc n ≤ k) → Contains (down_from (suc k)) (first_at_item n)
    go fewer (inl e) = (zero, omega arith, ap first_at_item (sym e))
    go fewer (inr l) = Contains-append_right (first_at_item k ∷ []) (down_from k) (first_at_item n) (fewer l)

asks : (texts : Bool) (m : ⊤) (s : Subject) (n : ℕ) → n ≤ item_count s → AsksRightly (each_words texts) m s [] (step_left n)
asks texts m s zero h = tt
asks texts m s (suc n) h = asked n (item_count s) h

each_present : (s : Subject) (n : ℕ) → n ≤ item_count s → All (λ q. IsPresent s (steps_below q.below)) (down_from n)
each_present s zero h = All-nil _
each_present s (suc n) h = All-cons (λ q. IsPresent s (steps_below q.below)) (first_at_item n) (down_from n) (item_present s n (below n (item_count s) h)) (each_present s n (less n (item_count s) h))

is_right : (texts : Bool) (m : ⊤) (s : Subject) (matches : Matching) (a : Answers) (u : Question → Unit_) (same : Marked → Marked → Bool) (mode : Mode)
    → ((q : Question) → (report_of (u q)).valid ≡ (a q).verdict)
    → IsRight (each_words texts) m s matches a u same mode (told texts (holds_by s (λ q. (a q).verdict)) (fresh mode))
is_right texts m s matches a u same for_verdict valid = told_verdict texts (holds_by s (λ q. (a q).verdict))
is_right texts m s matches a u same for_first valid = told_first texts (holds_by s (λ q. (a q).verdict))
is_right texts m s matches a u same for_all valid = told_all texts (holds_by s (λ q. (a q).verdict))
is_right texts m s matches a u same for_units valid = (
  told_gives texts (holds_by s (λ q. (a q).verdict)) ∙ ap (λ v. unit_of texts (holds_by s v)) (λ i q. sym (valid q) i),
  told_valid texts (holds_by s (λ q. (a q).verdict)),
)

-- a reply with a verdict refuses if the verdict is no
pub one_more : (accepted verdict rest : Bool) → ((accepted && not (not verdict)) && rest) ≡ (accepted && (verdict && rest))
one_more true true rest = refl
one_more true false rest = refl
one_more false verdict rest = refl

ends_same : (texts : Bool) (n : ℕ) (accepted : Bool) (answers : Answers) (a : Answer)
    → told texts (so_far accepted (truth (answers (first_at_item n)).verdict) && list_all (λ q. (answers q).verdict) (down_from n)) a
    ≡ told texts (accepted && list_all (λ q. (answers q).verdict) (down_from (suc n))) a
ends_same texts n accepted answers a = ap (λ b. told texts b a) (one_more accepted (answers (first_at_item n)).verdict (list_all (λ q. (answers q).verdict) (down_from n)))

-- the run with this many items left
abbrev with_left : ℕ → Standing (Left × Answer) → Standing (Left × Answer)
with_left n x = record x { state = ((n, x.state.0.1), x.state.1) }

keeps : (texts : Bool) (m : ⊤) (n : ℕ) (x : Standing (Left × Answer)) → (step_at (each_words texts) m (with_left n x) ≡ done → ⊥)
    → each_ends texts m (next (each_words texts) m (with_left n x)) ≡ each_ends texts m (with_left n x)
keeps texts m zero x h = absurd (h refl)
keeps texts m (suc n) x h = ends_same texts n (so_far x.state.0.1 x.reply) x.answers x.state.1

stands : (texts : Bool) (m : ⊤) (n : ℕ) (x : Standing (Left × Answer)) → step_at (each_words texts) m (with_left n x) ≡ done
    → (each_words texts).answer (turned (each_words texts) m (with_left n x)) ≡ each_ends texts m (with_left n x)
stands texts m zero x h = ap (λ b. told texts b x.state.1) (sym (and_true (so_far x.state.0.1 x.reply)))
stands texts m (suc n) x h = absurd (let f : ⊥ = cc in f)

pub each_turns : (texts : Bool) (m : ⊤) → TurnLaws (each_words texts) m (each_absorbed m) (each_left m) (each_can_be texts m) (each_ends texts m) (each_fits texts m)
each_turns texts m = record {
  bounded = λ s mode. fewer (item_count s);
  starts = λ s mode. itself (item_count s);
  goes_on = λ s r reply can. stays texts r.0.0 (item_count s) (so_far r.0.1 reply) r.1 can;
  falls = λ s r reply can. falls texts r.0.0 (so_far r.0.1 reply) r.1;
  asks = λ s r reply can. asks texts m s r.0.0 can;
  begins = λ s mode matches a u same agrees valid alike. (tt, is_right texts m s matches a u same mode valid);
  keeps = λ x fits h. (tt, keeps texts m x.state.0.0 x h);
  stands = λ x fits h. stands texts m x.state.0.0 x h;
}

-- ---- its functions

all_same : (a b : Question → Bool) (qs : List Question) → All (λ q. a q ≡ b q) qs → list_all a qs ≡ list_all b qs
all_same a b [] h = refl
all_same a b (q ∷ qs) h = ap₂ (λ x y. x && y) (All-head (λ q. a q ≡ b q) q qs h) (all_same a b qs (All-tail (λ q. a q ≡ b q) q qs h))

pub each_functions : (texts : Bool) (m : ⊤) → FunctionLaws (each_words texts) m (each_absorbed m)
each_functions texts m = record {
  present = λ s. each_present s (item_count s) (itself (item_count s));
  agree = λ s matches a agrees. agree texts (holds_by s (λ q. (a q).verdict));
  units_valid = λ s matches u. and_true (holds_by s (λ q. (report_of (u q)).valid));
  holds_reads = λ s matches a b h. all_same a b (all_items s) h;
  faults_read = λ s matches a b h. ap (refusals texts) (all_same (λ q. (a q).verdict) (λ q. (b q).verdict) (all_items s)
      (All-weaker (λ q. a q ≡ b q) (λ q. (a q).verdict ≡ (b q).verdict) (λ q e. ap (λ o. o.verdict) e) (all_items s) h));
  units_read = λ s matches a b h. ap (unit_of texts) (all_same (λ q. (report_of (a q)).valid) (λ q. (report_of (b q)).valid) (all_items s)
      (All-weaker (λ q. a q ≡ b q) (λ q. (report_of (a q)).valid ≡ (report_of (b q)).valid) (λ q e. ap (λ u. (report_of u).valid) e) (all_items s) h));
  spans_read = λ s. All-nil _;
  spans_stand = λ s. All-nil _;
  told_spans = λ told s. All-nil _;
  stands = λ s matches a. refusals_stand texts s (holds_by s (λ q. (a q).verdict));
  passes = λ s matches a. refusals_pass texts a (all_items s) (holds_by s (λ q. (a q).verdict));
}

-- ---- it requests only verdicts

step_for_less : (n : ℕ) → AsksForLess (step_left n)
step_for_less zero = tt
step_for_less (suc n) = λ e. let f : ⊥ = cc in f

always_for_less : (texts : Bool) (m : ⊤) (s : Subject) (n : ℕ) (r : Left × Answer) (reply : Reply) → AlwaysAsksForLess (each_words texts) m s n r reply
always_for_less texts m s zero r reply = tt
always_for_less texts m s (suc n) r reply = (step_for_less r.0.0, λ next. always_for_less texts m s n ((each_words texts).turn m s r reply) next)

pub each_units : (texts : Bool) → AsksNoUnits (each_words texts)
each_units texts m s mode none = always_for_less texts m s (item_count s + 1) ((item_count s, true), fresh mode) no_reply

step_for_verdict : (n : ℕ) → AsksVerdict (step_left n)
step_for_verdict zero = tt
step_for_verdict (suc n) = refl

always_verdicts : (texts : Bool) (m : ⊤) (s : Subject) (n : ℕ) (r : Left × Answer) (reply : Reply) → AlwaysAsksVerdict (each_words texts) m s n r reply
always_verdicts texts m s zero r reply = tt
always_verdicts texts m s (suc n) r reply = (step_for_verdict r.0.0, λ next. always_verdicts texts m s n ((each_words texts).turn m s r reply) next)

pub each_verdicts : (texts : Bool) → EachAsksVerdicts (each_words texts)
each_verdicts texts m s = always_verdicts texts m s (item_count s + 1) ((item_count s, true), fresh for_verdict) no_reply

-- ---- it is monotone, since all items have to accept, and passes no units on

pub each_grows : (texts : Bool) (m : ⊤) → true ≡ true → IsMonotone (each_words texts) m
each_grows texts m h = record { untold = refl; grows = λ s matches a b where_yes holds. way_grows (passes_on (all_items s)) refl matches a b where_yes holds }

pub each_hands_on : (texts : Bool) → EachHandsUnitsOn (each_words texts) each_absorbed
each_hands_on texts m s matches u = record { own = All-nil _; absorbed = All-nil _ }
