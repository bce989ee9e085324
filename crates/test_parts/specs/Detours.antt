-- A keyword that takes a detour: if errors are requested, it first asks whether each of some
-- patterns matches the instance, and drops the replies. Then it goes on as the keyword that it
-- wraps. Only the tests make one.
use Rattle.std.proofs.Common.{Bool, List, arith, inl, inr, length, refl, subst, suc, sym, zero, ℕ, [], ◌+◌, ◌<◌, ◌≡◌, ◌≤◌, ◌⊎◌}
use Rattle.std.specs.Prelude.{slice_get, unwrap_or}
use Rattle.theory_definitions.specs.Instance.{Subject, Text}
use Rattle.theory_definitions.specs.Reports.{Unit_, report_of}
use Rattle.theory_definitions.specs.Matching.{Matching}
use Rattle.theory_definitions.specs.Keywords.{Answer, Answers, Keywords, Marked, Question, Reply, Turn, ask, done, ecma, mark, match_text, unmark, for_all, for_first, for_units, for_verdict, is_spanned}
use Rattle.theory_definitions.specs.Keywords as spec
use Rattle.theory_definitions.specs.Laws.{Agrees, AnsweredAlike, AsksRightly, IsRight}
use Rattle.theory_definitions.specs.Turns.{FunctionLaws, Standing, TurnLaws, next, reply_to, standing, step_at, turned}
use Rattle.schema_traits.specs.KeywordViews.{fresh}
use Rattle.schema_traits.specs.declared.keyword.Mode.TheVariants as mode
use Rattle.keyword_authoring.specs.declared.run.Stage.TheVariants.{Begun}
use Rattle.standard_basics.specs.BasicShape.{BasicShape}
use Rattle.standard_basics.specs.declared.names.NamesRun.{NamesRun}
use Rattle.standard_basics.specs.Counts.{subject_string}
use Rattle.keyword_authoring.specs.Ways.{match_point}
use Rattle.keyword_authoring.specs.WayRuns.{fits_at, fits_begun, replies_by}
use Rattle.standard_basics.specs.Words.{ends_in, fits_in, run_way, turns_left, words}
use Rattle.standard_basics.specs.Laws.{functions_keep, none_absorbed, turns_keep}

-- the patterns of the detour, and the keyword that it wraps
abbrev pub Detour : Type 0
Detour = List Text × BasicShape

-- the number of matches of the detour that are left, and the keyword's own run
abbrev pub Detouring : Type 0
Detouring = ℕ × NamesRun

-- the number of matches that come first
abbrev pub matches_before : List Text → spec.Mode → ℕ
matches_before ps for_verdict = 0
matches_before ps for_first = length ps
matches_before ps for_all = length ps
matches_before ps for_units = 0

abbrev pub pattern_at : List Text → ℕ → Text
pattern_at ps k = unwrap_or (slice_get ps k) []

-- the text that is matched; it is empty if the instance is not a text
abbrev pub text_in : Subject → Text
text_in s = unwrap_or (subject_string s) []

-- the match after which this many are left
abbrev pub match_at : List Text → Text → ℕ → Turn
match_at ps text k = match_text (record { pattern = pattern_at ps k; subject = text }) (match_point mode.First (pattern_at ps k))

abbrev pub step_left : ℕ → Turn → (ℕ → Turn) → Turn
step_left zero own detour = own
step_left (suc k) own detour = detour k

abbrev pub turn_left : ℕ → NamesRun × Answer → NamesRun × Answer → Detouring × Answer
turn_left zero own r = ((0, own.0), own.1)
turn_left (suc k) own r = ((k, r.0), r.1)

abbrev pub detour_words : Bool → Keywords Detour (Detouring × Answer)
detour_words texts = record {
  texts = texts;
  may_ask = λ m s. (words texts).may_ask m.1 s;
  spans = λ m s. (words texts).spans m.1 s;
  is_told = λ m. (words texts).is_told m.1;
  holds = λ m s matches accepts. (words texts).holds m.1 s matches accepts;
  faults = λ m s matches answers. (words texts).faults m.1 s matches answers;
  units = λ m s matches unit_at. (words texts).units m.1 s matches unit_at;
  most_turns = λ m s. length m.0 + (words texts).most_turns m.1 s;
  begin = λ m s mode'. ((matches_before m.0 mode', ((words texts).begin m.1 s mode').0), fresh mode');
  turn = λ m s r reply. turn_left r.0.0 ((words texts).turn m.1 s (r.0.1, r.1) reply) (r.0.1, r.1);
  step = λ m s r reply. step_left r.0.0 ((words texts).step m.1 s (r.0.1, r.1) reply) (match_at m.0 (text_in s));
  answer = λ r. r.1;
}

abbrev pub nothing_absorbed : Detour → List Text
nothing_absorbed m = []

-- the turns that are left at most
abbrev pub detour_left : Detour → Subject → Detouring × Answer → ℕ
detour_left m s r = r.0.0 + turns_left m.1 s (r.0.1, r.1)

-- a run can be in any state
abbrev pub detour_can : Bool → Detour → Subject → Detouring × Answer → Type 0
detour_can texts m s r = Unit {0}

-- the keyword's own run
abbrev pub own_run : Standing (Detouring × Answer) → Standing (NamesRun × Answer)
own_run x = record {
  subject = x.subject;
  matches = x.matches;
  answers = x.answers;
  unit_at = x.unit_at;
  same = x.same;
  marks = x.marks;
  state = (x.state.0.1, x.state.1);
  reply = x.reply;
}

-- the detour does not change the end
abbrev pub detour_ends : Bool → Detour → Standing (Detouring × Answer) → Answer
detour_ends texts m x = ends_in texts m.1 (own_run x)

-- during the detour, the keyword's own run is at its beginning
abbrev pub fits_left : ℕ → NamesRun → Type 0 → Type 0
fits_left zero r own = own
fits_left (suc k) r own = r.progress.stage ≡ Begun

abbrev pub detour_fits : Bool → Detour → Standing (Detouring × Answer) → Type 0
detour_fits texts m x = fits_left x.state.0.0 x.state.0.1 (fits_in texts m.1 (own_run x))

-- ---- the laws

few_before : (ps : List Text) (mode' : spec.Mode) → matches_before ps mode' ≤ length ps
few_before ps for_verdict = omega arith
few_before ps for_first = omega arith
few_before ps for_all = omega arith
few_before ps for_units = omega arith

bounded_by : (a b c d : ℕ) → a ≤ b → c < d → a + c < b + d
bounded_by a b c d h k = omega arith

falls_alone : (a b : ℕ) → a < b → 0 + a < 0 + b
falls_alone a b h = omega arith

falls_by : (k n : ℕ) → k + n < suc k + n
falls_by k n = omega arith

falls : (texts : Bool) (m : Detour) (s : Subject) (left : ℕ) (r : NamesRun × Answer) (reply : Reply)
    → (step_left left ((words texts).step m.1 s r reply) (match_at m.0 (text_in s)) ≡ done)
    ⊎ (detour_left m s (turn_left left ((words texts).turn m.1 s r reply) r) < left + turns_left m.1 s r)
falls texts m s zero r reply = elim ((turns_keep texts m.1).falls s r reply tt) [
  | inl h ↦ inl h
  | inr h ↦ inr (falls_alone _ _ h)
]
falls texts m s (suc k) r reply = inr (falls_by k (turns_left m.1 s r))

asks_as : (texts : Bool) (m : Detour) (s : Subject) (t : Turn) → AsksRightly (words texts) m.1 s [] t → AsksRightly (detour_words texts) m s [] t
asks_as texts m s (ask q mode') h = h
asks_as texts m s (match_text a point) h = h
asks_as texts m s (mark i) h = tt
asks_as texts m s unmark h = tt
asks_as texts m s (ecma text) h = tt
asks_as texts m s (is_spanned step) h = tt
asks_as texts m s done h = tt

asks : (texts : Bool) (m : Detour) (s : Subject) (left : ℕ) (r : NamesRun × Answer) (reply : Reply)
    → AsksRightly (detour_words texts) m s [] (step_left left ((words texts).step m.1 s r reply) (match_at m.0 (text_in s)))
asks texts m s zero r reply = asks_as texts m s ((words texts).step m.1 s r reply) ((turns_keep texts m.1).asks s r reply tt)
asks texts m s (suc k) r reply = (refl, ([], refl), tt)

begun_fits : (left : ℕ) (r : NamesRun) (own : Type 0) → r.progress.stage ≡ Begun → own → fits_left left r own
begun_fits zero r own e h = h
begun_fits (suc k) r own e h = e

right_as : (texts : Bool) (m : Detour) (s : Subject) (matches : Matching) (a : Answers) (u : Question → Unit_) (same : Marked → Marked → Bool) (mode' : spec.Mode) (answer : Answer)
    → IsRight (words texts) m.1 s matches a u same mode' answer → IsRight (detour_words texts) m s matches a u same mode' answer
right_as texts m s matches a u same for_verdict answer h = h
right_as texts m s matches a u same for_first answer h = h
right_as texts m s matches a u same for_all answer h = h
right_as texts m s matches a u same for_units answer h = h

begins : (texts : Bool) (m : Detour) (s : Subject) (mode' : spec.Mode) (matches : Matching) (a : Answers) (u : Question → Unit_) (same : Marked → Marked → Bool)
    → ((q : Question) → Agrees (a q)) → ((q : Question) → (report_of (u q)).valid ≡ (a q).verdict) → AnsweredAlike same a
    → detour_fits texts m (standing (detour_words texts) m s mode' matches a u same)
    × IsRight (detour_words texts) m s matches a u same mode' (detour_ends texts m (standing (detour_words texts) m s mode' matches a u same))
begins texts m s mode' matches a u same agrees valid alike =
    let own = (turns_keep texts m.1).begins s mode' matches a u same agrees valid alike in
    (begun_fits (matches_before m.0 mode') ((words texts).begin m.1 s mode').0 _ refl own.0, right_as texts m s matches a u same mode' _ own.1)

same_reply : (texts : Bool) (m : Detour) (s : Subject) (matches : Matching) (a : Answers) (u : Question → Unit_) (same : Marked → Marked → Bool) (marks : List Marked) (t : Turn)
    → reply_to (words texts) m.1 s matches a u same marks t ≡ reply_to (detour_words texts) m s matches a u same marks t
same_reply texts m s matches a u same marks (ask q for_verdict) = refl
same_reply texts m s matches a u same marks (ask q for_first) = refl
same_reply texts m s matches a u same marks (ask q for_all) = refl
same_reply texts m s matches a u same marks (ask q for_units) = refl
same_reply texts m s matches a u same marks (match_text p point) = refl
same_reply texts m s matches a u same marks (mark i) = refl
same_reply texts m s matches a u same marks unmark = refl
same_reply texts m s matches a u same marks (ecma text) = refl
same_reply texts m s matches a u same marks (is_spanned step) = refl
same_reply texts m s matches a u same marks done = refl

-- the run with this many matches left
abbrev with_left : ℕ → Standing (Detouring × Answer) → Standing (Detouring × Answer)
with_left left x = record x { state = ((left, x.state.0.1), x.state.1) }

-- a reply that comes after the detour fits a run at its beginning
fits_after : (texts : Bool) (m : Detour) (x : Standing (NamesRun × Answer)) → x.state.0.progress.stage ≡ Begun → fits_in texts m.1 x
fits_after texts m x e = subst (λ stage. fits_at (run_way texts (m.1, x.state.0.names) x.subject) (replies_by x.matches x.answers x.unit_at) x.state.0.progress.mode stage x.reply) (sym e)
    (fits_begun (run_way texts (m.1, x.state.0.names) x.subject) (replies_by x.matches x.answers x.unit_at) x.state.0.progress.mode x.reply)

-- a turn keeps the fit, and the end
abbrev Kept : Bool → Detour → Standing (Detouring × Answer) → Type 0
Kept texts m x = detour_fits texts m (next (detour_words texts) m x) × (detour_ends texts m (next (detour_words texts) m x) ≡ detour_ends texts m x)

keeps : (texts : Bool) (m : Detour) (left : ℕ) (x : Standing (Detouring × Answer)) → detour_fits texts m (with_left left x)
    → (step_at (detour_words texts) m (with_left left x) ≡ done → ⊥) → Kept texts m (with_left left x)
keeps texts m zero x fits h =
    let own = (turns_keep texts m.1).keeps (own_run x) fits h in (
      subst (λ reply. fits_in texts m.1 (record (next (words texts) m.1 (own_run x)) { reply = reply }))
          (same_reply texts m x.subject x.matches x.answers x.unit_at x.same x.marks (step_at (words texts) m.1 (own_run x))) own.0,
      own.1,
    )
keeps texts m (suc k) x fits h = (begun_fits k x.state.0.1 _ fits (fits_after texts m (own_run (next (detour_words texts) m (with_left (suc k) x))) fits), refl)

stands : (texts : Bool) (m : Detour) (left : ℕ) (x : Standing (Detouring × Answer)) → detour_fits texts m (with_left left x)
    → step_at (detour_words texts) m (with_left left x) ≡ done → (detour_words texts).answer (turned (detour_words texts) m (with_left left x)) ≡ detour_ends texts m (with_left left x)
stands texts m zero x fits h = (turns_keep texts m.1).stands (own_run x) fits h
stands texts m (suc k) x fits h = cc

pub detour_turns : (texts : Bool) (m : Detour) → TurnLaws (detour_words texts) m (nothing_absorbed m) (detour_left m) (detour_can texts m) (detour_ends texts m) (detour_fits texts m)
detour_turns texts m = record {
  bounded = λ s mode'. bounded_by _ _ _ _ (few_before m.0 mode') ((turns_keep texts m.1).bounded s mode');
  starts = λ s mode'. tt;
  goes_on = λ s r reply can. tt;
  falls = λ s r reply can. falls texts m s r.0.0 (r.0.1, r.1) reply;
  asks = λ s r reply can. asks texts m s r.0.0 (r.0.1, r.1) reply;
  begins = begins texts m;
  keeps = λ x fits h. keeps texts m x.state.0.0 x fits h;
  stands = λ x fits h. stands texts m x.state.0.0 x fits h;
}

pub detour_functions : (texts : Bool) (m : Detour) → FunctionLaws (detour_words texts) m (nothing_absorbed m)
detour_functions texts m =
    let own : FunctionLaws (words texts) m.1 (none_absorbed m.1) = functions_keep texts m.1 in
    record {
      present = own.present;
      agree = own.agree;
      units_valid = own.units_valid;
      holds_reads = own.holds_reads;
      faults_read = own.faults_read;
      units_read = own.units_read;
      spans_read = own.spans_read;
      spans_stand = own.spans_stand;
      told_spans = own.told_spans;
      stands = own.stands;
      passes = own.passes;
    }
