-- The laws of keywords that evaluate an instance by a course. For each type of keyword, it remains
-- to show that each question is asked at a place that is present.
use Rattle.std.proofs.Common.{◌≡◌, ◌∙◌, ℕ, zero, suc, ◌+◌, ◌<◌, ◌⊎◌, ◌&&◌, ◌++◌, ◌∷◌, [], List, Bool, true, false, Option, refl, sym, ap, subst, arith, map}
use Rattle.std.specs.Prelude.{All, Contains, ◌↔◌}
use Rattle.std.proofs.lemmas.List.Elements.{All-append, All-map, All-nil}
use Rattle.theory_definitions.specs.Instance.{Subject, Text, a_name}
use Rattle.schema_reports.specs.ReportViews.{spoken}
use Rattle.theory_definitions.specs.Reports.{Unit_, report_of}
use Rattle.theory_definitions.specs.Matching.{Matching}
use Rattle.theory_definitions.specs.Keywords.{Answer, Answers, Fault, Marked, Question, Reply, Turn, all_valid, ask, done, ecma, for_all, for_first, for_units, for_verdict, mark, match_text, own, unmark, is_spanned}
use Rattle.theory_definitions.specs.Keywords as spec
use Rattle.theory_definitions.specs.Laws.{Agrees, AsksRightly, IsRight, PassesUnchanged, StandsInside, answer_in}
use Rattle.theory_definitions.specs.Remembering.{AlwaysAsksVerdict, AsksVerdict, EachAsksVerdicts}
use Rattle.theory_definitions.specs.Turns.{FunctionLaws, Standing, TurnLaws, next, reply_to, step_at as turn_at}
use Rattle.theory_meaning.specs.Greatest.{IsMonotone}
use Rattle.theory_meaning.specs.UnitsLead.{EachHandsUnitsOn, IsHandedOn}
use Rattle.schema_traits.specs.KeywordViews.{fresh, is_nil, mode_of}
use Rattle.schema_traits.specs.UnitQuestions.{AlwaysAsksForLess, AsksForLess, AsksNoUnits}
use Rattle.schema_traits.specs.declared.keyword.Mode.{Mode}
use Rattle.schema_traits.specs.declared.keyword.Mode.TheVariants as mode
use Rattle.keyword_authoring.specs.OwnWays.{same_questions, spoken_way}
use Rattle.keyword_authoring.specs.Places.{AsksPresent}
use Rattle.keyword_authoring.specs.Somes.{somes}
use Rattle.keyword_authoring.specs.WayGrows.{SaysYesWhere, own_grow, way_grows}
use Rattle.keyword_authoring.specs.WayHandsOn.{ways_hand_units_on}
use Rattle.keyword_authoring.specs.WayLaws.{turn_laws}
use Rattle.keyword_authoring.specs.WayReads.{way_agrees, way_faults_read, way_holds_reads, way_passes, way_stands_inside, way_units_read, way_units_valid}
use Rattle.keyword_authoring.specs.WayRuns.{fits_begun, replies_by, reply_for}
use Rattle.keyword_authoring.specs.WayUnits.{WantsNone, mode-kept, step_for_less}
use Rattle.keyword_authoring.specs.WayVerdicts.{WantsVerdict, step_for_verdict}
use Rattle.keyword_authoring.specs.WayWords.{run_replies, words_of}
use Rattle.keyword_authoring.specs.Ways.{Way, asks_match, branches, judges, left_of, mode_from, passes_on, passes_some, places, plain, questions, step_at, tells, way_faults}
use Rattle.keyword_authoring.specs.declared.run.Progress.{Progress}
use Rattle.keyword_authoring.specs.declared.run.Stage.{Stage}
use Rattle.keyword_authoring.specs.declared.run.Stage.TheVariants.{Asked, Begun, Counted, Ended}
use Rattle.standard_applicators.specs.CourseRuns.{IsCourseEnd, course_ends, course_falls, course_keeps, course_stands}
use Rattle.standard_applicators.specs.Courses.{Course, any_run, asked_by, by_way, course_faults, course_holds, course_places, course_step, course_turn, course_units, course_words, ends_in, ends_run, fits_by, fits_in, left_to_ask, none_absorbed, spoken_by, spoken_course, tells_first, turns_left}

-- ---- The questions are the same whether texts are claimed or not.

same_way_places : (texts : Bool) (w : Way) → places (spoken_way texts w) ≡ places w
same_way_places texts (tells name ts) = refl
same_way_places texts (passes_on qs) = refl
same_way_places texts (passes_some os) = refl
same_way_places texts (judges t qs) = refl
same_way_places texts (branches q one other) = refl
same_way_places texts (asks_match name p text) = refl

same_places : (texts : Bool) (c : Course) → course_places (spoken_course texts c) ≡ course_places c
same_places texts (by_way w) = same_way_places texts w
same_places texts (tells_first name ts os) = refl

same_asked : (texts : Bool) (c : Course) → asked_by (spoken_course texts c) ≡ asked_by c
same_asked texts (by_way w) = same_questions texts w
same_asked texts (tells_first name ts os) = refl

-- ---- the questions of a turn

-- each way, as a keyword of its own
abbrev alone : Bool → Way → Subject → Way
alone texts w s = w

some_left : (stage : Stage) (e : Bool) (os : List (Option Question)) (q : Question) → Contains (somes (left_to_ask stage e os)) q → Contains (somes os) q
some_left Begun true os q h = absurd (omega (arith, h.1))
some_left Begun false os q h = h
some_left (Asked i) e os q h = h
some_left (Counted i n) e os q h = h
some_left Ended e os q h = h

-- ---- the functions of a course

both_agree : (all : Bool) (es fs : List Fault) (b : Bool) → is_nil es ≡ b → ((all ≡ true) ↔ (fs ≡ [])) → ((b && all) ≡ true) ↔ (es ++ fs ≡ [])
both_agree all [] fs true h agrees = agrees
both_agree all (e ∷ es) fs true h agrees = cc
both_agree all [] fs false h agrees = cc
both_agree all (e ∷ es) fs false h agrees = ((λ t. cc), (λ t. cc))

as_long : (f : Text → Fault) (ts : List Text) → is_nil (map f ts) ≡ is_nil ts
as_long f [] = refl
as_long f (t ∷ ts) = refl

and_true : (b : Bool) → (b && true) ≡ b
and_true true = refl
and_true false = refl

pub course_agrees : (c : Course) (matching : Matching) (a : Answers) → ((q : Question) → Agrees (a q)) → (course_holds c matching (λ q. (a q).verdict) ≡ true) ↔ (course_faults c matching a ≡ [])
course_agrees (by_way w) matching a agrees = way_agrees w matching a agrees
course_agrees (tells_first name ts os) matching a agrees =
    both_agree _ (map (λ t. own (plain name t)) ts) (way_faults (passes_some os) matching a) (is_nil ts) (as_long (λ t. own (plain name t)) ts) (way_agrees (passes_some os) matching a agrees)

pub course_valid : (c : Course) (matching : Matching) (u : Question → Unit_) → all_valid (course_units c matching u) ≡ course_holds c matching (λ q. (report_of (u q)).valid)
course_valid (by_way w) matching u = way_units_valid w matching u
course_valid (tells_first name ts os) matching u = and_true _

pub course_holds_read : (c : Course) (matching : Matching) (a b : Question → Bool) → All (λ q. a q ≡ b q) (asked_by c) → course_holds c matching a ≡ course_holds c matching b
course_holds_read (by_way w) matching a b h = way_holds_reads w matching a b h
course_holds_read (tells_first name ts os) matching a b h = ap (λ all. is_nil ts && all) (way_holds_reads (passes_some os) matching a b h)

pub course_faults_read : (c : Course) (matching : Matching) (a b : Answers) → All (λ q. a q ≡ b q) (asked_by c) → course_faults c matching a ≡ course_faults c matching b
course_faults_read (by_way w) matching a b h = way_faults_read w matching a b h
course_faults_read (tells_first name ts os) matching a b h = ap (λ fs. map (λ t. own (plain name t)) ts ++ fs) (way_faults_read (passes_some os) matching a b h)

pub course_units_read : (c : Course) (matching : Matching) (a b : Question → Unit_) → All (λ q. a q ≡ b q) (asked_by c) → course_units c matching a ≡ course_units c matching b
course_units_read (by_way w) matching a b h = way_units_read w matching a b h
course_units_read (tells_first name ts os) matching a b h =
    ap (λ g. record (course_units (tells_first name ts []) matching a) { valid = is_nil ts && g.valid; children = g.children }) (way_units_read (passes_some os) matching a b h)

pub course_inside : (c : Course) (matching : Matching) (s : Subject) (a : Answers) → All (StandsInside s []) (course_faults c matching a)
course_inside (by_way w) matching s a = way_stands_inside w matching s [] a
course_inside (tells_first name ts os) matching s a = All-append (StandsInside s []) (map (λ t. own (plain name t)) ts) (way_faults (passes_some os) matching a)
    (way_stands_inside (tells name ts) matching s [] a) (way_stands_inside (passes_some os) matching s [] a)

pub course_passes : (c : Course) (matching : Matching) (a : Answers) → All (PassesUnchanged a (asked_by c)) (course_faults c matching a)
course_passes (by_way w) matching a = way_passes w matching a
course_passes (tells_first name ts os) matching a = All-append (PassesUnchanged a (somes os)) (map (λ t. own (plain name t)) ts) (way_faults (passes_some os) matching a)
    (All-map (PassesUnchanged a (somes os)) (λ t. own (plain name t)) ts (λ k d h. tt)) (way_passes (passes_some os) matching a)

-- ---- monotone courses

-- a course that is monotone
abbrev pub CourseGrows : Course → Type 0
CourseGrows c = (matching : Matching) (a b : Question → Bool) → SaysYesWhere a b → course_holds c matching a ≡ true → course_holds c matching b ≡ true

-- What is reported first does not depend on any answer.
told_stays : (told x y : Bool) → (x ≡ true → y ≡ true) → (told && x) ≡ true → (told && y) ≡ true
told_stays true x y rest h = rest h
told_stays false x y rest h = h

pub told_grows : (name : Text) (ts : List Text) (os : List (Option Question)) → CourseGrows (tells_first name ts os)
told_grows name ts os matching a b where_yes h = told_stays (is_nil ts) _ _ (way_grows (passes_some os) refl matching a b where_yes) h

spoken_grows : (texts : Bool) (c : Course) → CourseGrows c → CourseGrows (spoken_course texts c)
spoken_grows texts (by_way w) grows matching a b where_yes h =
    (own_grow (λ (k : Bool) (s : Subject). w) (λ k. true) (λ k s says. grows) texts true refl).grows (a_name []) matching a b where_yes h
spoken_grows texts (tells_first name ts os) grows matching a b where_yes h = told_grows name (map (spoken texts) ts) os matching a b where_yes h

-- ---- units

module _ (u : Question → Unit_) (matching : Matching) (s : Subject) where
  course_hands_on : (c : Course) → All (IsHandedOn u (asked_by c)) (course_units c matching u).children
  course_hands_on (by_way w) = (ways_hand_units_on alone false w s matching u).own
  course_hands_on (tells_first name ts os) = (ways_hand_units_on alone false (passes_some os) s matching u).own

  abbrev ByAbsorbed : Course → spec.Named → Type 0
  ByAbsorbed c a = Contains [] a.name × All (IsHandedOn u (asked_by c)) a.children

  course_absorbs : (c : Course) → All (ByAbsorbed c) (course_units c matching u).absorbed
  course_absorbs (by_way w) = (ways_hand_units_on alone false w s matching u).absorbed
  course_absorbs (tells_first name ts os) = All-nil _

module _ {M : Type 0} (course : M → Subject → Course) where
  -- ---- the laws of the runs

  asks_rightly : (texts : Bool) (m : M) (s : Subject) (w : Way) → ((q : Question) → Contains (questions w) q → Contains (asked_by (spoken_by course texts m s)) q)
      → (t : Turn) → AsksRightly (words_of alone false) w s [] t → AsksRightly (course_words course texts) m s [] t
  asks_rightly texts m s w within (ask q mode') h = within q h
  asks_rightly texts m s w within (match_text a point) h = h
  asks_rightly texts m s w within (mark i) h = tt
  asks_rightly texts m s w within unmark h = tt
  asks_rightly texts m s w within (ecma text) h = tt
  asks_rightly texts m s w within (is_spanned step) h = tt
  asks_rightly texts m s w within done h = tt

  way_asks : (s : Subject) (w : Way) (x : Progress × Answer) (r : Reply) → AsksRightly (words_of alone false) w s [] (step_at w x.0.mode x.0.stage r)
  way_asks s w x r = (turn_laws alone (λ texts w s. (refl, refl)) false w).asks s x r tt

  course_asks : (texts : Bool) (m : M) (s : Subject) (c : Course) → c ≡ spoken_by course texts m s → (x : Progress × Answer) (r : Reply) → AsksRightly (course_words course texts) m s [] (course_step c x r)
  course_asks texts m s (by_way w) e x r = asks_rightly texts m s w (λ q h. subst (λ c. Contains (asked_by c) q) e h) (step_at w x.0.mode x.0.stage r) (way_asks s w x r)
  course_asks texts m s (tells_first name ts os) e x r =
      let w : Way = passes_some (left_to_ask x.0.stage (ends_run x.0.mode ts) os) in
      asks_rightly texts m s w (λ q h. subst (λ c. Contains (asked_by c) q) e (some_left x.0.stage (ends_run x.0.mode ts) os q h)) (step_at w x.0.mode x.0.stage r) (way_asks s w x r)

  falls : (texts : Bool) (m : M) (s : Subject) (x : Progress × Answer) (r : Reply)
      → (course_step (spoken_by course texts m s) x r ≡ done) ⊎ (turns_left course m s (course_turn (spoken_by course texts m s) x r) < turns_left course m s x)
  falls texts m s x r = subst (λ n. (course_step (spoken_by course texts m s) x r ≡ done) ⊎ (left_of n (course_turn (spoken_by course texts m s) x r).0.stage < left_of n x.0.stage))
      (same_places texts (course m s)) (course_falls (spoken_by course texts m s) x r)

  bounded : (n : ℕ) → n + 1 < n + 2
  bounded n = omega arith

  is_right : (texts : Bool) (m : M) (s : Subject) (matches : Matching) (a : Answers) (u : Question → Unit_) (same : Marked → Marked → Bool) (mode' : spec.Mode) (answer : Answer)
      → IsCourseEnd (spoken_by course texts m s) matches a u mode' answer → IsRight (course_words course texts) m s matches a u same mode' answer
  is_right texts m s matches a u same for_verdict answer h = h
  is_right texts m s matches a u same for_first answer h = h
  is_right texts m s matches a u same for_all answer h = h
  is_right texts m s matches a u same for_units answer h = h

  course_begins : (c : Course) (matching : Matching) (a : Answers) (u : Question → Unit_) (mode' : spec.Mode) (answer : Answer)
      → fits_by c (replies_by matching a u) (record { mode = mode_from mode'; stage = Begun }, answer) spec.no_reply
  course_begins (by_way w) matching a u mode' answer = fits_begun w (replies_by matching a u) (mode_from mode') spec.no_reply
  course_begins (tells_first name ts os) matching a u mode' answer =
      fits_begun (passes_some (left_to_ask Begun (ends_run (mode_from mode') ts) os)) (replies_by matching a u) (mode_from mode') spec.no_reply

  same_reply : (texts : Bool) (m : M) (x : Standing (Progress × Answer)) (mode' : Mode) (q : Question)
      → answer_in (course_words course texts) m x.subject x.matches x.answers x.unit_at x.same (mode_of mode') q ≡ reply_for mode' x.answers x.unit_at q
  same_reply texts m x mode.Verdict q = refl
  same_reply texts m x mode.First q = refl
  same_reply texts m x mode.All q = refl
  same_reply texts m x mode.Evaluate q = refl

  keeps : (texts : Bool) (m : M) (x : Standing (Progress × Answer)) → fits_in course texts m x → (turn_at (course_words course texts) m x ≡ done → ⊥)
      → fits_in course texts m (next (course_words course texts) m x) × (ends_in course texts m (next (course_words course texts) m x) ≡ ends_in course texts m x)
  keeps texts m x fits h = course_keeps (spoken_by course texts m x.subject) (run_replies x) x.state x.reply (next (course_words course texts) m x).reply fits h
      (λ q m' e. ap (reply_to (course_words course texts) m x.subject x.matches x.answers x.unit_at x.same x.marks) e ∙ same_reply texts m x m' q)
      (λ p point e. ap (reply_to (course_words course texts) m x.subject x.matches x.answers x.unit_at x.same x.marks) e)

  pub course_turn_laws : (texts : Bool) (m : M) → TurnLaws (course_words course texts) m (none_absorbed course m) (turns_left course m) (any_run course texts m) (ends_in course texts m) (fits_in course texts m)
  course_turn_laws texts m = record {
    bounded = λ s mode'. bounded (course_places (course m s));
    starts = λ s mode'. tt;
    goes_on = λ s r reply can. tt;
    falls = λ s r reply can. falls texts m s r reply;
    asks = λ s r reply can. course_asks texts m s (spoken_by course texts m s) refl r reply;
    begins = λ s mode' matches a u same agrees valid alike. (
      course_begins (spoken_by course texts m s) matches a u mode' (fresh mode'),
      is_right texts m s matches a u same mode' _ (course_ends matches a u valid (spoken_by course texts m s) mode'),
    );
    keeps = keeps texts m;
    stands = λ x fits h. course_stands (spoken_by course texts m x.subject) (run_replies x) x.state x.reply fits h;
  }

  -- ---- the laws of the functions

  -- Each keyword asks at places that are present.
  abbrev pub CoursesPresent : Type 0
  CoursesPresent = (m : M) (s : Subject) → AsksPresent s (asked_by (course m s))

  pub course_function_laws : CoursesPresent → (texts : Bool) (m : M) → FunctionLaws (course_words course texts) m (none_absorbed course m)
  course_function_laws present texts m = record {
    present = λ s. subst (AsksPresent s) (sym (same_asked texts (course m s))) (present m s);
    agree = λ s matches a agrees. course_agrees (spoken_by course texts m s) matches a agrees;
    units_valid = λ s matches u. course_valid (spoken_by course texts m s) matches u;
    holds_reads = λ s matches a b h. course_holds_read (spoken_by course texts m s) matches a b h;
    faults_read = λ s matches a b h. course_faults_read (spoken_by course texts m s) matches a b h;
    units_read = λ s matches a b h. course_units_read (spoken_by course texts m s) matches a b h;
    spans_read = λ s. All-nil _;
    spans_stand = λ s. All-nil _;
    told_spans = λ told s. All-nil _;
    stands = λ s matches a. course_inside (spoken_by course texts m s) matches s a;
    passes = λ s matches a. course_passes (spoken_by course texts m s) matches a;
  }

  -- Each keyword that declares itself monotone is monotone.
  abbrev pub CoursesGrow : (M → Bool) → Type 0
  CoursesGrow says = (m : M) (s : Subject) → says m ≡ true → CourseGrows (course m s)

  pub courses_grow : (says : M → Bool) → CoursesGrow says → (texts : Bool) (m : M) → says m ≡ true → IsMonotone (course_words course texts) m
  courses_grow says grows texts m h = record { untold = refl; grows = λ s matches a b where_yes holds. spoken_grows texts (course m s) (grows m s h) matches a b where_yes holds }

  pub courses_hand_units_on : (texts : Bool) → EachHandsUnitsOn (course_words course texts) (none_absorbed course)
  courses_hand_units_on texts m s matches u = record {
    own = course_hands_on u matches s (spoken_by course texts m s);
    absorbed = course_absorbs u matches s (spoken_by course texts m s);
  }

  -- ---- what runs request

  course_for_less : (c : Course) (x : Progress × Answer) (r : Reply) → WantsNone x.0.mode → AsksForLess (course_step c x r)
  course_for_less (by_way w) x r none = step_for_less w x.0.mode x.0.stage r none
  course_for_less (tells_first name ts os) x r none = step_for_less (passes_some (left_to_ask x.0.stage (ends_run x.0.mode ts) os)) x.0.mode x.0.stage r none

  -- Each turn keeps the run's mode.
  turns_for_less : (texts : Bool) (m : M) (s : Subject) (n : ℕ) (x : Progress × Answer) (r : Reply) → WantsNone x.0.mode → AlwaysAsksForLess (course_words course texts) m s n x r
  turns_for_less texts m s zero x r none = tt
  turns_for_less texts m s (suc n) x r none =
      (course_for_less (spoken_by course texts m s) x r none, λ next'. turns_for_less texts m s n ((course_words course texts).turn m s x r) next' none)

  pub courses_ask_no_units : (texts : Bool) → AsksNoUnits (course_words course texts)
  courses_ask_no_units texts = λ m s mode' none.
      turns_for_less texts m s ((course_words course texts).most_turns m s) ((course_words course texts).begin m s mode') spec.no_reply (λ e. none (sym (mode-kept mode') ∙ e))

  course_for_verdict : (c : Course) (x : Progress × Answer) (r : Reply) → WantsVerdict x.0.mode → AsksVerdict (course_step c x r)
  course_for_verdict (by_way w) x r wants = step_for_verdict w x.0.mode x.0.stage r wants
  course_for_verdict (tells_first name ts os) x r wants = step_for_verdict (passes_some (left_to_ask x.0.stage (ends_run x.0.mode ts) os)) x.0.mode x.0.stage r wants

  turns_for_verdict : (texts : Bool) (m : M) (s : Subject) (n : ℕ) (x : Progress × Answer) (r : Reply) → WantsVerdict x.0.mode → AlwaysAsksVerdict (course_words course texts) m s n x r
  turns_for_verdict texts m s zero x r wants = tt
  turns_for_verdict texts m s (suc n) x r wants =
      (course_for_verdict (spoken_by course texts m s) x r wants, λ next'. turns_for_verdict texts m s n ((course_words course texts).turn m s x r) next' wants)

  pub courses_ask_verdicts : (texts : Bool) → EachAsksVerdicts (course_words course texts)
  courses_ask_verdicts texts = λ m s.
      turns_for_verdict texts m s ((course_words course texts).most_turns m s) ((course_words course texts).begin m s for_verdict) spec.no_reply refl
