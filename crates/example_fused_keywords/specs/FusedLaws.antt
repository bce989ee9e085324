-- The keywords keep the laws: the basic ones as they do by themselves, and those of an array by
-- their checks, and like any run that passes on the answers to its questions.
use Rattle.std.proofs.Common.{◌≡◌, ◌∙◌, ℕ, zero, suc, ◌+◌, ◌<◌, ◌&&◌, ◌++◌, ◌∷◌, [], List, Bool, true, false, Option, Some, None, refl, sym, ap, ap₂, subst, arith, length, map, append_assoc, append-nil}
use Rattle.std.specs.List.{list_all}
use Rattle.std.specs.Prelude.{All, Contains, flat_map, if◌then◌else◌, ◌↔◌}
use Rattle.std.proofs.lemmas.List.Elements.{All-append, All-cons, All-nil, Contains-append_right}
use Rattle.theory_definitions.specs.Instance.{Subject}
use Rattle.theory_definitions.specs.Reports.{Unit_, report_of}
use Rattle.theory_definitions.specs.Matching.{Matching}
use Rattle.theory_definitions.specs.Keywords.{Answer, Answers, Fault, Gives, Marked, Question, Reply, Turn, all_valid, ask, done, ecma, for_all, for_first, for_units, for_verdict, mark, match_text, own, unmark, is_spanned}
use Rattle.theory_definitions.specs.Keywords as spec
use Rattle.theory_definitions.specs.Laws.{AsksRightly, IsPresent, IsRight, PassesUnchanged, StandsInside, answer_in, first_fault, steps_below}
use Rattle.theory_definitions.specs.Turns.{FunctionLaws, Standing, TurnLaws, marks_after, next, reply_to, step_at, turned}
use Rattle.schema_traits.specs.KeywordViews.{is_nil, mode_of, with_errors, with_gives}
use Rattle.schema_traits.specs.declared.keyword.Mode.{Mode}
use Rattle.schema_traits.specs.declared.keyword.Mode.TheVariants as mode
use Rattle.keyword_authoring.specs.Items.{each_from, first_at_item, is_list}
use Rattle.keyword_authoring.specs.Places.{later_items_present}
use Rattle.keyword_authoring.specs.WayReads.{way_agrees, way_faults_read, way_holds_reads, way_passes, way_stands_inside, way_units_read}
use Rattle.keyword_authoring.specs.WayRuns.{Keeps, Replies, end_at, fits_begun, led, replies_by, reply_for, way_ends, way_falls, way_keeps, way_stands}
use Rattle.keyword_authoring.specs.WayWords.{run_replies}
use Rattle.keyword_authoring.specs.Ways.{Way, asked, at_first, goes_on, mode_from, next_if, nth, passes_on, stage_after, stage_at, way_faults, with_unit}
use Rattle.keyword_authoring.specs.Ways as ways
use Rattle.keyword_authoring.specs.declared.run.Stage.{Stage}
use Rattle.keyword_authoring.specs.declared.run.Stage.TheVariants.{Asked, Begun, Counted, Ended}
use Rattle.standard_basics.specs.BasicShape.{BasicShape}
use Rattle.standard_basics.specs.Laws.{functions_keep, turns_keep}
use Rattle.standard_basics.specs.Words as bench
use Rattle.standard_basics.specs.declared.names.NamesRun.{NamesRun}
use Rattle.example_fused_keywords.specs.Checks.{check_error, errors_at, holds, unless}
use Rattle.example_fused_keywords.specs.FusedShape.{FusedShape, absorbed_by, of_array, of_bench}
use Rattle.example_fused_keywords.specs.FusedWords.{fused_can_be, fused_ends, fused_fits, fused_left, fused_words, opened, run_way, with_units}
use Rattle.example_fused_keywords.specs.Openings.{absorbs, answered, before_of, checks_hold, count_in, count_of, errors, first_gives, opening, questions_of, run_questions}
use Rattle.example_fused_keywords.specs.declared.array.ArrayKeyword.{ArrayKeyword}
use Rattle.example_fused_keywords.specs.declared.array.ArrayKeyword.TheVariants.{ArrayShape, MinItems}
use Rattle.example_fused_keywords.specs.declared.checks.Check.TheVariants.{HasLeast, IsArray}

-- ---- the basic keywords

module _ (texts : Bool) (m : BasicShape) where
  bench_asks : (s : Subject) (t : Turn) → AsksRightly (bench.words texts) m s [] t → AsksRightly (fused_words texts) (of_bench m) s [] t
  bench_asks s (ask q mode') h = h
  bench_asks s (match_text a point) h = h
  bench_asks s (mark i) h = tt
  bench_asks s unmark h = tt
  bench_asks s (ecma text) h = tt
  bench_asks s (is_spanned step) h = tt
  bench_asks s done h = tt

  bench_right : (s : Subject) (matches : Matching) (a : Answers) (u : Question → Unit_) (same : Marked → Marked → Bool) (mode' : spec.Mode) (answer : Answer)
      → IsRight (bench.words texts) m s matches a u same mode' answer → IsRight (fused_words texts) (of_bench m) s matches a u same mode' answer
  bench_right s matches a u same for_verdict answer h = h
  bench_right s matches a u same for_first answer h = h
  bench_right s matches a u same for_all answer h = h
  bench_right s matches a u same for_units answer h = h

  -- a run after a turn that made this request
  abbrev bench_after : Standing (NamesRun × Answer) → Turn → Standing (NamesRun × Answer)
  bench_after x t = record x {
    marks = marks_after (bench.words texts) m x.subject x.matches x.answers x.unit_at x.same x.marks t;
    state = turned (bench.words texts) m x;
    reply = reply_to (bench.words texts) m x.subject x.matches x.answers x.unit_at x.same x.marks t;
  }

  abbrev fused_after : Standing (NamesRun × Answer) → Turn → Standing (NamesRun × Answer)
  fused_after x t = record x {
    marks = marks_after (fused_words texts) (of_bench m) x.subject x.matches x.answers x.unit_at x.same x.marks t;
    state = turned (bench.words texts) m x;
    reply = reply_to (fused_words texts) (of_bench m) x.subject x.matches x.answers x.unit_at x.same x.marks t;
  }

  same_after : (x : Standing (NamesRun × Answer)) (t : Turn) → bench_after x t ≡ fused_after x t
  same_after x (ask q for_verdict) = refl
  same_after x (ask q for_first) = refl
  same_after x (ask q for_all) = refl
  same_after x (ask q for_units) = refl
  same_after x (match_text a point) = refl
  same_after x (mark i) = refl
  same_after x unmark = refl
  same_after x (ecma text) = refl
  same_after x (is_spanned step) = refl
  same_after x done = refl

  bench_turns : TurnLaws (fused_words texts) (of_bench m) [] (fused_left (of_bench m)) (fused_can_be texts (of_bench m)) (fused_ends texts (of_bench m)) (fused_fits texts (of_bench m))
  bench_turns = let laws = turns_keep texts m in record {
    bounded = laws.bounded;
    starts = λ s mode'. tt;
    goes_on = λ s r reply can. tt;
    falls = laws.falls;
    asks = λ s r reply can. bench_asks s ((bench.words texts).step m s r reply) (laws.asks s r reply can);
    begins = λ s mode' matches a u same agrees valid alike.
        let begun = laws.begins s mode' matches a u same agrees valid alike in (begun.0, bench_right s matches a u same mode' _ begun.1);
    keeps = λ x fits h. subst (λ y. bench.fits_in texts m y × (bench.ends_in texts m y ≡ bench.ends_in texts m x)) (same_after x (step_at (bench.words texts) m x)) (laws.keeps x fits h);
    stands = laws.stands;
  }

  bench_functions : FunctionLaws (fused_words texts) (of_bench m) []
  bench_functions = let laws = functions_keep texts m in record {
    present = laws.present;
    agree = laws.agree;
    units_valid = laws.units_valid;
    holds_reads = laws.holds_reads;
    faults_read = laws.faults_read;
    units_read = laws.units_read;
    spans_read = laws.spans_read;
    spans_stand = laws.spans_stand;
    told_spans = laws.told_spans;
    stands = laws.stands;
    passes = laws.passes;
  }

-- ---- the checks of an array's keyword

nil_unless : {A : Type 0} (b : Bool) (x : A) → is_nil (unless b x) ≡ b
nil_unless true x = refl
nil_unless false x = refl

nil_both : (a b : Bool) (f g : Fault) → is_nil (unless a f ++ unless b g) ≡ (a && b)
nil_both true true f g = refl
nil_both true false f g = refl
nil_both false b f g = refl

-- there is no error if the checks hold, and at least one otherwise
no_errors : (texts : Bool) (k : ArrayKeyword) (s : Subject) → is_nil (errors texts k s) ≡ checks_hold k s
no_errors texts (MinItems n) s = nil_unless _ _
no_errors texts (ArrayShape before n) s = nil_both _ _ _ _

and_true : (b : Bool) → (b && true) ≡ b
and_true true = refl
and_true false = refl

-- its own unit and those that it absorbs are valid if the checks hold
first_valid : (texts : Bool) (k : ArrayKeyword) (s : Subject) → all_valid (first_gives texts k s) ≡ checks_hold k s
first_valid texts (MinItems n) s = and_true _
first_valid texts (ArrayShape before n) s = ap (λ b. is_list s && b) (and_true _)

-- ---- how a run of an array's keyword ends

valid_step : (b accepted all : Bool) → (if b then accepted else false) && all ≡ accepted && (b && all)
valid_step true accepted all = refl
valid_step false true all = refl
valid_step false false all = refl

led_all : (a : Answers) (u : Question → Unit_) (qs : List Question) (x : Answer)
    → (led (reply_for mode.All a u) x qs).errors ≡ x.errors ++ flat_map (λ q. map spec.passed (a q).errors) qs
led_all a u [] x = sym (append-nil x.errors)
led_all a u (q ∷ qs) x = led_all a u qs (with_errors for_all (x.errors ++ map spec.passed (a q).errors)) ∙ append_assoc x.errors (map spec.passed (a q).errors) _

led_gives : (a : Answers) (u : Question → Unit_) (qs : List Question) (x : Answer) → (led (reply_for mode.Evaluate a u) x qs).gives ≡ with_units x.gives u qs
led_gives a u [] x = ap₂ (λ v us. record x.gives { valid = v; children = us }) (sym (and_true x.gives.valid)) (sym (append-nil x.gives.children))
led_gives a u (q ∷ qs) x = led_gives a u qs (with_unit x (u q))
    ∙ ap₂ (λ v us. record x.gives { valid = v; children = us }) (valid_step (report_of (u q)).valid x.gives.valid (list_all (λ q. (report_of (u q)).valid) qs)) (append_assoc x.gives.children (u q ∷ []) (map u qs))

led_valid : (a : Answers) (u : Question → Unit_) → ((q : Question) → (report_of (u q)).valid ≡ (a q).verdict) → (qs : List Question) (x : Answer)
    → (led (reply_for mode.Evaluate a u) x qs).verdict ≡ (x.verdict && list_all (λ q. (a q).verdict) qs)
led_valid a u valid [] x = sym (and_true x.verdict)
led_valid a u valid (q ∷ qs) x = led_valid a u valid qs (with_unit x (u q)) ∙ (valid_step (report_of (u q)).valid x.verdict (list_all (λ q. (a q).verdict) qs)
    ∙ ap (λ b. x.verdict && (b && list_all (λ q. (a q).verdict) qs)) (valid q))

-- this many questions, from an index on
abbrev some : ℕ → ℕ → List Question
some before n = each_from first_at_item before n

ends_verdict : (matches : Matching) (a : Answers) (u : Question → Unit_) → ((q : Question) → (report_of (u q)).valid ≡ (a q).verdict) → (b : Bool) (es : List Fault) (g : Gives) (before n : ℕ)
    → (led (reply_for mode.Verdict a u) (answered mode.Verdict b es g) (some before (count_in mode.Verdict b n))).verdict ≡ (b && list_all (λ q. (a q).verdict) (some before n))
ends_verdict matches a u valid true es g before n = way_ends (passes_on (some before n)) matches a u valid for_verdict
ends_verdict matches a u valid false es g before n = refl

ends_first : (matches : Matching) (a : Answers) (u : Question → Unit_) → ((q : Question) → (report_of (u q)).valid ≡ (a q).verdict) → (b : Bool) (es : List Fault) (g : Gives) (before n : ℕ) → is_nil es ≡ b
    → (led (reply_for mode.First a u) (answered mode.First b es g) (some before (count_in mode.First b n))).errors ≡ first_fault (es ++ way_faults (passes_on (some before n)) matches a)
ends_first matches a u valid true [] g before n h = way_ends (passes_on (some before n)) matches a u valid for_first
ends_first matches a u valid true (e ∷ es) g before n h = cc
ends_first matches a u valid false [] g before n h = cc
ends_first matches a u valid false (e ∷ es) g before n h = refl

ends_rightly : (texts : Bool) (k : ArrayKeyword) (s : Subject) (matches : Matching) (a : Answers) (u : Question → Unit_) (same : Marked → Marked → Bool)
    → ((q : Question) → (report_of (u q)).valid ≡ (a q).verdict) → (mode' : spec.Mode)
    → IsRight (fused_words texts) (of_array k) s matches a u same mode'
    (led ((replies_by matches a u).to_question (mode_from mode')) (opening texts (mode_from mode') k s) (run_questions (mode_from mode') k s))
ends_rightly texts k s matches a u same valid for_verdict = ends_verdict matches a u valid (checks_hold k s) (errors texts k s) (first_gives texts k s) (before_of k) (count_of k s)
ends_rightly texts k s matches a u same valid for_first = ends_first matches a u valid (checks_hold k s) (errors texts k s) (first_gives texts k s) (before_of k) (count_of k s) (no_errors texts k s)
ends_rightly texts k s matches a u same valid for_all = led_all a u (questions_of k s) (with_errors for_all (errors texts k s))
ends_rightly texts k s matches a u same valid for_units = (
  led_gives a u (questions_of k s) (with_gives (first_gives texts k s)),
  led_valid a u valid (questions_of k s) (with_gives (first_gives texts k s)) ∙ ap (λ b. b && list_all (λ q. (a q).verdict) (questions_of k s)) (first_valid texts k s),
)

-- ---- its turns

each_length : (i n : ℕ) → length (some i n) ≡ n
each_length i zero = refl
each_length i (suc n) = ap suc (each_length (i + 1) n)

-- no more than these are asked
counted_or_none : (P : ℕ → Type 0) (m : Mode) (b : Bool) (n : ℕ) → P n → P 0 → P (count_in m b n)
counted_or_none P mode.Verdict true n all none = all
counted_or_none P mode.Verdict false n all none = none
counted_or_none P mode.First true n all none = all
counted_or_none P mode.First false n all none = none
counted_or_none P mode.All b n all none = all
counted_or_none P mode.Evaluate b n all none = all

bounded : (i n : ℕ) → length (some i n) + 1 < n + 2
bounded i n = let e : length (some i n) ≡ n = each_length i n in omega (arith, e)

nth_asked : (j : ℕ) (qs : List Question) (q : Question) → nth j qs ≡ Some q → Contains qs q
nth_asked zero [] q h = cc
nth_asked (suc j) [] q h = cc
nth_asked zero (p ∷ qs) q h = let e : p ≡ q = cc in (zero, omega arith, e)
nth_asked (suc j) (p ∷ qs) q h = Contains-append_right (p ∷ []) qs q (nth_asked j qs q h)

next_asked : (b : Bool) (j : ℕ) (qs : List Question) (q : Question) → next_if b (nth j qs) ≡ Some q → Contains qs q
next_asked true j qs q h = nth_asked j qs q h
next_asked false j qs q h = cc

module _ (texts : Bool) (k : ArrayKeyword) where
  asked_rightly : (s : Subject) (mode' : Mode) (o : Option Question) → ((q : Question) → o ≡ Some q → Contains (questions_of k s) q)
      → AsksRightly (fused_words texts) (of_array k) s (absorbs k) (asked mode' o)
  asked_rightly s mode' None h = tt
  asked_rightly s mode' (Some q) h = h q refl

  way_asks : (s : Subject) (qs : List Question) → ((q : Question) → Contains qs q → Contains (questions_of k s) q) → (mode' : Mode) (stage : Stage) (r : Reply)
      → AsksRightly (fused_words texts) (of_array k) s (absorbs k) (ways.step_at (passes_on qs) mode' stage r)
  way_asks s qs within mode' Begun r = asked_rightly s mode' (nth 0 qs) (λ q h. within q (nth_asked 0 qs q h))
  way_asks s qs within mode' (Asked i) r = asked_rightly s mode' (next_if (goes_on r) (nth (i + 1) qs)) (λ q h. within q (next_asked (goes_on r) (i + 1) qs q h))
  way_asks s qs within mode' (Counted i n) r = tt
  way_asks s qs within mode' Ended r = tt

  array_asks : (s : Subject) (mode' : Mode) (stage : Stage) (r : Reply) → AsksRightly (fused_words texts) (of_array k) s (absorbs k) (ways.step_at (passes_on (run_questions mode' k s)) mode' stage r)
  array_asks s mode' stage r = counted_or_none (λ n. AsksRightly (fused_words texts) (of_array k) s (absorbs k) (ways.step_at (passes_on (some (before_of k) n)) mode' stage r)) mode' (checks_hold k s) (count_of k s)
      (way_asks s (questions_of k s) (λ q h. h) mode' stage r) (way_asks s [] (λ q h. none q h) mode' stage r)
    where
      none : (q : Question) → Contains [] q → Contains (questions_of k s) q
      none q (j, within, is) = absurd (omega (arith, within))

  array_bounded : (s : Subject) (mode' : Mode) → length (run_questions mode' k s) + 1 < count_of k s + 2
  array_bounded s mode' = counted_or_none (λ n. length (some (before_of k) n) + 1 < count_of k s + 2) mode' (checks_hold k s) (count_of k s) (bounded (before_of k) (count_of k s)) (omega arith)

  same_answer : (x : Standing (NamesRun × Answer)) (mode' : Mode) (q : Question)
      → answer_in (fused_words texts) (of_array k) x.subject x.matches x.answers x.unit_at x.same (mode_of mode') q ≡ reply_for mode' x.answers x.unit_at q
  same_answer x mode.Verdict q = refl
  same_answer x mode.First q = refl
  same_answer x mode.All q = refl
  same_answer x mode.Evaluate q = refl

  -- a run that has taken a turn is past the first one
  at_behind : (i : ℕ) (o : Option Question) (told a : Answer) → at_first (stage_at i o) told a ≡ a
  at_behind i None told a = refl
  at_behind i (Some q) told a = refl

  behind : (qs : List Question) (mode' : Mode) (stage : Stage) (r : Reply) (told a : Answer) → at_first (stage_after (passes_on qs) mode' stage r) told a ≡ a
  behind qs mode' Begun r told a = at_behind 0 (nth 0 qs) told a
  behind qs mode' (Asked i) r told a = at_behind (i + 1) (next_if (goes_on r) (nth (i + 1) qs)) told a
  behind qs mode' (Counted i n) r told a = refl
  behind qs mode' Ended r told a = refl

  array_keeps : (x : Standing (NamesRun × Answer)) → fused_fits texts (of_array k) x → (step_at (fused_words texts) (of_array k) x ≡ done → ⊥)
      → fused_fits texts (of_array k) (next (fused_words texts) (of_array k) x) × (fused_ends texts (of_array k) (next (fused_words texts) (of_array k) x) ≡ fused_ends texts (of_array k) x)
  array_keeps x fits h =
      let w : Way = run_way k x.subject x.state in
      let replies : Replies = run_replies (bench.seen x) in
      let m : Mode = x.state.0.progress.mode in
      let stage : Stage = x.state.0.progress.stage in
      let a : Answer = (opened texts k x.subject x.state).1 in
      let r' : Reply = (next (fused_words texts) (of_array k) x).reply in
      let kept : Keeps w replies m stage a x.reply r' = way_keeps w replies m stage a x.reply r' fits h
      (λ q m' e. ap (reply_to (fused_words texts) (of_array k) x.subject x.matches x.answers x.unit_at x.same x.marks) e ∙ same_answer x m' q)
      (λ p point e. ap (reply_to (fused_words texts) (of_array k) x.subject x.matches x.answers x.unit_at x.same x.marks) e) in
      (kept.fits, ap (end_at w replies m (stage_after w m stage x.reply)) (behind (run_questions m k x.subject) m stage x.reply (opening texts m k x.subject) (ways.answer_after w m stage a x.reply)) ∙ kept.ends)

  array_turns : TurnLaws (fused_words texts) (of_array k) (absorbs k) (fused_left (of_array k)) (fused_can_be texts (of_array k)) (fused_ends texts (of_array k)) (fused_fits texts (of_array k))
  array_turns = record {
    bounded = λ s mode'. array_bounded s (mode_from mode');
    starts = λ s mode'. tt;
    goes_on = λ s r reply can. tt;
    falls = λ s r reply can. way_falls (run_way k s r) r.0.progress.mode r.0.progress.stage reply;
    asks = λ s r reply can. array_asks s r.0.progress.mode r.0.progress.stage reply;
    begins = λ s mode' matches a u same agrees valid alike. (fits_begun (passes_on (run_questions (mode_from mode') k s)) (replies_by matches a u) (mode_from mode') spec.no_reply, ends_rightly texts k s matches a u same valid mode');
    keeps = array_keeps;
    stands = λ x fits h. way_stands (run_way k x.subject x.state) (run_replies (bench.seen x)) x.state.0.progress.mode x.state.0.progress.stage (opened texts k x.subject x.state).1 x.reply fits h;
  }

-- ---- its functions

both_agree : (b all : Bool) (es fs : List Fault) → is_nil es ≡ b → ((all ≡ true) ↔ (fs ≡ [])) → ((b && all) ≡ true) ↔ (es ++ fs ≡ [])
both_agree true all [] fs h agrees = agrees
both_agree true all (e ∷ es) fs h agrees = cc
both_agree false all [] fs h agrees = cc
both_agree false all (e ∷ es) fs h agrees = (λ t. cc, λ t. cc)

valid_both : (own all absorbed b : Bool) → (own && absorbed) ≡ b → ((own && all) && absorbed) ≡ (b && all)
valid_both true true absorbed b h = h ∙ sym (and_true b)
valid_both true false absorbed true h = refl
valid_both true false absorbed false h = refl
valid_both false all absorbed true h = cc
valid_both false all absorbed false h = refl

-- an error of a check is at the keyword, or at one that it absorbs
all_unless : (P : Fault → Type 0) (b : Bool) (f : Fault) → P f → All P (unless b f)
all_unless P true f h = All-nil P
all_unless P false f h = All-cons P f [] h (All-nil P)

all_errors : (texts : Bool) (s : Subject) (k : ArrayKeyword) → All (StandsInside s (absorbs k)) (errors texts k s)
all_errors texts s (MinItems n) = all_unless (StandsInside s []) (holds (HasLeast n) s) (check_error texts false (HasLeast n) s) (refl, ([], refl), tt)
all_errors texts s (ArrayShape before n) = All-append (StandsInside s (absorbs (ArrayShape before n))) (errors_at texts true IsArray s) (errors_at texts true (HasLeast n) s)
    (all_unless (StandsInside s (absorbs (ArrayShape before n))) (holds IsArray s) (check_error texts true IsArray s) (refl, ([], refl), (zero, omega arith, refl)))
    (all_unless (StandsInside s (absorbs (ArrayShape before n))) (holds (HasLeast n) s) (check_error texts true (HasLeast n) s) (refl, ([], refl), (suc zero, omega arith, refl)))

all_own : (texts : Bool) (a : Answers) (qs : List Question) (s : Subject) (k : ArrayKeyword) → All (PassesUnchanged a qs) (errors texts k s)
all_own texts a qs s (MinItems n) = all_unless (PassesUnchanged a qs) (holds (HasLeast n) s) (check_error texts false (HasLeast n) s) tt
all_own texts a qs s (ArrayShape before n) = All-append (PassesUnchanged a qs) (errors_at texts true IsArray s) (errors_at texts true (HasLeast n) s)
    (all_unless (PassesUnchanged a qs) (holds IsArray s) (check_error texts true IsArray s) tt)
    (all_unless (PassesUnchanged a qs) (holds (HasLeast n) s) (check_error texts true (HasLeast n) s) tt)

array_present : (k : ArrayKeyword) (s : Subject) → All (λ q. IsPresent s (steps_below q.below)) (questions_of k s)
array_present (MinItems n) s = All-nil _
array_present (ArrayShape before n) s = later_items_present s before

array_functions : (texts : Bool) (k : ArrayKeyword) → FunctionLaws (fused_words texts) (of_array k) (absorbs k)
array_functions texts k = record {
  present = array_present k;
  agree = λ s matches a agrees. both_agree (checks_hold k s) _ (errors texts k s) _ (no_errors texts k s) (way_agrees (passes_on (questions_of k s)) matches a agrees);
  units_valid = λ s matches u. valid_both (first_gives texts k s).valid _ _ (checks_hold k s) (first_valid texts k s);
  holds_reads = λ s matches a b h. ap (λ all. checks_hold k s && all) (way_holds_reads (passes_on (questions_of k s)) matches a b h);
  faults_read = λ s matches a b h. ap (λ fs. errors texts k s ++ fs) (way_faults_read (passes_on (questions_of k s)) matches a b h);
  units_read = λ s matches a b h. ap (λ g. record (first_gives texts k s) { valid = (first_gives texts k s).valid && g.valid; children = (first_gives texts k s).children ++ g.children })
      (way_units_read (passes_on (questions_of k s)) matches a b h);
  spans_read = λ s. All-nil _;
  spans_stand = λ s. All-nil _;
  told_spans = λ told s. All-nil _;
  stands = λ s matches a. All-append (StandsInside s (absorbs k)) (errors texts k s) _ (all_errors texts s k) (way_stands_inside (passes_on (questions_of k s)) matches s (absorbs k) a);
  passes = λ s matches a. All-append (PassesUnchanged a (questions_of k s)) (errors texts k s) _ (all_own texts a (questions_of k s) s k) (way_passes (passes_on (questions_of k s)) matches a);
}

-- ---- all of them

pub fused_turns : (texts : Bool) (m : FusedShape) → TurnLaws (fused_words texts) m (absorbed_by m) (fused_left m) (fused_can_be texts m) (fused_ends texts m) (fused_fits texts m)
fused_turns texts (of_bench m) = bench_turns texts m
fused_turns texts (of_array k) = array_turns texts k

pub fused_functions : (texts : Bool) (m : FusedShape) → FunctionLaws (fused_words texts) m (absorbed_by m)
fused_functions texts (of_bench m) = bench_functions texts m
fused_functions texts (of_array k) = array_functions texts k
