-- What each keyword says of an instance. A basic one says the same as by itself. One about arrays
-- says that its checks hold, and that its child accepts each item at which it is asked. The `items`
-- that absorbs two others has the units of its items in its own unit, and the units of the two
-- others beside it.
use Rattle.std.specs.List.{list_all}
use Rattle.std.specs.Prelude.{Bool, List, [], map, ℕ, ◌&&◌, ◌++◌, ◌+◌, false}
use Rattle.theory_definitions.specs.Instance.{Subject}
use Rattle.theory_definitions.specs.Reports.{Unit_, report_of}
use Rattle.theory_definitions.specs.Matching.{Matching}
use Rattle.theory_definitions.specs.Keywords.{Answer, Answers, Fault, Gives, Keywords, Mode, Question, Reply, Turn, Span}
use Rattle.theory_definitions.specs.Turns.{Standing}
use Rattle.schema_traits.specs.KeywordViews.{fresh}
use Rattle.keyword_authoring.specs.WayRuns.{end_at, fits_at}
use Rattle.keyword_authoring.specs.WayWords.{run_replies}
use Rattle.keyword_authoring.specs.Ways.{Way, at_first, passes_on, way_begin, way_faults, way_left, way_step}
use Rattle.standard_basics.specs.Words as bench
use Rattle.standard_basics.specs.declared.names.NamesRun.{NamesRun}
use Rattle.example_fused_keywords.specs.FusedShape.{FusedShape, of_array, of_bench}
use Rattle.example_fused_keywords.specs.Openings.{checks_hold, count_of, errors, first_gives, opening, questions_of, run_questions}
use Rattle.example_fused_keywords.specs.declared.array.ArrayKeyword.{ArrayKeyword}

-- a result with the units of these questions inside, valid only if each of them is
abbrev pub with_units : Gives → (Question → Unit_) → List Question → Gives
with_units g u qs = record g { valid = g.valid && list_all (λ q. (report_of (u q)).valid) qs; children = g.children ++ map u qs }

-- the kind of a run in its mode
abbrev pub run_way : ArrayKeyword → Subject → NamesRun × Answer → Way
run_way k s r = passes_on (run_questions r.0.progress.mode k s)

-- the state of a run with its answer, after the first turn has added what the checks find
abbrev pub opened : Bool → ArrayKeyword → Subject → NamesRun × Answer → NamesRun × Answer
opened texts k s r = (r.0, at_first r.0.progress.stage (opening texts r.0.progress.mode k s) r.1)

module _ (texts : Bool) where
  -- the questions that a keyword may ask
  abbrev asked : FusedShape → Subject → List Question
  asked (of_bench m) s = (bench.words texts).may_ask m s
  asked (of_array k) s = questions_of k s

  -- what a keyword spans
  abbrev spanning : FusedShape → Subject → List Span
  spanning (of_bench m) s = (bench.words texts).spans m s
  spanning (of_array k) s = []

  -- whether a keyword is told what the others span
  abbrev told : FusedShape → Bool
  told (of_bench m) = (bench.words texts).is_told m
  told (of_array k) = false

  -- whether a keyword accepts
  abbrev held : FusedShape → Subject → Matching → (Question → Bool) → Bool
  held (of_bench m) s matches accepts = (bench.words texts).holds m s matches accepts
  held (of_array k) s matches accepts = checks_hold k s && list_all accepts (questions_of k s)

  -- the errors of a keyword
  abbrev faulted : FusedShape → Subject → Matching → Answers → List Fault
  faulted (of_bench m) s matches answers = (bench.words texts).faults m s matches answers
  faulted (of_array k) s matches answers = errors texts k s ++ way_faults (passes_on (questions_of k s)) matches answers

  -- the units of a keyword
  abbrev given : FusedShape → Subject → Matching → (Question → Unit_) → Gives
  given (of_bench m) s matches u = (bench.words texts).units m s matches u
  given (of_array k) s matches u = with_units (first_gives texts k s) u (questions_of k s)

  abbrev turns : FusedShape → Subject → ℕ
  turns (of_bench m) s = (bench.words texts).most_turns m s
  turns (of_array k) s = count_of k s + 2

  abbrev begun : FusedShape → Subject → Mode → NamesRun × Answer
  begun (of_bench m) s mode = (bench.words texts).begin m s mode
  begun (of_array k) s mode = (record { progress = way_begin mode; names = [] }, fresh mode)

  abbrev turned : FusedShape → Subject → NamesRun × Answer → Reply → NamesRun × Answer
  turned (of_bench m) s r reply = (bench.words texts).turn m s r reply
  turned (of_array k) s r reply = bench.run_turn (run_way k s r) (opened texts k s r) reply

  abbrev stepped : FusedShape → Subject → NamesRun × Answer → Reply → Turn
  stepped (of_bench m) s r reply = (bench.words texts).step m s r reply
  stepped (of_array k) s r reply = way_step (run_way k s r) (r.0.progress, r.1) reply

  abbrev pub fused_words : Keywords FusedShape (NamesRun × Answer)
  fused_words = record {
    texts = texts;
    may_ask = asked;
    spans = spanning;
    is_told = told;
    holds = held;
    faults = faulted;
    units = given;
    most_turns = turns;
    begin = begun;
    turn = turned;
    step = stepped;
    answer = λ r. r.1;
  }

-- the greatest number of turns that are left
abbrev pub fused_left : FusedShape → Subject → NamesRun × Answer → ℕ
fused_left (of_bench m) s r = bench.turns_left m s r
fused_left (of_array k) s r = way_left (run_way k s r) r.0.progress.stage

-- a run can be in any state
abbrev pub fused_can_be : Bool → FusedShape → Subject → NamesRun × Answer → Type 0
fused_can_be texts m s r = Unit {0}

-- the answer with which a run ends
abbrev pub fused_ends : Bool → FusedShape → Standing (NamesRun × Answer) → Answer
fused_ends texts (of_bench m) x = bench.ends_in texts m x
fused_ends texts (of_array k) x = end_at (run_way k x.subject x.state) (run_replies (bench.seen x)) x.state.0.progress.mode x.state.0.progress.stage (opened texts k x.subject x.state).1

-- what is true of a run, and of the reply that it takes next
abbrev pub fused_fits : Bool → FusedShape → Standing (NamesRun × Answer) → Type 0
fused_fits texts (of_bench m) x = bench.fits_in texts m x
fused_fits texts (of_array k) x = fits_at (run_way k x.subject x.state) (run_replies (bench.seen x)) x.state.0.progress.mode x.state.0.progress.stage x.reply
