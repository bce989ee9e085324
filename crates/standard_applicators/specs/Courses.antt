-- A course: how a keyword evaluates an instance. It is one of the ways of `keyword_authoring`, or
-- it reports errors of its own first and then passes on the answers to its questions. Its runs by
-- turns follow from that.
use Rattle.std.specs.List.{list_all}
use Rattle.std.specs.Prelude.{Bool, List, Option, [], false, if◌then◌else◌, length, map, not, true, ℕ, ◌++◌, ◌+◌, ◌&&◌}
use Rattle.theory_definitions.specs.Instance.{Subject, Text}
use Rattle.theory_definitions.specs.Keywords.{Answer, Answers, Fault, Gives, Keywords, Question, Reply, Turn, own}
use Rattle.theory_definitions.specs.Matching.{Matching}
use Rattle.theory_definitions.specs.Reports.{Unit_, report_of}
use Rattle.theory_definitions.specs.Turns.{Standing}
use Rattle.schema_reports.specs.ReportViews.{spoken}
use Rattle.schema_traits.specs.KeywordViews.{fresh, is_nil, no_gives}
use Rattle.schema_traits.specs.declared.keyword.Mode.{Mode}
use Rattle.schema_traits.specs.declared.keyword.Mode.TheVariants as mode
use Rattle.keyword_authoring.specs.OwnWays.{spoken_way}
use Rattle.keyword_authoring.specs.Somes.{somes}
use Rattle.keyword_authoring.specs.WayRuns.{Replies, end_at, fits_at}
use Rattle.keyword_authoring.specs.WayWords.{run_replies}
use Rattle.keyword_authoring.specs.Ways.{Way, at_first, described, left_of, noted, passes_some, places, plain, questions, way_begin, way_faults, way_holds, way_step, way_turn, way_units}
use Rattle.keyword_authoring.specs.declared.run.Progress.{Progress}
use Rattle.keyword_authoring.specs.declared.run.Stage.{Stage}
use Rattle.keyword_authoring.specs.declared.run.Stage.TheVariants.{Asked, Begun, Counted, Ended}

pub data Course : Type 0 where
  by_way : Way → Course
  -- the errors that it reports, by their name and texts, and then for each number a question or
  -- none
  tells_first : Text → List Text → List (Option Question) → Course

-- the course where texts are not claimed: each counts as empty
abbrev pub spoken_course : Bool → Course → Course
spoken_course texts (by_way w) = by_way (spoken_way texts w)
spoken_course texts (tells_first name ts os) = tells_first name (map (spoken texts) ts) os

-- ---- the meaning of a course

abbrev pub asked_by : Course → List Question
asked_by (by_way w) = questions w
asked_by (tells_first name ts os) = somes os

abbrev pub course_holds : Course → Matching → (Question → Bool) → Bool
course_holds (by_way w) matching accepts = way_holds w matching accepts
course_holds (tells_first name ts os) matching accepts = is_nil ts && list_all accepts (somes os)

abbrev pub course_faults : Course → Matching → Answers → List Fault
course_faults (by_way w) matching answers = way_faults w matching answers
course_faults (tells_first name ts os) matching answers = map (λ t. own (plain name t)) ts ++ way_faults (passes_some os) matching answers

abbrev pub course_units : Course → Matching → (Question → Unit_) → Gives
course_units (by_way w) matching u = way_units w matching u
course_units (tells_first name ts os) matching u = record no_gives {
  valid = is_nil ts && list_all (λ q. (report_of (u q)).valid) (somes os);
  children = map u (somes os);
  errors = map (described name) ts;
}

-- ---- its runs

-- If there are errors to report, then a verdict or a first error is known at once.
abbrev pub wants_one : Mode → Bool
wants_one mode.Verdict = true
wants_one mode.First = true
wants_one mode.All = false
wants_one mode.Evaluate = false

abbrev pub ends_run : Mode → List Text → Bool
ends_run m ts = wants_one m && not (is_nil ts)

-- A first turn that ends the run asks nothing.
abbrev pub left_to_ask : Stage → Bool → List (Option Question) → List (Option Question)
left_to_ask Begun ends os = if ends then [] else os
left_to_ask (Asked i) ends os = os
left_to_ask (Counted i n) ends os = os
left_to_ask Ended ends os = os

-- the way in which it continues from a stage in a mode, and the answer after its errors are
-- reported
abbrev pub way_from : Course → Mode → Stage → Way
way_from (by_way w) m stage = w
way_from (tells_first name ts os) m stage = passes_some (left_to_ask stage (ends_run m ts) os)

abbrev pub once_told : Course → Mode → Stage → Answer → Answer
once_told (by_way w) m stage a = a
once_told (tells_first name ts os) m stage a = at_first stage (noted m name a ts) a

abbrev pub course_step : Course → Progress × Answer → Reply → Turn
course_step c r reply = way_step (way_from c r.0.mode r.0.stage) r reply

abbrev pub course_turn : Course → Progress × Answer → Reply → Progress × Answer
course_turn c r reply = way_turn (way_from c r.0.mode r.0.stage) (r.0, once_told c r.0.mode r.0.stage r.1) reply

-- the number of its questions' places, those without a question included
abbrev pub course_places : Course → ℕ
course_places (by_way w) = places w
course_places (tells_first name ts os) = length os

-- the answer in which a run ends, and what is true of it and of the reply that it takes next
abbrev pub end_by : Course → Replies → Progress × Answer → Answer
end_by c replies r = end_at (way_from c r.0.mode r.0.stage) replies r.0.mode r.0.stage (once_told c r.0.mode r.0.stage r.1)

abbrev pub fits_by : Course → Replies → Progress × Answer → Reply → Type 0
fits_by c replies r reply = fits_at (way_from c r.0.mode r.0.stage) replies r.0.mode r.0.stage reply

-- ---- keywords that evaluate an instance by a course

module _ {M : Type 0} (course : M → Subject → Course) where
  abbrev pub spoken_by : Bool → M → Subject → Course
  spoken_by texts m s = spoken_course texts (course m s)

  abbrev pub course_words : Bool → Keywords M (Progress × Answer)
  course_words texts = record {
    texts = texts;
    may_ask = λ m s. asked_by (spoken_by texts m s);
    spans = λ m s. [];
    is_told = λ m. false;
    holds = λ m s matches accepts. course_holds (spoken_by texts m s) matches accepts;
    faults = λ m s matches answers. course_faults (spoken_by texts m s) matches answers;
    units = λ m s matches u. course_units (spoken_by texts m s) matches u;
    most_turns = λ m s. course_places (course m s) + 2;
    begin = λ m s mode. (way_begin mode, fresh mode);
    turn = λ m s. course_turn (spoken_by texts m s);
    step = λ m s. course_step (spoken_by texts m s);
    answer = λ r. r.1;
  }

  -- Such keywords absorb no other keyword.
  abbrev pub none_absorbed : M → List Text
  none_absorbed m = []

  -- an upper bound for the number of turns that are left
  abbrev pub turns_left : M → Subject → Progress × Answer → ℕ
  turns_left m s r = left_of (course_places (course m s)) r.0.stage

  -- A run can be in any state.
  abbrev pub any_run : Bool → M → Subject → Progress × Answer → Type 0
  any_run texts m s r = Unit {0}

  abbrev pub ends_in : Bool → M → Standing (Progress × Answer) → Answer
  ends_in texts m x = end_by (spoken_by texts m x.subject) (run_replies x) x.state

  abbrev pub fits_in : Bool → M → Standing (Progress × Answer) → Type 0
  fits_in texts m x = fits_by (spoken_by texts m x.subject) (run_replies x) x.state x.reply
