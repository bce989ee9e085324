-- The kinds of keywords, by how they evaluate an instance. A keyword reports errors of its own at
-- once; or it asks questions in order and passes on the answers; or it judges by how many questions
-- are accepted; or it asks one question, whose verdict selects one of two others, and passes on the
-- answer to that one; or it asks whether a pattern matches a text, and reports an error if it does
-- not. Its runs by turns follow from the kind.
use Rattle.std.specs.List.{list_all}
use Rattle.std.specs.Prelude.{Bool, List, None, Option, Some, [], false, flat_map, if◌then◌else◌, length, map, not, suc, true, zero, ℕ, ◌++◌, ◌+◌, ◌-◌, ◌∷◌}
use Rattle.theory_definitions.specs.Instance.{Text}
use Rattle.theory_definitions.specs.Reports.{Described, Unit_, report_of}
use Rattle.theory_definitions.specs.Matching.{Matching, Pair}
use Rattle.theory_definitions.specs.Keywords.{Answer, Answers, Fault, Gives, MatchPoint, Own, Question, Reply, Spot, Turn, all_of_it, ask, done, first_of_it, for_all, for_first, for_units, for_verdict, match_text, no_reply, own, passed, truth, unit_of_it}
use Rattle.theory_definitions.specs.Keywords as spec
use Rattle.schema_reports.specs.EvaluationResults.{errored}
use Rattle.schema_traits.specs.KeywordViews.{is_nil, mode_of, no_gives, option_list, with_errors}
use Rattle.schema_traits.specs.declared.keyword.Mode.{Mode}
use Rattle.schema_traits.specs.declared.keyword.Mode.TheVariants as mode
use Rattle.keyword_authoring.specs.declared.run.Stage.{Stage}
use Rattle.keyword_authoring.specs.declared.run.Stage.TheVariants.{Begun, Asked, Counted, Ended}
use Rattle.keyword_authoring.specs.declared.run.Progress.{Progress}
use Rattle.keyword_authoring.specs.Somes.{question_of, some_from, somes}
use Rattle.keyword_authoring.specs.Tallies.{Tally, asked_in, in_evaluation, is_settled, says_yes, tallied, told_by, wants_units, with_child, with_inside}

pub data Way : Type 0 where
  -- errors with this name and these texts
  tells : Text → List Text → Way
  passes_on : List Question → Way
  -- for each number a question or none; those that are present are asked
  passes_some : List (Option Question) → Way
  judges : Tally → List Question → Way
  -- a question, the one asked next if it is accepted, and the one asked next if it is not
  branches : Question → Option Question → Option Question → Way
  -- a pattern and the text that it must match, and an error with this name and text if it does not
  asks_match : Text → Pair → Text → Way

-- one text if the test fails
abbrev pub unless : Bool → Text → List Text
unless true text = []
unless false text = text ∷ []

-- at the keyword itself
abbrev pub at_keyword : Spot
at_keyword = record { absorbed = None; path = []; below = [] }

-- an error at the keyword itself
abbrev pub plain : Text → Text → Own
plain name text = record { spot = at_keyword; name = name; text = text }

-- the same error, as a unit has it
abbrev pub described : Text → Text → Described
described name text = record { name = name; text = text }

-- ---- the meaning of a kind

-- the questions that a keyword of a kind may ask
abbrev pub questions : Way → List Question
questions (tells name ts) = []
questions (passes_on qs) = qs
questions (passes_some os) = somes os
questions (judges t qs) = qs
questions (branches q one other) = q ∷ (option_list one ++ option_list other)
questions (asks_match name a text) = []

-- the branch that a verdict selects, if there is one
abbrev pub branch : Bool → Option Question → Option Question → List Question
branch true one other = option_list one
branch false one other = option_list other

-- the units of questions, if a keyword that judges shows them
abbrev pub given : Bool → (Question → Unit_) → List Question → List Unit_
given true unit_at qs = map unit_at qs
given false unit_at qs = []

-- whether the pattern matches the text
abbrev pub is_matched : Matching → Pair → Bool
is_matched matching a = matching.matches a.pattern a.subject

-- whether a keyword of a kind accepts, by the verdicts of its questions
abbrev pub way_holds : Way → Matching → (Question → Bool) → Bool
way_holds (tells name ts) matching accepts = is_nil ts
way_holds (passes_on qs) matching accepts = list_all accepts qs
way_holds (passes_some os) matching accepts = list_all accepts (somes os)
way_holds (judges t qs) matching accepts = is_nil (told_by t accepts qs)
way_holds (branches q one other) matching accepts = list_all accepts (branch (accepts q) one other)
way_holds (asks_match name a text) matching accepts = is_matched matching a

-- the errors of a keyword of a kind, by the answers to its questions
abbrev pub way_faults : Way → Matching → Answers → List Fault
way_faults (tells name ts) matching answers = map (λ t. own (plain name t)) ts
way_faults (passes_on qs) matching answers = flat_map (λ q. map passed (answers q).errors) qs
way_faults (passes_some os) matching answers = flat_map (λ q. map passed (answers q).errors) (somes os)
way_faults (judges t qs) matching answers = map (λ x. own (plain t.name x)) (told_by t (λ q. (answers q).verdict) qs)
way_faults (branches q one other) matching answers = flat_map (λ q. map passed (answers q).errors) (branch (answers q).verdict one other)
way_faults (asks_match name a text) matching answers = map (λ t. own (plain name t)) (unless (is_matched matching a) text)

-- the unit of a keyword of a kind, by the units of its questions
abbrev pub way_units : Way → Matching → (Question → Unit_) → Gives
way_units (tells name ts) matching unit_at = record no_gives { valid = is_nil ts; errors = map (described name) ts }
way_units (passes_on qs) matching unit_at = record no_gives { valid = list_all (λ q. (report_of (unit_at q)).valid) qs; children = map unit_at qs }
way_units (passes_some os) matching unit_at = record no_gives { valid = list_all (λ q. (report_of (unit_at q)).valid) (somes os); children = map unit_at (somes os) }
way_units (judges t qs) matching unit_at = record no_gives { valid = is_nil (told_by t (λ q. (report_of (unit_at q)).valid) qs); children = given t.shows unit_at qs; errors = map (described t.name) (told_by t (λ q. (report_of (unit_at q)).valid) qs) }
way_units (branches q one other) matching unit_at = record no_gives { valid = list_all (λ q. (report_of (unit_at q)).valid) (branch (report_of (unit_at q)).valid one other); children = map unit_at (branch (report_of (unit_at q)).valid one other) }
way_units (asks_match name a text) matching unit_at = record no_gives { valid = is_matched matching a; errors = map (described name) (unless (is_matched matching a) text) }

-- ---- answers

-- the mode that an answer shows once it is a refusal: a refusal without an error is only a verdict
abbrev pub refused_mode : spec.Mode → List Fault → spec.Mode
refused_mode for_verdict fs = for_verdict
refused_mode for_first [] = for_verdict
refused_mode for_first (f ∷ fs) = for_first
refused_mode for_all [] = for_verdict
refused_mode for_all (f ∷ fs) = for_all
refused_mode for_units fs = for_units

-- an answer as a refusal, without a further error
abbrev pub refused : Answer → Answer
refused a = record a { mode = refused_mode a.mode a.errors; verdict = false; gives = record a.gives { valid = false } }

-- an answer with this error as its first, unless it has one already
abbrev pub with_first : Answer → List Fault → Fault → Answer
with_first a [] f = with_errors for_first (f ∷ [])
with_first a (g ∷ gs) f = a

-- a refusal in an evaluation, with an error of the keyword itself in its unit
abbrev pub evaluated : Answer → Fault → Answer
evaluated a (own o) = in_evaluation false (errored (described o.name o.text) a.gives)
evaluated a (passed e) = refused a

-- an answer with one more fault
abbrev pub noted_one : Mode → Answer → Fault → Answer
noted_one mode.Verdict a f = refused a
noted_one mode.First a f = with_first a a.errors f
noted_one mode.All a f = with_errors for_all (a.errors ++ f ∷ [])
noted_one mode.Evaluate a f = evaluated a f

abbrev pub noted : Mode → Text → Answer → List Text → Answer
noted m name a [] = a
noted m name a (t ∷ ts) = noted m name (noted_one m a (own (plain name t))) ts

-- an answer with the unit of a child; it is a refusal if the unit is invalid
abbrev pub with_unit : Answer → Unit_ → Answer
with_unit a u = in_evaluation (if (report_of u).valid then a.verdict else false) (record (with_inside a.gives u) { valid = if (report_of u).valid then a.gives.valid else false })

-- an answer with the reply of a child
abbrev pub taken : Answer → Reply → Answer
taken a no_reply = a
taken a (truth true) = a
taken a (truth false) = refused a
taken a (first_of_it None) = a
taken a (first_of_it (Some e)) = with_first a a.errors (passed e)
taken a (all_of_it es) = with_errors for_all (a.errors ++ map passed es)
taken a (unit_of_it u) = with_unit a u

-- a run for the verdict ends at the first no, and a run for the first error ends at that
abbrev pub goes_on : Reply → Bool
goes_on no_reply = true
goes_on (truth b) = b
goes_on (first_of_it None) = true
goes_on (first_of_it (Some e)) = false
goes_on (all_of_it es) = true
goes_on (unit_of_it u) = true

-- ---- its runs

abbrev pub mode_from : spec.Mode → Mode
mode_from for_verdict = mode.Verdict
mode_from for_first = mode.First
mode_from for_all = mode.All
mode_from for_units = mode.Evaluate

-- the question at a position
abbrev pub nth : ℕ → List Question → Option Question
nth n [] = None
nth zero (q ∷ qs) = Some q
nth (suc n) (q ∷ qs) = nth n qs

abbrev pub asked : Mode → Option Question → Turn
asked m None = done
asked m (Some q) = ask q (mode_of m)

abbrev pub stage_at : ℕ → Option Question → Stage
stage_at i None = Ended
stage_at i (Some q) = Asked i

-- the next question, if the run goes on
abbrev pub next_if : Bool → Option Question → Option Question
next_if true o = o
next_if false o = None

abbrev pub next_some : Bool → Option (ℕ × Question) → Option (ℕ × Question)
next_some true o = o
next_some false o = None

abbrev pub stage_some : Option (ℕ × Question) → Stage
stage_some None = Ended
stage_some (Some p) = Asked p.0

-- the next question of a run that judges, unless further answers change nothing
abbrev pub left_to_judge : Tally → Mode → ℕ → Option Question → Option Question
left_to_judge t m n o = next_if (not (is_settled (wants_units t m) t.enough n)) o

abbrev pub counted_at : ℕ → ℕ → Option Question → Stage
counted_at i n None = Ended
counted_at i n (Some q) = Counted i n

-- the errors are reported once no question is left
abbrev pub judged_at : Tally → Mode → ℕ → Answer → Option Question → Answer
judged_at t m n a None = noted m t.name a (t.told n)
judged_at t m n a (Some q) = a

abbrev pub chosen : Bool → Option Question → Option Question → Option Question
chosen true one other = one
chosen false one other = other

-- the branch for an accepting first child is asked at position 1, the other at position 2
abbrev pub branch_number : Bool → ℕ
branch_number true = 1
branch_number false = 2

-- a match is requested at the keyword with its pattern, and is shown with evaluation path and place
-- unless only the verdict is wanted
abbrev pub is_located : Mode → Bool
is_located mode.Verdict = false
is_located mode.First = true
is_located mode.All = true
is_located mode.Evaluate = true

abbrev pub match_point : Mode → Text → MatchPoint
match_point m pattern = record { spot = at_keyword; located = is_located m; pattern = Some pattern }

abbrev pub step_at : Way → Mode → Stage → Reply → Turn
step_at (tells name ts) m stage reply = done
step_at (passes_on qs) m Begun reply = asked m (nth 0 qs)
step_at (passes_on qs) m (Asked i) reply = asked m (next_if (goes_on reply) (nth (i + 1) qs))
step_at (passes_on qs) m (Counted i n) reply = done
step_at (passes_on qs) m Ended reply = done
step_at (passes_some os) m Begun reply = asked m (question_of (some_from 0 os))
step_at (passes_some os) m (Asked i) reply = asked m (question_of (next_some (goes_on reply) (some_from (i + 1) os)))
step_at (passes_some os) m (Counted i n) reply = done
step_at (passes_some os) m Ended reply = done
step_at (judges t qs) m Begun reply = asked (asked_in (wants_units t m)) (nth 0 qs)
step_at (judges t qs) m (Asked i) reply = done
step_at (judges t qs) m (Counted i n) reply = asked (asked_in (wants_units t m)) (left_to_judge t m (tallied t.enough reply n) (nth (i + 1) qs))
step_at (judges t qs) m Ended reply = done
step_at (branches q one other) m Begun reply = asked mode.Verdict (Some q)
step_at (branches q one other) m (Asked zero) reply = asked m (chosen (says_yes reply) one other)
step_at (branches q one other) m (Asked (suc i)) reply = done
step_at (branches q one other) m (Counted i n) reply = done
step_at (branches q one other) m Ended reply = done
step_at (asks_match name a text) m Begun reply = match_text a (match_point m a.pattern)
step_at (asks_match name a text) m (Asked i) reply = done
step_at (asks_match name a text) m (Counted i n) reply = done
step_at (asks_match name a text) m Ended reply = done

abbrev pub stage_after : Way → Mode → Stage → Reply → Stage
stage_after (tells name ts) m stage reply = Ended
stage_after (passes_on qs) m Begun reply = stage_at 0 (nth 0 qs)
stage_after (passes_on qs) m (Asked i) reply = stage_at (i + 1) (next_if (goes_on reply) (nth (i + 1) qs))
stage_after (passes_on qs) m (Counted i n) reply = Ended
stage_after (passes_on qs) m Ended reply = Ended
stage_after (passes_some os) m Begun reply = stage_some (some_from 0 os)
stage_after (passes_some os) m (Asked i) reply = stage_some (next_some (goes_on reply) (some_from (i + 1) os))
stage_after (passes_some os) m (Counted i n) reply = Ended
stage_after (passes_some os) m Ended reply = Ended
stage_after (judges t qs) m Begun reply = counted_at 0 0 (nth 0 qs)
stage_after (judges t qs) m (Asked i) reply = Ended
stage_after (judges t qs) m (Counted i n) reply = counted_at (i + 1) (tallied t.enough reply n) (left_to_judge t m (tallied t.enough reply n) (nth (i + 1) qs))
stage_after (judges t qs) m Ended reply = Ended
stage_after (branches q one other) m Begun reply = Asked 0
stage_after (branches q one other) m (Asked zero) reply = stage_at (branch_number (says_yes reply)) (chosen (says_yes reply) one other)
stage_after (branches q one other) m (Asked (suc i)) reply = Ended
stage_after (branches q one other) m (Counted i n) reply = Ended
stage_after (branches q one other) m Ended reply = Ended
stage_after (asks_match name a text) m Begun reply = Asked 0
stage_after (asks_match name a text) m (Asked i) reply = Ended
stage_after (asks_match name a text) m (Counted i n) reply = Ended
stage_after (asks_match name a text) m Ended reply = Ended

-- errors of the keyword itself are reported in the first turn
abbrev pub at_first : Stage → Answer → Answer → Answer
at_first Begun told a = told
at_first (Asked i) told a = a
at_first (Counted i n) told a = a
at_first Ended told a = a

abbrev pub told_at_once : Way → Mode → Answer → Answer
told_at_once (tells name ts) m a = noted m name a ts
told_at_once (passes_on qs) m a = a
told_at_once (passes_some os) m a = a
told_at_once (judges t qs) m a = a
told_at_once (branches q one other) m a = a
told_at_once (asks_match name p text) m a = a

abbrev pub answer_after : Way → Mode → Stage → Answer → Reply → Answer
answer_after (tells name ts) m stage a reply = at_first stage (noted m name a ts) a
answer_after (passes_on qs) m Begun a reply = a
answer_after (passes_on qs) m (Asked i) a reply = taken a reply
answer_after (passes_on qs) m (Counted i n) a reply = a
answer_after (passes_on qs) m Ended a reply = a
answer_after (passes_some os) m Begun a reply = a
answer_after (passes_some os) m (Asked i) a reply = taken a reply
answer_after (passes_some os) m (Counted i n) a reply = a
answer_after (passes_some os) m Ended a reply = a
answer_after (judges t qs) m Begun a reply = judged_at t m 0 a (nth 0 qs)
answer_after (judges t qs) m (Asked i) a reply = a
answer_after (judges t qs) m (Counted i n) a reply = judged_at t m (tallied t.enough reply n) (with_child a reply) (left_to_judge t m (tallied t.enough reply n) (nth (i + 1) qs))
answer_after (judges t qs) m Ended a reply = a
answer_after (branches q one other) m Begun a reply = a
answer_after (branches q one other) m (Asked zero) a reply = a
answer_after (branches q one other) m (Asked (suc i)) a reply = taken a reply
answer_after (branches q one other) m (Counted i n) a reply = a
answer_after (branches q one other) m Ended a reply = a
answer_after (asks_match name p text) m Begun a reply = a
answer_after (asks_match name p text) m (Asked i) a reply = noted m name a (unless (says_yes reply) text)
answer_after (asks_match name p text) m (Counted i n) a reply = a
answer_after (asks_match name p text) m Ended a reply = a

abbrev pub way_begin : spec.Mode → Progress
way_begin m = record { mode = mode_from m; stage = Begun }

abbrev pub way_step : Way → Progress × Answer → Reply → Turn
way_step w r reply = step_at w r.0.mode r.0.stage reply

abbrev pub way_turn : Way → Progress × Answer → Reply → Progress × Answer
way_turn w r reply = (record r.0 { stage = stage_after w r.0.mode r.0.stage reply }, answer_after w r.0.mode r.0.stage r.1 reply)

-- the number of positions of its questions
abbrev pub places : Way → ℕ
places (tells name ts) = 0
places (passes_on qs) = length qs
places (passes_some os) = length os
places (judges t qs) = length qs
places (branches q one other) = length (q ∷ (option_list one ++ option_list other))
places (asks_match name a text) = 0

abbrev pub way_turns : Way → ℕ
way_turns w = places w + 2

-- the greatest number of turns that are left, for this many positions
abbrev pub left_of : ℕ → Stage → ℕ
left_of n Begun = n + 1
left_of n (Asked i) = n - i
left_of n (Counted i k) = n - i
left_of n Ended = 0

abbrev pub way_left : Way → Stage → ℕ
way_left w stage = left_of (places w) stage
