-- The units in a result or an answer after a call, whether texts are covered or not.
use Rattle.std.specs.Prelude.{Bool, false, ◌≡◌}
use Rattle.schema_reports.specs.EvaluationResults.{gives_of}
use Rattle.schema_reports.specs.UnitViews.{unit_of}
use Rattle.schema_reports.specs.declared.evaluation.EvaluationNode.{EvaluationNode}
use Rattle.schema_reports.specs.declared.evaluation_result.EvaluationResult.{EvaluationResult}
use Rattle.schema_traits.specs.KeywordViews.{reply_of}
use Rattle.schema_traits.specs.declared.keyword.Answer.{Answer}
use Rattle.schema_traits.specs.declared.keyword.Reply.{Reply}
use Rattle.keyword_authoring.specs.AnswerWords.{Becomes}
use Rattle.keyword_authoring.specs.Judging.{kept_at}
use Rattle.keyword_authoring.specs.Tallies.{with_inside}
use Rattle.keyword_authoring.specs.Ways.{with_unit}
use Rattle.keyword_authoring.specs.declared.run.Stage.{Stage}

-- the result becomes invalid
abbrev pub Invalidates : EvaluationResult → EvaluationResult → Type 0
Invalidates old new = (texts : Bool) → gives_of texts new ≡ record (gives_of texts old) { valid = false }

-- the unit is added inside
abbrev pub PutsInside : EvaluationNode → EvaluationResult → EvaluationResult → Type 0
PutsInside node old new = (texts : Bool) → gives_of texts new ≡ with_inside (gives_of texts old) (unit_of texts node)

-- the unit of a child is added, as a refusal if it is invalid
abbrev pub TakesUnit : EvaluationNode → Answer → Answer → Type 0
TakesUnit node old new = Becomes old (λ texts a. with_unit a (unit_of texts node)) new

-- what a child returned is kept, if the run counts
abbrev pub KeepsReply : Stage → Reply → Answer → Answer → Type 0
KeepsReply stage reply old new = Becomes old (λ texts a. kept_at stage a (reply_of texts reply)) new
