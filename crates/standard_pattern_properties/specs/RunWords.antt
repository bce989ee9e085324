-- What a step of a run keeps, and how it changes the answer.
use Rattle.std.specs.Prelude.{List, OnOk, Result, String, map, string_bytes, ◌≡◌}
use Rattle.std.specs.declared.alloc.Global.{Global}
use Rattle.schema_traits.specs.KeywordViews.{reply_of}
use Rattle.schema_traits.specs.declared.keyword.Answer.{Answer}
use Rattle.schema_traits.specs.declared.keyword.Mode.{Mode}
use Rattle.schema_traits.specs.declared.keyword.Reply.{Reply}
use Rattle.keyword_authoring.specs.AnswerWords.{Becomes}
use Rattle.standard_pattern_properties.specs.GatedKeywords.{form_of}
use Rattle.standard_pattern_properties.specs.GateMoves.{answer_at, answer_by, told_in}
use Rattle.standard_pattern_properties.specs.MoveWords.{moved_in}
use Rattle.standard_pattern_properties.specs.declared.gates.GateRun.{GateRun}
use Rattle.standard_pattern_properties.specs.declared.gates.GateStage.{GateStage}
use Rattle.standard_pattern_properties.specs.declared.gates.Move.{Move}
use Rattle.standard_pattern_properties.specs.declared.keyword.GatedKeyword.{GatedKeyword}

-- if the result is `Ok`, the run has the same mode
abbrev pub KeepsMode : {A E : Type 0} → GateRun → GateRun → Result A E → Type 0
KeepsMode old new result = OnOk result (new.mode ≡ old.mode)

-- if the result is `Ok`, the run is at the same names
abbrev pub KeepsNames : {A E : Type 0} → GateRun → GateRun → Result A E → Type 0
KeepsNames old new result = OnOk result (new.names ≡ old.names)

-- The keyword's error for these names is added, if it has one.
abbrev pub TellsNames : GatedKeyword → Mode → List (String Global) → Answer → Answer → Type 0
TellsNames k mode names old new = Becomes old (λ texts a. told_in texts (form_of k) mode a (map string_bytes names)) new

-- The answer becomes the one after a move of the run.
abbrev pub AnswersMove : GatedKeyword → GateRun → Move → Answer → Answer → Type 0
AnswersMove k run made old new = Becomes old (λ texts a. answer_by texts (form_of k) run.mode a (moved_in run made)) new

-- If the run evaluated a child at this stage, the answer takes the child's reply.
abbrev pub TakesAsked : GateStage → Reply → Answer → Answer → Type 0
TakesAsked stage reply old new = Becomes old (λ texts a. answer_at stage a (reply_of texts reply)) new
