-- The refusal as the code makes it, whether texts are covered or not.
use Rattle.std.specs.Prelude.{All, Bool, ◌≡◌}
use Rattle.serde_json.specs.Data.{Data}
use Rattle.schema_traits.specs.FaultViews.{PassesBorrowed, faults_in}
use Rattle.schema_traits.specs.KeywordViews.{answer_of, fault_of}
use Rattle.schema_traits.specs.declared.keyword.Answer.{Answer}
use Rattle.schema_traits.specs.declared.keyword.Fault.{Fault}
use Rattle.keyword_authoring.specs.AnswerWords.{Becomes}
use Rattle.test_laws.specs.Refusals.{refusal, refused_in, told}

-- the fault is the one of the refusal
abbrev pub IsRefusal : Fault → Type 0
IsRefusal fault = (texts : Bool) → fault_of texts fault ≡ refusal texts

-- the answer refuses, in the mode of the one before
abbrev pub RefusesLike : Answer → Answer → Type 0
RefusesLike before after = (texts : Bool) → answer_of texts after ≡ refused_in texts (answer_of texts before).mode

-- each error of the answer that is passed on borrows its place
abbrev pub BorrowsAll : Answer → Type 0
BorrowsAll answer = (root : Data) → All (PassesBorrowed root) (faults_in answer)

-- the answer is made to refuse unless the keyword holds
abbrev pub RefusesUnless : Bool → Answer → Answer → Type 0
RefusesUnless holds old new = Becomes old (λ texts a. told texts holds a) new
