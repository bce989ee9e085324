-- What a search says of each sense and each call whose further runs it makes.
use Rattle.std.specs.Prelude.{Bool}
use Rattle.theory_definitions.specs.Cover.{Call, Sense}
use Rattle.theory_definitions.specs.Matching.{Assumptions}
use Rattle.theory_definitions.specs.Unfinished.{Remembered}
use Rattle.theory_meaning.specs.Members.{Follows, is_nil}
use Rattle.theory_meaning.specs.Searched.{IsRunOf}
use Rattle.theory_meaning.specs.Shared.{errors_of}

-- whether a sense has no error under these assumptions
abbrev pub has_none : Sense → Assumptions → Bool
has_none v = λ as'. is_nil (errors_of v as')

module _ {S T V : Type 0} (Step : S → Remembered → Remembered → T → S → Type 0) (first : Remembered) (start : S) (seen : T → V) (says : Sense → Assumptions → V) where
  -- a fact about each sense and call that these runs belong to, as far as their results are seen
  abbrev pub OfRuns : (Sense → Call → Type 0) → Type 0
  OfRuns Holds = (v : Sense) (call : Call) → IsRunOf v call Step first start seen (says v) → Holds v call

  -- the same, for the senses that follow
  abbrev pub OfFollowed : (Sense → Call → Type 0) → Type 0
  OfFollowed Holds = (v : Sense) (call : Call) → Follows v → IsRunOf v call Step first start seen (says v) → Holds v call
