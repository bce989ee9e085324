-- What a turn of a keyword does by a way: the next run and answer, and the step that it takes, if it
-- does not run out of memory.
use Rattle.std.specs.Prelude.{Result}
use Rattle.schema_traits.specs.declared.keyword.Answer.{Answer}
use Rattle.schema_traits.specs.declared.keyword.Reply.{Reply}
use Rattle.schema_traits.specs.declared.keyword.Step.{Step}
use Rattle.keyword_authoring.specs.declared.run.Progress.{Progress}
use Rattle.keyword_authoring.specs.TurnWords.{Steps, Turns}
use Rattle.keyword_authoring.specs.Ways.{Way}

pub record IsTurn {E : Type 0} (way : Way) (run : Progress) (old : Answer) (reply : Reply) (run' : Progress) (new : Answer) (result : Result Step E) : Type 0 where
  pub turns : Turns way run old reply run' new result
  pub steps : Steps way run old reply result
