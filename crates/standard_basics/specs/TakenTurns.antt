-- What a turn of a keyword does, by a way that depends on the instance: the next run and answer, and
-- the step that it takes, if it does not run out of memory.
use Rattle.std.specs.Prelude.{Bool, Result}
use Rattle.theory_definitions.specs.Instance.{Subject}
use Rattle.schema_reports.specs.declared.instance.Instance.{Instance}
use Rattle.schema_traits.specs.declared.keyword.Answer.{Answer}
use Rattle.schema_traits.specs.declared.keyword.Reply.{Reply}
use Rattle.schema_traits.specs.declared.keyword.Step.{Step}
use Rattle.keyword_authoring.specs.declared.run.Progress.{Progress}
use Rattle.keyword_authoring.specs.TurnWords.{StepsBy, TurnsBy}
use Rattle.keyword_authoring.specs.Ways.{Way}

pub record IsTurnBy {E : Type 0} (ways : Bool → Subject → Way) (instance : Instance) (run : Progress) (old : Answer) (reply : Reply) (run' : Progress) (new : Answer) (result : Result Step E) : Type 0 where
  pub turns : TurnsBy ways instance run old reply run' new result
  pub steps : StepsBy ways instance run old reply result
