-- What a turn of some kind does: it leads from a run, an answer and a reply to the next run and
-- answer, and takes a step.
use Rattle.std.specs.Prelude.{Bool, IfOk, Result, if◌then◌else◌, ◌≡◌}
use Rattle.theory_definitions.specs.Instance.{Subject}
use Rattle.theory_definitions.specs.Keywords as spec
use Rattle.schema_reports.specs.InstanceViews.{subject_of}
use Rattle.schema_reports.specs.declared.instance.Instance.{Instance}
use Rattle.schema_traits.specs.KeywordViews.{Tells, answer_of, reply_of, turn_of}
use Rattle.schema_traits.specs.declared.keyword.Answer.{Answer}
use Rattle.schema_traits.specs.declared.keyword.Mode.{Mode}
use Rattle.schema_traits.specs.declared.keyword.Reply.{Reply}
use Rattle.schema_traits.specs.declared.keyword.Step.{Step}
use Rattle.keyword_authoring.specs.declared.run.Progress.{Progress}
use Rattle.keyword_authoring.specs.declared.run.Stage.{Stage}
use Rattle.keyword_authoring.specs.OwnWays.{spoken_way}
use Rattle.keyword_authoring.specs.Ways.{Way, answer_after, at_first, way_step, way_turn}

-- the next run and answer, with texts covered or not
abbrev pub TurnsIn : Bool → Way → Progress → Answer → Reply → Progress → Answer → Type 0
TurnsIn texts way run old reply run' new = way_turn way (run, answer_of texts old) (reply_of texts reply) ≡ (run', answer_of texts new)

-- the step in terms of the definitions, with texts covered or not
abbrev pub StepsIn : Bool → Way → Progress → Answer → Reply → spec.Turn → Type 0
StepsIn texts way run old reply step = way_step way (run, answer_of texts old) (reply_of texts reply) ≡ step

-- the answer after a turn of a run in this mode at this stage
abbrev pub AnswersIn : Bool → Way → Mode → Stage → Reply → Answer → Answer → Type 0
AnswersIn texts way mode stage reply old new = answer_of texts new ≡ answer_after way mode stage (answer_of texts old) (reply_of texts reply)

-- ---- the same, if the turn does not run out of memory

-- the next run and answer, whether texts are covered or not
abbrev pub Turns : {A E : Type 0} → Way → Progress → Answer → Reply → Progress → Answer → Result A E → Type 0
Turns way run old reply run' new result = IfOk result (λ _. (texts : Bool) → TurnsIn texts way run old reply run' new)

-- the step, whether texts are covered or not
abbrev pub Steps : {E : Type 0} → Way → Progress → Answer → Reply → Result Step E → Type 0
Steps way run old reply result = IfOk result (λ step. (texts : Bool) → StepsIn texts way run old reply (turn_of step))

-- the next run and answer, by a kind with texts; they are covered only if neither the keyword nor
-- the instance holds a fraction
abbrev pub TellsTurn : {M A E : Type 0} → (M → Bool) → (M → Subject → Way) → M → Instance → Progress → Answer → Reply → Progress → Answer → Result A E → Type 0
TellsTurn is_whole ways m instance run old reply run' new result = IfOk result (λ _. (texts : Bool) → Tells texts (is_whole m) (subject_of instance)
    → TurnsIn texts (spoken_way texts (ways m (subject_of instance))) run old reply run' new)

-- the step, by such a kind
abbrev pub TellsStep : {M E : Type 0} → (M → Bool) → (M → Subject → Way) → M → Instance → Progress → Answer → Reply → Result Step E → Type 0
TellsStep is_whole ways m instance run old reply result = IfOk result (λ step. (texts : Bool) → Tells texts (is_whole m) (subject_of instance)
    → StepsIn texts (spoken_way texts (ways m (subject_of instance))) run old reply (turn_of step))

-- the step, by such a kind, whatever the keyword and the instance hold
abbrev pub StepsSpoken : {M E : Type 0} → (M → Subject → Way) → M → Instance → Progress → Answer → Reply → Result Step E → Type 0
StepsSpoken ways m instance run old reply result = IfOk result (λ step. (texts : Bool) → StepsIn texts (spoken_way texts (ways m (subject_of instance))) run old reply (turn_of step))

-- ---- by a kind that depends on the instance, and on whether texts are covered

-- the next run and answer
abbrev pub TurnsBy : {A E : Type 0} → (Bool → Subject → Way) → Instance → Progress → Answer → Reply → Progress → Answer → Result A E → Type 0
TurnsBy ways instance run old reply run' new result = IfOk result (λ _. (texts : Bool) → TurnsIn texts (ways texts (subject_of instance)) run old reply run' new)

-- the step
abbrev pub StepsBy : {E : Type 0} → (Bool → Subject → Way) → Instance → Progress → Answer → Reply → Result Step E → Type 0
StepsBy ways instance run old reply result = IfOk result (λ step. (texts : Bool) → StepsIn texts (ways texts (subject_of instance)) run old reply (turn_of step))

-- both, if texts are covered only when neither the keyword nor the instance holds a fraction
abbrev pub TellsTurnBy : {A E : Type 0} → Bool → (Bool → Subject → Way) → Instance → Progress → Answer → Reply → Progress → Answer → Result A E → Type 0
TellsTurnBy whole ways instance run old reply run' new result = IfOk result (λ _. (texts : Bool) → Tells texts whole (subject_of instance)
    → TurnsIn texts (ways texts (subject_of instance)) run old reply run' new)

abbrev pub TellsStepBy : {E : Type 0} → Bool → (Bool → Subject → Way) → Instance → Progress → Answer → Reply → Result Step E → Type 0
TellsStepBy whole ways instance run old reply result = IfOk result (λ step. (texts : Bool) → Tells texts whole (subject_of instance)
    → StepsIn texts (ways texts (subject_of instance)) run old reply (turn_of step))

-- ---- by a run that asks nothing

-- the errors are noted in the first turn only
abbrev pub TellsIfFirst : Stage → Bool → Type 0
TellsIfFirst stage first = (told answer : spec.Answer) → at_first stage told answer ≡ (if first then told else answer)
