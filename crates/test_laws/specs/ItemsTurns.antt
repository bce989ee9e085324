-- A turn of `x-items` or `type`, with texts covered only if the instance holds no fraction.
use Rattle.std.specs.Prelude.{true, ◌≡◌}
use Rattle.schema_reports.specs.declared.instance.Instance.{Instance}
use Rattle.schema_traits.specs.KeywordViews.{answer_of, reply_of, turn_of}
use Rattle.schema_traits.specs.declared.keyword.Answer.{Answer}
use Rattle.schema_traits.specs.declared.keyword.Reply.{Reply}
use Rattle.schema_traits.specs.declared.keyword.Step.{Step}
use Rattle.keyword_authoring.specs.AnswerWords.{IfTold}
use Rattle.keyword_authoring.specs.OwnWays.{own_words}
use Rattle.keyword_authoring.specs.declared.run.Progress.{Progress}
use Rattle.test_laws.specs.Items.{marks}
use Rattle.test_laws.specs.ItemsWords.{ways}
use Rattle.test_laws.specs.Marking.{shown, worked}
use Rattle.test_laws.specs.declared.items.ItemsPlan.{ItemsPlan}
use Rattle.test_laws.specs.declared.marking.Stage.{Stage}

-- the next run, with its stage of marking, and the next answer
abbrev pub TurnsItems : ItemsPlan → Instance → Progress → Answer → Reply → Stage × Progress → Answer → Type 0
TurnsItems k instance run old reply run' new = IfTold true instance (λ texts s.
    worked marks (own_words ways) texts k s (run, answer_of texts old) (reply_of texts reply) ≡ (run', answer_of texts new))

-- the step, with the marking shown
abbrev pub StepsItems : ItemsPlan → Instance → Progress → Answer → Reply → Step → Type 0
StepsItems k instance run old reply step = IfTold true instance (λ texts s.
    shown (marks k) ((own_words ways texts).step k s (run, answer_of texts old) (reply_of texts reply)) ≡ turn_of step)
