-- How the answer after a call depends on the answer before it, whether texts are covered or not.
use Rattle.std.specs.Prelude.{Bool, String, false, string_bytes, ◌≡◌}
use Rattle.std.specs.declared.alloc.Global.{Global}
use Rattle.theory_definitions.specs.Instance.{Subject, Text}
use Rattle.theory_definitions.specs.Keywords as spec
use Rattle.schema_reports.specs.InstanceTexts.{subject_has_float}
use Rattle.schema_reports.specs.InstanceViews.{subject_of}
use Rattle.schema_reports.specs.ReportViews.{spoken}
use Rattle.schema_reports.specs.UnitViews.{unit_of}
use Rattle.schema_reports.specs.declared.evaluation.EvaluationNode.{EvaluationNode}
use Rattle.schema_reports.specs.declared.instance.Instance.{Instance}
use Rattle.schema_traits.specs.KeywordViews.{Tells, answer_of, reply_of}
use Rattle.schema_traits.specs.declared.keyword.Answer.{Answer}
use Rattle.schema_traits.specs.declared.keyword.Mode.{Mode}
use Rattle.schema_traits.specs.declared.keyword.Reply.{Reply}
use Rattle.keyword_authoring.specs.Tallies.{in_evaluation, with_inside}
use Rattle.keyword_authoring.specs.Ways.{Way, noted_one, plain, refused, taken, told_at_once}
use Rattle.keyword_authoring.specs.OwnWays.{spoken_way}

-- the error of a keyword of this name, with this text
abbrev pub own_fault : Bool → Text → String Global → spec.Fault
own_fault texts name text = spec.own (plain name (spoken texts (string_bytes text)))

-- the new answer is this function of the old one
abbrev pub Becomes : Answer → (Bool → spec.Answer → spec.Answer) → Answer → Type 0
Becomes old f new = (texts : Bool) → answer_of texts new ≡ f texts (answer_of texts old)

-- the answer becomes a refusal
abbrev pub Refuses : Answer → Answer → Type 0
Refuses old new = (texts : Bool) → answer_of texts new ≡ refused (answer_of texts old)

-- an error of the keyword itself is added
abbrev pub Notes : Mode → Text → String Global → Answer → Answer → Type 0
Notes mode name text old new = (texts : Bool) → answer_of texts new ≡ noted_one mode (answer_of texts old) (own_fault texts name text)

-- the reply of a child is added
abbrev pub Takes : Reply → Answer → Answer → Type 0
Takes reply old new = (texts : Bool) → answer_of texts new ≡ taken (answer_of texts old) (reply_of texts reply)

-- the unit of a child is kept, whatever its verdict
abbrev pub KeepsUnit : EvaluationNode → Answer → Answer → Type 0
KeepsUnit node old new = (texts : Bool) → answer_of texts new ≡ in_evaluation (answer_of texts old).verdict (with_inside (answer_of texts old).gives (unit_of texts node))

-- ---- texts are covered only if neither the keyword nor the instance holds a fraction

-- a fact about the instance, if it holds no fraction
abbrev pub IfNoFraction : Instance → (Subject → Type 0) → Type 0
IfNoFraction instance Holds = subject_has_float (subject_of instance) ≡ false → Holds (subject_of instance)

-- the errors that a keyword of this kind reports at once are added
abbrev pub TellsAtOnce : {M : Type 0} → (M → Bool) → (M → Subject → Way) → M → Instance → Mode → Answer → Answer → Type 0
TellsAtOnce is_whole ways m instance mode old new = (texts : Bool) → Tells texts (is_whole m) (subject_of instance)
    → answer_of texts new ≡ told_at_once (spoken_way texts (ways m (subject_of instance))) mode (answer_of texts old)

-- this holds if texts are covered only when neither the keyword nor the instance holds a fraction
abbrev pub IfTold : Bool → Instance → (Bool → Subject → Type 0) → Type 0
IfTold whole instance Holds = (texts : Bool) → Tells texts whole (subject_of instance) → Holds texts (subject_of instance)

-- the new answer is this function of the old one, if texts are covered only when neither the
-- keyword nor the instance holds a fraction
abbrev pub BecomesTold : Bool → Instance → (Bool → Subject → spec.Answer → spec.Answer) → Answer → Answer → Type 0
BecomesTold whole instance f old new = (texts : Bool) → Tells texts whole (subject_of instance)
    → answer_of texts new ≡ f texts (subject_of instance) (answer_of texts old)
