-- The verdicts of the keywords that have one at once.
use Rattle.std.proofs.Common.{Bool, None, Option, Some, ◌≡◌, ◌∙◌}
use Rattle.std.specs.Prelude.{IfSome}
use Rattle.theory_definitions.specs.Instance.{Subject}
use Rattle.schema_traits.specs.AtOnce.{EndsAtOnce}
use Rattle.schema_traits.specs.KeywordViews.{Tells}
use Rattle.keyword_authoring.specs.OwnWays.{own_words}
use Rattle.keyword_authoring.specs.Plans.{plan_ways}
use Rattle.keyword_authoring.specs.declared.planned.Planned.{Planned}
use Rattle.keyword_authoring.proofs.AtOnce.{leaf_at_once}
use Rattle.standard_applicators.specs.Containing as contains
use Rattle.standard_applicators.specs.Courses.{course_words}
use Rattle.standard_applicators.specs.StandardCourses.{course}
use Rattle.standard_applicators.specs.Unexpected as unexpected
use Rattle.standard_applicators.specs.declared.applicator.StandardApplicator.TheVariants.{Contains, NoLaterItems}
use Rattle.standard_applicators.specs.declared.contains.Contains.{Contains as Limits}
use Rattle.standard_applicators.specs.declared.unexpected.NoLaterItems.{NoLaterItems as Before}

contains_ends : (texts : Bool) (k : Planned Limits) (s : Subject) (valid : Bool)
    → EndsAtOnce (own_words (plan_ways contains.planned contains.called contains.error_text) texts) k.keyword s valid → EndsAtOnce (course_words course texts) (Contains k) s valid
contains_ends texts k s valid h = record { asks_nothing = h.asks_nothing; says = h.says }

pub contains_at_once : (is_whole : Bool) (k : Planned Limits) (s : Subject) (o : Option Bool)
    → IfSome o (λ valid. (texts : Bool) → Tells texts is_whole s → EndsAtOnce (own_words (plan_ways contains.planned contains.called contains.error_text) texts) k.keyword s valid)
    → IfSome o (λ valid. (texts : Bool) → Tells texts is_whole s → EndsAtOnce (course_words course texts) (Contains k) s valid)
contains_at_once is_whole k s None h = h
contains_at_once is_whole k s (Some valid) h = λ texts tells. contains_ends texts k s valid (h texts tells)

pub none_at_once : (texts : Bool) (k : Before) (s : Subject) (valid : Bool) → unexpected.accepts k s ≡ valid → EndsAtOnce (course_words course texts) (NoLaterItems k) s valid
none_at_once texts k s valid is =
    let once = leaf_at_once texts (unexpected.called k) (unexpected.accepts k s) (unexpected.error_text k s) in
    record { asks_nothing = once.asks_nothing; says = once.says ∙ is }
