-- What a matcher may declare of itself. (Validation 2020-12, 4.3, regular expressions)
use Rattle.std.specs.Prelude.{◌≡◌}
use Rattle.theory_definitions.specs.Instance.{Text}
use Rattle.theory_definitions.specs.Matching.{Matcher, Reason, unfinished}

-- the matcher leaves no match unfinished
abbrev pub FinishesEach : Matcher → Type 0
FinishesEach m = (pattern subject : Text) (reason : Reason) → ¬ (m.is_match pattern subject ≡ unfinished reason)
