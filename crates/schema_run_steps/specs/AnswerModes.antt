-- The mode of an answer.
use Rattle.theory_definitions.specs.Keywords.{Mode, for_all, for_first, for_units, for_verdict}
use Rattle.schema_traits.specs.declared.keyword.Answer.{Answer}
use Rattle.schema_traits.specs.declared.keyword.Answer.TheVariants as answer

abbrev pub mode_in : Answer → Mode
mode_in (answer.Verdict b) = for_verdict
mode_in (answer.First f) = for_first
mode_in (answer.All fs) = for_all
mode_in (answer.Evaluation b) = for_units
