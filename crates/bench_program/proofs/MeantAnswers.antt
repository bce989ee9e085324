-- A fact about every sense that a validator means is a fact about the plain meaning of schema and
-- parts, which it means.
use Rattle.std.proofs.Common.{Bool, IfOk, List, Result, string_bytes, subst, sym, ◌≡◌}
use Rattle.std.proofs.lemmas.Result.{IfOk-weaker}
use Rattle.serde_json.specs.Data.{Data}
use Rattle.theory_definitions.specs.Instance.{Text}
use Rattle.theory_definitions.specs.Cover.{Sense}
use Rattle.theory_definitions.specs.Making.{Table}
use Rattle.theory_definitions.specs.Matching.{Matcher}
use Rattle.theory_definitions.specs.Resolving.{Resolver}
use Rattle.schema_validator.specs.Handed.{Options}
use Rattle.schema_compiled.specs.Program.{OfEverySense, Program}
use Rattle.bench_parts.specs.BenchMatching.{bench_matcher}
use Rattle.standard_resolver.specs.DocumentStates.{Point}
use Rattle.standard_basics.specs.BasicShape.{BasicShape, is_whole}
use Rattle.schema_compiled.specs.Evaluated.{UnitsAnswered}
use Rattle.schema_validator.proofs.PlainAnswers.{plainly_with_units}
use Rattle.bench_program.specs.ProgramMeaning.{AnswersInEverySense, AnswersPlainly, BenchHasUnits, BenchMeans, OfPlainMeaning}
use Rattle.standard_basics.specs.Shapes.{shape_of}
use Rattle.standard_basics.specs.Words.{words}
use Rattle.standard_basics.specs.declared.keyword.BasicKeyword.{BasicKeyword}
use Rattle.bench_program.specs.declared.program.answers.Answer.{Answer}
use Rattle.bench_program.specs.declared.program.requests.Call.{Call}
use Rattle.bench_program.specs.declared.program.requests.Call.TheVariants.{Evaluate, IsValid, IterErrors, Validate}

said_plainly : (resolver : Resolver Point) (table : Table BasicShape) (matcher : Matcher) (options : Options) (schema : Data) (p : Program BasicKeyword (List Text)) (instance : Data) (fact : Bool → Sense → Type 0)
    → BenchMeans resolver table matcher options schema p → OfEverySense shape_of words is_whole bench_matcher p instance fact
    → OfPlainMeaning resolver table matcher options schema instance fact
said_plainly resolver table matcher options schema p instance fact means said = λ spoken root is_root rightly.
    let m = means instance spoken root is_root rightly in
    λ no_return keys reach n deep. said spoken m.0 _ (m.1 no_return keys reach n deep)

pub answers_plainly : (resolver : Resolver Point) (table : Table BasicShape) (matcher : Matcher) (options : Options) (schema : Data) (p : Program BasicKeyword (List Text)) (instance : Data)
    (call : Call) (accepted : Bool) (text : Text) → AnswersInEverySense p instance call accepted text
    → BenchMeans resolver table matcher options schema p → BenchHasUnits resolver table matcher options schema p → AnswersPlainly resolver table matcher options schema p.runs instance call accepted text
answers_plainly resolver table matcher options schema p instance IsValid accepted text (said, is_text) means units =
    (said_plainly resolver table matcher options schema p instance _ means said, is_text)
answers_plainly resolver table matcher options schema p instance Validate accepted text (first, said, is_accepted, is_text) means units =
    (first, said_plainly resolver table matcher options schema p instance _ means said, is_accepted, is_text)
answers_plainly resolver table matcher options schema p instance IterErrors accepted text (errors, said, is_accepted, is_text) means units =
    (errors, said_plainly resolver table matcher options schema p instance _ means said, is_accepted, is_text)
answers_plainly resolver table matcher options schema p instance Evaluate accepted text answered means units = record {
  evaluation = answered.evaluation;
  said = said_plainly resolver table matcher options schema p instance _ means answered.said;
  units = plainly_with_units resolver table matcher words options schema shape_of is_whole bench_matcher p instance (λ spoken v units. UnitsAnswered v spoken units answered.evaluation) means units answered.units;
  verdict = answered.verdict;
  listed = answered.listed;
}

-- the same for the answer of a call
pub answered_plainly : {E : Type 0} (p : Program BasicKeyword (List Text)) (instance : Data) (asked call : Call) (r : Result Answer E) → asked ≡ call
    → IfOk r (λ a. AnswersInEverySense p instance call a.accepted (string_bytes a.text))
    → IfOk r (λ a. (resolver : Resolver Point) (table : Table BasicShape) (matcher : Matcher) (options : Options) (schema : Data)
    → BenchMeans resolver table matcher options schema p → BenchHasUnits resolver table matcher options schema p → AnswersPlainly resolver table matcher options schema p.runs instance asked a.accepted (string_bytes a.text))
answered_plainly p instance asked call r same said = IfOk-weaker r _ _
    (λ a h resolver table matcher options schema means units.
    answers_plainly resolver table matcher options schema p instance asked a.accepted (string_bytes a.text)
    (subst (λ c. AnswersInEverySense p instance c a.accepted (string_bytes a.text)) (sym same) h) means units)
    said
