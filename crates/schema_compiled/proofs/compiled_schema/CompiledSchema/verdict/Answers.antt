use Rattle.std.proofs.Common.{◌∙◌, sym, ap}
use Rattle.schema_traits.specs.KeywordViews.{reply_of}
use Rattle.schema_compiled.proofs.Searches.{truth_is}
use Rattle.schema_compiled.proofs.compiled_schema.CompiledSchema.verdict.Goals as goal

pub returns-clause-says : goal.returns-clause-says
returns-clause-says g c = λ texts speaks once n more. truth_is _ _ (ap (reply_of texts) (sym c.in-Truth.is) ∙ c.in_ok-met.ensures.says texts speaks once n more)
