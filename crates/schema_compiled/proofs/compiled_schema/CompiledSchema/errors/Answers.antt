use Rattle.std.proofs.Common.{◌∙◌, sym, ap, subst}
use Rattle.std.specs.Prelude.{All}
use Rattle.serde_json.specs.View.{view}
use Rattle.schema_reports.specs.ReportViews.{BorrowsItsPlace}
use Rattle.schema_traits.specs.FaultViews.{errors_in}
use Rattle.schema_traits.specs.KeywordViews.{reply_of}
use Rattle.schema_traits.specs.declared.keyword.Reply.{Reply}
use Rattle.schema_compiled.proofs.Searches.{errors_are}
use Rattle.schema_compiled.proofs.compiled_schema.CompiledSchema.errors.Goals as goal

pub returns-clause-says : goal.returns-clause-says
returns-clause-says g c = λ texts speaks once n more. errors_are _ _ (ap (reply_of texts) (sym c.in-All.is) ∙ c.in_ok-met.ensures.says texts speaks once n more)

pub returns-clause-borrows : goal.returns-clause-borrows
returns-clause-borrows g c = subst (λ (r : Reply). All (BorrowsItsPlace (view c.args.instance.now)) (errors_in r)) c.in-All.is c.in_ok-met.ensures.borrows
