use Rattle.std.proofs.Common.{[], sym, subst}
use Rattle.std.proofs.lemmas.List.Elements.{All-head}
use Rattle.serde_json.specs.View.{view}
use Rattle.schema_reports.specs.ReportViews.{BorrowsItsPlace}
use Rattle.schema_compiled.proofs.compiled_schema.CompiledSchema.first.Goals as goal

pub returns-in-First-Some-clause-borrows : goal.returns-in-First-Some-clause-borrows
returns-in-First-Some-clause-borrows g c =
    let at_place = BorrowsItsPlace (view c.args.instance.now) in
    let each = rw (c.in-First-Some.is, c.in-First-Some.field-0-is) at c.in_ok-met.ensures.borrows in
    subst at_place (sym c.into_inner.ensures) (All-head at_place c.in-First-Some.error.value [] each)
