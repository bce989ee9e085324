use Rattle.std.proofs.Common.{◌∙◌, suc, [], sym, subst, arith, length}
use Rattle.std.specs.Prelude.{IfSome, Option}
use Rattle.schema_reports.specs.declared.reports.ValidationError.{ValidationError}
use Rattle.serde_json.specs.View.{view}
use Rattle.theory_definitions.specs.Cover.{validate}
use Rattle.theory_definitions.specs.Laws.{EachKeeps}
use Rattle.theory_meaning.specs.Numbered.{left, subject_in}
use Rattle.schema_reports.specs.ReportViews.{BorrowsItsPlace}
use Rattle.theory_meaning.proofs.Sentences.{validate_later}
use Rattle.theory_meaning.proofs.TurnsGiveRuns.{keeps_of_turns}
use Rattle.schema_node_table.specs.NodeTable.{numbered}
use Rattle.schema_run_context.proofs.Matches.{nothing_twice}
use Rattle.schema_compiled.specs.Asked.{FirstFromSomeDepth}
use Rattle.schema_compiled.proofs.ErrorSearches.{first_first, first_has}
use Rattle.schema_compiled.proofs.Searches.{finishes_of, none_of}
use Rattle.theory_runs.proofs.Spending.{asks_spends, spends_on}
use Rattle.schema_compiled.proofs.Solved.{on_err, one_verdict}
use Rattle.schema_compiled.proofs.Taken.{takes_after, takes_finished, takes_first}
use Rattle.schema_compiled.proofs.compiled_schema.CompiledSchema.first_under_each.Goals as goal

pub returns-then-not-met_unassumed-clause-depth : goal.returns-then-not-met_unassumed-clause-depth
returns-then-not-met_unassumed-clause-depth g c = λ texts speaks.
    let w = g.K.Validate in
    let p = c.args.self.now in
    let d = view c.args.instance.now in
    let nodes = numbered w.shape p.nodes in
    let deep = left nodes (length p.nodes) p.root (subject_in d []) [] in
    let each : EachKeeps (w.words texts) = λ m. (w.absorbed m, keeps_of_turns (w.words texts) m (w.absorbed m) (w.remaining m) (w.can_be texts m) (w.ends texts m) (w.fits texts m) (g.met.K.Validate.turn_laws texts m) (g.met.K.Validate.function_laws texts m)) in
    let says = c.in_ok-met.ensures.says in
    let meets = c.in_ok-met.ensures.meets in
    let none = none_of c.in_ok-met.met.unassumed (sym c.met_unassumed.ensures.met ∙ c.if-not-met_unassumed.true) in (
      suc deep,
      λ n more. first_first (w.words texts) each (g.M.Matcher.matching p.matcher) nodes d p.root n p.runs c.in_ok-met.ensures.makes_one texts c.in_ok-met.error c.in_ok-met.met (says texts speaks nothing_twice n (omega (arith, more))) (meets texts speaks nothing_twice n (omega (arith, more))) none,
    )

pub returns-clause-depth : goal.returns-clause-depth
returns-clause-depth g c =
    subst (λ (o : Option ValidationError). FirstFromSomeDepth g.K.Validate g.M.Matcher c.args.self.now (view c.args.instance.now) o) (sym c.first_of.ensures.first)
    (c.in_ok-shared.ensures.shares.first_error c.in_ok-met.ensures.meets)

pub returns-clause-borrows : goal.returns-clause-borrows
returns-clause-borrows g c =
    let d = view c.args.instance.now in
    subst (λ (o : Option ValidationError). IfSome o (BorrowsItsPlace d)) (sym c.first_of.ensures.first)
    (first_has (BorrowsItsPlace d) c.in_ok-shared.shared.items (c.in_ok-shared.ensures.shares.borrows validate validate_later c.in_ok-met.ensures.meets))

pub returns-then-accepts-clause-works : goal.returns-then-accepts-clause-works
returns-then-accepts-clause-works g c =
    let (finishes, one) = c.in_ok-accepts.ensures.finishes c.if-accepts.true in
    takes_finished g.K.Validate g.M.Matcher c.args.self.now (view c.args.instance.now) validate _ _ one (finishes_of (g.M.Matcher.matching c.args.self.now.matcher) finishes) c.in_ok-accepts.ensures.works

pub returns-then-not-met_unassumed-clause-works : goal.returns-then-not-met_unassumed-clause-works
returns-then-not-met_unassumed-clause-works g c =
    takes_first g.K.Validate g.M.Matcher c.args.self.now (view c.args.instance.now) validate _ _ c.in_ok-met.met c.in_ok-met.ensures.makes_one c.in_ok-met.ensures.meets
    (none_of c.in_ok-met.met.unassumed (sym c.met_unassumed.ensures.met ∙ c.if-not-met_unassumed.true)) (spends_on _ _ _ c.in_ok-accepts.ensures.works (asks_spends _ _ c.in_ok-met.ensures.works))

pub returns-clause-works : goal.returns-clause-works
returns-clause-works g c =
    takes_after g.K.Validate g.M.Matcher c.args.self.now (view c.args.instance.now) validate _ _ _ (spends_on _ _ _ c.in_ok-accepts.ensures.works (asks_spends _ _ c.in_ok-met.ensures.works))
    (c.in_ok-shared.ensures.works validate validate_later c.in_ok-met.ensures.meets)

pub returns-in_err-accepts-clause-decides : goal.returns-in_err-accepts-clause-decides
returns-in_err-accepts-clause-decides g c = λ decided valid. on_err _ (c.in_err-accepts.ensures.decides decided)

pub returns-in_err-met-clause-decides : goal.returns-in_err-met-clause-decides
returns-in_err-met-clause-decides g c = λ decided valid.
    let accepted = one_verdict g.K.Validate g.M.Matcher c.args.self.now (view c.args.instance.now) c.in_ok-accepts.accepts valid (c.in_ok-accepts.ensures.verdict decided) in
    let refused = c.if-accepts.false in
    absurd (let wrong : ⊥ = cc (accepted, refused) in wrong)

pub returns-in_err-shared-clause-decides : goal.returns-in_err-shared-clause-decides
returns-in_err-shared-clause-decides g c = λ decided valid.
    let accepted = one_verdict g.K.Validate g.M.Matcher c.args.self.now (view c.args.instance.now) c.in_ok-accepts.accepts valid (c.in_ok-accepts.ensures.verdict decided) in
    let refused = c.if-accepts.false in
    absurd (let wrong : ⊥ = cc (accepted, refused) in wrong)
