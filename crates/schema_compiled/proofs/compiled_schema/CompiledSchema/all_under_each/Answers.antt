use Rattle.std.proofs.Common.{◌∙◌, suc, List, [], refl, sym, ap, subst, arith, length}
use Rattle.serde_json.specs.View.{view}
use Rattle.theory_definitions.specs.Cover.{iter_errors}
use Rattle.theory_definitions.specs.Keywords.{for_all}
use Rattle.theory_definitions.specs.Laws.{EachKeeps}
use Rattle.theory_meaning.specs.Numbered.{left, subject_in}
use Rattle.theory_definitions.specs.Unfinished.{Remembered}
use Rattle.theory_meaning.proofs.TurnsGiveRuns.{keeps_of_turns}
use Rattle.schema_node_table.specs.NodeTable.{numbered}
use Rattle.schema_run_context.proofs.Matches.{nothing_twice}
use Rattle.schema_reports.specs.declared.reports.ValidationError.{ValidationError}
use Rattle.schema_traits.proofs.Replies.{if_ok_mono}
use Rattle.schema_compiled.specs.Answers.{MeetsMatches, SaysErrors}
use Rattle.schema_compiled.specs.Asked.{ErrorsFromSomeDepth}
use Rattle.schema_compiled.proofs.ErrorSearches.{errors_first}
use Rattle.schema_compiled.proofs.Searches.{finishes_of, none_of}
use Rattle.theory_runs.proofs.Spending.{asks_spends, spends_on}
use Rattle.schema_compiled.proofs.Solved.{on_err, one_verdict}
use Rattle.schema_compiled.proofs.Taken.{takes_after, takes_finished, takes_first}
use Rattle.schema_compiled.proofs.compiled_schema.CompiledSchema.all_under_each.Goals as goal

pub returns-then-accepts-clause-depth : goal.returns-then-accepts-clause-depth
returns-then-accepts-clause-depth g c =
    subst (λ (es : List ValidationError). ErrorsFromSomeDepth g.K.Validate g.M.Matcher c.args.self.now (view c.args.instance.now) es) (sym c.new.ensures.items)
    (c.in_ok-accepts.ensures.errors c.if-accepts.true)

pub returns-then-not-met_unassumed-clause-depth : goal.returns-then-not-met_unassumed-clause-depth
returns-then-not-met_unassumed-clause-depth g c = λ texts speaks.
    let w = g.K.Validate in
    let p = c.args.self.now in
    let d = view c.args.instance.now in
    let nodes = numbered w.shape p.nodes in
    let deep = left nodes (length p.nodes) p.root (subject_in d []) [] in
    let each : EachKeeps (w.words texts) = λ m. (w.absorbed m, keeps_of_turns (w.words texts) m (w.absorbed m) (w.remaining m) (w.can_be texts m) (w.ends texts m) (w.fits texts m) (g.met.K.Validate.turn_laws texts m) (g.met.K.Validate.function_laws texts m)) in
    let says = subst (λ (r : Remembered). SaysErrors w.shape w.words w.is_whole g.M.Matcher.matching p d r.assumptions c.in_ok-met.errors.items) c.new-2.ensures.starts c.in_ok-met.ensures.says in
    let meets = subst (λ (r : Remembered). MeetsMatches w.shape w.words w.is_whole g.M.Matcher.matching p d for_all r c.in_ok-met.met) c.new-2.ensures.starts c.in_ok-met.ensures.meets in
    let none = none_of c.in_ok-met.met.unassumed (sym c.met_unassumed.ensures.met ∙ c.if-not-met_unassumed.true) in (
      suc deep,
      λ n more. errors_first (w.words texts) each (g.M.Matcher.matching p.matcher) nodes d p.root n p.runs c.in_ok-met.ensures.makes_one texts c.in_ok-met.errors.items c.in_ok-met.met (says texts speaks nothing_twice n (omega (arith, more))) (meets texts speaks nothing_twice n (omega (arith, more))) none,
    )

pub shared_errors-requires-clause-none : goal.shared_errors-requires-clause-none
shared_errors-requires-clause-none g c = c.in_ok-met.ensures.assumes ∙ ap (λ (r : Remembered). r.assumptions) c.new-2.ensures.starts

pub returns-clause-depth : goal.returns-clause-depth
returns-clause-depth g c =
    let w = g.K.Validate in
    let p = c.args.self.now in
    let d = view c.args.instance.now in
    let meets = subst (λ (r : Remembered). MeetsMatches w.shape w.words w.is_whole g.M.Matcher.matching p d for_all r c.in_ok-met.met) c.new-2.ensures.starts c.in_ok-met.ensures.meets in
    if_ok_mono c.shared_errors.result _ _ (λ es shared. shared.errors meets) c.shared_errors.ensures.shares

pub returns-clause-borrows : goal.returns-clause-borrows
returns-clause-borrows g c =
    let w = g.K.Validate in
    let p = c.args.self.now in
    let d = view c.args.instance.now in
    let meets = subst (λ (r : Remembered). MeetsMatches w.shape w.words w.is_whole g.M.Matcher.matching p d for_all r c.in_ok-met.met) c.new-2.ensures.starts c.in_ok-met.ensures.meets in
    if_ok_mono c.shared_errors.result _ _ (λ es shared. shared.borrows iter_errors (λ as' k. refl) meets) c.shared_errors.ensures.shares

pub returns-then-accepts-clause-works : goal.returns-then-accepts-clause-works
returns-then-accepts-clause-works g c =
    let (finishes, one) = c.in_ok-accepts.ensures.finishes c.if-accepts.true in
    takes_finished g.K.Validate g.M.Matcher c.args.self.now (view c.args.instance.now) iter_errors _ _ one (finishes_of (g.M.Matcher.matching c.args.self.now.matcher) finishes) c.in_ok-accepts.ensures.works

pub returns-then-not-met_unassumed-clause-works : goal.returns-then-not-met_unassumed-clause-works
returns-then-not-met_unassumed-clause-works g c =
    let w = g.K.Validate in
    let p = c.args.self.now in
    let d = view c.args.instance.now in
    let meets = subst (λ (r : Remembered). MeetsMatches w.shape w.words w.is_whole g.M.Matcher.matching p d for_all r c.in_ok-met.met) c.new-2.ensures.starts c.in_ok-met.ensures.meets in
    takes_first w g.M.Matcher p d iter_errors _ _ c.in_ok-met.met c.in_ok-met.ensures.makes_one meets
    (none_of c.in_ok-met.met.unassumed (sym c.met_unassumed.ensures.met ∙ c.if-not-met_unassumed.true)) (spends_on _ _ _ c.in_ok-accepts.ensures.works (asks_spends _ _ c.in_ok-met.ensures.works))

pub returns-clause-works : goal.returns-clause-works
returns-clause-works g c =
    let w = g.K.Validate in
    let p = c.args.self.now in
    let d = view c.args.instance.now in
    let meets = subst (λ (r : Remembered). MeetsMatches w.shape w.words w.is_whole g.M.Matcher.matching p d for_all r c.in_ok-met.met) c.new-2.ensures.starts c.in_ok-met.ensures.meets in
    if_ok_mono c.shared_errors.result _ _ (λ es takes. takes_after w g.M.Matcher p d iter_errors _ _ _ (spends_on _ _ _ c.in_ok-accepts.ensures.works (asks_spends _ _ c.in_ok-met.ensures.works))
    (takes iter_errors (λ as' k. refl) meets)) c.shared_errors.ensures.works

pub returns-in_err-accepts-clause-decides : goal.returns-in_err-accepts-clause-decides
returns-in_err-accepts-clause-decides g c = λ decided valid. on_err _ (c.in_err-accepts.ensures.decides decided)

pub returns-in_err-met-clause-decides : goal.returns-in_err-met-clause-decides
returns-in_err-met-clause-decides g c = λ decided valid.
    let accepted = one_verdict g.K.Validate g.M.Matcher c.args.self.now (view c.args.instance.now) c.in_ok-accepts.accepts valid (c.in_ok-accepts.ensures.verdict decided) in
    let refused = c.if-accepts.false in
    absurd (let wrong : ⊥ = cc (accepted, refused) in wrong)

pub returns-clause-decides : goal.returns-clause-decides
returns-clause-decides g c = λ decided valid.
    let accepted = one_verdict g.K.Validate g.M.Matcher c.args.self.now (view c.args.instance.now) c.in_ok-accepts.accepts valid (c.in_ok-accepts.ensures.verdict decided) in
    let refused = c.if-accepts.false in
    absurd (let wrong : ⊥ = cc (accepted, refused) in wrong)
