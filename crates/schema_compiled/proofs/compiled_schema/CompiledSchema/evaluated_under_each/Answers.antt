use Rattle.std.proofs.Common.{◌≡◌, ◌∙◌, true, suc, [], sym, arith, length}
use Rattle.std.specs.Prelude.{is_some}
use Rattle.serde_json.specs.View.{view}
use Rattle.theory_definitions.specs.Laws.{EachKeeps}
use Rattle.theory_meaning.specs.Numbered.{left, subject_in}
use Rattle.theory_meaning.proofs.TurnsGiveRuns.{keeps_of_turns}
use Rattle.schema_node_table.specs.NodeTable.{numbered}
use Rattle.schema_run_context.proofs.Matches.{nothing_twice}
use Rattle.schema_traits.proofs.Replies.{if_ok_always, if_ok_mono}
use Rattle.schema_compiled.proofs.ErrorSearches.{evaluated_first, units_first, units_searched}
use Rattle.schema_compiled.proofs.Searches.{none_of}
use Rattle.theory_runs.proofs.Spending.{asks_spends}
use Rattle.schema_compiled.proofs.Taken.{takes_after, takes_first}
use Rattle.theory_meaning.proofs.Sentences.{evaluate_later}
use Rattle.theory_definitions.specs.Cover.{evaluate}
use Rattle.schema_compiled.proofs.compiled_schema.CompiledSchema.evaluated_under_each.Goals as goal

pub returns-then-not-met_unassumed-clause-depth : goal.returns-then-not-met_unassumed-clause-depth
returns-then-not-met_unassumed-clause-depth g c = λ texts speaks.
    let w = g.K.Validate in
    let p = c.args.self.now in
    let d = view c.args.instance.now in
    let nodes = numbered w.shape p.nodes in
    let deep = left nodes (length p.nodes) p.root (subject_in d []) [] in
    let each : EachKeeps (w.words texts) = λ m. (w.absorbed m, keeps_of_turns (w.words texts) m (w.absorbed m) (w.remaining m) (w.can_be texts m) (w.ends texts m) (w.fits texts m) (g.met.K.Validate.turn_laws texts m) (g.met.K.Validate.function_laws texts m)) in
    let says = c.in_ok-met.ensures.says in
    let meets = c.in_ok-met.ensures.meets in
    let none = none_of c.in_ok-met.met.unassumed (sym c.met_unassumed.ensures.met ∙ c.if-not-met_unassumed.true) in (
      suc deep,
      λ n more. evaluated_first (w.words texts) each (g.M.Matcher.matching p.matcher) nodes d p.root n p.runs c.in_ok-met.ensures.makes_one texts c.in_ok-met.unit c.in_ok-met.met (says texts speaks nothing_twice n (omega (arith, more))) (meets texts speaks nothing_twice n (omega (arith, more))) none,
    )

pub returns-then-not-met_unassumed-clause-units : goal.returns-then-not-met_unassumed-clause-units
returns-then-not-met_unassumed-clause-units g c = λ texts speaks.
    let w = g.K.Validate in
    let p = c.args.self.now in
    let d = view c.args.instance.now in
    let nodes = numbered w.shape p.nodes in
    let deep = left nodes (length p.nodes) p.root (subject_in d []) [] in
    let each : EachKeeps (w.words texts) = λ m. (w.absorbed m, keeps_of_turns (w.words texts) m (w.absorbed m) (w.remaining m) (w.can_be texts m) (w.ends texts m) (w.fits texts m) (g.met.K.Validate.turn_laws texts m) (g.met.K.Validate.function_laws texts m)) in
    let says = c.in_ok-met.ensures.says in (
      suc deep,
      λ n more. units_first (w.words texts) each (g.M.Matcher.matching p.matcher) nodes d p.root n p.runs c.in_ok-met.ensures.makes_one texts c.in_ok-met.unit (says texts speaks nothing_twice n (omega (arith, more))),
    )

pub returns-clause-units : goal.returns-clause-units
returns-clause-units g c = if_ok_mono c.unit_of_errors.result _ _ (λ u made texts speaks.
    let w = g.K.Validate in
    let p = c.args.self.now in
    let d = view c.args.instance.now in
    let nodes = numbered w.shape p.nodes in
    let deep = left nodes (length p.nodes) p.root (subject_in d []) [] in
    let each : EachKeeps (w.words texts) = λ m. (w.absorbed m, keeps_of_turns (w.words texts) m (w.absorbed m) (w.remaining m) (w.can_be texts m) (w.ends texts m) (w.fits texts m) (g.met.K.Validate.turn_laws texts m) (g.met.K.Validate.function_laws texts m)) in
    let meets = c.in_ok-met.ensures.meets in
    let none : c.in_ok-met.met.assumptions ≡ [] = c.in_ok-met.ensures.assumes in
    let some : is_some c.in_ok-met.met.unassumed ≡ true = sym c.met_unassumed.ensures.met ∙ c.if-not-met_unassumed.false in (
      suc deep,
      λ n more branch completion. absurd (units_searched (w.words texts) each (g.M.Matcher.matching p.matcher) nodes d p.root n p.runs c.in_ok-met.ensures.makes_one c.in_ok-met.met none some (meets texts speaks nothing_twice n (omega (arith, more))) branch),
    )) c.unit_of_errors.ensures.unit

pub returns-clause-depth : goal.returns-clause-depth
returns-clause-depth g c = if_ok_mono c.unit_of_errors.result _ _ (λ u made. c.in_ok-shared.ensures.shares.units c.in_ok-met.ensures.meets u made) c.unit_of_errors.ensures.unit

pub returns-then-not-met_unassumed-clause-works : goal.returns-then-not-met_unassumed-clause-works
returns-then-not-met_unassumed-clause-works g c =
    takes_first g.K.Validate g.M.Matcher c.args.self.now (view c.args.instance.now) evaluate _ _ c.in_ok-met.met c.in_ok-met.ensures.makes_one c.in_ok-met.ensures.meets
    (none_of c.in_ok-met.met.unassumed (sym c.met_unassumed.ensures.met ∙ c.if-not-met_unassumed.true)) (asks_spends _ _ c.in_ok-met.ensures.works)

pub returns-clause-works : goal.returns-clause-works
returns-clause-works g c = if_ok_always c.unit_of_errors.result _
    (takes_after g.K.Validate g.M.Matcher c.args.self.now (view c.args.instance.now) evaluate _ _ _ (asks_spends _ _ c.in_ok-met.ensures.works) (c.in_ok-shared.ensures.works evaluate evaluate_later c.in_ok-met.ensures.meets))
