use Rattle.std.proofs.Common.{Bool, subst, sym}
use Rattle.serde_json.specs.View.{view}
use Rattle.theory_definitions.specs.Cover.{Sense, evaluate}
use Rattle.theory_definitions.specs.Laws.{EachKeeps}
use Rattle.schema_reports.specs.declared.evaluation.EvaluationNode.{EvaluationNode}
use Rattle.theory_meaning.proofs.SensesMeant.{of_every_sense}
use Rattle.theory_meaning.proofs.TurnsGiveRuns.{keeps_of_turns}
use Rattle.schema_node_table.specs.NodeTable.{numbered}
use Rattle.schema_compiled.specs.Asked.{EvaluatesFromSomeDepth}
use Rattle.schema_compiled.specs.Evaluated.{EvaluationAnswered}
use Rattle.schema_compiled.specs.Program.{HasUnits, Program}
use Rattle.schema_compiled.specs.Taken.{TakesByRuns}
use Rattle.schema_validator.proofs.Budgets.{takes_charged}
use Rattle.schema_validator.proofs.Greatest.{evaluates_accepted}
use Rattle.schema_validator.proofs.PlainAnswers.{units_in_every_sense}
use Rattle.schema_validator.proofs.validator.Validator.evaluate_within.Goals as goal

pub returns-in-Ok-clause-depth : goal.returns-in-Ok-clause-depth
returns-in-Ok-clause-depth g c =
    subst (λ (p : Program g.row.K.Denot g.row.M.Denot). EvaluatesFromSomeDepth g.K.Validate g.M.Matcher p (view c.args.instance.now) c.new.result) c.self.view_is
    (subst (λ (u : EvaluationNode). EvaluatesFromSomeDepth g.K.Validate g.M.Matcher c.self.inside.schema (view c.args.instance.now) u) (sym c.new.ensures.root) c.in-Ok.ensures.depth)

pub returns-in-Ok-clause-senses : goal.returns-in-Ok-clause-senses
returns-in-Ok-clause-senses g c = λ texts speaks.
    let p = c.args.self.now in
    of_every_sense (g.K.Validate.words texts) (g.M.Matcher.matching p.matcher) (numbered g.K.Validate.shape p.nodes) p.root (view c.args.instance.now) (λ (v : Sense). EvaluationAnswered v p.runs texts _) (returns-in-Ok-clause-depth g c texts speaks)

pub returns-in-Ok-clause-units : goal.returns-in-Ok-clause-units
returns-in-Ok-clause-units g c =
    subst (λ (p : Program g.row.K.Denot g.row.M.Denot). HasUnits g.K.Validate.shape g.K.Validate.words g.K.Validate.is_whole g.M.Matcher.matching p (view c.args.instance.now) c.new.result) c.self.view_is
    (subst (λ (u : EvaluationNode). HasUnits g.K.Validate.shape g.K.Validate.words g.K.Validate.is_whole g.M.Matcher.matching c.self.inside.schema (view c.args.instance.now) u) (sym c.new.ensures.root) c.in-Ok.ensures.units)

pub returns-in-Ok-clause-plain : goal.returns-in-Ok-clause-plain
returns-in-Ok-clause-plain g c =
    let k = g.K.Validate in
    units_in_every_sense k.shape k.words k.is_whole g.M.Matcher.matching c.args.self.now (view c.args.instance.now) _ (returns-in-Ok-clause-units g c)

pub returns-in-Ok-clause-greatest : goal.returns-in-Ok-clause-greatest
returns-in-Ok-clause-greatest g c =
    let k = g.K.Validate in
    let keeps : (texts : Bool) → EachKeeps (k.words texts) = λ texts s. (k.absorbed s, keeps_of_turns (k.words texts) s (k.absorbed s) (k.remaining s) (k.can_be texts s) (k.ends texts s) (k.fits texts s) (g.met.K.Validate.turn_laws texts s) (g.met.K.Validate.function_laws texts s)) in
    evaluates_accepted k g.M.Matcher keeps c.args.self.now c.assert_ranked.ensures.ranked c.assert_ranked.ensures.inside (view c.args.instance.now) _ (returns-in-Ok-clause-depth g c)

pub returns-in-Ok-clause-works : goal.returns-in-Ok-clause-works
returns-in-Ok-clause-works g c =
    let taken = subst (λ (p : Program g.row.K.Denot g.row.M.Denot). TakesByRuns g.K.Validate g.M.Matcher p (view c.args.instance.now) evaluate c.copy_for_call-copy.result c.evaluated_under_each.new.work) c.self.view_is c.in-Ok.ensures.works in
    takes_charged _ _ _ _ c.copy_for_call-copy.ensures.copied c.charge.ensures g.K.Validate g.M.Matcher c.args.self.now (view c.args.instance.now) evaluate taken
