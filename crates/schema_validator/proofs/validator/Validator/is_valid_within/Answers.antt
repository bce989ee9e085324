use Rattle.std.proofs.Common.{Bool, subst}
use Rattle.serde_json.specs.View.{view}
use Rattle.theory_definitions.specs.Cover.{Sense, is_valid}
use Rattle.theory_definitions.specs.Laws.{EachKeeps}
use Rattle.theory_meaning.specs.Headline.{VerdictSays}
use Rattle.theory_meaning.proofs.SensesMeant.{of_every_sense}
use Rattle.theory_meaning.proofs.TurnsGiveRuns.{keeps_of_turns}
use Rattle.schema_node_table.specs.NodeTable.{numbered}
use Rattle.schema_compiled.specs.Asked.{DecidesFromSomeDepth}
use Rattle.schema_compiled.specs.Program.{Program}
use Rattle.schema_compiled.specs.Solved.{IsDecidedWithin}
use Rattle.schema_compiled.specs.Taken.{TakesByRuns}
use Rattle.schema_validator.specs.Budgets.{StaysUnstopped}
use Rattle.schema_validator.proofs.Budgets.{left_at_begin, stays_charged, takes_charged}
use Rattle.schema_validator.proofs.Greatest.{decides_accepted}
use Rattle.schema_validator.proofs.validator.Validator.is_valid_within.Goals as goal

pub returns-in-Ok-clause-depth : goal.returns-in-Ok-clause-depth
returns-in-Ok-clause-depth g c = subst (λ (p : Program g.row.K.Denot g.row.M.Denot). DecidesFromSomeDepth g.K.Validate g.M.Matcher p (view c.args.instance.now) c.in-Ok.valid) c.self.view_is c.in-Ok.ensures.depth

pub returns-in-Ok-clause-senses : goal.returns-in-Ok-clause-senses
returns-in-Ok-clause-senses g c = λ texts speaks.
    let p = c.args.self.now in
    of_every_sense (g.K.Validate.words texts) (g.M.Matcher.matching p.matcher) (numbered g.K.Validate.shape p.nodes) p.root (view c.args.instance.now) (λ (v : Sense). VerdictSays v p.runs is_valid c.in-Ok.valid) (returns-in-Ok-clause-depth g c texts speaks)

pub returns-in-Ok-clause-greatest : goal.returns-in-Ok-clause-greatest
returns-in-Ok-clause-greatest g c =
    let k = g.K.Validate in
    let keeps : (texts : Bool) → EachKeeps (k.words texts) = λ texts s. (k.absorbed s, keeps_of_turns (k.words texts) s (k.absorbed s) (k.remaining s) (k.can_be texts s) (k.ends texts s) (k.fits texts s) (g.met.K.Validate.turn_laws texts s) (g.met.K.Validate.function_laws texts s)) in
    decides_accepted k g.M.Matcher keeps c.args.self.now c.assert_ranked.ensures.ranked c.assert_ranked.ensures.inside (view c.args.instance.now) c.in-Ok.valid (returns-in-Ok-clause-depth g c)

pub returns-in-Ok-clause-works : goal.returns-in-Ok-clause-works
returns-in-Ok-clause-works g c =
    let taken = subst (λ (p : Program g.row.K.Denot g.row.M.Denot). TakesByRuns g.K.Validate g.M.Matcher p (view c.args.instance.now) is_valid c.copy_for_call-copy.result c.valid_under_each.new.work) c.self.view_is c.in-Ok.ensures.works in
    takes_charged _ _ _ _ c.copy_for_call-copy.ensures.copied c.charge.ensures g.K.Validate g.M.Matcher c.args.self.now (view c.args.instance.now) is_valid taken

pub returns-in-Err-clause-decides : goal.returns-in-Err-clause-decides
returns-in-Err-clause-decides g c = λ decided.
    let going = subst (λ (p : Program g.row.K.Denot g.row.M.Denot). IsDecidedWithin g.K.Validate g.M.Matcher p c.args.instance.now c.copy_for_call-copy.result.left → StaysUnstopped c.copy_for_call-copy.result c.valid_under_each.new.work) c.self.view_is c.in-Err.ensures.decides in
    stays_charged _ _ _ _ c.copy_for_call-copy.ensures.copied c.charge_failure.ensures.charged (going (subst (IsDecidedWithin g.K.Validate g.M.Matcher c.args.self.now c.args.instance.now) (left_at_begin c.args.work.now c.copy_for_call-copy.result c.copy_for_call-copy.ensures.copied) decided))
