use Rattle.std.proofs.Common.{Bool, subst, sym, true}
use Rattle.std.specs.Prelude.{Option, IfSome}
use Rattle.serde_json.specs.View.{view}
use Rattle.theory_definitions.specs.Guarded.{guarded_sense}
use Rattle.theory_definitions.specs.Cover.{Sense, validate}
use Rattle.theory_definitions.specs.Laws.{EachKeeps}
use Rattle.theory_meaning.specs.Numbered.{subject_in}
use Rattle.theory_meaning.specs.Means.{FromSomeDepth}
use Rattle.schema_reports.specs.ReportViews.{BorrowsItsPlace}
use Rattle.schema_reports.specs.declared.reports.ValidationError.{ValidationError}
use Rattle.theory_meaning.proofs.SensesMeant.{of_every_sense}
use Rattle.theory_meaning.proofs.TurnsGiveRuns.{keeps_of_turns}
use Rattle.schema_node_table.specs.NodeTable.{numbered}
use Rattle.schema_compiled.specs.Answers.{refusal_of}
use Rattle.schema_compiled.specs.Asked.{DecidesFromSomeDepth, FirstFromSomeDepth}
use Rattle.schema_compiled.specs.Program.{Program}
use Rattle.schema_compiled.specs.Solved.{IsDecidedWithin}
use Rattle.schema_compiled.specs.Taken.{TakesByRuns}
use Rattle.schema_validator.specs.Budgets.{StaysUnstopped}
use Rattle.schema_validator.proofs.Budgets.{left_at_begin, stays_charged, takes_charged}
use Rattle.schema_compiled.specs.Spoken.{FirstAnswered, FirstIsGiven}
use Rattle.schema_validator.proofs.Greatest.{first_accepted}
use Rattle.schema_validator.proofs.Pointing.{first_is_given}
use Rattle.schema_validator.proofs.validator.Validator.validate_within.Goals as goal

pub returns-in-Ok-clause-depth : goal.returns-in-Ok-clause-depth
returns-in-Ok-clause-depth g c =
    subst (λ (p : Program g.row.K.Denot g.row.M.Denot). FirstFromSomeDepth g.K.Validate g.M.Matcher p (view c.args.instance.now) (refusal_of c.unless_refused.result)) c.self.view_is
    (subst (λ (o : Option ValidationError). FirstFromSomeDepth g.K.Validate g.M.Matcher c.self.inside.schema (view c.args.instance.now) o) (sym c.unless_refused.ensures.refusal) c.in-Ok.ensures.depth)

pub returns-in-Ok-clause-senses : goal.returns-in-Ok-clause-senses
returns-in-Ok-clause-senses g c = λ texts speaks.
    let p = c.args.self.now in
    of_every_sense (g.K.Validate.words texts) (g.M.Matcher.matching p.matcher) (numbered g.K.Validate.shape p.nodes) p.root (view c.args.instance.now) (λ (v : Sense). FirstAnswered v p.runs texts _) (returns-in-Ok-clause-depth g c texts speaks)

pub returns-in-Ok-clause-borrows : goal.returns-in-Ok-clause-borrows
returns-in-Ok-clause-borrows g c = subst (λ (o : Option ValidationError). IfSome o (BorrowsItsPlace (view c.args.instance.now))) (sym c.unless_refused.ensures.refusal) c.in-Ok.ensures.borrows

pub returns-in-Ok-clause-points : goal.returns-in-Ok-clause-points
returns-in-Ok-clause-points g c = λ texts speaks.
    let p = c.args.self.now in
    let deep = subst (λ (p : Program g.row.K.Denot g.row.M.Denot). FirstFromSomeDepth g.K.Validate g.M.Matcher p (view c.args.instance.now) c.in-Ok.error) c.self.view_is c.in-Ok.ensures.depth texts speaks in
    subst (λ (o : Option ValidationError). FromSomeDepth (g.K.Validate.words texts) (g.M.Matcher.matching p.matcher) (numbered g.K.Validate.shape p.nodes) p.root (view c.args.instance.now) (λ (v : Sense). FirstIsGiven v p.runs texts o)) (sym c.unless_refused.ensures.refusal)
    (deep.0, λ n more. first_is_given (guarded_sense (g.K.Validate.words texts) (g.M.Matcher.matching p.matcher) (numbered g.K.Validate.shape p.nodes) (subject_in (view c.args.instance.now)) n p.root) p.runs texts c.in-Ok.error (deep.1 n more))

pub returns-in-Ok-clause-greatest : goal.returns-in-Ok-clause-greatest
returns-in-Ok-clause-greatest g c =
    let k = g.K.Validate in
    let keeps : (texts : Bool) → EachKeeps (k.words texts) = λ texts s. (k.absorbed s, keeps_of_turns (k.words texts) s (k.absorbed s) (k.remaining s) (k.can_be texts s) (k.ends texts s) (k.fits texts s) (g.met.K.Validate.turn_laws texts s) (g.met.K.Validate.function_laws texts s)) in
    first_accepted k g.M.Matcher keeps c.args.self.now c.assert_ranked.ensures.ranked c.assert_ranked.ensures.inside (view c.args.instance.now) _ (returns-in-Ok-clause-depth g c)

pub returns-in-Ok-clause-works : goal.returns-in-Ok-clause-works
returns-in-Ok-clause-works g c =
    let taken = subst (λ (p : Program g.row.K.Denot g.row.M.Denot). TakesByRuns g.K.Validate g.M.Matcher p (view c.args.instance.now) validate c.copy_for_call-copy.result c.first_under_each.new.work) c.self.view_is c.in-Ok.ensures.works in
    takes_charged _ _ _ _ c.copy_for_call-copy.ensures.copied c.charge.ensures g.K.Validate g.M.Matcher c.args.self.now (view c.args.instance.now) validate taken

pub returns-in-Err-clause-decides : goal.returns-in-Err-clause-decides
returns-in-Err-clause-decides g c = λ decided accepts.
    let going = subst (λ (p : Program g.row.K.Denot g.row.M.Denot). IsDecidedWithin g.K.Validate g.M.Matcher p c.args.instance.now c.copy_for_call-copy.result.left → DecidesFromSomeDepth g.K.Validate g.M.Matcher p (view c.args.instance.now) true → StaysUnstopped c.copy_for_call-copy.result c.first_under_each.new.work) c.self.view_is c.in-Err.ensures.decides in
    stays_charged _ _ _ _ c.copy_for_call-copy.ensures.copied c.charge_failure.ensures.charged (going (subst (IsDecidedWithin g.K.Validate g.M.Matcher c.args.self.now c.args.instance.now) (left_at_begin c.args.work.now c.copy_for_call-copy.result c.copy_for_call-copy.ensures.copied) decided) accepts)
