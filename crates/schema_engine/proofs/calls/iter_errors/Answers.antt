use Rattle.std.specs.Prelude.{Bool}
use Rattle.std.proofs.lemmas.Result.{err_from_is_err_and}
use Rattle.serde_json.specs.View.{view}
use Rattle.unfinished_search.specs.SharedResults.{is_empty}
use Rattle.theory_definitions.specs.Cover.{iter_errors}
use Rattle.theory_definitions.specs.Laws.{EachKeeps}
use Rattle.theory_meaning.proofs.TurnsGiveRuns.{keeps_of_turns}
use Rattle.schema_compiled.specs.Spoken.{ErrorsAnswered}
use Rattle.schema_validator.specs.Handed.{default_options, default_runs, handed}
use Rattle.schema_validator.proofs.Pointing.{each_points}
use Rattle.schema_validator.proofs.PlainAnswers.{plainly_from}
use Rattle.schema_engine.proofs.GreatestCalls.{says_greatest}
use Rattle.schema_engine.proofs.calls.iter_errors.Goals as goal

pub returns-clause-answer : goal.returns-clause-answer
returns-clause-answer g c =
    let h = handed g.S.Resolver g.T.KeywordTable g.K.Validate g.M.Matcher c.args.resolver.now c.args.table.now c.args.matcher.now in
    let k = g.K.Validate in
    let schema = view c.args.schema.now in
    let instance = view c.args.instance.now in
    let validator = c.in_ok-validator.validator in
    let built = c.in_ok-validator.ensures.built in
    let program = built.program in
    let said = c.in_ok-answer.ensures in
    let answer = c.in_ok-answer.field-0 in
    let keeps : (texts : Bool) → EachKeeps (k.words texts) = λ texts s. (k.absorbed s, keeps_of_turns (k.words texts) s (k.absorbed s) (k.remaining s) (k.can_be texts s) (k.ends texts s) (k.fits texts s) (g.met.K.Validate.turn_laws texts s) (g.met.K.Validate.function_laws texts s)) in
    record {
      answer = plainly_from h.resolver h.table h.matcher k.words default_options schema k.shape k.is_whole g.M.Matcher.matching validator instance
          (λ texts v. ErrorsAnswered v default_runs texts answer) built.means (rw program.runs_are at (rw (program.work_is, program.depth_is) at said.senses));
      guarded = (validator, program, rw program.runs_are at (rw (program.work_is, program.depth_is) at said.depth));
      greatest = says_greatest h keeps (g.met.S.Resolver.same c.args.resolver.now) default_options schema validator program built.means instance
          iter_errors (λ texts. is_empty answer) (rw (program.work_is, program.depth_is) at said.greatest);
      leads = (
        validator,
        program,
        rw program.runs_are at (each_points h.resolver h.table h.matcher k.words default_options schema k.shape g.M.Matcher.matching validator k.is_whole built.means built.points
            instance answer (rw (program.work_is, program.depth_is) at said.points)),
      );
      borrows = said.borrows;
      allowed = record { builds = built.builds; passed = built.passed };
    }

pub returns-in_err-validator-clause-refused : goal.returns-in_err-validator-clause-refused
returns-in_err-validator-clause-refused g c =
    let p = err_from_is_err_and c.from_residual.result c.from_residual.ensures.1 in
    rw (p.1, p.2) c.in_err-validator.ensures.refused
