use Rattle.std.specs.Prelude.{Bool}
use Rattle.std.proofs.lemmas.Result.{err_from_is_err_and}
use Rattle.serde_json.specs.View.{view}
use Rattle.theory_definitions.specs.Cover.{is_valid}
use Rattle.theory_definitions.specs.Laws.{EachKeeps}
use Rattle.theory_meaning.specs.Headline.{VerdictSays}
use Rattle.theory_meaning.proofs.TurnsGiveRuns.{keeps_of_turns}
use Rattle.schema_validator.specs.Handed.{default_options, default_runs, handed}
use Rattle.schema_validator.proofs.PlainAnswers.{plainly_from}
use Rattle.schema_engine.proofs.GreatestCalls.{says_greatest}
use Rattle.schema_engine.proofs.calls.is_valid.Goals as goal

pub returns-clause-answer : goal.returns-clause-answer
returns-clause-answer g c =
    let h = handed g.S.Resolver g.T.KeywordTable g.K.Validate g.M.Matcher c.args.resolver.now c.args.table.now c.args.matcher.now in
    let k = g.K.Validate in
    let schema = view c.args.schema.now in
    let instance = view c.args.instance.now in
    let validator = c.in_ok-built.built in
    let built = c.in_ok-built.ensures.built in
    let program = built.program in
    let said = c.in_ok-is_valid.ensures in
    let answer = c.in_ok-is_valid.field-0 in
    let keeps : (texts : Bool) → EachKeeps (k.words texts) = λ texts s. (k.absorbed s, keeps_of_turns (k.words texts) s (k.absorbed s) (k.remaining s) (k.can_be texts s) (k.ends texts s) (k.fits texts s) (g.met.K.Validate.turn_laws texts s) (g.met.K.Validate.function_laws texts s)) in
    record {
      answer = plainly_from h.resolver h.table h.matcher k.words default_options schema k.shape k.is_whole g.M.Matcher.matching validator instance
          (λ texts v. VerdictSays v default_runs is_valid answer) built.means (rw program.runs_are at (rw (program.work_is, program.depth_is) at said.senses));
      guarded = (validator, program, rw program.runs_are at (rw (program.work_is, program.depth_is) at said.depth));
      greatest = says_greatest h keeps (g.met.S.Resolver.same c.args.resolver.now) default_options schema validator program built.means instance
          is_valid (λ texts. answer) (rw (program.work_is, program.depth_is) at said.greatest);
      allowed = record { builds = built.builds; passed = built.passed };
    }

pub returns-in_err-built-clause-refused : goal.returns-in_err-built-clause-refused
returns-in_err-built-clause-refused g c =
    let p = err_from_is_err_and c.from_residual.result c.from_residual.ensures.1 in
    rw (p.1, p.2) c.in_err-built.ensures.refused
