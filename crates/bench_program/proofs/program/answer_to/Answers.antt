use Rattle.std.proofs.Common.{List, ap, inl, inr, map, string_bytes, subst}
use Rattle.theory_definitions.specs.Instance.{Text}
use Rattle.std.proofs.lemmas.Result.{err_from_is_err_and}
use Rattle.serde_json.specs.View.{view}
use Rattle.schema_validator.specs.Handed.{default_nested, default_options, parts_of}
use Rattle.schema_validator.specs.ProgramOf.{IsProgramOf}
use Rattle.schema_validator.specs.Roots.{Builds, RefusesBuild}
use Rattle.standard_resolver.specs.ResolverAnswers.{document_resolving}
use Rattle.bench_parts.specs.BenchMatching.{bench_matcher}
use Rattle.bench_program.specs.ProgramMeaning.{Asked, BenchHasUnits, BenchMeans, IsRefused, bench_table}
use Rattle.bench_program.specs.ProgramViews.{texts}
use Rattle.standard_basics.specs.Shapes.{shape_of}
use Rattle.standard_basics.specs.Words.{words}
use Rattle.bench_program.proofs.BuildFaults.{build_fault}
use Rattle.bench_program.proofs.program.answer_to.Goals as goal

pub returns-in_err-validator-clause-fault : goal.returns-in_err-validator-clause-fault
returns-in_err-validator-clause-fault c =
    let p = err_from_is_err_and c.from_residual-in_err-validator.result c.from_residual-in_err-validator.ensures.1 in
    let r = c.in_ok-resolver.resolver in
    let given = c.in_ok-resolver.ensures in
    let request = c.in_ok-call.field-0 in
    let schema = view request.schema in
    let e = c.in_err-validator.field-0.0 in
    let asked : Asked (texts c.args.words.now) = record {
      call = request.call;
      schema = schema;
      instance = view request.instance;
      unfinished = map string_bytes request.unfinished.items;
      holds = c.in_ok-call.ensures.holds;
      resolver = r;
      resolves = record { rule = given.rule; document = ap view given.document; uri = given.uri; alone = given.alone; draft = given.draft; drafts = rw c.new.ensures.empty at given.drafts; custom = rw c.new.ensures.empty at given.custom };
    } in
    let refused : IsRefused asked e = elim c.in_err-validator.ensures.refused.refused [
      | inl cause ↦ inl (λ spoken.
          subst (λ (ps : List Text). RefusesBuild (parts_of (document_resolving r) bench_table (bench_matcher ps) (words spoken) default_options) schema default_options.limit e)
          c.new-matcher.ensures.patterns (cause spoken))
      | inr fails ↦ inr fails
    ] in
    rw (p.1, p.2) (build_fault (texts c.args.words.now) asked e refused)

pub returns-in_err-ask-clause-fault : goal.returns-in_err-ask-clause-fault
returns-in_err-ask-clause-fault c =
    let p = err_from_is_err_and c.from_residual-in_err-ask.result c.from_residual-in_err-ask.ensures.1 in
    rw (p.1, p.2) tt

pub returns-clause-answer : goal.returns-clause-answer
returns-clause-answer c =
    let r = c.in_ok-resolver.resolver in
    let given = c.in_ok-resolver.ensures in
    let request = c.in_ok-call.field-0 in
    let unfinished = map string_bytes request.unfinished.items in
    let schema = view request.schema in
    let validator = c.in_ok-validator.validator in
    let same = c.new-matcher.ensures.patterns in
    record {
      asked = record {
        call = request.call;
        schema = schema;
        instance = view request.instance;
        unfinished = unfinished;
        holds = c.in_ok-call.ensures.holds;
        resolver = r;
        resolves = record { rule = given.rule; document = ap view given.document; uri = given.uri; alone = given.alone; draft = given.draft; drafts = rw c.new.ensures.empty at given.drafts; custom = rw c.new.ensures.empty at given.custom };
      };
      builds = λ spoken. subst (λ (ps : List Text). Builds (parts_of (document_resolving r) bench_table (bench_matcher ps) (words spoken) default_options) schema default_options.limit) same (c.in_ok-validator.ensures.built.builds spoken);
      passes = c.in_ok-validator.ensures.built.passed;
      plain = rw c.in_ok-validator.ensures.built.program.runs_are at (c.in_ok-ask.ensures.means (document_resolving r) bench_table (bench_matcher unfinished) default_options schema
          (subst (λ (ps : List Text). BenchMeans (document_resolving r) bench_table (bench_matcher ps) default_options schema validator) same c.in_ok-validator.ensures.built.means)
          (subst (λ (ps : List Text). BenchHasUnits (document_resolving r) bench_table (bench_matcher ps) default_options schema validator) same c.in_ok-validator.ensures.built.units));
      program = validator;
      compiled = subst (λ (ps : List Text). IsProgramOf (document_resolving r) bench_table (bench_matcher ps) default_options default_nested schema shape_of bench_matcher validator) same c.in_ok-validator.ensures.built.program;
      guarded = c.in_ok-ask.ensures.depth;
    }
