use Rattle.std.proofs.Common.{◌≤◌, ap, subst}
use Rattle.serde_json.specs.View.{view}
use Rattle.theory_definitions.specs.Instance.{Place, subject_at}
use Rattle.schema_traits.specs.KeywordViews.{mode_of}
use Rattle.schema_compiled.specs.Answers.{MeetsMatches, SaysReply}
use Rattle.schema_run_context.specs.Progress.{Context}
use Rattle.schema_compiled.specs.Program.{Program}
use Rattle.schema_compiled.proofs.compiled_schema.CompiledSchema.asked.Goals as goal

pub returns-in-Ok-clause-says : goal.returns-in-Ok-clause-says
returns-in-Ok-clause-says g c =
    let d = view c.args.instance.now in
    subst (λ p. SaysReply g.K.Validate.shape g.K.Validate.words g.K.Validate.is_whole g.M.Matcher.matching p d c.args.mode c.args.matches.assumptions c.in-Ok.reply) c.self.view_is
    (λ texts speaks once n more.
    (rw (c.new-path.ensures.empty, c.allow.ensures.allowed, c.assuming-context.ensures.assumes, c.root-place.ensures.root) at
    (c.in-Ok.ensures.replies d texts (ap (λ (p : Place). subject_at d p) c.root-place.ensures.root) (record { keywords = λ t. (speaks t).1; instance = λ t. (speaks t).0 }))) once n more)

pub returns-in-Ok-clause-meets : goal.returns-in-Ok-clause-meets
returns-in-Ok-clause-meets g c =
    let d = view c.args.instance.now in
    subst (λ p. MeetsMatches g.K.Validate.shape g.K.Validate.words g.K.Validate.is_whole g.M.Matcher.matching p d (mode_of c.args.mode) c.args.matches c.into_matches-met.result) c.self.view_is
    (λ texts speaks once n more.
    rw c.into_matches-met.ensures.remembered ((rw (c.new-path.ensures.empty, c.allow.ensures.allowed, c.assuming-context.ensures.assumes, c.root-place.ensures.root) at
    (c.in-Ok.ensures.meets d texts (ap (λ (p : Place). subject_at d p) c.root-place.ensures.root) (record { keywords = λ t. (speaks t).1; instance = λ t. (speaks t).0 }))) once n more))

pub returns-in-Ok-clause-speaks : goal.returns-in-Ok-clause-speaks
returns-in-Ok-clause-speaks g c =
    let d = view c.args.instance.now in
    c.in-Ok.ensures.speaks d (ap (λ (p : Place). subject_at d p) c.root-place.ensures.root)

pub returns-in-Ok-clause-borrows : goal.returns-in-Ok-clause-borrows
returns-in-Ok-clause-borrows g c =
    let d = view c.args.instance.now in
    c.in-Ok.ensures.borrows d (ap (λ (p : Place). subject_at d p) c.root-place.ensures.root)

pub returns-in-Ok-clause-makes_one : goal.returns-in-Ok-clause-makes_one
returns-in-Ok-clause-makes_one g c = subst (λ (p : Program g.row.K.Denot g.row.M.Denot). 1 ≤ p.runs) c.self.view_is c.self.invariant.1

pub returns-in-Ok-clause-works : goal.returns-in-Ok-clause-works
returns-in-Ok-clause-works g c = rw c.work-left.ensures.work (rw (ap (λ (z : Context). z.work) c.allow.ensures.allowed) at c.in-Ok.ensures.works)
