use Rattle.std.proofs.Common.{◌∙◌, ◌<◌, ℕ, ap, length, subst, sym}
use Rattle.schema_node_table.specs.NodeTable.{numbered}
use Rattle.schema_compiled.specs.Program.{Program}
use Rattle.schema_compiled.proofs.ClonedValidators.{answer_same, say_same}
use Rattle.schema_compiled.proofs.compiled_schema.CompiledSchema.clone.Goals as goal

pub invariant_of-result : goal.invariant_of-result
invariant_of-result g c =
    let count = c.in_ok-clone.ensures.count in
    let held = c.self.invariant in (
      subst (λ (n : ℕ). c.self.inside.root.0 < n) (sym count) held.0,
      held.1,
    )

pub returns-clause-solver : goal.returns-clause-solver
returns-clause-solver g c = c.in_ok-clone-3.ensures.same ∙ ap (λ (p : Program g.row.K.Denot g.row.M.Denot). p.followed) c.self.view_is

pub returns-clause-matcher : goal.returns-clause-matcher
returns-clause-matcher g c = (g.met.M.Matcher.cloned c.self.inside.matcher c.in_ok-clone-2.field-0 c.in_ok-clone-2.ensures.cases).0 ∙ ap (λ (p : Program g.row.K.Denot g.row.M.Denot). g.M.Matcher.matching p.matcher) c.self.view_is

pub returns-clause-finishing : goal.returns-clause-finishing
returns-clause-finishing g c = (g.met.M.Matcher.cloned c.self.inside.matcher c.in_ok-clone-2.field-0 c.in_ok-clone-2.ensures.cases).1 ∙ ap (λ (p : Program g.row.K.Denot g.row.M.Denot). g.M.Matcher.finishing p.matcher) c.self.view_is

pub returns-clause-says : goal.returns-clause-says
returns-clause-says g c =
    let same = c.self.view_is in
    say_same g.K.Validate g.M.Matcher _ c.args.self.now
    (c.in_ok-clone.ensures.numbered ∙ ap (λ (p : Program g.row.K.Denot g.row.M.Denot). numbered g.K.Validate.shape p.nodes) same)
    (c.in_ok-clone.ensures.count ∙ ap (λ (p : Program g.row.K.Denot g.row.M.Denot). length p.nodes) same)
    (ap (λ (p : Program g.row.K.Denot g.row.M.Denot). p.root) same)
    ((g.met.M.Matcher.cloned c.self.inside.matcher c.in_ok-clone-2.field-0 c.in_ok-clone-2.ensures.cases).0 ∙ ap (λ (p : Program g.row.K.Denot g.row.M.Denot). g.M.Matcher.matching p.matcher) same)
    (ap (λ (p : Program g.row.K.Denot g.row.M.Denot). p.runs) same)
    (ap (λ (p : Program g.row.K.Denot g.row.M.Denot). p.work) same)
    (ap (λ (p : Program g.row.K.Denot g.row.M.Denot). p.depth) same)

pub returns-clause-answers : goal.returns-clause-answers
returns-clause-answers g c =
    let same = c.self.view_is in
    answer_same g.K.Validate g.M.Matcher _ c.args.self.now
    (c.in_ok-clone.ensures.numbered ∙ ap (λ (p : Program g.row.K.Denot g.row.M.Denot). numbered g.K.Validate.shape p.nodes) same)
    (c.in_ok-clone.ensures.count ∙ ap (λ (p : Program g.row.K.Denot g.row.M.Denot). length p.nodes) same)
    (ap (λ (p : Program g.row.K.Denot g.row.M.Denot). p.root) same)
    ((g.met.M.Matcher.cloned c.self.inside.matcher c.in_ok-clone-2.field-0 c.in_ok-clone-2.ensures.cases).0 ∙ ap (λ (p : Program g.row.K.Denot g.row.M.Denot). g.M.Matcher.matching p.matcher) same)
    (ap (λ (p : Program g.row.K.Denot g.row.M.Denot). p.runs) same)
    (ap (λ (p : Program g.row.K.Denot g.row.M.Denot). p.work) same)
    (ap (λ (p : Program g.row.K.Denot g.row.M.Denot). p.depth) same)
