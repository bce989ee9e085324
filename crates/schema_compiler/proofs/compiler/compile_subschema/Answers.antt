use Rattle.std.proofs.Common.{map}
use Rattle.std.specs.Prelude.{string_bytes}
use Rattle.std.proofs.lemmas.Result.{err_from_is_err_and}
use Rattle.schema_keys.specs.KeyViews.{key_of}
use Rattle.schema_keys.specs.Builtins.{builtin}
use Rattle.schema_compiler.specs.Carried.{filled}
use Rattle.schema_compiler.proofs.Compiled.{compiled, refuses_alone}
use Rattle.schema_compiler.proofs.Working.{all_formed, all_found}
use Rattle.schema_compiler.proofs.compiler.compile_subschema.Goals as goal

pub returns-clause-compiled : goal.returns-clause-compiled
returns-clause-compiled g c =
    let v = key_of g.R.Resolver.point in
    let new = filled g.R.Resolver.point c.in_ok-compiled.compiled in
    let done = c.in_ok-compiled.ensures in
    let at = done.2 in
    let r = c.assert_ordered.ensures.ordered in
    λ matcher keywords draft base. rw c.share.ensures.same (compiled (g.R.Resolver.resolving c.args.resolver.now) (record { owns = g.T.KeywordTable.owned c.args.table.now; builtin = builtin; script = g.T.KeywordTable.script c.args.table.now })
    c.args.options.now.formats (map string_bytes c.args.options.now.declared.items) matcher keywords draft base g.K.Validate.shape new.keys new.nodes c.args.options.now.node_limit c.args.nested_limit (v c.args.root)
    at.table at.grown (all_formed _ (v c.args.root) new done.0 at done.1) at.first r.0 r.1 (all_found _ (v c.args.root) new done.0 at done.1) at.under_way.guards at.under_way.within)

pub returns-clause-reserved : goal.returns-clause-reserved
returns-clause-reserved g c = c.in_ok-compiled.ensures.2.given_up

pub returns-clause-ready : goal.returns-clause-ready
returns-clause-ready g c = rw c.share.ensures.same (record { table = c.in_ok-compiled.ensures.2.table; under_way = c.in_ok-compiled.ensures.2.under_way })

pub returns-in_err-compiled-clause-refused : goal.returns-in_err-compiled-clause-refused
returns-in_err-compiled-clause-refused g c =
    let v = key_of g.R.Resolver.point in
    let p = err_from_is_err_and c.from_residual.result c.from_residual.ensures.1 in
    rw (p.1, p.2) (λ matcher keywords draft base. refuses_alone (g.R.Resolver.resolving c.args.resolver.now) (record { owns = g.T.KeywordTable.owned c.args.table.now; builtin = builtin; script = g.T.KeywordTable.script c.args.table.now })
    c.args.options.now.formats (map string_bytes c.args.options.now.declared.items) matcher keywords draft base (λ a b. (g.met.R.Resolver.same c.args.resolver.now a b).0) c.args.options.now.node_limit (v c.args.root) _ c.in_err-compiled.ensures)
