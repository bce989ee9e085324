use Rattle.std.proofs.Common.{map}
use Rattle.std.specs.Prelude.{string_bytes}
use Rattle.std.proofs.lemmas.Result.{err_from_is_err_and}
use Rattle.schema_keys.specs.KeyViews.{key_of}
use Rattle.schema_keys.specs.Builtins.{builtin}
use Rattle.schema_compiler.proofs.Compiled.{vocabulary_refuses}
use Rattle.schema_compiler.proofs.compiler.check_vocabularies.Goals as goal

pub returns-clause-declared : goal.returns-clause-declared
returns-clause-declared g c = λ matcher keywords draft base. c.in_ok-check_declared.ensures.declared

pub returns-in_err-check_declared-clause-refused : goal.returns-in_err-check_declared-clause-refused
returns-in_err-check_declared-clause-refused g c =
    let p = err_from_is_err_and c.from_residual.result c.from_residual.ensures.1 in
    rw (p.1, p.2) (λ matcher keywords draft base. vocabulary_refuses (g.R.Resolver.resolving c.args.resolver.now) (record { owns = g.T.KeywordTable.owned c.args.table.now; builtin = builtin; script = g.T.KeywordTable.script c.args.table.now })
    c.args.options.now.formats (map string_bytes c.args.options.now.declared.items) matcher keywords draft base (key_of g.R.Resolver.point c.args.root.now) _ c.in_err-check_declared.ensures.first)
