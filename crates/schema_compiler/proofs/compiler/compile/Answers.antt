use Rattle.std.proofs.Common.{inl, inr, map}
use Rattle.std.specs.Prelude.{string_bytes}
use Rattle.std.proofs.lemmas.Result.{err_from_is_err_and}
use Rattle.schema_keys.specs.KeyViews.{key_of}
use Rattle.schema_keys.specs.Builtins.{builtin}
use Rattle.schema_compiler.specs.Compilation.{all_parts}
use Rattle.schema_compiler.proofs.Compiled.{compilation_of, refuses_root, vocabularies_refuse}
use Rattle.schema_compiler.proofs.compiler.compile.Goals as goal

pub returns-clause-compiled : goal.returns-clause-compiled
returns-clause-compiled g c = λ matcher keywords draft base. compilation_of (all_parts (g.R.Resolver.resolving c.args.resolver.now) (record { owns = g.T.KeywordTable.owned c.args.table.now; builtin = builtin; script = g.T.KeywordTable.script c.args.table.now })
    c.args.options.now.formats (map string_bytes c.args.options.now.declared.items) matcher keywords draft base)
    (c.in_ok-check_vocabularies.ensures.declared matcher keywords draft base) (c.in_ok-compile_subschema.ensures.compiled matcher keywords draft base)

pub returns-in_err-check_vocabularies-clause-refused : goal.returns-in_err-check_vocabularies-clause-refused
returns-in_err-check_vocabularies-clause-refused g c =
    let p = err_from_is_err_and c.from_residual.result c.from_residual.ensures.1 in
    rw (p.1, p.2) (λ matcher keywords draft base. vocabularies_refuse (all_parts (g.R.Resolver.resolving c.args.resolver.now) (record { owns = g.T.KeywordTable.owned c.args.table.now; builtin = builtin; script = g.T.KeywordTable.script c.args.table.now })
    c.args.options.now.formats (map string_bytes c.args.options.now.declared.items) matcher keywords draft base)
    c.args.options.now.node_limit (key_of g.R.Resolver.point c.args.root) _ (c.in_err-check_vocabularies.ensures.refused matcher keywords draft base))

pub returns-in_err-compile_subschema-clause-refused : goal.returns-in_err-compile_subschema-clause-refused
returns-in_err-compile_subschema-clause-refused g c =
    let p = err_from_is_err_and c.from_residual-in_err-compile_subschema.result c.from_residual-in_err-compile_subschema.ensures.1 in
    rw (p.1, p.2) (λ matcher keywords draft base. refuses_root (all_parts (g.R.Resolver.resolving c.args.resolver.now) (record { owns = g.T.KeywordTable.owned c.args.table.now; builtin = builtin; script = g.T.KeywordTable.script c.args.table.now })
    c.args.options.now.formats (map string_bytes c.args.options.now.declared.items) matcher keywords draft base)
    c.args.options.now.node_limit (key_of g.R.Resolver.point c.args.root) _ (c.in_err-compile_subschema.ensures.refused matcher keywords draft base))

pub returns-in_err-check_vocabularies-clause-first : goal.returns-in_err-check_vocabularies-clause-first
returns-in_err-check_vocabularies-clause-first g c =
    let p = err_from_is_err_and c.from_residual.result c.from_residual.ensures.1 in
    rw (p.1, p.2) (λ matcher keywords draft base. inl (c.in_err-check_vocabularies.ensures.refused matcher keywords draft base))

pub returns-in_err-compile_subschema-clause-first : goal.returns-in_err-compile_subschema-clause-first
returns-in_err-compile_subschema-clause-first g c =
    let p = err_from_is_err_and c.from_residual-in_err-compile_subschema.result c.from_residual-in_err-compile_subschema.ensures.1 in
    rw (p.1, p.2) (λ matcher keywords draft base. inr (c.in_ok-check_vocabularies.ensures.declared matcher keywords draft base, c.in_err-compile_subschema.ensures.refused matcher keywords draft base))
