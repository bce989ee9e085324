use Rattle.std.proofs.Common.{◌≡◌, map, drop}
use Rattle.std.specs.Prelude.{flat_map, string_bytes}
use Rattle.theory_definitions.specs.Drafts.{custom_vocabulary}
use Rattle.theory_meaning.specs.Refusals.{undeclared}
use Rattle.schema_compiler.specs.Options.{given_parts}
use Rattle.schema_compiler.proofs.compiler.setup.Compiler.check_each.Given as goal

abbrev pub invariant-loop-uri : goal.invariant-loop-uri
invariant-loop-uri g l =
    let w = given_parts (g.R.Resolver.resolving l.self.resolver.now) (g.T.KeywordTable.owned l.self.table.now) (g.T.KeywordTable.script l.self.table.now) l.self.options.now in
    flat_map (undeclared w) (map custom_vocabulary (map string_bytes l.uris)) ≡ flat_map (undeclared w) (map custom_vocabulary (map string_bytes (drop l.uri-index l.uris)))
