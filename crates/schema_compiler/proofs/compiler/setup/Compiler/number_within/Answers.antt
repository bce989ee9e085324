use Rattle.std.proofs.Common.{◌∷◌, [], arith, map, refl}
use Rattle.std.proofs.lemmas.List.{length-map}
use Rattle.theory_meaning.specs.Reach.{at_first}
use Rattle.schema_keys.specs.KeyViews.{key_of}
use Rattle.schema_keys.proofs.Lists.{length-more}
use Rattle.schema_compiler.proofs.Tables.{pushed_distinct}
use Rattle.schema_compiler.proofs.compiler.setup.Compiler.number_within.Goals as goal

pub returns-then-len-self : goal.returns-then-len-self
returns-then-len-self g c =
    let v = key_of g.R.Resolver.point in
    let keys = map v c.args.compiled.now.keys in
    let k = v c.args.key.now.value in
    let full = c.if-len-self.true in
    (refl, (k ∷ [], (at_first, tt), pushed_distinct keys k c.requires.table.distinct c.requires.absent, omega (arith, length-more keys k, length-map c.args.compiled.now.keys v)))
