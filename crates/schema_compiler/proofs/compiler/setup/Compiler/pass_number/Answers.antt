use Rattle.std.proofs.Common.{arith}
use Rattle.std.proofs.lemmas.List.{length-map}
use Rattle.schema_keys.specs.KeyViews.{key_of}
use Rattle.schema_compiler.specs.Carried.{filled, task}
use Rattle.schema_compiler.proofs.Working.{at_next_number}
use Rattle.schema_compiler.proofs.compiler.setup.Compiler.pass_number.Goals as goal

pub returns : goal.returns
returns g c =
    let v = key_of g.R.Resolver.point in
    let s = task g.R.Resolver.resolving g.T.KeywordTable.owned g.T.KeywordTable.script g.K.Validate.shape c.args.self.now in
    let within = c.requires.within in
    at_next_number s (v c.args.root.now.value) (filled g.R.Resolver.point c.args.compiled.now) c.args.number c.requires.at (omega (arith, within, length-map c.args.compiled.now.keys v)) (c.waits.ensures.begun c.if-waits.false)
