use Rattle.std.proofs.Common.{◌≡◌, map, ◌∙◌, ap, refl, arith, ◌++◌, ◌∷◌, []}
use Rattle.std.proofs.lemmas.List.{length-map, map-append}
use Rattle.schema_keys.specs.KeyViews.{key_of}
use Rattle.schema_compiler.specs.Options.{given_parts}
use Rattle.schema_compiler.proofs.Tables.{reserved_table}
use Rattle.schema_compiler.proofs.compiler.setup.Compiler.number_key.Goals as goal

pub returns : goal.returns
returns g c =
    let v = key_of g.R.Resolver.point in
    let w = given_parts (g.R.Resolver.resolving c.args.self.now.resolver.now) (g.T.KeywordTable.owned c.args.self.now.table.now) (g.T.KeywordTable.script c.args.self.now.table.now) c.args.self.now.options.now in
    let keys = map v c.args.compiled.now.keys in
    let k = v c.args.key.now.value in
    let pushed : map v c.push.new.self ≡ keys ++ k ∷ [] = rw (c.in_ok-push.ensures.pushed) (map-append v c.args.compiled.now.keys (c.in_ok-own.own.value ∷ []) ∙ ap (λ q. keys ++ v q ∷ []) c.in_ok-own.ensures.cases) in
    let added = rw c.deref.ensures at c.in_ok-number.ensures.added in
    record {
      table = reserved_table w g.K.Validate.shape c.args.self.now.options.now.node_limit keys (map v c.push.new.self) c.args.compiled.now.nodes c.add_node.new.nodes k _
          c.requires.may.table c.requires.may.absent (let r = c.requires.room in omega (arith, length-map c.args.compiled.now.keys v)) pushed added refl refl refl refl;
      keys = pushed;
      nodes = (_, added, refl, refl);
      progress = refl;
      reserved = refl;
      number = c.in_ok-number.ensures.number;
    }
