use Rattle.schema_compiler.specs.Carried.{filled, task}
use Rattle.schema_compiler.proofs.UnderWay.{deeper, opened_way}
use Rattle.schema_compiler.proofs.compiler.setup.Compiler.begin_number.Goals as goal

pub returns : goal.returns
returns g c =
    let s = task g.R.Resolver.resolving g.T.KeywordTable.owned g.T.KeywordTable.script g.K.Validate.shape c.args.self.now in
    let old = filled g.R.Resolver.point c.args.compiled.now in
    let next = c.in_ok-number.ensures in
    let n = next.nodes in
    let inside = c.inside-compiled.ensures in
    record {
      table = next.table;
      under_way = opened_way s old _ n.0 c.requires.under_way n.1 n.2 n.3 inside.round (deeper c.args.nests old.depth s.nested _ inside.depth c.requires.under_way.nested c.requires.room);
      keys = next.keys;
      nodes = n;
      round = inside.round;
      depth = inside.depth;
      settled = inside.settled;
      reserved = next.reserved;
      number = next.number;
    }
