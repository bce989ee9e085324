use Rattle.std.proofs.Common.{arith}
use Rattle.pattern_rows.proofs.Bits.{some_bit}
use Rattle.pattern_sets.specs.Images.{in_word}
use Rattle.pattern_trees.specs.Nodes.{node_of}
use Rattle.pattern_trees.specs.Trees.{pattern_of}
use Rattle.pattern_sets.proofs.Reaching.{positive}
use Rattle.pattern_sets.proofs.Walking.{found_where}
use Rattle.pattern_sets.proofs.word_walks.word_matches.Goals as goal

pub returns-clause-yes : goal.returns-clause-yes
returns-clause-yes c = λ h.
    let found = c.word_on-found.result in
    let bit = some_bit found (omega arith) (positive found h) in
    found_where (pattern_of (node_of c.args.tree.now)) c.args.text.now (in_word c.all.result) (in_word found) c.all.ensures.all c.word_on-found.ensures.walks bit.0 bit.2
