use Rattle.pattern_sets.proofs.FormsAlike.{alike_back, found_alike}
use Rattle.pattern_trees.specs.Nodes.{node_of}
use Rattle.pattern_trees.specs.Trees.{pattern_of}
use Rattle.pattern_matcher.proofs.Finding.{plain-found}
use Rattle.pattern_matcher.proofs.answers.plain_found.Goals as goal

pub returns : goal.returns
returns c =
    let p = pattern_of (node_of c.args.pattern.now.tree) in
    let q = pattern_of (node_of c.args.prepared.now) in
    let alike = c.requires.alike in
    record {
      found = plain-found (node_of c.args.pattern.now.tree) c.requires.plain c.args.pattern.now.groups _ _
          (λ e. found_alike q p c.args.text.now (alike_back p q alike) (c.in_ok-found.ensures.yes e))
          (λ e f. c.in_ok-found.ensures.no e (found_alike p q c.args.text.now alike f));
    }
