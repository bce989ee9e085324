use Rattle.pattern_trees.specs.Nodes.{node_of}
use Rattle.pattern_trees.specs.Trees.{pattern_of}
use Rattle.pattern_sets.proofs.FormsAlike.{look_before, times_before}
use Rattle.pattern_sets.proofs.preparing.+prepare.Goals as goal

pub before-returns-in_ok-pair-in-Around : goal.before-returns-in_ok-pair-in-Around
before-returns-in_ok-pair-in-Around t c =
    record {
      alike = rw c.in-Around.is (look_before c.in-Around.look c.in-Around.body.value c.deref-in-Around.result.now c.in_ok-body-in-Around.body c.in_ok-item-in-Around.item (pattern_of (node_of c.args.rest)) (pattern_of (node_of c.in_ok-pair-in-Around.field-0))
          c.deref-in-Around.ensures c.in_ok-body-in-Around.ensures.alike c.in_ok-item-in-Around.ensures.around c.in_ok-pair-in-Around.ensures.alike);
    }

pub before-returns-in_ok-pair-in-Times : goal.before-returns-in_ok-pair-in-Times
before-returns-in_ok-pair-in-Times t c =
    record {
      alike = rw c.in-Times.is (times_before c.in-Times.turns c.in-Times.body.value c.deref-in-Times.result.now c.in_ok-body-in-Times.body c.in_ok-item-in-Times.item (pattern_of (node_of c.args.rest)) (pattern_of (node_of c.in_ok-pair-in-Times.field-0))
          c.deref-in-Times.ensures c.in_ok-body-in-Times.ensures.alike c.in_ok-item-in-Times.ensures.alike c.in_ok-pair-in-Times.ensures.alike);
    }
