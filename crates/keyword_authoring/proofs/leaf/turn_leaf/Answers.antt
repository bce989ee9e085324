use Rattle.keyword_authoring.proofs.leaf.turn_leaf.Goals.{then-tell_on+in_ok-tell_leaf, else-tell_on}
use Rattle.keyword_authoring.proofs.leaf.turn_leaf.Goals as goal

pub returns-clause-borrows : goal.returns-clause-borrows
returns-clause-borrows g c = λ root errors faults. elim c.if-tell_on.branch [
  | then-tell_on+in_ok-tell_leaf w ↦ rw w.answer-is (w.in_ok-tell_leaf.ensures.borrows root faults)
  | else-tell_on w ↦ rw w.answer-is faults
]
