use Rattle.keyword_authoring.proofs.leaves.turn_telling.Goals.{then-tell_on+in_ok-tell_each, else-tell_on}
use Rattle.keyword_authoring.proofs.leaves.turn_telling.Goals as goal

pub returns-clause-borrows : goal.returns-clause-borrows
returns-clause-borrows g c = λ root errors faults. elim c.if-tell_on.branch [
  | then-tell_on+in_ok-tell_each w ↦ rw w.answer-is (w.in_ok-tell_each.ensures.borrows root faults)
  | else-tell_on w ↦ rw w.answer-is faults
]
