use Rattle.standard_basics.proofs.keyword.turn_telling.Goals.{then-tell_on+in_ok-tell, else-tell_on}
use Rattle.standard_basics.proofs.keyword.turn_telling.Goals as goal

pub returns-clause-borrows : goal.returns-clause-borrows
returns-clause-borrows c = λ root errors faults. elim c.if-tell_on.branch [
  | then-tell_on+in_ok-tell w ↦ rw w.answer-is (w.in_ok-tell.ensures.borrows root faults)
  | else-tell_on w ↦ rw w.answer-is faults
]
