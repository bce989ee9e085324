use Rattle.keyword_authoring.proofs.planned.turn_telling.Goals.{then-first+then-not-holds+in_ok-tell, else-first}
use Rattle.keyword_authoring.proofs.planned.turn_telling.Goals as goal

pub returns-clause-borrows : goal.returns-clause-borrows
returns-clause-borrows g c = λ root errors faults. elim c.if-first.branch [
  | then-first+then-not-holds+in_ok-tell w ↦ rw w.answer-is (w.in_ok-tell.ensures.borrows root faults)
  | else-first w ↦ rw w.answer-is faults
]
