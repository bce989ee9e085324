use Rattle.keyword_authoring.proofs.planned.turn_judging.Goals.{then-not-is_wanted+in_ok-tell-in-Judged, else-not-is_wanted}
use Rattle.keyword_authoring.proofs.planned.turn_judging.Goals as goal

pub returns-in-Asks-clause-borrows : goal.returns-in-Asks-clause-borrows
returns-in-Asks-clause-borrows g c = λ root errors faults. c.in_ok-judging.ensures.borrows root faults

pub returns-after-not-is_wanted-clause-borrows : goal.returns-after-not-is_wanted-clause-borrows
returns-after-not-is_wanted-clause-borrows g c = λ root errors faults. elim c.if-not-is_wanted.branch [
  | then-not-is_wanted+in_ok-tell-in-Judged w ↦ rw w.answer-is (w.in_ok-tell-in-Judged.ensures.borrows root (c.in_ok-judging.ensures.borrows root faults))
  | else-not-is_wanted w ↦ rw w.answer-is (c.in_ok-judging.ensures.borrows root faults)
]

pub returns-in-Over-clause-borrows : goal.returns-in-Over-clause-borrows
returns-in-Over-clause-borrows g c = λ root errors faults. c.in_ok-judging.ensures.borrows root faults
