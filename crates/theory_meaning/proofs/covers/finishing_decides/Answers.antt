use Rattle.theory_meaning.proofs.Finishing.{nodes_decide, nodes_meet, plain_decides, plain_meets}
use Rattle.theory_meaning.proofs.covers.finishing_decides.Goals as goal

pub returns-clause-plain : goal.returns-clause-plain
returns-clause-plain g c = λ w finishes instance n root. plain_decides w finishes instance n root

pub returns-clause-nodes : goal.returns-clause-nodes
returns-clause-nodes g c = λ keywords matcher finishes nodes subject_of n i. nodes_decide keywords matcher finishes nodes subject_of n i

pub returns-clause-met : goal.returns-clause-met
returns-clause-met g c = λ w instance n root. plain_meets w instance n root

pub returns-clause-nodes_met : goal.returns-clause-nodes_met
returns-clause-nodes_met g c = λ keywords matcher nodes subject_of n i. nodes_meet keywords matcher nodes subject_of n i
