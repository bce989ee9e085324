use Rattle.theory_meaning.proofs.NodeErrorsLead as lemmas
use Rattle.theory_meaning.proofs.paths.node_errors_lead.Goals as goal

pub returns : goal.returns
returns g c = record { lead = λ w absorbs keys nodes. lemmas.node_errors_lead w absorbs keys nodes }
