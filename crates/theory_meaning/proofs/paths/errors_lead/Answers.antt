use Rattle.theory_meaning.proofs.ErrorsLead as lemmas
use Rattle.theory_meaning.proofs.paths.errors_lead.Goals as goal

pub returns : goal.returns
returns g c = record { lead = λ w absorbs. lemmas.errors_lead w absorbs }
