use Rattle.standard_subschemas.proofs.PointersLead as lemmas
use Rattle.standard_subschemas.proofs.pointers.pointers_lead.Goals as goal

pub returns : goal.returns
returns c = record { lead = λ document path value indexes stands. lemmas.lead document path value indexes stands }
