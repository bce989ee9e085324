use Rattle.theory_meaning.proofs.ListedLead as lemmas
use Rattle.theory_meaning.proofs.paths.given_errors_lead.Goals as goal

pub returns-clause-listed : goal.returns-clause-listed
returns-clause-listed g c = λ w root instance. lemmas.listed_lead w root instance

pub returns-clause-first : goal.returns-clause-first
returns-clause-first g c = λ w root instance. lemmas.first_leads w root instance
