use Rattle.std.specs.Prelude.{refl}
use Rattle.theory_meaning.proofs.Sentences.{verdict_says, shared_with_is, errors_say, first_says, evaluate_says}
use Rattle.theory_meaning.proofs.covers.members_speak.Goals as goal

pub returns-clause-verdict : goal.returns-clause-verdict
returns-clause-verdict c = λ v follows limit call ms cover few. verdict_says v call follows ms cover limit few

pub returns-clause-shared : goal.returns-clause-shared
returns-clause-shared c = λ v follows others last cover. shared_with_is v _ follows _ cover (λ m k. refl) others last refl

pub returns-clause-errors : goal.returns-clause-errors
returns-clause-errors c = λ v follows others last failure limit (cover, few) fails. errors_say v follows others last failure limit _ cover refl few fails

pub returns-clause-first : goal.returns-clause-first
returns-clause-first c = λ v follows others last failure limit (cover, few) fails. first_says v follows others last failure limit _ cover refl few fails

pub returns-clause-evaluation : goal.returns-clause-evaluation
returns-clause-evaluation c = λ v follows others last failure limit (cover, few) fails. evaluate_says v follows others last failure limit _ cover refl few fails
