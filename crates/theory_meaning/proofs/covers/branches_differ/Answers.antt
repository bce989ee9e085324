use Rattle.theory_definitions.specs.Cover.{first_run}
use Rattle.theory_meaning.proofs.CoverCounts.{members_run, pairs_differ}
use Rattle.theory_meaning.proofs.covers.branches_differ.Goals as goal

pub returns-clause-pairs : goal.returns-clause-pairs
returns-clause-pairs c = λ v call as' run. pairs_differ v call run

pub returns-clause-members : goal.returns-clause-members
returns-clause-members c = λ v call ms cover m in_ms. members_run v call cover first_run m in_ms

pub returns-clause-differ : goal.returns-clause-differ
returns-clause-differ c = λ v call ms cover m in_ms. pairs_differ v call ((members_run v call cover first_run m in_ms).0)
