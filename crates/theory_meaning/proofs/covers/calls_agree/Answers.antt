use Rattle.theory_meaning.specs.Deciding.{decides_or_not, finished_decides, larger_decides, none_where_accepted, undecided_past}
use Rattle.theory_meaning.proofs.PairsDecide.{pairs_decide}
use Rattle.theory_meaning.proofs.Sentences.{one_cover, listed_none, first_is_head}
use Rattle.theory_meaning.proofs.covers.calls_agree.Goals as goal

pub returns-clause-one : goal.returns-clause-one
returns-clause-one c = λ v call ms ns s t. one_cover v call s t

pub returns-clause-none : goal.returns-clause-none
returns-clause-none c = λ v follows most call es it. listed_none v call follows most es it

pub returns-clause-head : goal.returns-clause-head
returns-clause-head c = λ v errors kept o k f. first_is_head v k f

pub returns-clause-undecided : goal.returns-clause-undecided
returns-clause-undecided c = λ v call limit n part many. undecided_past v call limit n part many

pub returns-clause-decided : goal.returns-clause-decided
returns-clause-decided c = λ v limit call. decides_or_not v limit call

pub returns-clause-accepted : goal.returns-clause-accepted
returns-clause-accepted c = λ v follows limit o says decides. none_where_accepted v follows limit o says decides

pub returns-clause-larger : goal.returns-clause-larger
returns-clause-larger c = λ v limit larger call less decides. larger_decides v limit larger call less decides

pub returns-clause-finished : goal.returns-clause-finished
returns-clause-finished c = λ v limit call none some. finished_decides v limit call none some

pub returns-clause-pairs : goal.returns-clause-pairs
returns-clause-pairs c = λ v call pairs among limit enough. pairs_decide v call pairs among limit enough
