use Rattle.theory_meaning.proofs.PlainSense.{all_runs_speak, all_plain_follow, all_units_plain}
use Rattle.theory_meaning.proofs.covers.runs_speak.Goals as goal

pub returns-clause-speak : goal.returns-clause-speak
returns-clause-speak g c = λ w. all_runs_speak w

pub returns-clause-plain : goal.returns-clause-plain
returns-clause-plain g c = λ w. all_plain_follow w

pub returns-clause-units : goal.returns-clause-units
returns-clause-units g c = λ w. all_units_plain w
