use Rattle.theory_meaning.proofs.CoverCounts.{one_member}
use Rattle.theory_meaning.proofs.covers.members_are_apart.Goals as goal

pub returns : goal.returns
returns c = record { one = λ v call ms cover m. one_member v call m cover (λ a b is. absurd (cc is)) }
