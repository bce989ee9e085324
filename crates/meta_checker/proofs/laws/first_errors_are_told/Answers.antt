use Rattle.meta_checker.proofs.Told.{first_is_told}
use Rattle.meta_checker.proofs.laws.first_errors_are_told.Goals as goal

pub returns : goal.returns
returns c s = record { told = λ texts. first_is_told (c.K.Validate.words texts) }
