use Rattle.std.specs.Prelude.{Bool}
use Rattle.theory_definitions.specs.Laws.{EachKeeps}
use Rattle.theory_meaning.proofs.TurnsGiveRuns.{keeps_of_turns}
use Rattle.schema_engine.proofs.FreeCalls as lemmas
use Rattle.schema_engine.proofs.laws.validator_calls_agree.Goals as goal

pub returns : goal.returns
returns c s =
    let k = c.K.Validate in
    let laws = c.met.K.Validate in
    let keeps : (texts : Bool) → EachKeeps (k.words texts) = λ texts m.
    let fits = k.fits texts m in
    let keep = keeps_of_turns (k.words texts) m (k.absorbed m) (k.remaining m) (k.can_be texts m) (k.ends texts m) fits in
    (k.absorbed m, keep (laws.turn_laws texts m) (laws.function_laws texts m)) in
    record { verdicts = lemmas.validator_calls k c.M.Matcher keeps }
