use Rattle.std.specs.Prelude.{Bool}
use Rattle.theory_definitions.specs.Laws.{EachKeeps}
use Rattle.theory_meaning.proofs.TurnsGiveRuns.{keeps_of_turns}
use Rattle.schema_validator.specs.Handed.{handed}
use Rattle.schema_engine.proofs.FreeCalls as lemmas
use Rattle.schema_engine.proofs.laws.free_calls_agree.Goals as goal

pub returns : goal.returns
returns c s =
    let k = c.K.Validate in
    let laws = c.met.K.Validate in
    let keeps : (texts : Bool) → EachKeeps (k.words texts) = λ texts m.
    let fits = k.fits texts m in
    let keep = keeps_of_turns (k.words texts) m (k.absorbed m) (k.remaining m) (k.can_be texts m) (k.ends texts m) fits in
    (k.absorbed m, keep (laws.turn_laws texts m) (laws.function_laws texts m)) in
    let parts = handed c.S.Resolver c.T.KeywordTable k c.M.Matcher in
    record {
      sense = λ resolver table matcher. lemmas.one_sense (parts resolver table matcher);
      verdict = λ resolver table matcher. lemmas.one_verdict (parts resolver table matcher) keeps;
      first = λ resolver table matcher. lemmas.one_first_error (parts resolver table matcher) keeps;
      errors = λ resolver table matcher. lemmas.one_error_list (parts resolver table matcher) keeps;
      evaluation = λ resolver table matcher. lemmas.one_evaluation (parts resolver table matcher) keeps;
      units = λ resolver table matcher. lemmas.one_tree (parts resolver table matcher);
      true_none = λ resolver table matcher. lemmas.true_iff_none (parts resolver table matcher) keeps;
      true_empty = λ resolver table matcher. lemmas.true_iff_empty (parts resolver table matcher) keeps;
      none_empty = λ resolver table matcher. lemmas.none_iff_empty (parts resolver table matcher) keeps;
      true_valid = λ resolver table matcher. lemmas.true_iff_valid (parts resolver table matcher) keeps;
      none_valid = λ resolver table matcher. lemmas.none_iff_valid (parts resolver table matcher) keeps;
      empty_valid = λ resolver table matcher. lemmas.empty_iff_valid (parts resolver table matcher) keeps;
    }
