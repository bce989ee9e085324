use Rattle.schema_engine.proofs.FreeCalls as lemmas
use Rattle.schema_engine.proofs.laws.calls_repeat.Goals as goal

pub returns : goal.returns
returns c s = record {
  verdict = lemmas.verdict_again c.K.Validate c.M.Matcher;
  first = lemmas.first_error_again c.K.Validate c.M.Matcher;
  errors = lemmas.error_list_again c.K.Validate c.M.Matcher;
  evaluation = lemmas.evaluation_again c.K.Validate c.M.Matcher;
  units = lemmas.units_again c.K.Validate c.M.Matcher;
}
