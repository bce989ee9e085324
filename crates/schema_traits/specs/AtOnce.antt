-- A keyword that asks nothing about an instance: its run for the verdict is done at its first turn.
use Rattle.std.specs.Prelude.{Bool, ◌≡◌}
use Rattle.theory_definitions.specs.Instance.{Subject}
use Rattle.theory_definitions.specs.Keywords.{Keywords, done, for_verdict, no_reply}

-- the run is done at its first turn, with this verdict
pub record EndsAtOnce {K R : Type 0} (keywords : Keywords K R) (m : K) (s : Subject) (valid : Bool) : Type 0 where
  pub asks_nothing : keywords.step m s (keywords.begin m s for_verdict) no_reply ≡ done
  pub says : (keywords.answer (keywords.turn m s (keywords.begin m s for_verdict) no_reply)).verdict ≡ valid
