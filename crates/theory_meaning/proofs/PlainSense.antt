-- The plain sense of a schema behaves like a plain run.
use Rattle.std.proofs.Common.{[], subst}
use Rattle.theory_definitions.specs.Parts.{Parts}
use Rattle.theory_definitions.specs.Meaning.{unfold_}
use Rattle.theory_definitions.specs.Cover.{mode_of}
use Rattle.theory_meaning.specs.Members.{SameIn}
use Rattle.theory_meaning.specs.Promises.{RunsSpeak, UnitsArePlain, PlainFollows}
use Rattle.theory_meaning.proofs.Runs.{run_speaks, run_outcome}

pub all_runs_speak : {S K R : Type 0} (w : Parts S K R) → RunsSpeak w
all_runs_speak w each values makers states instance root none keys reach n enough as' c mine ext = run_speaks w each values makers states instance root none keys reach n enough as' c mine ext

pub all_plain_follow : {S K R : Type 0} (w : Parts S K R) → PlainFollows w
all_plain_follow w each values makers states instance root none keys reach n enough = record {
  agrees = λ c. (run_speaks w each values makers states instance root none keys reach n enough [] c (λ a b is. absurd (cc is)) (λ a b is. absurd (cc is))).agrees;
  speaks = λ call as' c mine ext e. subst (λ o. SameIn (mode_of call as') o (unfold_ w instance c n root [] [])) (run_outcome w instance as' n root [] [])
      ((run_speaks w each values makers states instance root none keys reach n enough as' c mine ext).in_mode (mode_of call as') e);
}

pub all_units_plain : {S K R : Type 0} (w : Parts S K R) → UnitsArePlain w
all_units_plain w each values makers states instance root none keys reach n enough e c =
    (run_speaks w each values makers states instance root none keys reach n enough [] c (λ a b is. absurd (cc is)) (λ a b is. absurd (cc is))).units e
