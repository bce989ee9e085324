use Rattle.std.proofs.Common.{◌≡◌, arith, eqb}
use Rattle.std.proofs.lemmas.Grind.{common_steps}
use Rattle.std.proofs.lemmas.Str.Pattern.{ends_text}
use Rattle.std.specs.List.{ends_with}
use Rattle.test_rows.proofs.comparing.ends_as_wanted.Goals as goal

pub returns-in-Some-as_str : goal.returns-in-Some-as_str
returns-in-Some-as_str c =
    let ended : c.ends_with.result ≡ ends_with eqb c.in-Some-and_then.text.now c.in-Some-as_str.end.now
    = ends_text _ _ _ c.ends_with.ensures.cases in
    grind (arith, common_steps)
