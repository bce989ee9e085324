use Rattle.std.proofs.Common.{ap, string_bytes}
use Rattle.theory_definitions.specs.Matching.{Pair}
use Rattle.schema_traits.specs.KeywordViews.{spot_point, turn_of}
use Rattle.schema_run_steps.proofs.matches.step_match.Goals as goal

pub asked_match-requires-in-MatchAt : goal.asked_match-requires-in-MatchAt
asked_match-requires-in-MatchAt g c =
    let at = c.in-MatchAt.at.now in
    let pair : Pair = record { pattern = string_bytes at.pattern; subject = c.in-MatchAt.subject.now } in
    record { present = c.requires.present pair (spot_point at.located at.spot c.in-MatchAt.below) (ap turn_of c.in-MatchAt.is) }
