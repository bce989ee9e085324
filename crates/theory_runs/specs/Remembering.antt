-- What a run knows of unfinished matches: if it meets a known match again, with another path and
-- for the reason that the matcher reports, nothing changes.
use Rattle.std.specs.Prelude.{All, List, ◌≡◌}
use Rattle.theory_definitions.specs.Matching.{Matcher, Reason, unfinished}
use Rattle.theory_definitions.specs.Runs.{Met}
use Rattle.theory_definitions.specs.Unfinished.{Remembered}
use Rattle.theory_definitions.specs.Remembering.{HasMet}

-- The matcher does not finish the match, and nothing is left to remember of it.
abbrev pub Knows : Matcher → Remembered → Met → Type 0
Knows matcher r m = HasMet r m × ((reason : Reason) × (matcher.is_match m.pair.pattern m.pair.subject ≡ unfinished reason))

-- The run knows each of these matches.
abbrev pub KnowsEach : Matcher → Remembered → List Met → Type 0
KnowsEach matcher r ms = All (Knows matcher r) ms
