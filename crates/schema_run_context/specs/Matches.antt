-- The outcomes of the matches that a run requests. (Validation 2020-12, 4.3, regular expressions)
use Rattle.std.specs.Prelude.{Bool, List, [], ◌∷◌, ◌≡◌}
use Rattle.theory_definitions.specs.Matching.{Assumptions, Match, Matcher, Pair, Reason, assumed, finished, settled, unfinished}
use Rattle.theory_definitions.specs.Runs.{Met}
use Rattle.theory_definitions.specs.Unfinished.{Remembered, meet, or_no}

-- what decides the matches of a run: the matcher, and the assumptions about those that it leaves
-- unfinished
pub record Settling : Type 0 where
  pub matcher : Matcher
  pub assumptions : Assumptions

abbrev pub settling : Matcher → Assumptions → Settling
settling matcher as' = record { matcher = matcher; assumptions = as' }

-- the outcome of a match: that of the matcher if it is finished, or else the assumed one, or else
-- no
abbrev pub comes_out : Assumptions → Pair → Match → Bool
comes_out as' a answer = settled (or_no (assumed as' a)) answer

-- what is remembered after a match was requested at a site: an unfinished one is added
abbrev pub after_match : Remembered → Met → Match → Remembered
after_match r m (finished b) = r
after_match r m (unfinished reason) = meet r (record { met = m; reason = reason })

-- unfinished matches are met one after another, each with the reason that the matcher reports
abbrev pub MeetsEach : Matcher → Remembered → List Met → Remembered → Type 0
MeetsEach matcher r [] end = r ≡ end
MeetsEach matcher r (m ∷ ms) end = (reason : Reason) × (matcher.is_match m.pair.pattern m.pair.subject ≡ unfinished reason) × MeetsEach matcher (meet r (record { met = m; reason = reason })) ms end
