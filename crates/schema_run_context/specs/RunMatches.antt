-- The outcomes of a run's matches under its assumptions, and what it remembers of them.
use Rattle.std.specs.Prelude.{Bool, is_some, ◌≡◌}
use Rattle.theory_definitions.specs.Instance.{Text}
use Rattle.theory_definitions.specs.Matching.{Matcher, Pair, Reason, assumed}
use Rattle.theory_definitions.specs.Runs.{Site}
use Rattle.theory_definitions.specs.Unfinished.{Remembered, meet, or_no}
use Rattle.schema_run_context.specs.Matches.{after_match, comes_out}
use Rattle.schema_run_context.specs.Progress.{Context}

-- a pattern and a subject
abbrev pub a_pair : Text → Text → Pair
a_pair pattern subject = record { pattern = pattern; subject = subject }

-- the outcome of an unfinished match: the assumed one, or else no
abbrev pub assumed_in : Context → Pair → Bool
assumed_in c a = or_no (assumed c.remembered.assumptions a)

-- what is remembered after a match was met at a site, unfinished for this reason
abbrev pub met_in : Context → Pair → Site → Reason → Remembered
met_in c a site reason = meet c.remembered (record { met = record { pair = a; site = site }; reason = reason })

-- an unfinished match adds nothing to what is remembered, whatever its reason, at each site for
-- which this says whether it has an instance path
abbrev pub AddsNothing : Context → Pair → Bool → Type 0
AddsNothing c a has_place = (site : Site) (reason : Reason) → is_some site.located ≡ has_place → met_in c a site reason ≡ c.remembered

-- the outcome of a match with a matcher
abbrev pub matches_in : Context → Matcher → Pair → Bool
matches_in c m a = comes_out c.remembered.assumptions a (m.is_match a.pattern a.subject)

-- what is remembered after the match was requested at a site
abbrev pub asked_in : Context → Matcher → Pair → Site → Remembered
asked_in c m a site = after_match c.remembered (record { pair = a; site = site }) (m.is_match a.pattern a.subject)
