-- The code's reasons and matches, in terms of the definitions, and the match of a pattern and a
-- subject.
use Rattle.std.specs.Prelude.{Bool, List, MatchOption, None, Option, Some, length, slice_index_or, ℕ, ◌<◌, ◌≡◌}
use Rattle.theory_definitions.specs.Instance.{Text}
use Rattle.theory_definitions.specs.Matching as spec
use Rattle.theory_definitions.specs.Runs.{Met, Site}
use Rattle.theory_definitions.specs.Unfinished.{Failure, or_no, site_of}
use Rattle.unfinished_matches.specs.declared.site.Match.{Match}
use Rattle.unfinished_matches.specs.declared.site.Match.TheVariants as outcome
use Rattle.unfinished_matches.specs.declared.site.Reason.{Reason}
use Rattle.unfinished_matches.specs.declared.site.Reason.TheVariants as reason

abbrev pub reason_of : Reason → spec.Reason
reason_of (reason.Limit text) = spec.limit text
reason_of reason.Engine = spec.engine

abbrev pub match_of : Match → spec.Match
match_of (outcome.Finished b) = spec.finished b
match_of (outcome.Unfinished r) = spec.unfinished (reason_of r)

-- the match of this pattern and this subject
abbrev pub pair_of : Text → Text → spec.Pair
pair_of pattern subject = record { pattern = pattern; subject = subject }

-- the match of this pattern and this subject, met at a site
abbrev pub met_at : Text → Text → Site → Met
met_at pattern subject site = record { pair = pair_of pattern subject; site = site }

-- the match met at a site, and the reason why it was not finished there
abbrev pub failed_at : Text → Text → Site → spec.Reason → Failure
failed_at pattern subject site why = record { met = met_at pattern subject site; reason = why }

-- the assumed outcome of a match, or `false` if none is assumed
abbrev pub outcome_of : spec.Assumptions → Text → Text → Bool
outcome_of assumptions pattern subject = or_no (spec.assumed assumptions (pair_of pattern subject))

-- the position of the first of these sites for this match, or none if there is no such site
abbrev pub IsPlaceOf : List Met → spec.Pair → Option ℕ → Type 0
IsPlaceOf sites pair o = MatchOption o (site_of sites pair ≡ None) (λ i. (i < length sites) × ((d : Met) → site_of sites pair ≡ Some (slice_index_or sites i d).site))
