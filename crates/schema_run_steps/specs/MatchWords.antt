-- The matches that keywords request, and what a run remembers of them.
use Rattle.std.specs.Prelude.{Bool, List, None, map, ◌≡◌}
use Rattle.theory_definitions.specs.Instance.{Text}
use Rattle.theory_definitions.specs.Keywords.{MatchPoint, match_text}
use Rattle.theory_definitions.specs.Laws.{IsPresent}
use Rattle.theory_definitions.specs.Matching.{Matcher, Pair}
use Rattle.theory_definitions.specs.Runs.{Site, site_at}
use Rattle.schema_reports.specs.InstanceViews.{step_of, subject_of}
use Rattle.schema_reports.specs.declared.instance.Instance.{Instance}
use Rattle.schema_reports.specs.declared.instance.InstanceStep.{InstanceStep}
use Rattle.schema_traits.specs.KeywordViews.{turn_of}
use Rattle.schema_traits.specs.declared.keyword.Step.{Step}
use Rattle.schema_run_context.specs.Progress.{Context}
use Rattle.schema_run_context.specs.RunMatches.{asked_in}
use Rattle.schema_node_table.specs.declared.node.Node.{Node}
use Rattle.schema_run_steps.specs.Askings.{at_work}
use Rattle.schema_run_steps.specs.declared.question.Question.{Question}

-- a match is requested inside an instance
abbrev pub AsksInside : Instance → MatchPoint → Type 0
AsksInside i point = IsPresent (subject_of i) point.spot.below

-- the point of a match at a path after a keyword and some steps below it, without a pattern of its
-- own
abbrev pub plain_point : Bool → Text → List InstanceStep → MatchPoint
plain_point located path below = record {
  spot = record { absorbed = None; path = path; below = map step_of below };
  located = located;
  pattern = None;
}

-- the site of a match that the node's keyword with this name requests
abbrev pub site_here : {K : Type 0} → Node K → Text → Question → MatchPoint → Site
site_here n name q point = site_at (at_work n q) name point

-- if a step requests a match, then this holds of the match and its point
abbrev pub OfMatch : Step → (Pair → MatchPoint → Type 0) → Type 0
OfMatch step Holds = (a : Pair) (point : MatchPoint) → turn_of step ≡ match_text a point → Holds a point

-- after the node's keyword with this name requested a match, the run remembers what it has to
abbrev pub AsksMatch : {K : Type 0} → Node K → Text → Question → Matcher → Context → Context → Pair → MatchPoint → Type 0
AsksMatch n name q matcher old new a point = new.remembered ≡ asked_in old matcher a (site_here n name q point)
