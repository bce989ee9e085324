-- What a run assumes of unfinished matches, and what it remembers of those that it meets.
use Rattle.std.specs.Prelude.{Bool, List, None, Option, Some, [], false, find, if◌then◌else◌, is_some, option_map, ◌++◌, ◌||◌, ◌∷◌, ◌≡◌}
use Rattle.theory_definitions.specs.Instance.{Place, Text}
use Rattle.theory_definitions.specs.Matching.{Assumptions, Pair, Reason, assumed, same_pair}
use Rattle.theory_definitions.specs.Runs.{Met, Site}

-- An unfinished match, where it was met, and why it was not finished.
pub record Failure : Type 0 where
  pub met : Met
  pub reason : Reason

-- What a run assumes, the first unfinished match that it met without an assumption, and, for each
-- unfinished match, the first site with an instance path at which it was met.
pub record Remembered : Type 0 where
  pub assumptions : Assumptions
  pub unassumed : Option Failure
  pub located : List Met

-- The first match that was met without an assumption is not among the assumptions.
abbrev pub FirstIsNew : Remembered → Type 0
FirstIsNew r = (f : Failure) → r.unassumed ≡ Some f → assumed r.assumptions f.met.pair ≡ None

-- What a run remembers at its start.
abbrev pub starting : Assumptions → Remembered
starting as' = record { assumptions = as'; unassumed = None; located = [] }

-- The first of these sites that belongs to a match.
abbrev pub site_of : List Met → Pair → Option Site
site_of ms a = option_map (λ m. m.site) (find (λ m. same_pair a m.pair) ms)

-- The failure belongs to this match.
abbrev pub is_of : Option Failure → Pair → Bool
is_of None a = false
is_of (Some f) a = same_pair a f.met.pair

-- A match is known to be unfinished if it is assumed, if it is the first one that was not, or if it
-- was met at a site with an instance path.
abbrev pub is_known : Remembered → Pair → Bool
is_known r a = is_some (assumed r.assumptions a) || is_of r.unassumed a || is_some (site_of r.located a)

-- ---- a run meets an unfinished match

-- The assumed outcome, or no if nothing is assumed.
abbrev pub or_no : Option Bool → Bool
or_no None = false
or_no (Some b) = b

-- Only the first match that is not assumed is remembered.
abbrev pub first_unassumed : Option Failure → Option Bool → Failure → Option Failure
first_unassumed (Some g) outcome f = Some g
first_unassumed None (Some b) f = None
first_unassumed None None f = Some f

-- Only the first site of a match that has an instance path is remembered.
abbrev pub noted : List Met → Met → List Met
noted ms m = if is_some m.site.located then (if is_some (site_of ms m.pair) then ms else ms ++ m ∷ []) else ms

-- What a run remembers after it meets an unfinished match.
abbrev pub meet : Remembered → Failure → Remembered
meet r f = record {
  assumptions = r.assumptions;
  unassumed = first_unassumed r.unassumed (assumed r.assumptions f.met.pair) f;
  located = noted r.located f.met;
}

-- What a run remembers after it meets a match that it knows already; this needs no reason.
abbrev pub meet_known : Remembered → Met → Remembered
meet_known r m = record r { located = noted r.located m }

-- ---- the site at which a failure is reported

-- The first pattern, or else the second.
abbrev pub or_pattern : Option Text → Option Text → Option Text
or_pattern (Some p) q = Some p
or_pattern None q = q

-- A site that has an instance path is kept. Otherwise the new site, if there is one, replaces it,
-- and takes over its pattern if the new site has none.
abbrev pub preferred : Option (Text × Place) → Site → Option Site → Site
preferred (Some l) site other = site
preferred None site None = site
preferred None site (Some other) = record other { pattern = or_pattern other.pattern site.pattern }

-- The failure, after a run has met these sites.
abbrev pub located_by : Failure → List Met → Failure
located_by f ms = record f { met = record f.met { site = preferred f.met.site.located f.met.site (site_of ms f.met.pair) } }

-- The failure, after several runs have met these sites one after another.
abbrev pub located_by_all : Failure → List (List Met) → Failure
located_by_all f [] = f
located_by_all f (ms ∷ more) = located_by_all (located_by f ms) more
