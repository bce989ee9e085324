-- The pair of a node and a place that a guarded question asks about.
use Rattle.std.specs.Prelude.{Bool, List, Option, Some, ℕ, ◌≡◌}
use Rattle.theory_definitions.specs.Instance.{Place}
use Rattle.schema_places.specs.Numbers.{number_of}
use Rattle.schema_reports.specs.InstanceViews.{subject_of}
use Rattle.schema_reports.specs.declared.instance.Instance.{Instance}
use Rattle.schema_run_context.specs.Progress.{Context, EndsWith, GoesLast, is_busy, places_in}
use Rattle.schema_run_context.specs.Verdicts.{MayKeep, Remembers, read_verdict, verdict_of}
use Rattle.schema_run_steps.specs.EvaluationPlaces.{steps_to}
use Rattle.schema_run_steps.specs.declared.guarded.GuardedPair.{GuardedPair}

-- the place of a pair
abbrev pub place_of : GuardedPair → Place
place_of p = steps_to p.place.now

-- the number of a pair is that of its place
abbrev pub IsNumbered : List Place → GuardedPair → Type 0
IsNumbered places p = number_of (place_of p) places ≡ Some p.number

module _ (p : GuardedPair) (c : Context) where
  -- the number of a pair is that of its place among the places of a run
  abbrev pub HasNumberIn : Type 0
  HasNumberIn = IsNumbered (places_in c) p

  -- the pair is in progress
  abbrev pub is_busy_in : Bool
  is_busy_in = is_busy p.node.0 (place_of p) c

  -- the pair is the last one that was entered
  abbrev pub IsLastIn : Type 0
  IsLastIn = EndsWith p.node.0 (place_of p) c.in_progress

  -- the verdict that is read for the pair, and (below) the one that is remembered
  abbrev pub read_in : Option Bool
  read_in = read_verdict p.node.0 (place_of p) c

  abbrev pub remembered_in : Option Bool
  remembered_in = verdict_of p.node.0 (place_of p) c.verdicts

  -- the verdict of the pair is to be stored
  abbrev pub MayKeepIn : Instance → ℕ → Type 0
  MayKeepIn instance mark = MayKeep p.node.0 (place_of p) (subject_of instance) mark c

module _ (p : GuardedPair) (old new : Context) where
  -- the pair is added to those in progress, as the last one
  abbrev pub ComesLast : Type 0
  ComesLast = GoesLast p.node.0 (place_of p) old.in_progress new.in_progress

  -- the verdict of the pair is remembered
  abbrev pub RemembersPair : Bool → Type 0
  RemembersPair verdict = Remembers p.node.0 (place_of p) verdict old.verdicts new.verdicts
