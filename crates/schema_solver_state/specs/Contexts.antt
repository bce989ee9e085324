-- The state of a solver while it runs, as lists, and the facts in it.
use Rattle.std.specs.List.{list_any}
use Rattle.std.specs.Prelude.{Bool, List, Some, true, if◌then◌else◌, ℕ, ◌≡◌}
use Rattle.serde_json.specs.declared.value.Value.{Value}
use Rattle.theory_definitions.specs.Instance.{Place}
use Rattle.theory_definitions.specs.Keywords.{Marked}
use Rattle.schema_run_context.specs.Progress.{Pairs, Verdicts, root_places}
use Rattle.schema_run_context.specs.Verdicts.{is_pair, verdict_of}
use Rattle.theory_fixed_points.specs.Found.{Found}

-- the instance whose places it speaks of; the pairs in progress and those that are assumed, the
-- last one last; the verdicts that are known; the marks of the keyword's run that is in progress;
-- and how many pairs were begun
pub record Solver : Type 0 where
  pub root : Value
  pub in_progress : Pairs
  pub assumed : Pairs
  pub verdicts : Verdicts
  pub marking : List Marked
  pub begun : ℕ

abbrev pub solver_places : Solver → List Place
solver_places c = root_places c.root

-- a pair is among some
abbrev pub has_pair : Pairs → ℕ → Place → Bool
has_pair es i p = list_any (is_pair i p) es

abbrev pub found_of : Solver → Found
found_of c = record { busy = has_pair c.in_progress; assumed = has_pair c.assumed; known = λ i p. verdict_of i p c.verdicts }

-- "valid" is remembered for these pairs, and the verdicts of others are as before
abbrev pub SettlesAll : Pairs → Verdicts → Verdicts → Type 0
SettlesAll es old new = (i : ℕ) (p : Place) → verdict_of i p new ≡ (if has_pair es i p then Some true else verdict_of i p old)
