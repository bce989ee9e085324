-- The verdicts that a run remembers of guarded questions, by the node's number and the place; and
-- when a verdict is stored and when it is read.
use Rattle.std.specs.Prelude.{ℕ, ◌≡◌, ◌≤◌, ◌==◌, ◌+◌, ◌&&◌, Bool, true, false, [], ◌∷◌, Option, None, Some, if◌then◌else◌, min}
use Rattle.std.specs.List.{list_all}
use Rattle.serde_json.specs.Data.{array, object}
use Rattle.theory_definitions.specs.Instance.{Place, Subject, a_value, same_place}
use Rattle.schema_reports.specs.InstanceViews.{subject_of}
use Rattle.schema_reports.specs.declared.instance.Instance.{Instance}
use Rattle.schema_run_context.specs.Progress.{Context, Pairs, Verdicts, busy_at, guard_words, place_in}

-- a pair is the one of this node and this place
abbrev pub is_pair : ℕ → Place → ℕ × Place → Bool
is_pair i p e = (e.0 == i) && same_place e.1 p

-- the verdict of a pair, if one is remembered
abbrev pub verdict_of : ℕ → Place → Verdicts → Option Bool
verdict_of i p [] = None
verdict_of i p (e ∷ es) = if is_pair i p e.0 then Some e.1 else verdict_of i p es

-- a pair's verdict is remembered, and those of other pairs are as before
pub record Remembers (i : ℕ) (p : Place) (v : Bool) (old new : Verdicts) : Type 0 where
  pub its : verdict_of i p new ≡ Some v
  pub others : (j : ℕ) (q : Place) → is_pair i p (j, q) ≡ false → verdict_of j q new ≡ verdict_of j q old

-- a subject is an array or an object
abbrev pub is_container : Subject → Bool
is_container (a_value (array ds)) = true
is_container (a_value (object ms)) = true
is_container _ = false

-- no other node is in progress at the place
abbrev pub is_alone : ℕ → Place → Pairs → Bool
is_alone i p es = list_all (λ j. j == i) (busy_at p es)

-- the count of visits after one more; it stays at the greatest number of 64 bits
abbrev pub one_more : ℕ → ℕ
one_more n = min (n + 1) 18446744073709551615

-- the least number of visits that a verdict has to take, so that it is stored
abbrev pub least_visits : ℕ
least_visits = 16

-- a verdict is stored if the subject is an array or an object, no other node is in progress at the
-- place, and at least this many visits were counted since the mark
pub record MayKeep (i : ℕ) (p : Place) (s : Subject) (mark : ℕ) (c : Context) : Type 0 where
  pub container : is_container s ≡ true
  pub alone : is_alone i p c.in_progress ≡ true
  pub enough : mark + least_visits ≤ c.visits

-- the same, for a node at the place that has a number
abbrev pub MayKeepAt : ℕ → ℕ → Instance → ℕ → Context → Type 0
MayKeepAt n k instance mark c = MayKeep n (place_in c k) (subject_of instance) mark c

-- no other node is in progress at that place
abbrev pub is_alone_at : ℕ → ℕ → Context → Bool
is_alone_at n k c = is_alone n (place_in c k) c.in_progress

-- the verdict of that node, if one is remembered
abbrev pub verdict_at : ℕ → ℕ → Context → Option Bool
verdict_at n k c = verdict_of n (place_in c k) c.verdicts

-- no verdict is remembered any more, and no visit is counted
abbrev pub forgetting : Context → Context
forgetting c = record c { verdicts = []; visits = 0; kept = []; words = guard_words c }

-- the verdict of that node is remembered
abbrev pub RemembersAt : ℕ → ℕ → Bool → Context → Context → Type 0
RemembersAt n k v old new = Remembers n (place_in old k) v old.verdicts new.verdicts

-- nothing changes but what is remembered of verdicts
abbrev pub OnlyVerdicts : Context → Context → Type 0
OnlyVerdicts old new = new ≡ record old { verdicts = new.verdicts; kept = new.kept; words = new.words }

-- the verdict that is read for a pair: the remembered one, if no other node is in progress at the
-- place
abbrev pub read_verdict : ℕ → Place → Context → Option Bool
read_verdict i p c = if is_alone i p c.in_progress then verdict_of i p c.verdicts else None

-- the same, for a node at the place that has a number
abbrev pub read_at : ℕ → ℕ → Context → Option Bool
read_at n k c = read_verdict n (place_in c k) c
