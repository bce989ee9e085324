-- The pairs of a node's number and a place that are in progress, the last entered last; and the
-- state of a run.
use Rattle.std.specs.Prelude.{ℕ, ◌≤◌, ◌<◌, ◌≡◌, ◌↔◌, ◌+◌, ◌*◌, ◌/◌, ◌||◌, ◌==◌, Bool, IsTrue, List, [], ◌∷◌, ◌++◌, length, nat_eq, not, if◌then◌else◌, All, Contains}
use Rattle.std.specs.List.{filter, list_any}
use Rattle.serde_json.specs.View.{view}
use Rattle.serde_json.specs.declared.value.Value.{Value}
use Rattle.theory_definitions.specs.Instance.{Place, places, same_place}
use Rattle.theory_definitions.specs.Keywords.{Marked}
use Rattle.theory_definitions.specs.Unfinished.{Remembered}
use Rattle.schema_places.specs.Numbers.{place_at}
use Rattle.schema_run_context.specs.Works.{Budget, unlimited}

abbrev pub Pairs : Type 0
Pairs = List (ℕ × Place)

-- the numbers in progress at a place, the last entered first
abbrev pub busy_at : Place → Pairs → List ℕ
busy_at p [] = []
busy_at p (e ∷ es) = busy_at p es ++ (if same_place e.1 p then e.0 ∷ [] else [])

-- no pair is at a deeper place than this one
abbrev pub NoDeeper : Place → Pairs → Type 0
NoDeeper p es = All (λ e. length e.1 ≤ length p) es

-- no pair is listed twice
abbrev pub Distinct : Pairs → Type 0
Distinct [] = Unit {0}
Distinct (e ∷ es) = (Contains es e → ⊥) × Distinct es

-- a pair is entered: if it was there already, then nothing changes, or else it is added at the end
abbrev pub Enters : ℕ → Place → Pairs → Bool → Pairs → Type 0
Enters n p old b new = (IsTrue b ↔ Contains old (n, p)) × (new ≡ (if b then old else old ++ (n, p) ∷ []))

-- a pair is the last one
abbrev pub EndsWith : ℕ → Place → Pairs → Type 0
EndsWith n p es = (rest : Pairs) × (es ≡ rest ++ (n, p) ∷ [])

-- a pair is added at the end
abbrev pub GoesLast : ℕ → Place → Pairs → Pairs → Type 0
GoesLast n p old new = new ≡ old ++ (n, p) ∷ []

-- verdicts of pairs
abbrev pub Verdicts : Type 0
Verdicts = List ((ℕ × Place) × Bool)

-- the state of a run: the instance whose places it refers to, the pairs in progress, what it
-- assumes about unfinished matches and remembers of those that it met, the marks of the current run
-- of a keyword, the last one first, the verdicts that it remembers, the number of guarded visits,
-- the node numbers that were entered, and those that a verdict is remembered for, the number of
-- 64-bit words in its rows, and the number of nodes that it may still evaluate, with how many may be
-- open at once
pub record Context : Type 0 where
  pub root : Value
  pub in_progress : Pairs
  pub remembered : Remembered
  pub marking : List Marked
  pub verdicts : Verdicts
  pub visits : ℕ
  pub entered : List ℕ
  pub kept : List ℕ
  pub words : ℕ
  pub work : Budget

-- the places of an instance in the order of their numbers
abbrev pub root_places : Value → List Place
root_places v = places (view v)

abbrev pub places_in : Context → List Place
places_in c = root_places c.root

-- the place that has a number, and (below) that there is one
abbrev pub place_in : Context → ℕ → Place
place_in c k = place_at (places_in c) k

abbrev pub IsPlaceIn : Context → ℕ → Type 0
IsPlaceIn c k = k < length (places_in c)

-- a pair is in progress
abbrev pub is_busy : ℕ → Place → Context → Bool
is_busy n p c = list_any (λ i. i == n) (busy_at p c.in_progress)

-- the same, for the pair of a node and the place that has a number
abbrev pub is_busy_at : ℕ → ℕ → Context → Bool
is_busy_at n k c = is_busy n (place_in c k) c

-- that pair is entered; it is the last one; and it is taken away
abbrev pub EntersAt : ℕ → ℕ → Context → Context → Bool → Type 0
EntersAt n k old new b = Enters n (place_in old k) old.in_progress b new.in_progress

abbrev pub IsLastAt : ℕ → ℕ → Context → Type 0
IsLastAt n k c = EndsWith n (place_in c k) c.in_progress

abbrev pub LeavesAt : ℕ → ℕ → Context → Context → Type 0
LeavesAt n k old new = GoesLast n (place_in old k) new.in_progress old.in_progress

-- a run that has begun on this instance, with what it remembers of matches; it may evaluate any
-- number of nodes
abbrev pub begun : Value → Remembered → Context
begun v r = record { root = v; in_progress = []; remembered = r; marking = []; verdicts = []; visits = 0; entered = []; kept = []; words = 0; work = unlimited }

-- a node's number is among some numbers
abbrev pub has_number : ℕ → List ℕ → Bool
has_number n xs = list_any (nat_eq n) xs

-- a number is added to some numbers
abbrev pub Adds : ℕ → List ℕ → List ℕ → Type 0
Adds n old new = (m : ℕ) → has_number m new ≡ (has_number m old || (n == m))

-- the numbers that were entered or for which a verdict is remembered, each once
abbrev pub numbers : Context → List ℕ
numbers c = c.entered ++ filter (λ n. not (has_number n c.entered)) c.kept

-- the number of rows: one for each number that was entered, two for each number for which a verdict
-- is remembered
abbrev pub rows : Context → ℕ
rows c = length c.entered + 2 * length c.kept

-- there are at most three rows for each number
abbrev pub FewRows : Context → Type 0
FewRows c = rows c ≤ 3 * length (numbers c)

-- the number of 64-bit words in a row that has one bit for each of some places
abbrev pub row_words : ℕ → ℕ
row_words n = (n + 63) / 64

-- the number of words in the rows of the numbers that were entered
abbrev pub guard_words : Context → ℕ
guard_words c = length c.entered * row_words (length (places_in c))

-- each row has one bit for each place, and no more words than that takes
abbrev pub IsWide : Context → Type 0
IsWide c = c.words ≡ rows c * row_words (length (places_in c))

-- nothing changes but the pairs in progress, the numbers that were entered, and the number of words
-- in the rows
pub record OnlyPairs (old new : Context) : Type 0 where
  pub remembered : new.remembered ≡ old.remembered
  pub marking : new.marking ≡ old.marking
  pub verdicts : new.verdicts ≡ old.verdicts
  pub visits : new.visits ≡ old.visits
  pub root : new.root ≡ old.root
  pub kept : new.kept ≡ old.kept
  pub work : new.work ≡ old.work

-- nothing changes but the marks
pub record OnlyMarks (old new : Context) : Type 0 where
  pub in_progress : new.in_progress ≡ old.in_progress
  pub remembered : new.remembered ≡ old.remembered
  pub verdicts : new.verdicts ≡ old.verdicts
  pub visits : new.visits ≡ old.visits
  pub root : new.root ≡ old.root
  pub entered : new.entered ≡ old.entered
  pub kept : new.kept ≡ old.kept
  pub words : new.words ≡ old.words
  pub work : new.work ≡ old.work

-- nothing changes but what is remembered of unfinished matches
pub record OnlyMatches (old new : Context) : Type 0 where
  pub in_progress : new.in_progress ≡ old.in_progress
  pub marking : new.marking ≡ old.marking
  pub verdicts : new.verdicts ≡ old.verdicts
  pub visits : new.visits ≡ old.visits
  pub root : new.root ≡ old.root
  pub entered : new.entered ≡ old.entered
  pub kept : new.kept ≡ old.kept
  pub words : new.words ≡ old.words
  pub work : new.work ≡ old.work
