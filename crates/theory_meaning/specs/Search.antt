-- The search over unfinished matches makes one run for each list of assumptions that it finds, so
-- its runs form a tree. All that is known of a run is how each use of it changes the state that it
-- holds.
use Rattle.std.specs.List.{list_all}
use Rattle.std.specs.Prelude.{Bool, List, None, Some, [], false, length, suc, true, zero, ℕ, ◌*◌, ◌++◌, ◌+◌, ◌<◌, ◌∷◌, ◌≡◌, ◌≤◌}
use Rattle.theory_definitions.specs.Matching.{Assumptions, Completion, Extends, assumed}
use Rattle.theory_definitions.specs.Runs.{Met}
use Rattle.theory_definitions.specs.Cover.{assuming}
use Rattle.theory_meaning.specs.Members.{ExtendsAt}
use Rattle.theory_meaning.specs.Searched.{Reaches}
use Rattle.theory_definitions.specs.Unfinished.{Failure, Remembered, located_by_all, starting}

-- A list of assumptions in the search. Its run is still to be made; or it is a member, with the
-- result of its run; or it branches on the first match that its run met and did not assume, once
-- with a no and once with a yes.
pub data Tree (T : Type 0) : Type 0 where
  unrun : Tree T
  member : Remembered → T → Tree T
  branch : Remembered → Failure → Tree T → Tree T → Tree T

module _ {S T : Type 0} (Step : S → Remembered → Remembered → T → S → Type 0) where
  -- The tree grows from a list, with each run as a step of the state: first the run of the list
  -- itself, then those of its no, then those of its yes. It branches on a match that is not among
  -- the assumptions that its run returns.
  abbrev pub Grows : Assumptions → S → Tree T → S → Type 0
  Grows as' s unrun end = s ≡ end
  Grows as' s (member r result) end = Step s (starting as') r result end × (r.unassumed ≡ None)
  Grows as' s (branch r f if_no if_yes) end =
      (result : T)
      × (s1 : S)
      × (s2 : S)
      × Step s (starting as') r result s1
      × (r.unassumed ≡ Some f)
      × Grows (assuming f.met false as') s1 if_no s2
      × Grows (assuming f.met true as') s2 if_yes end
      × (assumed r.assumptions f.met.pair ≡ None)

  -- The tree grows from the first run of a call, which has been made and met a match that it did
  -- not assume.
  abbrev pub GrowsFrom : Remembered → S → Tree T → S → Type 0
  GrowsFrom first s unrun end = ⊥
  GrowsFrom first s (member r result) end = ⊥
  GrowsFrom first s (branch r f if_no if_yes) end =
      (s2 : S)
      × (r ≡ first)
      × (first.unassumed ≡ Some f)
      × Grows (assuming f.met false first.assumptions) s if_no s2
      × Grows (assuming f.met true first.assumptions) s2 if_yes end
      × (assumed first.assumptions f.met.pair ≡ None)

module _ {T : Type 0} where
  -- The results of the members; those that assume a no come first.
  abbrev pub results_of : Tree T → List T
  results_of unrun = []
  results_of (member r result) = result ∷ []
  results_of (branch r f if_no if_yes) = results_of if_no ++ results_of if_yes

  -- The assumptions of the members, in the same order.
  abbrev pub lists_of : Assumptions → Tree T → List Assumptions
  lists_of as' unrun = []
  lists_of as' (member r result) = as' ∷ []
  lists_of as' (branch r f if_no if_yes) = lists_of (assuming f.met false as') if_no ++ lists_of (assuming f.met true as') if_yes

  -- The number of runs that were made.
  abbrev pub runs : Tree T → ℕ
  runs unrun = 0
  runs (member r result) = 1
  runs (branch r f if_no if_yes) = 1 + (runs if_no + runs if_yes)

  -- The number of lists that are still to be run.
  abbrev pub waiting : Tree T → ℕ
  waiting unrun = 1
  waiting (member r result) = 0
  waiting (branch r f if_no if_yes) = waiting if_no + waiting if_yes

  -- The number of lists that are members or are still to be run.
  abbrev pub ends : Tree T → ℕ
  ends unrun = 1
  ends (member r result) = 1
  ends (branch r f if_no if_yes) = ends if_no + ends if_yes

  -- The search runs the lists in order: while a list waits on the no side of a branching, the yes
  -- side is not yet run.
  abbrev pub IsInOrder : Tree T → Type 0
  IsInOrder unrun = Unit {0}
  IsInOrder (member r result) = Unit {0}
  IsInOrder (branch r f if_no if_yes) = IsInOrder if_no × IsInOrder if_yes × (0 < waiting if_no → if_yes ≡ unrun)

  -- The sites that each run remembers.
  abbrev pub sites : Tree T → List (List Met)
  sites unrun = []
  sites (member r result) = r.located ∷ []
  sites (branch r f if_no if_yes) = r.located ∷ (sites if_no ++ sites if_yes)

  -- Each branching is on a match that is not yet assumed.
  abbrev pub BranchesAreNew : Assumptions → Tree T → Type 0
  BranchesAreNew as' unrun = Unit {0}
  BranchesAreNew as' (member r result) = Unit {0}
  BranchesAreNew as' (branch r f if_no if_yes) =
      (assumed as' f.met.pair ≡ None) × BranchesAreNew (assuming f.met false as') if_no × BranchesAreNew (assuming f.met true as') if_yes

-- Each completion that extends the list extends exactly one of these.
abbrev pub TakesApart : Assumptions → List Assumptions → Type 0
TakesApart as' ms = (c : Completion) → Extends c as' → (i : ℕ) × ExtendsAt c ms i × ((j : ℕ) → ExtendsAt c ms j → j ≡ i)

-- Each use of the run returns the assumptions that it received.
abbrev pub HandsBack : {S T : Type 0} → (S → Remembered → Remembered → T → S → Type 0) → S → Type 0
HandsBack {S} {T} Step start =
    (s : S) (given r : Remembered) (result : T) (end : S) → Reaches Step start s → Step s given r result end
    → r.assumptions ≡ given.assumptions

-- n uses of the run lead from one state to the other, whatever they answer.
abbrev pub Uses : {S X Y : Type 0} → (S → X → Y → S → Type 0) → S → ℕ → S → Type 0
Uses Use start zero end = start ≡ end
Uses {S} {X} {Y} Use start (suc n) end = (s : S) × (given : X) × (answer : Y) × Uses Use start n s × Use s given answer end

-- Fewer uses than the limit lead from one state to the other.
abbrev pub UsesBelow : {S X Y : Type 0} → ℕ → (S → X → Y → S → Type 0) → S → S → Type 0
UsesBelow limit Use start end = (n : ℕ) × Uses Use start n end × (n < limit)

-- Every assumption is a yes.
abbrev pub all_yes : Assumptions → Bool
all_yes as' = list_all (λ a. a.outcome) as'

module _ {S T : Type 0} (Step : S → Remembered → Remembered → T → S → Type 0) (first : Remembered) (start : S) (limit : ℕ) where
  -- The runs that the search made in order, including the first one, and the failure: the first
  -- match that the first run met and did not assume, at the first site of that match that has an
  -- instance path. The uses of all these runs but the first lead, one after another, from the start
  -- state to the end state, and there are no other uses. If each use returns the assumptions that
  -- it received, the search branches only on matches that are not yet assumed.
  pub record Made (end : S) (tree : Tree T) (failure : Failure) : Type 0 where
    pub unassumed : Failure
    pub is_first : first.unassumed ≡ Some unassumed
    pub grows : GrowsFrom Step first start tree end
    pub in_order : IsInOrder tree
    pub few : runs tree ≤ limit
    pub located : failure ≡ located_by_all unassumed (sites tree)
    pub new : HandsBack Step start → BranchesAreNew first.assumptions tree

  -- Every run that the first one requires was made. Each run belongs to a member or to a branching,
  -- and the last member assumes a yes everywhere if the first run does. If each use returns the
  -- assumptions that it received, each completion that extends the assumptions of the first run
  -- extends exactly one member. (The first run assumes nothing if the call begins with it.)
  pub record Whole (tree : Tree T) : Type 0 where
    pub none_waits : waiting tree ≡ 0
    pub runs_are : runs tree + 1 ≡ 2 * ends tree
    pub results_are : length (results_of tree) ≡ ends tree
    pub counted : length (lists_of first.assumptions tree) ≡ ends tree
    pub others : List Assumptions
    pub last : Assumptions
    pub lists_are : lists_of first.assumptions tree ≡ others ++ last ∷ []
    pub last_yes : all_yes first.assumptions ≡ true → all_yes last ≡ true
    pub apart : HandsBack Step start → TakesApart first.assumptions (lists_of first.assumptions tree)

  -- More runs are required than the limit allows.
  pub record Cut (tree : Tree T) : Type 0 where
    pub some_wait : 0 < waiting tree
    pub runs_are : runs tree ≡ limit
    pub many : limit + 1 < 2 * ends tree
