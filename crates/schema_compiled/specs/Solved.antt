-- A verdict of a validator's solver: what it rests on, and how many pairs were begun for it; and
-- that there is a solver.
use Rattle.std.specs.Prelude.{Bool, IfSome, List, Some, false, is_some, length, true, ℕ, ◌*◌, ◌+◌, ◌≡◌, ◌≤◌}
use Rattle.serde_json.specs.declared.value.Value.{Value}
use Rattle.theory_definitions.specs.Keywords.{Answer}
use Rattle.schema_traits.specs.declared.keyword.Validate.{Ghosts as KeywordMembers}
use Rattle.schema_traits.specs.declared.matcher.Matcher.{Ghosts as MatcherMembers}
use Rattle.schema_node_table.specs.NodeTable.{numbered}
use Rattle.schema_run_context.specs.Progress.{root_places}
use Rattle.schema_run_context.specs.Works.{Budget}
use Rattle.schema_solver_state.specs.Following.{IsFollowing}
use Rattle.schema_solver.specs.Asked.{solver_over}
use Rattle.schema_solver.specs.Solving.{BeginsFew, HasEachCut, LimitWithinBound, Setting}
use Rattle.schema_solver.specs.Finding.{IsFoundAt}
use Rattle.schema_solver.specs.Saying.{EachSays}
use Rattle.schema_solver.specs.declared.eligible.SolvedVerdict.{SolvedVerdict}
use Rattle.schema_compiled.specs.Program.{Program}

-- if there is a limit, the pairs that the context of a verdict began are counted: they and what is
-- left make up what was left before
abbrev pub IsCountedIn : SolvedVerdict → Budget → Budget → Type 0
IsCountedIn v old new = old.limited ≡ true → v.context.begun + new.left ≡ old.left

-- each keyword of the nodes says that it is monotone
abbrev pub AllSayMonotone : {C Run K M : Type 0} → KeywordMembers C Run K → Program C M → Type 0
AllSayMonotone keywords p = EachSays keywords.says_monotone (numbered keywords.shape p.nodes) (length p.nodes)

-- C is a keyword of the code, K what is known of it, M a matcher of the code
module _ {C Run K M : Type 0} (keywords : KeywordMembers C Run K) (matchers : MatcherMembers M) (p : Program C M) (instance : Value) where
  -- the parts of the validator's solver, if it inlines these numbers
  abbrev solver_with : List Bool → Setting K (Run × Answer)
  solver_with followed = solver_over keywords.words keywords.is_whole keywords.shape p.nodes followed (matchers.matching p.matcher)

  -- the verdict of the root's node rests on the context that comes with it: each verdict there is
  -- what the nodes say of the instance
  abbrev pub RestsOnContext : SolvedVerdict → Type 0
  RestsOnContext v = IfSome p.followed (λ followed. IsFoundAt (solver_with followed) instance p.root v)

  -- with g numbers that a guarded edge leads to or that are not inlined, and p places, that context
  -- began at most g * p * g pairs
  abbrev pub BeganFew : SolvedVerdict → Type 0
  BeganFew v = IfSome p.followed (λ followed. BeginsFew (solver_with followed) instance v.context.begun)

  -- one pair more than the limit is within that bound
  abbrev pub StopsLate : ℕ → Type 0
  StopsLate limit = IfSome p.followed (λ followed. LimitWithinBound (solver_with followed) instance limit)

  -- if it stops, then at such a limit
  abbrev pub StopsOnlyLate : Budget → Budget → Type 0
  StopsOnlyLate old new = old.stopped ≡ false → new.stopped ≡ true → StopsLate old.left

  -- a limit on pairs is enough: there is a solver, and g * p * g is within the limit, for some g
  -- numbers that have all those among them
  pub record AreEnough (limit : ℕ) : Type 0 where
    pub followed : List Bool
    pub is_followed : p.followed ≡ Some followed
    pub numbers : List ℕ
    pub each : HasEachCut (solver_with followed) numbers
    pub bound : length numbers * length (root_places instance) * length numbers ≤ limit

  -- the solver finds the verdict within a limit, unless it is out of memory: the matcher says that
  -- it finishes every match, each keyword says that it is monotone, and the limit on pairs is
  -- enough
  pub record IsDecidedWithin (limit : ℕ) : Type 0 where
    pub finishing : matchers.finishing p.matcher ≡ true
    pub monotone : AllSayMonotone keywords p
    pub enough : AreEnough limit

-- a validator has a solver; weights that cover the nodes determine which numbers it inlines
abbrev pub HasSolver : {C M : Type 0} → Program C M → Type 0
HasSolver p = (is_some p.followed ≡ true) × IfSome p.followed (IsFollowing p.nodes)
