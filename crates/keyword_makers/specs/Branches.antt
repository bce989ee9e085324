-- The children of `if`: the values of `if`, `then` and `else`, in this order, if they are present.
-- (Core 2020-12, 10.2.2)
use Rattle.std.specs.Prelude.{Bool, List, None, Option, Some, [], codes, false, is_some, true, ℕ, ◌++◌, ◌+◌, ◌∷◌, ◌≡◌}
use Rattle.serde_json.specs.Data.{Members}
use Rattle.serde_json.specs.Find.{get_member}
use Rattle.theory_definitions.specs.Instance.{Place, Text, to_member}
use Rattle.theory_definitions.specs.Making.{Script, a_keyword}
use Rattle.keyword_makers.specs.Making.{asks_for}
use Rattle.keyword_makers.specs.declared.branches.Branches.{Branches}

-- whether a member with this name is present
abbrev pub has_branch : Text → Members → Bool
has_branch name ms = is_some (get_member name ms)

-- the path of a branch, if it is present
abbrev pub branch_places : Bool → Text → List Place
branch_places true name = (to_member name ∷ []) ∷ []
branch_places false name = []

-- the number of a branch, if it is present
abbrev pub branch_child : Bool → ℕ → Option ℕ
branch_child true n = Some n
branch_child false n = None

-- the number of the next child after a branch that may be present
abbrev pub after_branch : Bool → ℕ → ℕ
after_branch true n = n + 1
after_branch false n = n

-- the paths of the children, in order
abbrev pub if_places : Text → Bool → Bool → List Place
if_places name has_then has_else = (to_member name ∷ []) ∷ (branch_places has_then (codes "then") ++ branch_places has_else (codes "else"))

-- the script of `if`; `shape` makes the keyword from the numbers of its branches
abbrev pub if_script : {K : Type 0} → (Option ℕ → Option ℕ → K) → Text → Bool → Bool → Script K
if_script shape name has_then has_else = asks_for (if_places name has_then has_else)
    (a_keyword (shape (branch_child has_then 1) (branch_child has_else (after_branch has_then 1))) [])

-- ---- as the code collects them from an object with these members

-- the path of the branch of this name is added, if the object has it
abbrev pub AddsBranch : Text → Members → List Place → List Place → Type 0
AddsBranch name ms old new = new ≡ old ++ branch_places (has_branch name ms) name

-- they have the paths of the children
abbrev pub HasIfPlaces : Text → Members → Branches → Type 0
HasIfPlaces name ms b = b.paths.items ≡ if_places name (has_branch (codes "then") ms) (has_branch (codes "else") ms)

-- they have the number of the child under `then`
abbrev pub HasThen : Members → Branches → Type 0
HasThen ms b = b.accepted ≡ branch_child (has_branch (codes "then") ms) 1

-- they have the number of the child under `else`
abbrev pub HasElse : Members → Branches → Type 0
HasElse ms b = b.refused ≡ branch_child (has_branch (codes "else") ms) (after_branch (has_branch (codes "then") ms) 1)
