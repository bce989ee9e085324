-- An index of a list by hash, which has the first position of each hash.
use Rattle.std.specs.Prelude.{List, None, Option, Some, [], if◌then◌else◌, length, nat_eq, option_map, suc, zero, ℕ, ◌++◌, ◌∷◌, ◌≡◌}
use Rattle.std.specs.Hash.FoldHasher.{finish, initial, write}
use Rattle.theory_definitions.specs.Instance.{Text}
use Rattle.theory_definitions.specs.Matching.{Pair}

-- the first position of a hash
abbrev pub first_of : List ℕ → ℕ → Option ℕ
first_of [] h = None
first_of (x ∷ xs) h = if nat_eq x h then Some zero else option_map (λ n. suc n) (first_of xs h)

-- the function returns the first position of each hash in the list
abbrev pub IsIndexed : List ℕ → (ℕ → Option ℕ) → Type 0
IsIndexed hashes first = (h : ℕ) → first h ≡ first_of hashes h

-- an index of a list is still one after the change
abbrev pub StaysIndexed : (ℕ → Option ℕ) → (ℕ → Option ℕ) → Type 0
StaysIndexed old new = (hashes : List ℕ) → IsIndexed hashes old → IsIndexed hashes new

-- an index of a list becomes one of the list with an element of this hash appended, at this
-- position
abbrev pub IndexesNext : (ℕ → Option ℕ) → ℕ → ℕ → (ℕ → Option ℕ) → Type 0
IndexesNext old hash position new = (hashes : List ℕ) → IsIndexed hashes old → length hashes ≡ position → IsIndexed (hashes ++ hash ∷ []) new

-- the hash of a match: of its pattern, then of its subject
unfoldable pub hash_of_match : Text → Text → ℕ
hash_of_match pattern subject = finish (write (write initial pattern) subject)

abbrev pub match_hash : Pair → ℕ
match_hash a = hash_of_match a.pattern a.subject
