-- The cache of the paths under references that a run built.
use Rattle.std.specs.Prelude.{ℕ, ◌+◌, ◌++◌, ◌&&◌, ◌≡◌, Bool, List, Option, Some, if◌then◌else◌, nat_eq, nat_lt}
use Rattle.std.specs.declared.hash.FoldHasher.{FoldHasher}
use Rattle.std.specs.Hash.FoldHasher.{finish, initial, write}
use Rattle.std.specs.Map.{lookup}
use Rattle.theory_definitions.specs.Instance.{Text}
use Rattle.theory_definitions.specs.Pointer.{joined}
use Rattle.schema_run_context.specs.EvaluationPaths.{path_of}
use Rattle.schema_run_context.specs.declared.evaluation_path.EvaluationPath.{EvaluationPath, Given, Across', UnderReference', Kept'}

-- the key of a cached path: the path before the keyword, the keyword's name, and the rest
pub record PathKey : Type 0 where
  pub before : Text
  pub name : Text
  pub rest : Text

-- the right path for a key
abbrev pub right_path : PathKey → Text
right_path k = joined k.before k.name ++ k.rest

-- the number of requests that were counted, and the key of the cached path at each hash
pub record Keeping : Type 0 where
  pub calls : ℕ
  pub kept : List (ℕ × PathKey)

-- the key of the path that is cached at a hash
abbrev pub kept_at : List (ℕ × PathKey) → ℕ → Option PathKey
kept_at kept hash = lookup (nat_eq hash) kept

-- the key for the path of a keyword with this name, and (below) the hash at which it is cached
abbrev pub key_for : EvaluationPath → Text → Text → PathKey
key_for path name rest = record { before = path_of path; name = name; rest = rest }

-- the state of a hasher after the pieces of a path were written
abbrev pub hashed : FoldHasher → EvaluationPath → FoldHasher
hashed h (Given path) = write h path.now
hashed h (Across' pointer before added) = write (hashed h before) added.now
hashed h (UnderReference' pointer before) = hashed h before
hashed h (Kept' pointer before texts) = write h texts.now.path

abbrev pub hash_for : EvaluationPath → Text → Text → ℕ
hash_for path name rest = finish (write (write (hashed initial path) name) rest)

-- the path of a keyword with this name is cached at a hash, and (below) at its own hash
abbrev pub IsKeptAt : List (ℕ × PathKey) → ℕ → EvaluationPath → Text → Text → Type 0
IsKeptAt kept hash path name rest = kept_at kept hash ≡ Some (key_for path name rest)

abbrev pub IsKept : List (ℕ × PathKey) → EvaluationPath → Text → Text → Type 0
IsKept kept path name rest = IsKeptAt kept (hash_for path name rest) path name rest

-- the count after a request: it stays the same once it has reached the threshold, and if the path
-- is not under a reference
abbrev pub counted : ℕ → Bool → ℕ → ℕ
counted threshold under calls = if under && nat_lt calls threshold then calls + 1 else calls
