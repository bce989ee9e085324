-- Keys are found by a hash: each number is linked to the previous one with the same hash.
use Rattle.std.specs.Prelude.{List, None, Option, Some, length, slice_get, ℕ, ◌<◌, ◌≡◌, ◌≢◌}
use Rattle.std.specs.List.{fold}
use Rattle.std.specs.Hash.{usize}
use Rattle.std.specs.Hash.FoldHasher.{finish, initial, write}
use Rattle.theory_definitions.specs.Instance.{Text}
use Rattle.schema_keys.specs.declared.key.SchemaKey.{SchemaKey}

-- the hash of a document's number, a location, a base, and a state's input to hashes
unfoldable pub hash_of_parts : ℕ → Text → Text → List Text → ℕ
hash_of_parts document location base state = finish (fold write (write (write (fold write initial (usize document)) location) base) state)

abbrev pub hash_of : {S : Type 0} → (S → List Text) → SchemaKey S → ℕ
hash_of input k = hash_of_parts k.place.document k.location k.resource_base (input k.state)

-- the last number below n with this hash; `None` if no number below n has it
abbrev pub IsLastBelow : List ℕ → ℕ → ℕ → Option ℕ → Type 0
IsLastBelow hashes h n None = (j : ℕ) → j < n → slice_get hashes j ≢ Some h
IsLastBelow hashes h n (Some m) = (m < n) × (slice_get hashes m ≡ Some h) × ((j : ℕ) → m < j → j < n → slice_get hashes j ≢ Some h)

-- the last number of each hash is stored, and for each number the previous one with the same hash
pub record IsChained (hashes : List ℕ) (earlier : List (Option ℕ)) (last : ℕ → Option ℕ) : Type 0 where
  pub lengths : length earlier ≡ length hashes
  pub ends : (h : ℕ) → IsLastBelow hashes h (length hashes) (last h)
  pub links : (i h : ℕ) (o : Option ℕ) → slice_get hashes i ≡ Some h → slice_get earlier i ≡ Some o → IsLastBelow hashes h i o
