-- The hash of an error's key: of its three paths, then of its text.
use Rattle.std.specs.Prelude.{string_bytes, ℕ}
use Rattle.std.specs.Hash.FoldHasher.{finish, initial, write}
use Rattle.theory_definitions.specs.Instance.{Text}
use Rattle.theory_definitions.specs.Pointer.{pointer_to}
use Rattle.schema_reports.specs.declared.reports.ValidationError.{ValidationError}

unfoldable pub hash_of_key : Text → Text → Text → Text → ℕ
hash_of_key instance schema evaluation text = finish (write (write (write (write initial instance) schema) evaluation) text)

abbrev pub key_hash : ValidationError → ℕ
key_hash e = hash_of_key (pointer_to e.place) e.schema_path e.evaluation_path (string_bytes e.text)
