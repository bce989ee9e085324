-- A map of validators, as the list of its pointers, each with its validator.
use Rattle.std.specs.BTreeMap.{BTreeMap}
use Rattle.std.specs.Prelude.{List, Option, Some, bytes_eq, if◌then◌else◌, map, string_bytes, ◌≡◌}
use Rattle.std.specs.List.{IsDistinct}
use Rattle.std.specs.Map.{lookup, keys_of}
use Rattle.std.specs.declared.string.String.{String}
use Rattle.theory_definitions.specs.Instance.{Text}

-- pointers, each with a value
abbrev pub Entries : Type 0 → Type 0
Entries X = List (Text × X)

abbrev pub entries_of : {A X : Type 0} → BTreeMap (String A) X → Entries X
entries_of m = map (λ e. (string_bytes e.0, e.1)) m.entries

-- the value at a pointer
abbrev pub at_pointer : {X : Type 0} → Entries X → Text → Option X
at_pointer es pointer = lookup (bytes_eq pointer) es

-- this value is at the pointer now, and the values at all others are as before
abbrev pub PutsAt : {X : Type 0} → Text → X → Entries X → Entries X → Type 0
PutsAt pointer x old new = (other : Text) → at_pointer new other ≡ (if bytes_eq pointer other then Some x else at_pointer old other)

-- each pointer once
abbrev pub EachOnce : {X : Type 0} → Entries X → Type 0
EachOnce es = IsDistinct bytes_eq (keys_of es)
