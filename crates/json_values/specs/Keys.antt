-- Keys for sorting values: equal values share a key, and most others do not.
use Rattle.std.specs.Prelude.{◌≡◌, Bool, List, ℕ, ◌*◌, ◌/◌, ◌%◌, ◌^◌, ◌<◌, ◌&&◌, ◌==◌, length, slice_index}
use Rattle.std.specs.Float.{Float, binary64, float_key, round_to_format}
use Rattle.std.specs.Hash.FoldHasher.{finish, initial, write}
use denote.Ref.{Bor}
use Rattle.serde_json.specs.Data.{Data, Num, number, string}
use Rattle.serde_json.specs.View.{view}
use Rattle.serde_json.specs.declared.value.Value.{Value}
use Rattle.json_values.specs.Equality.{equal}
use Rattle.json_values.specs.Numbers.{value_of}
use Rattle.json_values.specs.declared.distinct.TheConstants.{MIXER, MORE}

-- the hash of a text
unfoldable pub key_of_text : List ℕ → ℕ
key_of_text text = finish (write initial text)

-- the bits of the nearest float, with the same key for both zeros
abbrev pub key_of_float : Float → ℕ
key_of_float x = float_key binary64 (round_to_format binary64 x)

-- an integer has the key of the float nearest to it, so 1 and 1.0 share a key
abbrev pub key_of_number : Num → ℕ
key_of_number n = key_of_float (value_of n)

-- the key of a value
abbrev pub key_of : Data → ℕ
key_of (string text) = key_of_text text
key_of (number n) = key_of_number n
key_of _ = 0

-- a value with its key
abbrev pub keyed_value : Value → ℕ × Data
keyed_value value = (key_of (view value), view value)

-- a number with a key
abbrev pub keyed_number : ℕ × Num → ℕ × Data
keyed_number k = (k.0, number k.1)

-- a text with a key
abbrev pub keyed_text : ℕ × Bor (List ℕ) → ℕ × Data
keyed_text k = (k.0, string k.1.now)

-- both the keys and the values are equal
abbrev pub keyed_equal : ℕ × Data → ℕ × Data → Bool
keyed_equal k l = (k.0 == l.0) && equal k.1 l.1

-- the slot of a key: the key times an odd number, modulo 2 ^ 64, scaled down to the number of slots
unfoldable pub slot_of : ℕ → ℕ → ℕ
slot_of key slots = (key * MIXER % 2 ^ 64) * slots / 2 ^ 64

-- the table marks the slot of this key as shared
abbrev pub is_shared : List ℕ → ℕ → Bool
is_shared met key = slice_index met (slot_of key (length met)) == MORE

-- if two of the first keys have the same slot, the table marks it as shared
abbrev pub IsMarked : List ℕ → List ℕ → ℕ → Type 0
IsMarked met keys count = (i j : ℕ) → i < j → j < count → slot_of (slice_index keys i) (length met) ≡ slot_of (slice_index keys j) (length met)
    → slice_index met (slot_of (slice_index keys j) (length met)) ≡ MORE
