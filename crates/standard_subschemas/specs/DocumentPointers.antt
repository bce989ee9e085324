-- Pointers into a value, and the paths that they name. (RFC 6901, sections 3, 4, 6 and 7)
use Rattle.std.specs.List.{slice_split}
use Rattle.std.specs.Prelude.{Bool, List, None, Option, Some, [], false, if◌then◌else◌, nat_lt, not, option_and_then, option_map, ◌&&◌}
use Rattle.std.specs.Prelude.{true, ◌==◌, ◌^◌, ◌||◌, ◌∷◌, ℕ}
use Rattle.std.specs.Char.{is_ascii_digit}
use Rattle.std.specs.Str.{all_ascii_digits}
use Rattle.std.specs.Str.Parse.{digits_value}
use Rattle.serde_json.specs.Data.{Data, array, boolean, null, number, object, string}
use Rattle.serde_json.specs.Find.{unescape}
use Rattle.theory_definitions.specs.Instance.{Place, Step, Text, a_value, after_step, to_item, to_member}
use Rattle.standard_subschemas.specs.declared.rules.Rule.{Rule}
use Rattle.standard_subschemas.specs.declared.rules.Rule.TheVariants.{Narrow, Standard}
use Rattle.standard_subschemas.specs.SubschemaRules.{data_of}

-- digits, without a leading 0 before others
abbrev pub is_index : Text → Bool
is_index [] = false
is_index (x ∷ []) = is_ascii_digit x
is_index (x ∷ y ∷ xs) = not (x == 48) && all_ascii_digits (x ∷ y ∷ xs)

-- the segment as an index, if it is one and fits 64 bits
abbrev pub index_named : Text → Option ℕ
index_named t = if is_index t && nat_lt (digits_value 10 t) (2 ^ 64) then Some (digits_value 10 t) else None

-- the step that a segment names from a value: a member by its name, in which `~1` means `/` and
-- `~0` means `~`, or an item by its index
abbrev pub step_named : Text → Data → Option Step
step_named t null = None
step_named t (boolean b) = None
step_named t (number n) = None
step_named t (string s) = None
step_named t (array ds) = option_map to_item (index_named t)
step_named t (object ms) = Some (to_member (unescape t))

-- the path that segments name from a value, if each step leads to a value
abbrev pub path_named : List Text → Data → Option Place
path_named [] d = Some []
path_named (t ∷ ts) d =
    option_and_then (λ step. option_and_then (λ below. option_map (λ path. step ∷ path) (path_named ts below))
    (data_of (after_step step (a_value d)))) (step_named t d)

-- the path that a text names in a document as a pointer; here a `~` before a character other than 0
-- and 1 means itself
abbrev pub path_of_pointer : Text → Data → Option Place
path_of_pointer [] d = Some []
path_of_pointer (x ∷ xs) d = if x == 47 then path_named (slice_split (λ b. b == 47) xs) d else None

-- an escape ends with 0 (48) or 1 (49)
abbrev pub ends_escape : ℕ → Bool
ends_escape x = x == 48 || x == 49

-- each `~` (126) begins an escape, which ends with the next character; the first argument says
-- whether one has begun before
abbrev pub has_whole_escapes : Bool → Text → Bool
has_whole_escapes begun [] = not begun
has_whole_escapes begun (x ∷ xs) = (not begun || ends_escape x) && has_whole_escapes (x == 126) xs

-- by the standard's rule a text with another `~` is no pointer; by the narrow one any text is
abbrev pub is_read : Rule → Text → Bool
is_read Narrow t = true
is_read Standard t = has_whole_escapes false t

-- the path that a pointer names in a document, by a rule
abbrev pub path_by_pointer : Rule → Text → Data → Option Place
path_by_pointer rule t d = if is_read rule t then path_of_pointer t d else None
