-- A list whose elements are found by a text: each text is mapped to the number of the first element
-- that has it. An element may have no text.
use Rattle.std.specs.Prelude.{Bool, List, None, Option, Some, [], bytes_eq, false, if◌then◌else◌, length, option_map, suc, zero, ℕ, ◌++◌, ◌∷◌, ◌≡◌}
use Rattle.theory_definitions.specs.Instance.{Text}

-- the element's text is this text
abbrev pub has_text : Text → Option Text → Bool
has_text t None = false
has_text t (Some u) = bytes_eq t u

-- the number of the first element with a text
abbrev pub number_in : Text → List (Option Text) → Option ℕ
number_in t [] = None
number_in t (k ∷ ks) = if has_text t k then Some zero else option_map (λ n. suc n) (number_in t ks)

-- the map has the number of the first element of each text
abbrev pub IsNumbered : List (Option Text) → (Text → Option ℕ) → Type 0
IsNumbered keys numbers = (t : Text) → numbers t ≡ number_in t keys

-- if the old map is right for a list, the new one is right for the list and the next element, which
-- has this text or none
abbrev pub NumbersNext : (Text → Option ℕ) → (Text → Option ℕ) → ℕ → Option Text → Type 0
NumbersNext old new number text = (keys : List (Option Text)) → IsNumbered keys old → length keys ≡ number → IsNumbered (keys ++ text ∷ []) new
