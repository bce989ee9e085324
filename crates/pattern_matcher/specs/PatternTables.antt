-- The list of the texts in a table of patterns, and the places of the texts in it.
use Rattle.std.specs.Prelude.{Bool, List, Option, Some, [], bytes_eq, false, if◌then◌else◌, not, slice_get, ℕ, ◌++◌, ◌∷◌, ◌≡◌}
use Rattle.std.specs.List.{filter, list_any}
use Rattle.std.specs.Option.{MatchOption}
use Rattle.theory_definitions.specs.Instance.{Text}

-- the text is in the list
abbrev pub has : Text → List Text → Bool
has t ts = list_any (bytes_eq t) ts

-- the list with the text at its end; if the text is in the list, the list itself
abbrev pub with_text : List Text → Text → List Text
with_text ts t = if has t ts then ts else ts ++ t ∷ []

-- the texts of the list other than this one
abbrev pub without : Text → List Text → List Text
without t ts = filter (λ u. not (bytes_eq t u)) ts

-- the texts of the list, each once, in the order in which they first come
abbrev pub distinct : List Text → List Text
distinct [] = []
distinct (t ∷ ts) = t ∷ without t (distinct ts)

-- each text of the list has a place there, and no other text has a place
abbrev pub IsPlaced : List Text → (Text → Option ℕ) → Type 0
IsPlaced ts places = (t : Text) → MatchOption (places t) (has t ts ≡ false) (λ i. slice_get ts i ≡ Some t)
