-- A pointer is the text of a place: a `/` before each segment, in which `~` is written as `~0` and
-- `/` as `~1`. (sections 3 and 4 of RFC 6901)
use Rattle.std.specs.Prelude.{Bool, [], decimal, false, filter, if◌then◌else◌, true, ◌++◌, ◌==◌, ◌∷◌}
use Rattle.theory_definitions.specs.Instance.{Place, Step, Text, to_item, to_member, to_name}

-- A segment as a pointer writes it.
abbrev pub escaped : Text → Text
escaped [] = []
escaped (x ∷ xs) = (if x == 126 then 126 ∷ 48 ∷ [] else (if x == 47 then 126 ∷ 49 ∷ [] else x ∷ [])) ++ escaped xs

-- A location with one more segment.
abbrev pub joined : Text → Text → Text
joined location segment = location ++ (47 ∷ escaped segment)

-- The text of a step. The name of a member has no pointer of its own, and is shown by its object's.
abbrev pub step_text : Step → Text
step_text (to_member k) = 47 ∷ escaped k
step_text (to_item n) = 47 ∷ decimal n
step_text (to_name k) = []

-- The pointer of a place.
abbrev pub pointer_to : Place → Text
pointer_to [] = []
pointer_to (s ∷ p) = step_text s ++ pointer_to p

-- The step has a text in a pointer.
abbrev pub is_shown : Step → Bool
is_shown (to_member k) = true
is_shown (to_item n) = true
is_shown (to_name k) = false

-- The place that the pointer of a place leads to; for the name of a member this is the place of the
-- object.
abbrev pub shown_place : Place → Place
shown_place p = filter is_shown p
