-- Which units are those of keywords. A schema object's unit has a unit inside it for each of its
-- keywords and references. The two paths of a keyword's unit are those of the schema object, each
-- with the keyword's name as one more segment. That of a reference has its target's place in the
-- schema, and stands for the target.
use Rattle.std.specs.List.{list_any}
use Rattle.std.specs.Prelude.{Bool, None, Option, Some, [], bytes_eq, if◌then◌else◌, is_some, ◌&&◌, ◌==◌, ◌∷◌, not}
use Rattle.theory_definitions.specs.Instance.{Text}
use Rattle.theory_definitions.specs.Reports.{Report}

-- what a pointer has after an outer one and a `/`, if it begins so
abbrev pub after_slash : Text → Text → Option Text
after_slash [] [] = None
after_slash [] (y ∷ ys) = if y == 47 then Some ys else None
after_slash (x ∷ xs) [] = None
after_slash (x ∷ xs) (y ∷ ys) = if x == y then after_slash xs ys else None

-- a single segment, whose name a pointer writes as it is
abbrev pub is_bare : Text → Bool
is_bare name = not (list_any (λ x. x == 47) name) && not (list_any (λ x. x == 126) name)

-- the name, if it is bare and both pointers have it
abbrev pub shared_name : Option Text → Option Text → Option Text
shared_name (Some name) (Some other) = if is_bare name && bytes_eq name other then Some name else None
shared_name (Some name) None = None
shared_name None other = None

-- the keyword of this schema object's unit, of which a unit inside it is
abbrev pub keyword_of : Report → Report → Option Text
keyword_of outer r = shared_name (after_slash outer.evaluation_path r.evaluation_path) (after_slash outer.schema_path r.schema_path)

-- the same for a unit that may stand in none of a schema object
abbrev pub keyword_in : Option Report → Report → Option Text
keyword_in None r = None
keyword_in (Some outer) r = keyword_of outer r

abbrev pub is_keyword_in : Option Report → Report → Bool
is_keyword_in outer r = is_some (keyword_in outer r)

-- the units inside a keyword's unit are those of schema objects
abbrev pub outer_for : Option Report → Report → Option Report
outer_for outer r = if is_keyword_in outer r then None else Some r
