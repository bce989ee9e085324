-- A reference is resolved against a base: it takes from the base the leading components that it
-- does not have. (RFC 3986, sections 5.2.2 and 5.2.3)
use Rattle.std.specs.Prelude.{Bool, None, Option, Some, [], false, if◌then◌else◌, is_some, not, true, ◌&&◌, ◌++◌, ◌==◌, ◌||◌, ◌∷◌}
use Rattle.uri_references.specs.Components.{Components, Text, components, composed}
use Rattle.uri_references.specs.Paths.{through_last_slash, without_dots}

abbrev pub first_of : Option Text → Option Text → Option Text
first_of None o = o
first_of (Some t) o = Some t

abbrev pub is_empty : Text → Bool
is_empty [] = true
is_empty (c ∷ cs) = false

abbrev pub is_rooted : Text → Bool
is_rooted [] = false
is_rooted (c ∷ cs) = c == 47

-- the reference has a scheme or an authority of its own
abbrev pub is_apart : Components → Bool
is_apart r = is_some r.scheme || is_some r.authority

-- a relative path in place of the last segment of the base's path (section 5.2.3)
abbrev pub merged : Components → Text → Text
merged b p = if is_some b.authority && is_empty b.path then 47 ∷ p else through_last_slash b.path ++ p

abbrev pub target_path : Components → Components → Text
target_path b r =
    if is_apart r || is_rooted r.path then without_dots r.path
    else if is_empty r.path then b.path
    else without_dots (merged b r.path)

-- an empty reference, or a fragment alone, keeps the base's query
abbrev pub target_query : Components → Components → Option Text
target_query b r = if is_apart r || not (is_empty r.path) then r.query else first_of r.query b.query

-- the target of the reference (section 5.2.2)
abbrev pub target : Components → Components → Components
target b r = record {
  scheme = first_of r.scheme b.scheme;
  authority = if is_apart r then r.authority else b.authority;
  path = target_path b r;
  query = target_query b r;
  fragment = r.fragment;
}

abbrev pub resolved : Text → Text → Text
resolved base reference = composed (target (components base) (components reference))
