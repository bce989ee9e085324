-- A URI in normal form: its scheme and its host are in lower case, since both are read without case.
-- All else stays as it is. (RFC 3986, sections 3.2 and 6.2.2.1)
use Rattle.std.specs.Prelude.{Bool, List, Option, codes, if◌then◌else◌, length, map, nat_lt, option_map, ℕ, ◌++◌, ◌==◌, ◌∷◌}
use Rattle.std.specs.Char.{to_ascii_lowercase}
use Rattle.std.specs.List.{after_first, before_first, position_or_len}
use Rattle.uri_references.specs.Components.{Components, Text, components, composed}
use Rattle.uri_references.specs.References.{target}

-- the letters of ASCII in lower case
abbrev pub lower : Text → Text
lower t = map to_ascii_lowercase t

-- `@` (64) ends user information
abbrev pub ends_user : ℕ → Bool
ends_user c = c == 64

abbrev pub has_user : Text → Bool
has_user authority = nat_lt (position_or_len ends_user authority) (length authority)

-- an authority is a host with its port, and perhaps user information before it, which keeps its case
abbrev pub normal_authority : Text → Text
normal_authority a = if has_user a then before_first ends_user a ++ codes "@" ++ lower (after_first ends_user a) else lower a

abbrev pub normal : Components → Components
normal c = record {
  scheme = option_map lower c.scheme;
  authority = option_map normal_authority c.authority;
  path = c.path;
  query = c.query;
  fragment = c.fragment;
}

-- a URI in normal form
abbrev pub normalized : Text → Text
normalized uri = composed (normal (components uri))

-- the target of a reference in normal form
abbrev pub resolved_normally : Text → Text → Text
resolved_normally base reference = composed (normal (target (components base) (components reference)))
