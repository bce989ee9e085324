-- Paths of files and their URIs. The URI of a path has its bytes percent-encoded; it is of this
-- machine where it has no host, or `localhost`. (RFC 8089, section 2)
use Rattle.std.specs.Prelude.{All, Bool, IsUtf8, None, Option, Some, [], bytes_eq, codes, false, if◌then◌else◌, is_none, true}
use Rattle.std.specs.Prelude.{◌&&◌, ◌<◌, ◌++◌, ◌==◌, ◌||◌, ◌∷◌, ◌≡◌}
use Rattle.std.specs.Str.Lossy.{utf8_lossy}
use Rattle.percent_encoding.specs.Percent.{percent_decode, percent_encode}
use Rattle.theory_definitions.specs.Instance.{Text}
use Rattle.uri_references.specs.Components.{Components, components}
use Rattle.uri_references.specs.Normal.{resolved_normally}
use Rattle.schema_files.specs.declared.file_uris.TheConstants.{ESCAPED}

-- the URI of the file at a path that begins at the root
abbrev pub uri_of_path : Text → Text
uri_of_path path = codes "file://" ++ percent_encode ESCAPED path

abbrev pub is_here : Option Text → Bool
is_here None = true
is_here (Some host) = bytes_eq host [] || bytes_eq host (codes "localhost")

-- the path begins at the root (`/` is 47)
abbrev pub is_rooted : Text → Bool
is_rooted [] = false
is_rooted (c ∷ cs) = c == 47

abbrev pub is_file_scheme : Option Text → Bool
is_file_scheme None = false
is_file_scheme (Some scheme) = bytes_eq scheme (codes "file")

-- the components of the URI of a file on this machine
abbrev pub is_file : Components → Bool
is_file c = is_file_scheme c.scheme && is_here c.authority && is_none c.query && is_rooted c.path

abbrev pub path_in : Components → Option Text
path_in c = if is_file c then Some (utf8_lossy (percent_decode c.path)) else None

-- the path of the file with a URI, if it is one of a file
abbrev pub path_of_uri : Text → Option Text
path_of_uri uri = path_in (components uri)

-- the file's own path, if it begins at the root, or else that from a folder
abbrev pub rooted : Text → Text → Text
rooted folder file = if is_rooted file then file else folder ++ 47 ∷ file

-- the URI of a file whose path begins at the root or else in a folder, without dots
abbrev pub file_uri : Text → Text → Text
file_uri folder file = resolved_normally [] (uri_of_path (rooted folder file))

-- the path of the URI of a path is the path
abbrev pub PathsReturn : Type 0
PathsReturn = (path : Text) → All (λ b. b < 256) path → IsUtf8 path → is_rooted path ≡ true
    → path_of_uri (uri_of_path path) ≡ Some path
