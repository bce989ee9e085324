-- The names of a map's entries are those of the object that it represents.
use Rattle.std.proofs.Common.{◌≡◌, ◌∷◌, [], List, ap, map, refl, string_bytes}
use Rattle.std.specs.Map.{keys_of}
use Rattle.serde_json.specs.View.{members_view}
use Rattle.serde_json.proofs.Views.{Entry}
use Rattle.keyword_makers.specs.Members.{names_of}

pub names_are : (es : List Entry) → map string_bytes (keys_of es) ≡ names_of (members_view es)
names_are [] = refl
names_are (e ∷ es) = ap (λ ks. string_bytes e.0 ∷ ks) (names_are es)
