-- The slashes of a path separate its segments. The segment `.` means the same level and `..` the
-- level above. Both are removed, `..` together with the segment before it; if one of them comes
-- last, a slash remains. (RFC 3986, sections 3.3, 5.2.3 and 5.2.4)
use Rattle.std.specs.Prelude.{Bool, List, [], bytes_eq, codes, false, fold, if◌then◌else◌, length, not, take, true, ◌++◌, ◌-◌, ◌==◌, ◌∷◌}
use Rattle.std.specs.List.{concat, slice_split, suffix_len}
use Rattle.uri_references.specs.Components.{Text}

-- `/` is 47
abbrev pub segments : Text → List Text
segments p = slice_split (λ c. c == 47) p

-- the output so far: the pieces that were kept, whether any segment was kept, and whether the path
-- ends with a slash
pub record Walk : Type 0 where
  pub pieces : List Text
  pub begun : Bool
  pub open_end : Bool

abbrev pub start : Walk
start = record { pieces = []; begun = false; open_end = false }

abbrev pub all_but_last : List Text → List Text
all_but_last ps = take (length ps - 1) ps

-- a segment as it is kept: all but the first have a slash before them
abbrev pub piece : Bool → Text → Text
piece false s = s
piece true s = 47 ∷ s

-- after dots the path ends with a slash, unless no segment was kept before them
abbrev pub left_with : List Text → Walk → Walk
left_with ps w = record { pieces = ps; begun = w.begun; open_end = w.begun }

abbrev pub after_segment : Walk → Text → Walk
after_segment w s =
    if bytes_eq s (codes ".") then left_with w.pieces w
    else if bytes_eq s (codes "..") then left_with (all_but_last w.pieces) w
    else record { pieces = w.pieces ++ piece w.begun s ∷ []; begun = true; open_end = false }

abbrev pub closing : Bool → Text
closing false = []
closing true = 47 ∷ []

abbrev pub walk_text : Walk → Text
walk_text w = concat w.pieces ++ closing w.open_end

-- the path without dots
abbrev pub without_dots : Text → Text
without_dots p = walk_text (fold after_segment start (segments p))

-- a text up to and including its last slash
abbrev pub through_last_slash : Text → Text
through_last_slash t = take (length t - suffix_len (λ c. not (c == 47)) t) t
