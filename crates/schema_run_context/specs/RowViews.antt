-- The rows of the code, as lists of words.
use Rattle.std.specs.Prelude.{ℕ, List, map}
use Rattle.std.specs.Vec.{vec_items}
use Rattle.std.specs.declared.alloc.Global.{Global}
use Rattle.std.specs.declared.vec.Vec.{Vec}

-- the words of each row
abbrev pub rows_of : List (Vec ℕ Global) → List (List ℕ)
rows_of vs = map vec_items vs
