-- One more of the values that the text of `enum` shows.
use Rattle.std.proofs.Common.{◌≡◌, ◌++◌, ◌∙◌, ◌||◌, Bool, List, append_assoc, false, refl, true, ℕ}
use Rattle.serde_json.specs.Data.{Data, Items, item}
use Rattle.serde_json.specs.Written.{compact_text, has_float, items_have_float}
use Rattle.standard_assertions.specs.Constants.{more_values, parting}

either_left : (a b : Bool) → (a || b) ≡ false → a ≡ false
either_left true b h = cc
either_left false b h = refl

either_right : (a b : Bool) → (a || b) ≡ false → b ≡ false
either_right true b h = cc
either_right false b h = h

pub one_more : (d : Data) (ds : Items) (whole text next : List ℕ) → items_have_float (item d ds) ≡ false → whole ≡ text ++ more_values (item d ds)
    → (has_float d ≡ false → next ≡ text ++ parting ds ++ compact_text d) → (items_have_float ds ≡ false) × (whole ≡ next ++ more_values ds)
one_more d ds whole text next h is pushed =
    let left = either_left (has_float d) (items_have_float ds) h in
    (either_right (has_float d) (items_have_float ds) h, is ∙ simp (pushed left, append_assoc))
