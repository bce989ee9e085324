-- A measure for the calls of the compiling cycle: first the number of keys that may still come,
-- then the order of its functions.
use Rattle.std.proofs.Common.{◌≡◌, ℕ, ◌<◌, ◌+◌, ◌-◌, ◌*◌, ◌++◌, ◌∙◌, List, ap, arith, length, map, suc}
use Rattle.std.proofs.lemmas.List.{length-append, length-map}

-- whether keys came meanwhile or not, the next function in the order is lower
pub lower_grown : {A B : Type 0} (v : A → B) (old new : List A) (added : List B) (limit i t : ℕ) → map v new ≡ map v old ++ added
    → 11 * (limit - length old) + suc i ≡ t → 11 * (limit - length new) + i < t
lower_grown v old new added limit i t grown here =
    let more = ap length grown ∙ length-append (map v old) added in
    omega (arith, more, length-map old v, length-map new v, here)
