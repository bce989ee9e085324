-- A test of what is left of a list, at an index.
use Rattle.std.proofs.Common.{add-one, get_or, subst, sym}
use Rattle.std.proofs.Math.Seq.{drop-cons}
use Rattle.std.specs.List.{list_any}
use Rattle.std.specs.Prelude.{Bool, List, drop, length, map, refl, suc, ℕ, ◌+◌, ◌<◌, ◌||◌, ◌∷◌, ◌≡◌}

-- the element at the index passes, or one of those after it
pub any_left : {X Y : Type 0} (f : X → Y) (p : Y → Bool) (xs : List X) (i : ℕ) (x : X) → i < length xs → x ≡ get_or xs i x → list_any p (map f (drop i xs)) ≡ (p (f x) || list_any p (map f (drop (i + 1) xs)))
any_left {X} {Y} f p xs i x h is =
    let e : drop i xs ≡ (x ∷ drop (suc i) xs) = subst (λ (y : X). drop i xs ≡ (y ∷ drop (suc i) xs)) (sym is) (drop-cons xs i x h) in
    rw (e, add-one) refl
