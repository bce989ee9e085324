-- Places of different lengths differ; one more step; the pointer, step by step.
use Rattle.std.proofs.Common.{◌≡◌, ◌&&◌, Bool, true, false, [], ◌∷◌, length, refl, sym, ap, true≢false}
use Rattle.std.proofs.Common.{suc}
use Rattle.theory_definitions.specs.Instance.{Place, same_place}

and_right : (a b : Bool) → (a && b) ≡ true → b ≡ true
and_right true b h = h
and_right false b h = absurd (true≢false (sym h))

pub same_place-length : (p q : Place) → same_place p q ≡ true → length p ≡ length q
same_place-length [] [] h = refl
same_place-length [] (t ∷ q) h = absurd (true≢false (sym h))
same_place-length (s ∷ p) [] h = absurd (true≢false (sym h))
same_place-length (s ∷ p) (t ∷ q) h = ap suc (same_place-length p q (and_right _ _ h))

pub differ_in_length : (p q : Place) → (length p ≡ length q → ⊥) → same_place p q ≡ false
differ_in_length p q h =
    let go : (b : Bool) → same_place p q ≡ b → b ≡ false = elim [ true ↦ λ e. absurd (h (same_place-length p q e)) | false ↦ λ e. refl ] in
    go (same_place p q) refl
