use Rattle.std.proofs.Common.{◌≡◌, Bool, List, true, false, arith, bytes_eq, get_or, refl, sym, ap, ℕ}
use Rattle.std.proofs.lemmas.Grind.{same_number_lists}
use Rattle.std.proofs.lemmas.Slice.Eq.{bytes_eq-Decides}
use Rattle.schema_places.proofs.rows.are_same_bytes.Goals as goal

differ : (xs ys : List ℕ) (i : ℕ) → (get_or xs i 0 ≡ get_or ys i 0 → ⊥) → false ≡ bytes_eq xs ys
differ xs ys i h = go (bytes_eq xs ys) refl
  where
    go : (b : Bool) → bytes_eq xs ys ≡ b → false ≡ b
    go false e = refl
    go true e = absurd (h (ap (λ (zs : List ℕ). get_or zs i 0) ((bytes_eq-Decides xs ys).0 e)))

pub returns : goal.returns
returns c = record { same = sym ((bytes_eq-Decides c.args.one.now c.args.other.now).1 (same_number_lists c.args.one.now c.args.other.now c.requires.long (λ k l. c.loop-index.invariant k (omega (arith, l, c.loop-index-test.false))))) }
