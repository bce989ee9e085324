-- A text needs no escapes between quotes if none of its bytes does.
use Rattle.std.proofs.Common.{◌≡◌, ℕ, ◌+◌, ◌≤◌, List, [], ◌∷◌, ◌++◌, drop, refl, sym, ap, ap₂, ◌∙◌, arith, ne_eqb, le-ltb}
use Rattle.json.specs.Print.{escape, escape_byte}

pub plain_byte : (x : ℕ) → 32 ≤ x → (x ≡ 34 → ⊥) → (x ≡ 92 → ⊥) → escape_byte x ≡ x ∷ []
unfolding escape_byte
plain_byte x high no_quote no_backslash =
    rw (ne_eqb x 34 no_quote, ne_eqb x 92 no_backslash, ne_eqb x 8 (λ e. omega (arith, e)), ne_eqb x 12 (λ e. omega (arith, e)), ne_eqb x 10 (λ e. omega (arith, e)), ne_eqb x 13 (λ e. omega (arith, e)), ne_eqb x 9 (λ e. omega (arith, e)), le-ltb x 32 high) refl

-- one more byte that needs no escape
pub plain_turn : (xs : List ℕ) (i x : ℕ) → drop i xs ≡ x ∷ drop (i + 1) xs → escape_byte x ≡ x ∷ [] → (escape (drop i xs) ≡ drop i xs → escape xs ≡ xs)
    → escape (drop (i + 1) xs) ≡ drop (i + 1) xs → escape xs ≡ xs
plain_turn xs i x here plain kept rest = kept (ap escape here ∙ ap₂ (λ a b. a ++ b) plain rest ∙ sym here)
