-- A text without a `#` at its end.
use Rattle.std.proofs.Common.{◌≡◌, ◌≢◌, ◌++◌, ◌∷◌, ◌==◌, [], ℕ, Bool, ap, false, refl, true}
use Rattle.std.proofs.lemmas.Bool.{eqb-true}
use Rattle.theory_definitions.specs.Instance.{Text}
use Rattle.standard_outputs.specs.Hierarchical.{without_last_hash}

pub hash_cut : (front : Text) → without_last_hash (front ++ 35 ∷ []) ≡ front
hash_cut [] = refl
hash_cut (x ∷ []) = refl
hash_cut (x ∷ y ∷ xs) = ap (λ l. x ∷ l) (hash_cut (y ∷ xs))

lone : (x : ℕ) (b : Bool) → (x == 35) ≡ b → ((front : Text) → x ∷ [] ≢ front ++ 35 ∷ []) → without_last_hash (x ∷ []) ≡ x ∷ []
lone x true e not_so = absurd (not_so [] (ap (λ z. z ∷ []) (eqb-true x 35 e)))
lone x false e not_so = rw e refl

pub hash_kept : (text : Text) → ((front : Text) → text ≢ front ++ 35 ∷ []) → without_last_hash text ≡ text
hash_kept [] not_so = refl
hash_kept (x ∷ []) not_so = lone x (x == 35) refl not_so
hash_kept (x ∷ y ∷ xs) not_so = ap (λ l. x ∷ l) (hash_kept (y ∷ xs) (λ front e. not_so (x ∷ front) (ap (λ l. x ∷ l) e)))
