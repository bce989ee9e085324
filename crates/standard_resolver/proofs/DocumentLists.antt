-- The documents after the root's, by their numbers.
use Rattle.std.proofs.Common.{Bor, ◌≡◌, ◌∙◌, ℕ, zero, suc, List, [], ◌∷◌, length, map, option_map, refl, ap, sym}
use Rattle.std.specs.Prelude.{None, Option, Some, slice_get}
use Rattle.std.specs.Slice.{IsGetResult}
use Rattle.std.proofs.lemmas.Option.{slice_get_past, slice_get_read}

pub get_map : {A B : Type 0} (f : A → B) (xs : List A) (n : ℕ) → slice_get (map f xs) n ≡ option_map f (slice_get xs n)
get_map f [] n = refl
get_map f (x ∷ xs) zero = refl
get_map f (x ∷ xs) (suc n) = get_map f xs n

-- the first, and those after it
pub other_document : {A B C : Type 0} (f : A → B) (g : B → C) (first : C) (xs : List A) (n m : ℕ) → n ≡ suc m
    → slice_get (first ∷ map g (map f xs)) n ≡ option_map g (option_map f (slice_get xs m))
other_document f g first xs n m e = ap (slice_get (first ∷ map g (map f xs))) e ∙ get_map g (map f xs) m
    ∙ ap (option_map g) (get_map f xs m)

-- the element of a list with a number
pub read_at : {A : Type 0} (xs : List A) (n : ℕ) (o : Option (Bor A)) → IsGetResult xs n n o → option_map (λ (x : Bor A). x.now) o
    ≡ slice_get xs n
read_at xs n None h = sym (slice_get_past xs n h.3)
read_at xs n (Some x) h = sym (slice_get_read xs (length xs) n x.now refl h.3.0 h.1)

-- the value that the code reads from the other documents
pub read_other : {A B C : Type 0} (f : A → B) (g : B → C) (first : C) (xs : List A) (n m : ℕ) (o : Option (Bor A)) → n ≡ suc m
    → IsGetResult xs m m o
    → slice_get (first ∷ map g (map f xs)) n ≡ option_map g (option_map f (option_map (λ (x : Bor A). x.now) o))
read_other f g first xs n m o e h = other_document f g first xs n m e ∙ ap (λ p. option_map g (option_map f p)) (sym (read_at xs m o h))
