-- The index of a segment, as `parse` reads it.
use Rattle.std.proofs.Common.{◌≡◌, ◌<◌, ℕ, [], ◌∷◌, Bool, true, false, not, Some, Result, Ok, Err, length, refl, ap, arith}
use Rattle.std.specs.Prelude.{◌&&◌, ◌==◌, ◌^◌, nat_lt}
use Rattle.std.specs.Char.{is_ascii_digit}
use Rattle.std.specs.Result.{OkIff, result_ok}
use Rattle.std.specs.Str.{all_ascii_digits}
use Rattle.std.specs.Str.Parse.{ParsesUnsigned, digits_value}
use Rattle.std.proofs.lemmas.Bool.{lt-ltb, ltb-true}
use Rattle.std.proofs.lemmas.Str.Parse.{IsNumeralModel, numerals_by_value, parse_digits, tells_all_ascii_digits}
use Rattle.theory_definitions.specs.Instance.{Text}
use Rattle.standard_subschemas.specs.DocumentPointers.{index_named, is_index}

both : (a b : Bool) → (a && b) ≡ true → b ≡ true
both true b h = h
both false b h = cc

alone : (a : Bool) → a ≡ true → (a && true) ≡ true
alone true h = refl
alone false h = h

pub index_digits : (t : Text) → is_index t ≡ true → all_ascii_digits t ≡ true
index_digits [] h = refl
index_digits (x ∷ []) h = alone (is_ascii_digit x) h
index_digits (x ∷ y ∷ xs) h = both (not (x == 48)) (all_ascii_digits (x ∷ y ∷ xs)) h

pub index_some : (t : Text) → is_index t ≡ true → 0 < length t
index_some [] h = absurd (let no : ⊥ = cc in no)
index_some (x ∷ xs) h = omega arith

unless : (b : Bool) → (b ≡ true → ⊥) → b ≡ false
unless true h = absurd (h refl)
unless false h = refl

pub digits : IsNumeralModel (λ ds. all_ascii_digits ds ≡ true) (digits_value 10)
digits = numerals_by_value _ tells_all_ascii_digits

fits : {E : Type 0} (t : Text) (r : Result ℕ E) → is_index t ≡ true
    → OkIff r ((0 < length t) × (digits_value 10 t < 2 ^ 64)) (digits_value 10 t) → result_ok r ≡ index_named t
fits t (Ok x) h o = let small : nat_lt (digits_value 10 t) (2 ^ 64) ≡ true = lt-ltb _ _ o.0.1 in rw (h, small) (ap (λ n. Some n) o.1)
fits t (Err e) h o = let large : nat_lt (digits_value 10 t) (2 ^ 64) ≡ false = unless _ (λ s. o (index_some t h, ltb-true _ _ s)) in
    rw (h, large)

pub index_parsed : {E : Type 0} (t : Text) (r : Result ℕ E) → ParsesUnsigned 64 10 t r → is_index t ≡ true → result_ok r ≡ index_named t
index_parsed t r p h = fits t r h (parse_digits digits 64 t r p (index_digits t h))
