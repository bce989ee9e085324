-- The escapes of a text, character by character.
use Rattle.std.proofs.Common.{◌≡◌, ℕ, suc, ◌<◌, ◌≤◌, ◌+◌, ◌&&◌, Bool, true, false, not, cond, eqb, List, [], ◌∷◌, ◌++◌, length, get_or, drop, take, inl, inr, refl, sym, ap, ap₂, ◌∙◌, arith, append_assoc, append-nil}
use Rattle.std.proofs.lemmas.Bool.{cases_lt}
use Rattle.std.proofs.lemmas.Bool.Decides.{nat_tests}
use Rattle.std.proofs.lemmas.Str.{inside_one, encode_ascii, chars-encodes}
use Rattle.std.specs.Str.{chars, IsUtf8}
use Rattle.std.proofs.lemmas.List.{at_drop_more, at_drop_all, take_more}
use lib.Utf8.{encode, encodes}
use Rattle.theory_definitions.specs.Pointer.{escaped}

pub escaped-append : (xs ys : List ℕ) → escaped (xs ++ ys) ≡ escaped xs ++ escaped ys
escaped-append [] ys = refl
escaped-append (x ∷ xs) ys =
    let b = escaped (x ∷ []) in
    ap (λ r. (cond (eqb x 126) (126 ∷ 48 ∷ []) (cond (eqb x 47) (126 ∷ 49 ∷ []) (x ∷ []))) ++ r) (escaped-append xs ys) ∙ sym (append_assoc (cond (eqb x 126) (126 ∷ 48 ∷ []) (cond (eqb x 47) (126 ∷ 49 ∷ []) (x ∷ []))) _ _)

plain_byte : (x : ℕ) → 128 ≤ x → cond (eqb x 126) (126 ∷ 48 ∷ []) (cond (eqb x 47) (126 ∷ 49 ∷ []) (x ∷ [])) ≡ x ∷ []
plain_byte x h = grind (arith, nat_tests)

escaped_high : (xs : List ℕ) → ((k : ℕ) → k < length xs → 128 ≤ get_or xs k 0) → escaped xs ≡ xs
escaped_high [] h = refl
escaped_high (x ∷ xs) h =
    let high : 128 ≤ x = h 0 (omega arith) in
    ap₂ (λ (a b : List ℕ). a ++ b) (plain_byte x high) (escaped_high xs (λ k below. h (suc k) (omega arith)))

-- a character from 128 on has no byte below 128
escaped_wide : (c : ℕ) → 128 ≤ c → escaped (encode c) ≡ encode c
escaped_wide c big =
    let high : (k : ℕ) → k < length (encode c) → 128 ≤ get_or (encode c) k 0 = λ k below. elim (cases_lt (get_or (encode c) k 0) 128) [
      | inl low ↦ absurd (omega (arith, inside_one c [] (encode c) k (sym (append-nil _)) below low))
      | inr h ↦ h
    ] in
    escaped_high (encode c) high

plain_small : (x : ℕ) → (x ≡ 126 → ⊥) → (x ≡ 47 → ⊥) → cond (eqb x 126) (126 ∷ 48 ∷ []) (cond (eqb x 47) (126 ∷ 49 ∷ []) (x ∷ [])) ++ [] ≡ x ∷ []
plain_small x h k = grind (arith, nat_tests)

pub escaped_other : (c : ℕ) → (c ≡ 126 → ⊥) → (c ≡ 47 → ⊥) → escaped (encode c) ≡ encode c
escaped_other c h k = elim (cases_lt c 128) [
  | inl small ↦ ap escaped (encode_ascii c small) ∙ plain_small c h k ∙ sym (encode_ascii c small)
  | inr big ↦ escaped_wide c big
]

-- the escapes of the characters that are left, at one more
pub escaped_left : (cs : List ℕ) (n c : ℕ) → (n < length cs) × (c ≡ get_or cs n c) → escaped (encodes (drop n cs)) ≡ escaped (encode c) ++ escaped (encodes (drop (n + 1) cs))
escaped_left cs n c h =
    at_drop_more (λ xs. escaped (encodes xs)) cs n c h.0 ∙ ap (λ x. escaped (encode x ++ encodes (drop (n + 1) cs))) (sym h.1) ∙ escaped-append (encode c) (encodes (drop (n + 1) cs))

pub escaped_end : (cs : List ℕ) (n : ℕ) → length cs ≤ n → escaped (encodes (drop n cs)) ≡ []
escaped_end cs n h = at_drop_all (λ xs. escaped (encodes xs)) cs n h

-- the characters of a text spell it
pub spelled : (bs : List ℕ) → IsUtf8 bs → encodes (chars bs) ≡ bs
spelled bs u = ap (λ x. encodes (chars x)) (sym u.1.1) ∙ ap encodes (chars-encodes u.0 u.1.0) ∙ u.1.1

-- one more byte that needs no escape
pub bare_more : (b : Bool) (xs : List ℕ) (i : ℕ) → i < length xs → (b ≡ true → escaped (take i xs) ≡ take i xs)
    → (b && (not (eqb (get_or xs i 0) 126) && not (eqb (get_or xs i 0) 47))) ≡ true → escaped (take (i + 1) xs) ≡ take (i + 1) xs
bare_more false xs i below before h = cc
bare_more true xs i below before h =
    let x = get_or xs i 0 in
    let first : x ≡ 126 → ⊥ = other x h in
    let second : x ≡ 47 → ⊥ = another x h in
    let t = take_more xs i 0 below in
    ap escaped t ∙ escaped-append (take i xs) (x ∷ []) ∙ ap₂ (λ (a b : List ℕ). a ++ b) (before refl) (plain_small x first second) ∙ sym t
  where
    other : (x : ℕ) → (not (eqb x 126) && not (eqb x 47)) ≡ true → x ≡ 126 → ⊥
    other x h e = grind (arith, nat_tests)

    another : (x : ℕ) → (not (eqb x 126) && not (eqb x 47)) ≡ true → x ≡ 47 → ⊥
    another x h e = grind (arith, nat_tests)
