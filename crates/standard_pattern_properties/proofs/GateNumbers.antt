-- The gate with a number, and the gates from a number on.
use Rattle.std.proofs.Common.{◌≡◌, ◌∙◌, ◌+◌, ◌-◌, ◌<◌, ◌≤◌, ◌∷◌, [], List, None, Option, Some, String, ℕ, add-one, add-zero, ap, arith, drop, get_or, length, map, refl, string_bytes, suc, sym, take, zero}
use Rattle.std.specs.declared.alloc.Global.{Global}
use Rattle.std.proofs.lemmas.List.{at_drop_all, drop-map}
use Rattle.schema_traits.proofs.Drops.{drop_at}
use Rattle.standard_pattern_properties.specs.Firsts.{first_of}
use Rattle.standard_pattern_properties.specs.Gates.{Gate}
use Rattle.standard_pattern_properties.specs.GatedKeywords.{gates_from}
use Rattle.standard_pattern_properties.specs.declared.gates.Condition.TheVariants.{OneMatches}

abbrev Strings : Type 0
Strings = List (String Global)

abbrev gate_with : Strings → ℕ → Option Gate
gate_with ps n = Some (record { condition = OneMatches; patterns = map string_bytes ps; child = n })

gate_on : (i j : ℕ) (ps : Strings) → i < length ps → first_of (drop i (gates_from j (map string_bytes ps))) ≡ gate_with (take 1 (drop i ps)) (j + i)
gate_on i j [] l = absurd (omega arith)
gate_on zero j (p ∷ ps) l = ap (λ n. gate_with (p ∷ []) n) (sym (add-zero j))
gate_on (suc i) j (p ∷ ps) l = gate_on i (j + 1) ps (omega arith) ∙ ap (λ n. gate_with (take 1 (drop i ps)) n) (one_on j i)
  where
    one_on : (j i : ℕ) → (j + 1) + i ≡ j + suc i
    one_on j i = omega arith

pub gate_there : (i : ℕ) (ps : Strings) → i < length ps → gate_with (take ((i + 1) - i) (drop i ps)) i ≡ first_of (drop i (gates_from 0 (map string_bytes ps)))
gate_there i ps l = ap (λ n. gate_with (take n (drop i ps)) i) (one i) ∙ sym (gate_on i 0 ps l ∙ ap (λ n. gate_with (take 1 (drop i ps)) n) (from_zero i))
  where
    one : (i : ℕ) → (i + 1) - i ≡ 1
    one i = omega arith

    from_zero : (i : ℕ) → 0 + i ≡ i
    from_zero i = omega arith

gate_past : (i j : ℕ) (ps : Strings) → length ps ≤ i → None ≡ first_of (drop i (gates_from j (map string_bytes ps)))
gate_past zero j [] l = refl
gate_past (suc i) j [] l = refl
gate_past zero j (p ∷ ps) l = absurd (omega arith)
gate_past (suc i) j (p ∷ ps) l = gate_past i (j + 1) ps (omega arith)

pub no_gate : (i : ℕ) (ps : Strings) → length ps ≤ i → None ≡ first_of (drop i (gates_from 0 (map string_bytes ps)))
no_gate i ps l = gate_past i 0 ps l

-- after the only one
pub only_past : (i : ℕ) (g : Gate) → (i ≡ 0 → ⊥) → None ≡ first_of (drop i (g ∷ []))
only_past zero g h = absurd (h refl)
only_past (suc zero) g h = refl
only_past (suc (suc i)) g h = refl

-- ---- a list from a number on

first_suc : {A : Type 0} (i : ℕ) (xs : List A) (x : A) → first_of (drop i xs) ≡ Some x → drop i xs ≡ x ∷ drop (suc i) xs
first_suc zero [] x h = cc
first_suc (suc i) [] x h = cc
first_suc zero (y ∷ xs) x h = let e : y ≡ x = cc in ap (λ z. z ∷ xs) e
first_suc (suc i) (y ∷ xs) x h = first_suc i xs x h

pub first_drop : {A : Type 0} (i : ℕ) (xs : List A) (x : A) → first_of (drop i xs) ≡ Some x → drop i xs ≡ x ∷ drop (i + 1) xs
first_drop i xs x h = first_suc i xs x h ∙ ap (λ n. x ∷ drop n xs) (sym (add-one i))

pub first_none : {A : Type 0} (i : ℕ) (xs : List A) → first_of (drop i xs) ≡ None → drop i xs ≡ []
first_none i xs h = none (drop i xs) h
  where
    none : {A : Type 0} (ys : List A) → first_of ys ≡ None → ys ≡ []
    none [] h = refl
    none (y ∷ ys) h = cc

pub first_within : {A : Type 0} (i : ℕ) (xs : List A) (x : A) → first_of (drop i xs) ≡ Some x → i < length xs
first_within zero [] x h = cc
first_within (suc i) [] x h = cc
first_within zero (y ∷ xs) x h = omega arith
first_within (suc i) (y ∷ xs) x h = let r : i < length xs = first_within i xs x h in omega arith

pub past_none : {A : Type 0} (i : ℕ) (xs : List A) → drop i xs ≡ [] → drop (i + 1) xs ≡ []
past_none i xs h = ap (λ n. drop n xs) (add-one i) ∙ gone i xs h
  where
    gone : {A : Type 0} (i : ℕ) (xs : List A) → drop i xs ≡ [] → drop (suc i) xs ≡ []
    gone zero [] h = refl
    gone zero (x ∷ xs) h = cc
    gone (suc i) [] h = refl
    gone (suc i) (x ∷ xs) h = gone i xs h

-- the pattern with a number
pub pattern_at : (ps : Strings) (i : ℕ) (p : String Global) → i < length ps → p ≡ get_or ps i p → drop i (map string_bytes ps) ≡ string_bytes p ∷ drop (i + 1) (map string_bytes ps)
pattern_at ps i p l is = drop-map string_bytes i ps ∙ (ap (map string_bytes) (drop_at ps i p l is) ∙ ap (λ xs. string_bytes p ∷ xs) (sym (drop-map string_bytes (i + 1) ps)))

pub no_pattern : (ps : Strings) (i : ℕ) → length ps ≤ i → drop i (map string_bytes ps) ≡ []
no_pattern ps i l = drop-map string_bytes i ps ∙ at_drop_all (map string_bytes) ps i l
