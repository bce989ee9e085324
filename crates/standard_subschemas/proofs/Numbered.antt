-- Adding an element to a list whose elements are found by a text.
use Rattle.std.proofs.Common.{◌≡◌, ℕ, zero, suc, Bool, true, false, cond, List, [], ◌∷◌, ◌++◌, length, bytes_eq, refl, ap, sym, ◌∙◌, subst}
use Rattle.std.proofs.Common.{true≢false}
use Rattle.std.specs.Prelude.{None, Option, Some, is_some, option_map}
use Rattle.std.proofs.lemmas.Slice.Eq.{bytes_eq-Decides}
use Rattle.theory_definitions.specs.Instance.{Text}
use Rattle.standard_subschemas.specs.DocumentKeys.{IsNumbered, has_text, number_in}

abbrev or_last : Option ℕ → Option ℕ → Option ℕ
or_last (Some n) last = Some n
or_last None last = last

or_none : (o : Option ℕ) → o ≡ or_last o None
or_none (Some n) = refl
or_none None = refl

or_known : (o last : Option ℕ) → is_some o ≡ true → o ≡ or_last o last
or_known (Some n) last e = refl
or_known None last e = absurd (true≢false (sym e))

pub number-append : (ks : List (Option Text)) (k : Option Text) (t : Text) → number_in t (ks ++ k ∷ [])
    ≡ or_last (number_in t ks) (cond (has_text t k) (Some (length ks)) None)
number-append [] k t = go (has_text t k) where
  go : (b : Bool) → cond b (Some zero) None ≡ cond b (Some zero) None
  go b = refl
number-append (y ∷ ks) k t = go (has_text t y) (has_text t k) (number_in t ks) (number_in t (ks ++ k ∷ [])) (number-append ks k t) where
  go : (a b : Bool) (o o' : Option ℕ) → o' ≡ or_last o (cond b (Some (length ks)) None)
      → cond a (Some zero) (option_map (λ n. suc n) o')
      ≡ or_last (cond a (Some zero) (option_map (λ n. suc n) o)) (cond b (Some (suc (length ks))) None)
  go true b o o' e = refl
  go false b (Some n) o' e = ap (option_map (λ n. suc n)) e
  go false true None o' e = ap (option_map (λ n. suc n)) e
  go false false None o' e = ap (option_map (λ n. suc n)) e

-- an element that has no text
pub numbered_none : (ks : List (Option Text)) (numbers : Text → Option ℕ) → IsNumbered ks numbers → IsNumbered (ks ++ None ∷ []) numbers
numbered_none ks numbers is = λ t. is t ∙ or_none (number_in t ks) ∙ sym (number-append ks None t)

-- an element whose text an earlier one has
pub numbered_again : (ks : List (Option Text)) (numbers : Text → Option ℕ) (x : Text) → IsNumbered ks numbers → is_some (numbers x) ≡ true
    → IsNumbered (ks ++ Some x ∷ []) numbers
numbered_again ks numbers x is has = λ t. go t (bytes_eq t x) refl where
  go : (t : Text) (b : Bool) → bytes_eq t x ≡ b → numbers t ≡ number_in t (ks ++ Some x ∷ [])
  go t true e =
      let same : x ≡ t = sym ((bytes_eq-Decides t x).0 e) in
      is t ∙ or_known (number_in t ks) (cond (bytes_eq t x) (Some (length ks)) None) (ap is_some (sym (is t))
      ∙ subst (λ q. is_some (numbers q) ≡ true) same has) ∙ sym (number-append ks (Some x) t)
  go t false e = is t ∙ or_none (number_in t ks) ∙ ap (λ b. or_last (number_in t ks) (cond b (Some (length ks)) None)) (sym e)
      ∙ sym (number-append ks (Some x) t)

-- an element with a new text
turned : (a b : Text) (v : Bool) → bytes_eq a b ≡ v → bytes_eq b a ≡ v
turned a b true e = let same : a ≡ b = (bytes_eq-Decides a b).0 e in (bytes_eq-Decides b a).1 (sym same)
turned a b false e = go (bytes_eq b a) refl where
  go : (v : Bool) → bytes_eq b a ≡ v → bytes_eq b a ≡ false
  go false k = k
  go true k = let same : b ≡ a = (bytes_eq-Decides b a).0 k in absurd (true≢false (sym ((bytes_eq-Decides a b).1 (sym same)) ∙ e))

pub numbered_more : (ks : List (Option Text)) (numbers numbers' : Text → Option ℕ) (x : Text) → IsNumbered ks numbers → numbers x ≡ None
    → ((t : Text) → numbers' t ≡ cond (bytes_eq x t) (Some (length ks)) (numbers t)) → IsNumbered (ks ++ Some x ∷ []) numbers'
numbered_more ks numbers numbers' x is new updates = λ t. go t (bytes_eq t x) refl where
  go : (t : Text) (b : Bool) → bytes_eq t x ≡ b → numbers' t ≡ number_in t (ks ++ Some x ∷ [])
  go t true e =
      let same : x ≡ t = sym ((bytes_eq-Decides t x).0 e) in
      let none : number_in t ks ≡ None = sym (is t) ∙ subst (λ q. numbers q ≡ None) same new in
      updates t ∙ ap (λ b. cond b (Some (length ks)) (numbers t)) (turned t x true e)
      ∙ sym (number-append ks (Some x) t ∙ ap (λ o. or_last o (cond (bytes_eq t x) (Some (length ks)) None)) none
      ∙ ap (λ b. cond b (Some (length ks)) None) e)
  go t false e = updates t ∙ ap (λ b. cond b (Some (length ks)) (numbers t)) (turned t x false e) ∙ is t ∙ or_none (number_in t ks)
      ∙ ap (λ b. or_last (number_in t ks) (cond b (Some (length ks)) None)) (sym e) ∙ sym (number-append ks (Some x) t)
