-- What a pointer has after an outer one and a `/`.
use Rattle.std.proofs.Common.{◌≡◌, ◌≢◌, ◌++◌, ◌∷◌, ◌∙◌, ◌==◌, [], ℕ, Bool, Bor, MatchOption, None, Option, Some, ap, ap₂, false, if◌then◌else◌, refl, rules, sym, true}
use Rattle.std.proofs.lemmas.Bool.{eqb-true}
use Rattle.theory_definitions.specs.Instance.{Text}
use Rattle.standard_outputs.specs.CodeViews.{text_of}
use Rattle.standard_outputs.specs.KeywordUnits.{after_slash}

same : (x : ℕ) → (x == x) ≡ true
same x = search rules

pub after_outer : (outer rest : Text) → after_slash outer (outer ++ rest) ≡ after_slash [] rest
after_outer [] rest = refl
after_outer (x ∷ xs) rest = rw (same x) (after_outer xs rest)

next_differs : (x y : ℕ) (xs ys : Text) (b : Bool) → (x == y) ≡ b → ((rest : Text) → y ∷ ys ≢ (x ∷ xs) ++ rest)
    → (((rest : Text) → ys ≢ xs ++ rest) → after_slash xs ys ≡ None) → after_slash (x ∷ xs) (y ∷ ys) ≡ None
next_differs x y xs ys true e not_so below = rw e (below (λ rest f. not_so rest (ap₂ (λ z zs. z ∷ zs) (sym (eqb-true x y e)) f)))
next_differs x y xs ys false e not_so below = rw e refl

pub after_other : (outer path : Text) → ((rest : Text) → path ≢ outer ++ rest) → after_slash outer path ≡ None
after_other [] path not_so = absurd (not_so path refl)
after_other (x ∷ xs) [] not_so = refl
after_other (x ∷ xs) (y ∷ ys) not_so = next_differs x y xs ys (x == y) refl not_so (after_other xs ys)

no_slash : (y : ℕ) (ys : Text) (b : Bool) → (y == 47) ≡ b → ((rest : Text) → y ∷ ys ≢ 47 ∷ rest) → None ≡ after_slash [] (y ∷ ys)
no_slash y ys true e not_so = absurd (not_so ys (ap (λ z. z ∷ ys) (eqb-true y 47 e)))
no_slash y ys false e not_so = rw e refl

pub by_slash : (rest : Text) (r : Option (Bor Text)) → MatchOption r ((ys : Text) → rest ≢ 47 ∷ ys) (λ x. rest ≡ 47 ∷ x.now) → text_of r ≡ after_slash [] rest
by_slash rest (Some x) e = ap (after_slash []) (sym e)
by_slash [] None not_so = refl
by_slash (y ∷ ys) None not_so = no_slash y ys (y == 47) refl not_so

-- a text after one byte
abbrev tail_of : Text → Text
tail_of [] = []
tail_of (x ∷ xs) = xs

pub same_tail : (x : ℕ) (xs ys : Text) → x ∷ xs ≡ x ∷ ys → xs ≡ ys
same_tail x xs ys e = ap tail_of e
