-- A segment without its escapes, part by part.
use Rattle.std.proofs.Common.{◌≡◌, ◌≢◌, ℕ, suc, List, [], ◌∷◌, ◌++◌, refl, sym, ap, ◌∙◌, arith, ne_eqb, append_assoc}
use Rattle.serde_json.specs.Find.{unescape}
use Rattle.serde_json.proofs.Paths.{Lacks}

-- the text before the first `~` is unchanged
pub unescape_after : (xs ys : List ℕ) → Lacks 126 xs → unescape (xs ++ 126 ∷ ys) ≡ xs ++ unescape (126 ∷ ys)
unfolding unescape
unescape_after [] ys h = refl
unescape_after (x ∷ []) ys h = rw (ne_eqb x 126 (h 0 (omega arith)))
unescape_after (x ∷ y ∷ xs) ys h =
    rw (ne_eqb x 126 (h 0 (omega arith))) (ap (λ l. x ∷ l) (unescape_after (y ∷ xs) ys (λ i less. h (suc i) (omega arith))))

pub unescape_slash : (ys : List ℕ) → unescape (126 ∷ 49 ∷ ys) ≡ 47 ∷ unescape ys
unfolding unescape
unescape_slash ys = refl

pub unescape_tilde : (ys : List ℕ) → unescape (126 ∷ 48 ∷ ys) ≡ 126 ∷ unescape ys
unfolding unescape
unescape_tilde ys = refl

-- a `~` before any other byte is unchanged
pub unescape_other : (ys : List ℕ) → ((rest : List ℕ) → ys ≢ 49 ∷ rest) → ((rest : List ℕ) → ys ≢ 48 ∷ rest) → unescape (126 ∷ ys) ≡ 126
    ∷ unescape ys
unfolding unescape
unescape_other [] h g = refl
unescape_other (y ∷ ys) h g = rw (ne_eqb y 49 (λ e. h ys (ap (λ z. z ∷ ys) e)), ne_eqb y 48 (λ e. g ys (ap (λ z. z ∷ ys) e)))

-- one more escape is decoded
pub one_more : (text before after rest whole more : List ℕ) (x : ℕ) → text ++ unescape rest ≡ whole → rest ≡ before ++ 126 ∷ after
    → Lacks 126 before → unescape (126 ∷ after) ≡ x ∷ unescape more
    → ((text ++ before) ++ x ∷ []) ++ unescape more ≡ whole
one_more text before after rest whole more x so_far cut h e = append_assoc (text ++ before) (x ∷ []) (unescape more)
    ∙ append_assoc text before (x ∷ unescape more)
    ∙ ap (λ r. text ++ (before ++ r)) (sym e) ∙ ap (λ r. text ++ r) (sym (unescape_after before after h) ∙ ap unescape (sym cut)) ∙ so_far
