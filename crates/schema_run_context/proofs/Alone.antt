-- The numbers at a place: one pair more, seen from its end, and who is alone there.
use Rattle.std.proofs.Common.{◌≡◌, ℕ, suc, ◌≤◌, ◌==◌, ◌&&◌, Bool, true, false, cond, List, [], ◌∷◌, ◌++◌, length, refl, sym, ◌∙◌, ap, subst, arith, true≢false, length-append, append_assoc}
use Rattle.std.specs.Prelude.{◌||◌, Contains}
use Rattle.std.specs.List.{list_all}
use Rattle.std.proofs.lemmas.Bool.{eqb-true}
use Rattle.std.proofs.lemmas.List.{append-nil}
use Rattle.theory_definitions.specs.Instance.{Place, same_place}
use Rattle.schema_run_context.specs.Progress.{Pairs, busy_at, Distinct}
use Rattle.schema_run_context.proofs.Pairs.{among, among-append, eqb-self, found, place_equal}
use Rattle.schema_run_context.proofs.RowsChanged.{other_test}

-- ---- one pair more, seen from its end

pub busy_last : (p : Place) (es : Pairs) (e : ℕ × Place) → busy_at p (es ++ e ∷ []) ≡ cond (same_place e.1 p) (e.0 ∷ []) [] ++ busy_at p es
busy_last p [] e = sym (append-nil (cond (same_place e.1 p) (e.0 ∷ []) []))
busy_last p (x ∷ es) e =
    ap (λ (r : List ℕ). r ++ cond (same_place x.1 p) (x.0 ∷ []) []) (busy_last p es e)
    ∙ append_assoc (cond (same_place e.1 p) (e.0 ∷ []) []) (busy_at p es) (cond (same_place x.1 p) (x.0 ∷ []) [])

pub busy_short : (p : Place) (es : Pairs) → length (busy_at p es) ≤ length es
busy_short p [] = omega arith
busy_short p (e ∷ es) =
    let n = length-append (busy_at p es) (cond (same_place e.1 p) (e.0 ∷ []) []) in
    let one : (b : Bool) → length (cond b (e.0 ∷ []) []) ≤ 1 = elim [ true ↦ omega arith | false ↦ omega arith ] in
    omega (arith, n, busy_short p es, one (same_place e.1 p))

-- ---- no other number at a place

-- no number twice
abbrev pub Once : List ℕ → Type 0
Once [] = Unit {0}
Once (x ∷ xs) = (among x xs ≡ false) × Once xs

swapped : (m n : ℕ) → (m == n) ≡ (n == m)
swapped m n = go (m == n) (n == m) refl refl
  where
    go : (a b : Bool) → (m == n) ≡ a → (n == m) ≡ b → a ≡ b
    go true true e f = refl
    go false false e f = refl
    go true false e f = sym (subst (λ (j : ℕ). (n == j) ≡ true) (sym (eqb-true m n e)) (eqb-self n)) ∙ f
    go false true e f = sym e ∙ subst (λ (j : ℕ). (m == j) ≡ true) (sym (eqb-true n m f)) (eqb-self m)

or_none : (a b : Bool) → a ≡ false → b ≡ false → (a || b) ≡ false
or_none a b e f = ap (λ x. x || b) e ∙ f

or_neither : (a b : Bool) → (a || b) ≡ false → (a ≡ false) × (b ≡ false)
or_neither true b h = absurd (true≢false h)
or_neither false b h = (refl, h)

once_push : (xs : List ℕ) (n : ℕ) → Once xs → among n xs ≡ false → Once (xs ++ n ∷ [])
once_push [] n h e = (refl, tt)
once_push (x ∷ xs) n h e =
    let parts = or_neither (x == n) (among n xs) e in
    (among-append x xs (n ∷ []) ∙ or_none (among x xs) (among x (n ∷ [])) h.0 (or_none (n == x) false (swapped n x ∙ parts.0) refl), once_push xs n h.1 parts.1)

-- where no pair stands twice, no number is twice at a place
pub once_at : (p : Place) (es : Pairs) → Distinct es → Once (busy_at p es)
once_at p [] d = tt
once_at p (e ∷ es) d = go (once_at p es d.1) (same_place e.1 p) refl
  where
    absent : (b : Bool) → among e.0 (busy_at p es) ≡ b → same_place e.1 p ≡ true → b ≡ false
    absent false h s = refl
    absent true h s =
        let w = found e.0 p es h in
        absurd (d.0 (subst (λ (q : Place). Contains es (e.0, q)) (sym (place_equal e.1 p s)) w))

    go : Once (busy_at p es) → (b : Bool) → same_place e.1 p ≡ b → Once (busy_at p es ++ cond b (e.0 ∷ []) [])
    go rest true s = once_push (busy_at p es) e.0 rest (absent (among e.0 (busy_at p es)) refl s)
    go rest false s = subst Once (sym (append-nil (busy_at p es))) rest

-- a number is alone where none is there, or one, which it is
pub alone_by_count : (n : ℕ) (xs : List ℕ) → Once xs → list_all (λ j. j == n) xs ≡ ((length xs == 0) || ((length xs == 1) && among n xs))
alone_by_count n [] h = refl
alone_by_count n (x ∷ []) h = go (x == n)
  where
    go : (b : Bool) → (b && true) ≡ (b || false)
    go true = refl
    go false = refl
alone_by_count n (x ∷ y ∷ xs) h = go (x == n) (y == n) refl refl
  where
    parts : (x == y) ≡ false
    parts = swapped x y ∙ (or_neither (y == x) (among x xs) (ap (λ b. b || among x xs) refl ∙ h.0)).0

    none : (k : ℕ) (z : Bool) → ((suc (suc k) == 0) || ((suc (suc k) == 1) && z)) ≡ false
    none k z = ap (λ b. b || ((suc (suc k) == 1) && z)) (other_test (suc (suc k)) 0 (λ e. omega arith)) ∙ ap (λ b. b && z) (other_test (suc (suc k)) 1 (λ e. omega arith))

    go : (a b : Bool) → (x == n) ≡ a → (y == n) ≡ b → (a && (b && list_all (λ j. j == n) xs)) ≡ ((suc (suc (length xs)) == 0) || ((suc (suc (length xs)) == 1) && (a || (b || among n xs))))
    go true true e f =
        let one : x ≡ n = eqb-true x n e in
        let two : y ≡ n = eqb-true y n f in
        let same : (x == y) ≡ true = subst (λ (j : ℕ). (x == j) ≡ true) (one ∙ sym two) (eqb-self x) in
        absurd (true≢false (sym same ∙ parts))
    go true false e f = sym (none (length xs) true)
    go false b e f = sym (none (length xs) (b || among n xs))
