-- The guard's rows and counts, beside the pairs in progress.
use Rattle.std.proofs.Common.{◌≡◌, ℕ, suc, ◌+◌, ◌-◌, ◌<◌, ◌==◌, ◌&&◌, Bool, true, false, cond, List, [], ◌∷◌, ◌++◌, length, get_or, refl, sym, ◌∙◌, ap, ap₂, subst, arith, true≢false, inl, inr, ⊎_elim}
use Rattle.std.specs.Prelude.{Some, ◌||◌}
use Rattle.std.proofs.lemmas.Bool.{eqb-false, eqb-true}
use Rattle.theory_definitions.specs.Instance.{Place, same_place}
use Rattle.schema_places.specs.Numbers.{OwnNumbers, number_of, place_at}
use Rattle.schema_run_context.specs.ProgressViews.{Guards}
use Rattle.schema_run_context.specs.Progress.{Distinct, Pairs, busy_at}
use Rattle.schema_run_context.specs.Rows.{PutsBit, has_bit, has_words, row_in}
use Rattle.schema_run_context.specs.Verdicts.{is_alone}
use Rattle.schema_run_context.proofs.Pairs.{among, busy-pushed, place_equal, same_place-self}
use Rattle.schema_run_context.proofs.Alone.{Once, alone_by_count, busy_last, once_at}
use Rattle.schema_run_context.proofs.RowsChanged.{no_bit}

-- a place has one number
pub one_number : (ps : List Place) (j k : ℕ) → OwnNumbers ps → j < length ps → k < length ps → place_at ps j ≡ place_at ps k → j ≡ k
one_number ps j k a l m e =
    let f : Some j ≡ Some k = sym (a j l) ∙ ap (λ (p : Place). number_of p ps) e ∙ a k m in
    cc f

-- places are the same where their numbers are
pub same_at : (ps : List Place) (j k : ℕ) → OwnNumbers ps → j < length ps → k < length ps → same_place (place_at ps j) (place_at ps k) ≡ (j == k)
same_at ps j k a l m = go (same_place (place_at ps j) (place_at ps k)) (j == k) refl refl
  where
    go : (x y : Bool) → same_place (place_at ps j) (place_at ps k) ≡ x → (j == k) ≡ y → x ≡ y
    go true true e f = refl
    go false false e f = refl
    go true false e f = absurd (eqb-false j k f (one_number ps j k a l m (place_equal (place_at ps j) (place_at ps k) e)))
    go false true e f = sym e ∙ subst (λ (i : ℕ). same_place (place_at ps j) (place_at ps i) ≡ true) (eqb-true j k f) (same_place-self (place_at ps j))

-- where a pair comes last, the numbers at a place
busy_more : (ps : List Place) (es : Pairs) (n k j : ℕ) → OwnNumbers ps → k < length ps → j < length ps
    → busy_at (place_at ps j) (es ++ (n, place_at ps k) ∷ []) ≡ cond (k == j) (n ∷ []) [] ++ busy_at (place_at ps j) es
busy_more ps es n k j a l m = busy_last (place_at ps j) es (n, place_at ps k) ∙ ap (λ (b : Bool). cond b (n ∷ []) [] ++ busy_at (place_at ps j) es) (same_at ps k j a l m)

-- a pair that comes last was not there before
pub fresh_last : (n : ℕ) (p : Place) (es : Pairs) → Distinct (es ++ (n, p) ∷ []) → among n (busy_at p es) ≡ false
fresh_last n p es d = (subst Once (busy-pushed p n es) (once_at p (es ++ (n, p) ∷ []) d)).0

-- ---- who is alone

pub alone_if : (ps : List Place) (es : Pairs) (counts : List ℕ) (guard : List (List ℕ)) (n k : ℕ) → Guards ps es counts guard → Distinct es → k < length ps
    → is_alone n (place_at ps k) es ≡ ((get_or counts k 0 == 0) || ((get_or counts k 0 == 1) && has_bit (row_in guard n) k))
alone_if ps es counts guard n k g d l =
    alone_by_count n (busy_at (place_at ps k) es) (once_at (place_at ps k) es d)
    ∙ ap₂ (λ (i : ℕ) (b : Bool). (i == 0) || ((i == 1) && b)) (sym (g.counted k l)) (sym (g.bits n k l))

-- ---- a pair comes

pub guards_more : (ps : List Place) (es : Pairs) (counts counts' : List ℕ) (guard mid guard' : List (List ℕ)) (n k : ℕ) → OwnNumbers ps → k < length ps → Guards ps es counts guard
    → ((q b : ℕ) → has_bit (row_in mid q) b ≡ has_bit (row_in guard q) b) → PutsBit n k true mid guard' → length counts' ≡ length ps
    → ((j : ℕ) → get_or counts' j 0 ≡ cond (k == j) (get_or counts j 0 + 1) (get_or counts j 0)) → Guards ps (es ++ (n, place_at ps k) ∷ []) counts' guard'
guards_more ps es counts counts' guard mid guard' n k a l g same put size more = record {
  bits = λ q j m. put.bits q j ∙ ap (λ (b : Bool). cond ((n == q) && (k == j)) true b) (same q j ∙ g.bits q j m) ∙ bit q (k == j) (busy_at (place_at ps j) es) ∙ ap (among q) (sym (busy_more ps es n k j a l m));
  counted = λ j m. more j ∙ ap (λ i. cond (k == j) (i + 1) i) (g.counted j m) ∙ count (k == j) (busy_at (place_at ps j) es) ∙ ap length (sym (busy_more ps es n k j a l m));
  sized = inr size;
}
  where
    bit : (q : ℕ) (b : Bool) (xs : List ℕ) → cond ((n == q) && b) true (among q xs) ≡ among q (cond b (n ∷ []) [] ++ xs)
    bit q true xs = go (n == q)
      where
        go : (c : Bool) → cond (c && true) true (among q xs) ≡ (c || among q xs)
        go true = refl
        go false = refl
    bit q false xs = go (n == q)
      where
        go : (c : Bool) → cond (c && false) true (among q xs) ≡ among q xs
        go true = refl
        go false = refl

    count : (b : Bool) (xs : List ℕ) → cond b (length xs + 1) (length xs) ≡ length (cond b (n ∷ []) [] ++ xs)
    count true xs = omega arith
    count false xs = refl

-- ---- the last pair goes

pub guards_less : (ps : List Place) (es : Pairs) (counts counts' : List ℕ) (guard guard' : List (List ℕ)) (n k : ℕ) → OwnNumbers ps → k < length ps
    → Distinct (es ++ (n, place_at ps k) ∷ []) → Guards ps (es ++ (n, place_at ps k) ∷ []) counts guard
    → PutsBit n k false guard guard' → length counts' ≡ length counts
    → ((j : ℕ) → get_or counts' j 0 ≡ cond (k == j) (get_or counts j 0 - 1) (get_or counts j 0)) → Guards ps es counts' guard'
guards_less ps es counts counts' guard guard' n k a l d g put size less = record {
  bits = λ q j m.
      put.bits q j ∙ ap (λ (b : Bool). cond ((n == q) && (k == j)) false b) (g.bits q j m ∙ ap (among q) (busy_more ps es n k j a l m))
      ∙ bit q j (n == q) refl (k == j) refl;
  counted = λ j m. less j ∙ ap (λ i. cond (k == j) (i - 1) i) (g.counted j m ∙ ap length (busy_more ps es n k j a l m)) ∙ count (k == j) (busy_at (place_at ps j) es);
  sized = ⊎_elim (λ (e : length counts ≡ 0). inl (size ∙ e)) (λ (e : length counts ≡ length ps). inr (size ∙ e)) g.sized;
}
  where
    bit : (q j : ℕ) (c : Bool) → (n == q) ≡ c → (b : Bool) → (k == j) ≡ b → cond (c && b) false (among q (cond b (n ∷ []) [] ++ busy_at (place_at ps j) es)) ≡ among q (busy_at (place_at ps j) es)
    bit q j true e true f =
        sym (subst (λ (i : ℕ). among q (busy_at (place_at ps i) es) ≡ false) (eqb-true k j f) (subst (λ (i : ℕ). among i (busy_at (place_at ps k) es) ≡ false) (eqb-true n q e) (fresh_last n (place_at ps k) es d)))
    bit q j true e false f = refl
    bit q j false e true f = ap (λ (b : Bool). b || among q (busy_at (place_at ps j) es)) e
    bit q j false e false f = refl

    count : (b : Bool) (xs : List ℕ) → cond b (length (cond b (n ∷ []) [] ++ xs) - 1) (length (cond b (n ∷ []) [] ++ xs)) ≡ length xs
    count true xs = let f : suc (length xs) - 1 ≡ length xs = omega arith in f
    count false xs = refl

-- ---- a number whose bit is set has a row

pub has_row : (guard : List (List ℕ)) (n b : ℕ) → has_bit (row_in guard n) b ≡ true → has_words (row_in guard n) ≡ true
has_row guard n b h = go (row_in guard n) h
  where
    go : (ws : List ℕ) → has_bit ws b ≡ true → has_words ws ≡ true
    go [] h = absurd (true≢false (sym h ∙ no_bit b))
    go (w ∷ ws) h = refl
