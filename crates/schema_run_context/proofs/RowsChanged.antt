-- Rows of bits: one more, and one bit set or cleared.
use Rattle.std.proofs.Common.{◌≡◌, ℕ, zero, suc, ◌+◌, ◌/◌, ◌%◌, ◌<◌, ◌≤◌, ◌==◌, ◌&&◌, Bool, true, false, cond, List, [], ◌∷◌, ◌++◌, length, length-set, get_or, take, refl, sym, ◌∙◌, ap, ap₂, subst, arith, true≢false, Vec, Global}
use Rattle.std.specs.Prelude.{◌||◌, nat_eq, slice_set, replicate}
use Rattle.std.specs.Int.{bit_at}
use Rattle.std.specs.List.{AllByRecursion, FoldsTo, IsDistinct}
use Rattle.std.specs.Vec.{vec_items}
use Rattle.std.proofs.lemmas.Bool.{eqb-false, eqb-true}
use Rattle.std.proofs.lemmas.Grind.{get_or-set_at}
use Rattle.std.proofs.lemmas.List.{get_or-set_other, length-map, map-append, map-set, take_all}
use Rattle.std.proofs.lemmas.Nat.Bits.{bit_at-zero}
use Rattle.schema_run_context.specs.Progress.{has_number}
use Rattle.schema_run_context.specs.Rows.{AreWide, MakesRow, PutsBit, SameRows, has_bit, has_words, numbers_from, row_in, row_numbers}
use Rattle.schema_run_context.specs.RowViews.{rows_of}

-- ---- rows with no bit

abbrev pub zeros : ℕ → List ℕ
zeros w = replicate w 0

index_nothing : (w i : ℕ) → let none : ℕ = 0 in get_or (zeros w) i none ≡ none
index_nothing zero i = refl
index_nothing (suc w) zero = refl
index_nothing (suc w) (suc i) = index_nothing w i

pub no_bit : (b : ℕ) → has_bit [] b ≡ false
no_bit b = ap (λ (x : ℕ). x == 1) (bit_at-zero (b % 64))

fresh_bit : (w b : ℕ) → has_bit (zeros w) b ≡ false
fresh_bit w b = ap (λ (x : ℕ). bit_at x (b % 64) == 1) (index_nothing w (b / 64)) ∙ ap (λ (x : ℕ). x == 1) (bit_at-zero (b % 64))

length_fresh : (w : ℕ) → length (zeros w) ≡ w
length_fresh zero = refl
length_fresh (suc w) = ap suc (length_fresh w)

pub same_tests : (a b c d : ℕ) → (a ≡ b → c ≡ d) → (c ≡ d → a ≡ b) → (a == b) ≡ (c == d)
same_tests a b c d f g = go (a == b) (c == d) refl refl
  where
    go : (x y : Bool) → (a == b) ≡ x → (c == d) ≡ y → x ≡ y
    go true true e h = refl
    go false false e h = refl
    go true false e h = absurd (eqb-false c d h (f (eqb-true a b e)))
    go false true e h = absurd (eqb-false a b e (g (eqb-true c d h)))

pub other_test : (a b : ℕ) → (a ≡ b → ⊥) → (a == b) ≡ false
other_test a b f = go (a == b) refl
  where
    go : (x : Bool) → (a == b) ≡ x → x ≡ false
    go true e = absurd (f (eqb-true a b e))
    go false e = refl

words_put : (b c : ℕ) (on : Bool) (ws vs : List ℕ) (x : ℕ) → b / 64 < length ws → vs ≡ slice_set ws (b / 64) x
    → ((k : ℕ) → k < 64 → (bit_at x k == 1) ≡ cond (b % 64 == k) on (bit_at (get_or ws (b / 64) 0) k == 1))
    → has_bit vs c ≡ cond (b == c) on (has_bit ws c)
words_put b c on ws vs x l e bits = go (b / 64 == c / 64) refl
  where
    go : (t : Bool) → (b / 64 == c / 64) ≡ t → has_bit vs c ≡ cond (b == c) on (has_bit ws c)
    go true t =
        let same : c / 64 ≡ b / 64 = sym (eqb-true (b / 64) (c / 64) t) in
        let found : get_or vs (c / 64) 0 ≡ x = ap (λ xs. get_or xs (c / 64) 0) e ∙ get_or-set_at ws (b / 64) (c / 64) x 0 same l in
        ap (λ y. bit_at y (c % 64) == 1) found ∙ bits (c % 64) (omega arith)
        ∙ ap₂ (λ (z : Bool) (i : ℕ). cond z on (bit_at (get_or ws i 0) (c % 64) == 1)) (same_tests (b % 64) (c % 64) b c (λ h. omega arith) (λ h. omega arith)) (sym same)
    go false t =
        let other : c / 64 ≡ b / 64 → ⊥ = λ h. eqb-false (b / 64) (c / 64) t (sym h) in
        let kept : get_or vs (c / 64) 0 ≡ get_or ws (c / 64) 0 = ap (λ xs. get_or xs (c / 64) 0) e ∙ get_or-set_other ws (b / 64) (c / 64) x 0 other in
        ap (λ y. bit_at y (c % 64) == 1) kept ∙ ap (λ (z : Bool). cond z on (has_bit ws c)) (sym (other_test b c (λ h. other (ap (λ i. i / 64) (sym h)))))

pub or_true : (x : Bool) → true ≡ (x || true)
or_true true = refl
or_true false = refl

pub or_false : (x : Bool) → x ≡ (x || false)
or_false true = refl
or_false false = refl

-- ---- the numbers that have a row

eqb_same : (n : ℕ) → nat_eq n n ≡ true
eqb_same n = go (nat_eq n n) refl
  where
    go : (x : Bool) → nat_eq n n ≡ x → x ≡ true
    go true e = refl
    go false e = absurd (eqb-false n n e refl)

-- none of the numbers is below the first
none_before : (j k : ℕ) (rs : List (List ℕ)) → j < k → has_number j (numbers_from k rs) ≡ false
none_before j k [] l = refl
none_before j k ([] ∷ rs) l = none_before j (k + 1) rs (omega arith)
none_before j k ((w ∷ ws) ∷ rs) l = ap₂ (λ (x y : Bool). x || y) (other_test j k (λ e. omega arith)) (none_before j (k + 1) rs (omega arith))

number_from : (j k n : ℕ) (rs : List (List ℕ)) → j ≡ k + n → has_number j (numbers_from k rs) ≡ has_words (row_in rs n)
number_from j k n [] e = refl
number_from j k zero ([] ∷ rs) e = none_before j (k + 1) rs (omega arith)
number_from j k zero ((w ∷ ws) ∷ rs) e =
    let f : j ≡ k = omega arith in
    ap (λ (x : Bool). x || has_number j (numbers_from (k + 1) rs)) (ap (λ (i : ℕ). nat_eq i k) f ∙ eqb_same k)
number_from j k (suc n) ([] ∷ rs) e = number_from j (k + 1) n rs (omega arith)
number_from j k (suc n) ((w ∷ ws) ∷ rs) e =
    ap (λ (x : Bool). x || has_number j (numbers_from (k + 1) rs)) (other_test j k (λ f. omega arith)) ∙ number_from j (k + 1) n rs (omega arith)

pub number_if : (rs : List (List ℕ)) (n : ℕ) → has_number n (row_numbers rs) ≡ has_words (row_in rs n)
number_if rs n = number_from n 0 n rs (omega arith)

all_later : (j k : ℕ) (rs : List (List ℕ)) → j < k → AllByRecursion (λ i. nat_eq j i ≡ false) (numbers_from k rs)
all_later j k [] l = tt
all_later j k ([] ∷ rs) l = all_later j (k + 1) rs (omega arith)
all_later j k ((w ∷ ws) ∷ rs) l = (other_test j k (λ e. omega arith), all_later j (k + 1) rs (omega arith))

distinct_from : (k : ℕ) (rs : List (List ℕ)) → IsDistinct nat_eq (numbers_from k rs)
unfolding IsDistinct
distinct_from k [] = tt
distinct_from k ([] ∷ rs) = distinct_from (k + 1) rs
distinct_from k ((w ∷ ws) ∷ rs) = (all_later k (k + 1) rs (omega arith), distinct_from (k + 1) rs)

-- no number has two rows
pub distinct_rows : (rs : List (List ℕ)) → IsDistinct nat_eq (row_numbers rs)
distinct_rows rs = distinct_from 0 rs

same_from : (k : ℕ) (old new : List (List ℕ)) → ((n : ℕ) → has_words (row_in new n) ≡ has_words (row_in old n)) → numbers_from k new ≡ numbers_from k old
same_from k [] [] h = refl
same_from k [] (r ∷ new) h =
    ap₂ (λ (b : Bool) (ns : List ℕ). cond b (k ∷ []) [] ++ ns) (h 0) (same_from (k + 1) [] new (λ n. h (suc n)))
same_from k (r ∷ old) [] h =
    sym (ap₂ (λ (b : Bool) (ns : List ℕ). cond b (k ∷ []) [] ++ ns) (sym (h 0)) (sym (same_from (k + 1) old [] (λ n. h (suc n)))))
same_from k (r ∷ old) (s ∷ new) h =
    ap₂ (λ (b : Bool) (ns : List ℕ). cond b (k ∷ []) [] ++ ns) (h 0) (same_from (k + 1) old new (λ n. h (suc n)))

-- ---- a row is written

row_set : (rs : List (List ℕ)) (n q : ℕ) (r : List ℕ) → n < length rs → row_in (slice_set rs n r) q ≡ cond (n == q) r (row_in rs q)
row_set rs n q r l = go (n == q) refl
  where
    go : (b : Bool) → (n == q) ≡ b → row_in (slice_set rs n r) q ≡ cond b r (row_in rs q)
    go true e = get_or-set_at rs n q r [] (sym (eqb-true n q e)) l
    go false e = get_or-set_other rs n q r [] (λ f. eqb-false n q e (sym f))

no_words : (ws : List ℕ) → has_words ws ≡ false → ws ≡ []
no_words [] e = refl
no_words (w ∷ ws) e = absurd (true≢false e)

some_words : (w : ℕ) → 0 < w → has_words (zeros w) ≡ true
some_words zero l = absurd (omega arith)
some_words (suc w) l = refl

pub row_made : (n w : ℕ) (old mid new : List (List ℕ)) → 0 < w → has_words (row_in old n) ≡ false → SameRows old mid → n < length mid → new ≡ slice_set mid n (zeros w) → MakesRow n w old new
row_made n w old mid new some absent same room is = record {
  bits = λ q b. ap (λ ws. has_bit ws b) (its q) ∙ bits q b (n == q) refl;
  numbers = λ m. number_if new m ∙ ap has_words (its m) ∙ numbers m (n == m) ∙ ap (λ x. x || (n == m)) (sym (number_if old m));
  wide = λ h q l. ap length (its q) ∙ wide h q (n == q) (sym (ap has_words (its q)) ∙ l);
  there = ap has_words (its n) ∙ ap (λ (b : Bool). has_words (cond b (zeros w) (row_in old n))) (eqb_same n) ∙ some_words w some;
}
  where
    its : (q : ℕ) → row_in new q ≡ cond (n == q) (zeros w) (row_in old q)
    its q = ap (λ rs. row_in rs q) is ∙ row_set mid n q (zeros w) room ∙ ap (cond (n == q) (zeros w)) (same q)

    bits : (q b : ℕ) (x : Bool) → (n == q) ≡ x → has_bit (cond x (zeros w) (row_in old q)) b ≡ has_bit (row_in old q) b
    bits q b false e = refl
    bits q b true e =
        let none : row_in old q ≡ [] = ap (row_in old) (sym (eqb-true n q e)) ∙ no_words (row_in old n) absent in
        fresh_bit w b ∙ sym (ap (λ ws. has_bit ws b) none ∙ no_bit b)

    numbers : (m : ℕ) (x : Bool) → has_words (cond x (zeros w) (row_in old m)) ≡ (has_words (row_in old m) || x)
    numbers m true = some_words w some ∙ or_true (has_words (row_in old m))
    numbers m false = or_false (has_words (row_in old m))

    wide : AreWide w old → (q : ℕ) (x : Bool) → has_words (cond x (zeros w) (row_in old q)) ≡ true → length (cond x (zeros w) (row_in old q)) ≡ w
    wide h q true l = length_fresh w
    wide h q false l = h q l

-- ---- the row is there

pub row_there : (n w : ℕ) (old : List (List ℕ)) → has_words (row_in old n) ≡ true → MakesRow n w old old
row_there n w old h = record {
  bits = λ q b. refl;
  numbers = λ m. numbers m (n == m) refl;
  wide = λ k. k;
  there = h;
}
  where
    numbers : (m : ℕ) (x : Bool) → (n == m) ≡ x → has_number m (row_numbers old) ≡ (has_number m (row_numbers old) || x)
    numbers m false e = or_false (has_number m (row_numbers old))
    numbers m true e =
        let has : has_number m (row_numbers old) ≡ true = number_if old m ∙ subst (λ (j : ℕ). has_words (row_in old j) ≡ true) (eqb-true n m e) h in
        has ∙ or_true (has_number m (row_numbers old))

-- ---- a bit is set or cleared

longer_has : (i : ℕ) (ws : List ℕ) → i < length ws → has_words ws ≡ true
longer_has i [] l = absurd (omega arith)
longer_has i (w ∷ ws) l = refl

pub bit_put : (n b : ℕ) (on : Bool) (old new : List (List ℕ)) (ws : List ℕ) (x : ℕ) → n < length old → b / 64 < length (row_in old n)
    → ws ≡ slice_set (row_in old n) (b / 64) x → new ≡ slice_set old n ws
    → ((k : ℕ) → k < 64 → (bit_at x k == 1) ≡ cond (b % 64 == k) on (bit_at (get_or (row_in old n) (b / 64) 0) k == 1)) → PutsBit n b on old new
bit_put n b on old new ws x room l e is bits = record {
  bits = λ q c. ap (λ r. has_bit r c) (its q) ∙ at q c (n == q) refl;
  numbers = same_from 0 old new (λ q. ap has_words (its q) ∙ has q (n == q) refl);
  wide = λ w h q k. ap length (its q) ∙ len q (n == q) refl ∙ h q (sym (ap has_words (its q) ∙ has q (n == q) refl) ∙ k);
}
  where
    its : (q : ℕ) → row_in new q ≡ cond (n == q) ws (row_in old q)
    its q = ap (λ rs. row_in rs q) is ∙ row_set old n q ws room

    long : length ws ≡ length (row_in old n)
    long = ap length e ∙ length-set (row_in old n) (b / 64) x

    at : (q c : ℕ) (t : Bool) → (n == q) ≡ t → has_bit (cond t ws (row_in old q)) c ≡ cond (t && (b == c)) on (has_bit (row_in old q) c)
    at q c false t = refl
    at q c true t = words_put b c on (row_in old n) ws x l e bits ∙ ap (λ (j : ℕ). cond (b == c) on (has_bit (row_in old j) c)) (eqb-true n q t)

    has : (q : ℕ) (t : Bool) → (n == q) ≡ t → has_words (cond t ws (row_in old q)) ≡ has_words (row_in old q)
    has q false t = refl
    has q true t =
        longer_has (b / 64) ws (omega (arith, long)) ∙ sym (subst (λ (j : ℕ). has_words (row_in old j) ≡ true) (eqb-true n q t) (longer_has (b / 64) (row_in old n) l))

    len : (q : ℕ) (t : Bool) → (n == q) ≡ t → length (cond t ws (row_in old q)) ≡ length (row_in old q)
    len q false t = refl
    len q true t = long ∙ ap (λ (j : ℕ). length (row_in old j)) (eqb-true n q t)

-- ---- rows as memory has them

pub row_found : (vs : List (Vec ℕ Global)) (n : ℕ) (v : Vec ℕ Global) → n < length vs → v ≡ get_or vs n v → row_in (rows_of vs) n ≡ v.items
row_found [] n v l e = absurd (omega arith)
row_found (u ∷ vs) zero v l e = ap (λ (z : Vec ℕ Global). z.items) (sym e)
row_found (u ∷ vs) (suc n) v l e = row_found vs n v (omega arith) e

pub row_past : (rs : List (List ℕ)) (n : ℕ) → length rs ≤ n → row_in rs n ≡ []
row_past [] n l = refl
row_past (r ∷ rs) zero l = absurd (omega arith)
row_past (r ∷ rs) (suc n) l = row_past rs n (omega arith)

pub rows_more : (old new : List (List ℕ)) → ((n : ℕ) → row_in new n ≡ []) → SameRows old (old ++ new)
rows_more [] new h n = h n
rows_more (r ∷ old) new h zero = refl
rows_more (r ∷ old) new h (suc n) = rows_more old new h n

pub row_short : (vs : List (Vec ℕ Global)) (n : ℕ) → length (row_in (rows_of vs) n) < 9223372036854775808
row_short [] n = omega arith
row_short (v ∷ vs) zero = omega (arith, v.ok.0, v.ok.1, v.small)
row_short (v ∷ vs) (suc n) = row_short vs n

-- what was made empty is
pub each_empty : {F : Type 0} (step : F → Vec ℕ Global → F → Type 0) → ((f g : F) (v : Vec ℕ Global) → step f v g → v.items ≡ []) → (f g : F) (vs : List (Vec ℕ Global)) → FoldsTo step f vs g → (n : ℕ) → row_in (rows_of vs) n ≡ []
each_empty step h f g [] s n = refl
each_empty step h f g (v ∷ vs) s zero = h f s.0 v s.1
each_empty step h f g (v ∷ vs) s (suc n) = each_empty step h s.0 g vs s.2 n

-- rows come after those that were there
pub rows_added : (n : ℕ) (old new made : List (Vec ℕ Global)) → length old ≤ n → new ≡ take n old ++ made → ((k : ℕ) → row_in (rows_of made) k ≡ []) → SameRows (rows_of old) (rows_of new)
rows_added n old new made l e h k =
    ap (λ vs. row_in (rows_of vs) k) (e ∙ ap (λ vs. vs ++ made) (take_all n old l)) ∙ ap (λ rs. row_in rs k) (map-append vec_items old made)
    ∙ rows_more (rows_of old) (rows_of made) h k

-- a row as memory has it is written
pub rows_written : (vs : List (Vec ℕ Global)) (n : ℕ) (v : Vec ℕ Global) → rows_of (slice_set vs n v) ≡ slice_set (rows_of vs) n v.items
rows_written vs n v = map-set vec_items vs n v

pub rows_length : (vs : List (Vec ℕ Global)) → length (rows_of vs) ≡ length vs
rows_length vs = length-map vs vec_items
