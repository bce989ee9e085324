-- Verdicts in rows of bits, as the list of all of them has them.
use Rattle.std.proofs.Common.{◌≡◌, ℕ, zero, suc, ◌+◌, ◌*◌, ◌/◌, ◌<◌, ◌≤◌, ◌==◌, ◌&&◌, Bool, true, false, cond, List, [], ◌∷◌, ◌++◌, length, refl, sym, ◌∙◌, ap, ap₂, subst, arith, rules, ⊎_elim}
use Rattle.std.specs.Prelude.{Option, Some, None, ◌⊎◌, option_map}
use Rattle.std.specs.Cmp.{nat_eq_equiv}
use Rattle.std.proofs.lemmas.Bool.{eqb-true}
use Rattle.theory_definitions.specs.Instance.{Place, same_place}
use Rattle.schema_places.specs.Numbers.{OwnNumbers, number_of, place_at}
use Rattle.schema_places.proofs.Closing.{stands}
use Rattle.schema_run_context.specs.ProgressViews.{all_verdicts, node_verdicts, verdicts_from}
use Rattle.schema_run_context.specs.Progress.{Pairs, Verdicts, row_words}
use Rattle.schema_run_context.specs.Rows.{AreWide, PutsBit, has_bit, row_in, verdict_in}
use Rattle.schema_run_context.specs.Verdicts.{Remembers, is_pair, verdict_of}
use Rattle.schema_run_context.proofs.Entering.{few_places}
use Rattle.schema_run_context.proofs.Guarding.{has_row, one_number}
use Rattle.schema_run_context.proofs.Pairs.{place_equal, same_place-self}
use Rattle.schema_run_context.proofs.RowsChanged.{no_bit, other_test, same_tests}

-- what a row says of a place by its number
abbrev pub read : ℕ → List ℕ → Option ℕ → Option Bool
read w words None = None
read w words (Some k) = cond (has_bit words k) (Some (has_bit words (64 * w + k))) None

abbrev or_else : Option Bool → Option Bool → Option Bool
or_else (Some b) o = Some b
or_else None o = o

nothing_more : (o : Option Bool) → or_else o None ≡ o
nothing_more None = refl
nothing_more (Some b) = refl

verdict_of-append : (i : ℕ) (p : Place) (xs ys : Verdicts) → verdict_of i p (xs ++ ys) ≡ or_else (verdict_of i p xs) (verdict_of i p ys)
verdict_of-append i p [] ys = refl
verdict_of-append i p (x ∷ xs) ys = go (is_pair i p x.0) (verdict_of-append i p xs ys)
  where
    go : (b : Bool) → verdict_of i p (xs ++ ys) ≡ or_else (verdict_of i p xs) (verdict_of i p ys)
        → cond b (Some x.1) (verdict_of i p (xs ++ ys)) ≡ or_else (cond b (Some x.1) (verdict_of i p xs)) (verdict_of i p ys)
    go true rest = refl
    go false rest = rest

same_number : (i : ℕ) → (i == i) ≡ true
same_number i = search rules

same_swap : (p q : Place) → same_place p q ≡ same_place q p
same_swap p q = go (same_place p q) (same_place q p) refl refl
  where
    go : (a b : Bool) → same_place p q ≡ a → same_place q p ≡ b → a ≡ b
    go true true e f = refl
    go false false e f = refl
    go true false e f = sym (same_place-self q) ∙ ap (λ x. same_place q x) (sym (place_equal p q e)) ∙ f
    go false true e f = sym e ∙ ap (λ x. same_place p x) (place_equal q p f) ∙ same_place-self p

-- ---- places that are apart

-- no later place is the same
abbrev NoTwice : List Place → Type 0
NoTwice [] = Unit {0}
NoTwice (p ∷ ps) = (number_of p ps ≡ None) × NoTwice ps

-- no two numbers have one place
abbrev Apart : List Place → Type 0
Apart ps = (j k : ℕ) → j < length ps → k < length ps → place_at ps j ≡ place_at ps k → j ≡ k

no_twice : (ps : List Place) → Apart ps → NoTwice ps
no_twice [] a = tt
no_twice (p ∷ ps) a = (go (number_of p ps) refl, no_twice ps (λ m n l k e. let f : suc m ≡ suc n = a (suc m) (suc n) (omega arith) (omega arith) e in omega arith))
  where
    go : (o : Option ℕ) → number_of p ps ≡ o → o ≡ None
    go None e = refl
    go (Some k) e =
        let r = stands p ps k e in
        let f : 0 ≡ suc k = a 0 (suc k) (omega arith) (omega (arith, r.0)) (sym r.1) in
        absurd (omega arith)

own_once : (ps : List Place) → OwnNumbers ps → NoTwice ps
own_once ps a = no_twice ps (λ j k l m e. one_number ps j k a l m e)

-- ---- one node's verdicts

abbrev from : ℕ → Option ℕ → Option ℕ
from k o = option_map (λ j. k + j) o

from_next : (k : ℕ) (o : Option ℕ) → from (k + 1) o ≡ from k (option_map (λ n. n + 1) o)
from_next k None = refl
from_next k (Some j) = let f : k + 1 + j ≡ k + (j + 1) = omega arith in ap (λ (i : ℕ). Some i) f

from_start : (o : Option ℕ) → from 0 o ≡ o
from_start None = refl
from_start (Some j) = let f : 0 + j ≡ j = omega arith in ap (λ (i : ℕ). Some i) f

its_own : (i w : ℕ) (words : List ℕ) (k : ℕ) (ps : List Place) (q : Place) → NoTwice ps → verdict_of i q (node_verdicts i w words k ps) ≡ read w words (from k (number_of q ps))
its_own i w words k [] q a = refl
its_own i w words k (p ∷ ps) q a =
    verdict_of-append i q (cond (has_bit words k) (((i, p), has_bit words (64 * w + k)) ∷ []) []) (node_verdicts i w words (k + 1) ps)
    ∙ ap (or_else (verdict_of i q (cond (has_bit words k) (((i, p), has_bit words (64 * w + k)) ∷ []) []))) (its_own i w words (k + 1) ps q a.1)
    ∙ go (same_place q p) refl (has_bit words k) refl
  where
    test : (b : Bool) → same_place q p ≡ b → is_pair i q (i, p) ≡ b
    test b e = ap (λ (x : Bool). x && same_place p q) (same_number i) ∙ same_swap p q ∙ e

    go : (b : Bool) → same_place q p ≡ b → (h : Bool) → has_bit words k ≡ h
        → or_else (verdict_of i q (cond h (((i, p), has_bit words (64 * w + k)) ∷ []) [])) (read w words (from (k + 1) (number_of q ps))) ≡ read w words (from k (cond b (Some 0) (option_map (λ n. n + 1) (number_of q ps))))
    go true e h f =
        let none : number_of q ps ≡ None = ap (λ x. number_of x ps) (place_equal q p e) ∙ a.0 in
        let here : k ≡ k + 0 = omega arith in
        ap (λ (o : Option ℕ). or_else (verdict_of i q (cond h (((i, p), has_bit words (64 * w + k)) ∷ []) [])) (read w words (from (k + 1) o))) none
        ∙ nothing_more (verdict_of i q (cond h (((i, p), has_bit words (64 * w + k)) ∷ []) []))
        ∙ shown h ∙ ap (λ (x : Bool). cond x (Some (has_bit words (64 * w + k))) None) (sym f) ∙ ap (λ (j : ℕ). read w words (Some j)) here
      where
        shown : (x : Bool) → verdict_of i q (cond x (((i, p), has_bit words (64 * w + k)) ∷ []) []) ≡ cond x (Some (has_bit words (64 * w + k))) None
        shown true = ap (λ (b : Bool). cond b (Some (has_bit words (64 * w + k))) None) (test true e)
        shown false = refl
    go false e h f = ap (λ (o : Option Bool). or_else o (read w words (from (k + 1) (number_of q ps)))) (hidden h) ∙ ap (read w words) (from_next k (number_of q ps))
      where
        hidden : (x : Bool) → verdict_of i q (cond x (((i, p), has_bit words (64 * w + k)) ∷ []) []) ≡ None
        hidden true = ap (λ (b : Bool). cond b (Some (has_bit words (64 * w + k))) None) (test false e)
        hidden false = refl

another : (i j w : ℕ) (words : List ℕ) (k : ℕ) (ps : List Place) (q : Place) → (j == i) ≡ false → verdict_of i q (node_verdicts j w words k ps) ≡ None
another i j w words k [] q e = refl
another i j w words k (p ∷ ps) q e =
    verdict_of-append i q (cond (has_bit words k) (((j, p), has_bit words (64 * w + k)) ∷ []) []) (node_verdicts j w words (k + 1) ps)
    ∙ ap₂ or_else (hidden (has_bit words k)) (another i j w words (k + 1) ps q e)
  where
    hidden : (x : Bool) → verdict_of i q (cond x (((j, p), has_bit words (64 * w + k)) ∷ []) []) ≡ None
    hidden true = ap (λ (b : Bool). cond (b && same_place p q) (Some (has_bit words (64 * w + k))) None) e
    hidden false = refl

-- ---- all nodes' verdicts

read_nothing : (w : ℕ) (o : Option ℕ) → read w [] o ≡ None
read_nothing w None = refl
read_nothing w (Some k) = ap (λ (b : Bool). cond b (Some (has_bit [] (64 * w + k))) None) (no_bit k)

-- none is of a number before the first
none_of_before : (i k : ℕ) (ps : List Place) (q : Place) (rs : List (List ℕ)) → i < k → verdict_of i q (verdicts_from k ps rs) ≡ None
none_of_before i k ps q [] l = refl
none_of_before i k ps q (r ∷ rs) l =
    verdict_of-append i q (node_verdicts k (row_words (length ps)) r 0 ps) (verdicts_from (k + 1) ps rs)
    ∙ ap₂ or_else (another i k (row_words (length ps)) r 0 ps q (other_test k i (λ e. omega arith))) (none_of_before i (k + 1) ps q rs (omega arith))

found_from : (i k n : ℕ) (ps : List Place) (q : Place) (rs : List (List ℕ)) → i ≡ k + n → NoTwice ps
    → verdict_of i q (verdicts_from k ps rs) ≡ read (row_words (length ps)) (row_in rs n) (number_of q ps)
found_from i k n ps q [] e a = sym (read_nothing (row_words (length ps)) (number_of q ps))
found_from i k zero ps q (r ∷ rs) e a =
    let same : i ≡ k = omega arith in
    let own : verdict_of i q (node_verdicts k (row_words (length ps)) r 0 ps) ≡ read (row_words (length ps)) r (number_of q ps)
    = subst (λ (j : ℕ). verdict_of i q (node_verdicts j (row_words (length ps)) r 0 ps) ≡ read (row_words (length ps)) r (number_of q ps)) same
    (its_own i (row_words (length ps)) r 0 ps q a ∙ ap (read (row_words (length ps)) r) (from_start (number_of q ps))) in
    verdict_of-append i q (node_verdicts k (row_words (length ps)) r 0 ps) (verdicts_from (k + 1) ps rs)
    ∙ ap₂ or_else own (none_of_before i (k + 1) ps q rs (omega arith)) ∙ nothing_more (read (row_words (length ps)) r (number_of q ps))
found_from i k (suc n) ps q (r ∷ rs) e a =
    verdict_of-append i q (node_verdicts k (row_words (length ps)) r 0 ps) (verdicts_from (k + 1) ps rs)
    ∙ ap₂ or_else (another i k (row_words (length ps)) r 0 ps q (other_test k i (λ f. omega arith))) (found_from i (k + 1) n ps q rs (omega arith) a)

found_in_rows : (i : ℕ) (ps : List Place) (q : Place) (rs : List (List ℕ)) → NoTwice ps
    → verdict_of i q (all_verdicts ps rs) ≡ read (row_words (length ps)) (row_in rs i) (number_of q ps)
found_in_rows i ps q rs a = found_from i 0 i ps q rs (omega arith) a

-- the verdict that is remembered of a place
pub verdict_at : (i k : ℕ) (ps : List Place) (known : List (List ℕ)) → OwnNumbers ps → k < length ps
    → verdict_of i (place_at ps k) (all_verdicts ps known) ≡ cond (has_bit (row_in known i) k) (Some (has_bit (row_in known i) (64 * row_words (length ps) + k))) None
verdict_at i k ps known a l = found_in_rows i ps (place_at ps k) known (own_once ps a) ∙ ap (read (row_words (length ps)) (row_in known i)) (a k l)

-- it is what its node's row says
pub read_at : (i k : ℕ) (ps : List Place) (es : Pairs) (known : List (List ℕ)) → OwnNumbers ps ⊎ ((es ≡ []) × (known ≡ []))
    → AreWide (2 * row_words (length ps)) known → k < length ps → verdict_in (row_in known i) k ≡ verdict_of i (place_at ps k) (all_verdicts ps known)
read_at i k ps es known n wide l =
    ⊎_elim (λ (a : OwnNumbers ps). by (has_bit (row_in known i) k) refl ∙ sym (verdict_at i k ps known a l)) (λ (r : (es ≡ []) × (known ≡ [])). nothing r.1) n
  where
    by : (b : Bool) → has_bit (row_in known i) k ≡ b
        → cond b (Some (has_bit (row_in known i) (64 * (length (row_in known i) / 2) + k))) None ≡ cond b (Some (has_bit (row_in known i) (64 * row_words (length ps) + k))) None
    by false e = refl
    by true e =
        let size = wide i (has_row known i k e) in
        let half : 64 * (length (row_in known i) / 2) + k ≡ 64 * row_words (length ps) + k = omega (arith, size) in
        ap (λ (j : ℕ). Some (has_bit (row_in known i) j)) half

    nothing : known ≡ [] → verdict_in (row_in known i) k ≡ verdict_of i (place_at ps k) (all_verdicts ps known)
    nothing e =
        ap (λ (xs : List (List ℕ)). verdict_in (row_in xs i) k) e
        ∙ ap (λ (b : Bool). cond b (Some (has_bit [] (64 * (length {A = ℕ} [] / 2) + k))) None) (no_bit k)
        ∙ sym (ap (λ (xs : List (List ℕ)). verdict_of i (place_at ps k) (all_verdicts ps xs)) e)

-- one is remembered
pub remembered : (n k : ℕ) (v : Bool) (ps : List Place) (old mid two new : List (List ℕ)) → OwnNumbers ps → k < length ps
    → ((q b : ℕ) → has_bit (row_in mid q) b ≡ has_bit (row_in old q) b) → PutsBit n k true mid two → PutsBit n (64 * row_words (length ps) + k) v two new
    → Remembers n (place_at ps k) v (all_verdicts ps old) (all_verdicts ps new)
remembered n k v ps old mid two new a l same first second = record {
  its = verdict_at n k ps new a l ∙ ap₂ (λ (x y : Bool). cond x (Some y) None) known its;
  others = λ j q apart. found_in_rows j ps q new (own_once ps a) ∙ go j q apart (number_of q ps) refl ∙ sym (found_in_rows j ps q old (own_once ps a));
}
  where
    far : length ps ≤ 64 * row_words (length ps)
    far = few_places (row_words (length ps)) (length ps) refl

    bit : (q c : ℕ) → has_bit (row_in new q) c ≡ cond ((n == q) && (64 * row_words (length ps) + k == c)) v (cond ((n == q) && (k == c)) true (has_bit (row_in old q) c))
    bit q c = second.bits q c ∙ ap (cond ((n == q) && (64 * row_words (length ps) + k == c)) v) (first.bits q c ∙ ap (cond ((n == q) && (k == c)) true) (same q c))

    drop : (x y : Bool) → y ≡ false → (x && y) ≡ false
    drop true y e = e
    drop false y e = refl

    known : has_bit (row_in new n) k ≡ true
    known =
        bit n k ∙ ap₂ (λ (x y : Bool). cond x v (cond y true (has_bit (row_in old n) k))) (drop (n == n) (64 * row_words (length ps) + k == k) (other_test (64 * row_words (length ps) + k) k (λ e. omega arith)))
        (ap₂ (λ (x y : Bool). x && y) (same_number n) (same_number k))

    its : has_bit (row_in new n) (64 * row_words (length ps) + k) ≡ v
    its = bit n (64 * row_words (length ps) + k) ∙ ap (λ (x : Bool). cond x v (cond ((n == n) && (k == 64 * row_words (length ps) + k)) true (has_bit (row_in old n) (64 * row_words (length ps) + k)))) (ap₂ (λ (x y : Bool). x && y) (same_number n) (same_number (64 * row_words (length ps) + k)))

    kept : (j c : ℕ) → ((n == j) && (64 * row_words (length ps) + k == c)) ≡ false → ((n == j) && (k == c)) ≡ false → has_bit (row_in new j) c ≡ has_bit (row_in old j) c
    kept j c e f = bit j c ∙ ap₂ (λ (x y : Bool). cond x v (cond y true (has_bit (row_in old j) c))) e f

    elsewhere : (j m : ℕ) (q : Place) → is_pair n (place_at ps k) (j, q) ≡ false → place_at ps m ≡ q → (x : Bool) → (n == j) ≡ x → (y : Bool) → (k == m) ≡ y → (x && y) ≡ false
    elsewhere j m q apart at true e true f =
        let one : (j == n) ≡ true = nat_eq_equiv.symm j n ∙ e in
        let two : same_place q (place_at ps k) ≡ true = ap₂ same_place (sym at) (ap (place_at ps) (eqb-true k m f)) ∙ same_place-self (place_at ps m) in
        sym (ap₂ (λ (a b : Bool). a && b) one two) ∙ apart
    elsewhere j m q apart at true e false f = refl
    elsewhere j m q apart at false e y f = refl

    go : (j : ℕ) (q : Place) → is_pair n (place_at ps k) (j, q) ≡ false → (o : Option ℕ) → number_of q ps ≡ o → read (row_words (length ps)) (row_in new j) o ≡ read (row_words (length ps)) (row_in old j) o
    go j q apart None e = refl
    go j q apart (Some m) e =
        let r = stands q ps m e in
        let away = elsewhere j m q apart r.1 (n == j) refl (k == m) refl in
        let high : ((n == j) && (64 * row_words (length ps) + k == 64 * row_words (length ps) + m)) ≡ false = ap (λ (x : Bool). (n == j) && x) (same_tests (64 * row_words (length ps) + k) (64 * row_words (length ps) + m) k m (λ h. omega arith) (λ h. omega arith)) ∙ away in
        ap₂ (λ (x y : Bool). cond x (Some y) None)
        (kept j m (drop (n == j) (64 * row_words (length ps) + k == m) (other_test (64 * row_words (length ps) + k) m (λ h. omega (arith, r.0)))) away)
        (kept j (64 * row_words (length ps) + m) high (drop (n == j) (k == 64 * row_words (length ps) + m) (other_test k (64 * row_words (length ps) + m) (λ h. omega (arith, l, far)))))
