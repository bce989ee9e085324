-- Sorted texts: one more at its place keeps them sorted, and two sorted lists of the same texts are
-- equal.
use Rattle.std.proofs.Common.{◌≡◌, ◌∙◌, ◌&&◌, ◌||◌, List, [], ◌∷◌, Bool, true, false, refl, ap, ap₂, sym, subst, true≢false}
use Rattle.std.specs.Prelude.{bytes_eq}
use Rattle.std.specs.List.{list_all, list_any}
use Rattle.std.specs.Cmp.Lexicographic.{slice_cmp}
use Rattle.std.specs.Ordering.{is_lt, nat_cmp, ordering_reverse}
use Rattle.std.specs.declared.cmp.Ordering.{Ordering}
use Rattle.std.specs.declared.cmp.Ordering.TheVariants.{Less, Equal, Greater}
use Rattle.std.proofs.lemmas.Cmp.{nat_list_cmp_total}
use Rattle.std.proofs.lemmas.Slice.Eq.{bytes_eq-Decides}
use Rattle.theory_definitions.specs.Instance.{Text}
use Rattle.theory_definitions.specs.VocabularySets.{is_before, is_rising, placed_by, placed_text}
use Rattle.theory_definitions.proofs.Products.{both_left, both_right}

both : (a b : Bool) → a ≡ true → b ≡ true → (a && b) ≡ true
both a b e f = rw (e, f) refl

less_is : (o : Ordering) → is_lt o ≡ true → o ≡ Less
less_is Less e = refl
less_is Equal e = absurd (true≢false (sym e))
less_is Greater e = absurd (true≢false (sym e))

before_trans : (a b d : Text) → is_before a b ≡ true → is_before b d ≡ true → is_before a d ≡ true
before_trans a b d e f = ap is_lt (nat_list_cmp_total.trans a b d (less_is (slice_cmp nat_cmp a b) e) (less_is (slice_cmp nat_cmp b d) f))

after_before : (a b : Text) → slice_cmp nat_cmp a b ≡ Greater → is_before b a ≡ true
after_before a b e = ap is_lt (nat_list_cmp_total.antisymm b a ∙ ap ordering_reverse e)

not_itself : (a : Text) → is_before a a ≡ true → ⊥
not_itself a e = go (slice_cmp nat_cmp a a) (less_is (slice_cmp nat_cmp a a) e) (nat_list_cmp_total.antisymm a a)
  where
    go : (o : Ordering) → o ≡ Less → o ≡ ordering_reverse o → ⊥
    go Less is turned = let f : ⊥ = cc in f
    go Equal is turned = let f : ⊥ = cc in f
    go Greater is turned = let f : ⊥ = cc in f

-- ---- one more at its place

all_before : (a b : Text) (rest : List Text) → is_before a b ≡ true → list_all (is_before b) rest ≡ true → list_all (is_before a) rest ≡ true
all_before a b [] e h = refl
all_before a b (first ∷ rest) e h =
    both (is_before a first) (list_all (is_before a) rest)
    (before_trans a b first e (both_left (is_before b first) (list_all (is_before b) rest) h))
    (all_before a b rest e (both_right (is_before b first) (list_all (is_before b) rest) h))

placed_after : (a text : Text) (rest : List Text) → is_before a text ≡ true → list_all (is_before a) rest ≡ true → list_all (is_before a) (placed_text text rest) ≡ true
placed_after a text [] e h = both (is_before a text) true e refl
placed_after a text (first ∷ rest) e h = go (slice_cmp nat_cmp text first) (placed_after a text rest e (both_right (is_before a first) (list_all (is_before a) rest) h))
  where
    go : (o : Ordering) → list_all (is_before a) (placed_text text rest) ≡ true → list_all (is_before a) (placed_by o text first rest (placed_text text rest)) ≡ true
    go Less below = both (is_before a text) (list_all (is_before a) (first ∷ rest)) e h
    go Equal below = h
    go Greater below = both (is_before a first) (list_all (is_before a) (placed_text text rest)) (both_left (is_before a first) (list_all (is_before a) rest) h) below

pub placed_rises : (text : Text) (texts : List Text) → is_rising texts ≡ true → is_rising (placed_text text texts) ≡ true
placed_rises text [] h = refl
placed_rises text (first ∷ rest) h =
    let after = both_left (list_all (is_before first) rest) (is_rising rest) h in
    let rises = both_right (list_all (is_before first) rest) (is_rising rest) h in
    go (slice_cmp nat_cmp text first) refl after (placed_rises text rest rises)
  where
    go : (o : Ordering) → slice_cmp nat_cmp text first ≡ o → list_all (is_before first) rest ≡ true → is_rising (placed_text text rest) ≡ true → is_rising (placed_by o text first rest (placed_text text rest)) ≡ true
    go Less is after below =
        let e : is_before text first ≡ true = ap is_lt is in
        both (list_all (is_before text) (first ∷ rest)) (is_rising (first ∷ rest)) (both (is_before text first) (list_all (is_before text) rest) e (all_before text first rest e after)) h
    go Equal is after below = h
    go Greater is after below = both (list_all (is_before first) (placed_text text rest)) (is_rising (placed_text text rest)) (placed_after first text rest (after_before text first is) after) below

-- ---- two sorted lists of the same texts are equal

holds_all : (p : Text → Bool) (texts : List Text) (t : Text) → list_all p texts ≡ true → list_any (bytes_eq t) texts ≡ true → p t ≡ true
holds_all p [] t h k = absurd (true≢false (sym k))
holds_all p (first ∷ rest) t h k = go (bytes_eq t first) refl (holds_all p rest t (both_right (p first) (list_all p rest) h))
  where
    go : (b : Bool) → bytes_eq t first ≡ b → (list_any (bytes_eq t) rest ≡ true → p t ≡ true) → p t ≡ true
    go true is below = subst (λ (x : Text). p x ≡ true) (sym ((bytes_eq-Decides t first).0 is)) (both_left (p first) (list_all p rest) h)
    go false is below = below (sym (ap (λ (x : Bool). x || list_any (bytes_eq t) rest) is) ∙ k)

itself : (a : Text) → bytes_eq a a ≡ true
itself a = (bytes_eq-Decides a a).1 refl

first_in : (first : Text) (rest : List Text) → list_any (bytes_eq first) (first ∷ rest) ≡ true
first_in first rest = rw (itself first) refl

one_test : (r s : Bool) → (r ≡ true → s ≡ true) → (s ≡ true → r ≡ true) → r ≡ s
one_test true s f g = sym (f refl)
one_test false true f g = g refl
one_test false false f g = refl

-- The first text comes before the rest, so a text of the rest differs from it.
not_first : (first : Text) (rest : List Text) (t : Text) → list_all (is_before first) rest ≡ true → list_any (bytes_eq t) rest ≡ true → bytes_eq t first ≡ true → ⊥
not_first first rest t after k same =
    let e : t ≡ first = (bytes_eq-Decides t first).0 same in
    not_itself first (subst (λ (x : Text). is_before first x ≡ true) e (holds_all (is_before first) rest t after k))

module _ (us vs : List Text) (first : Text) (after : list_all (is_before first) us ≡ true) (after' : list_all (is_before first) vs ≡ true) where
  in_rest : (xs ys : List Text) → list_all (is_before first) xs ≡ true → (t : Text) → list_any (bytes_eq t) (first ∷ xs) ≡ list_any (bytes_eq t) (first ∷ ys) → list_any (bytes_eq t) xs ≡ true → list_any (bytes_eq t) ys ≡ true
  in_rest xs ys before t same k = go (bytes_eq t first) refl same
    where
      go : (b : Bool) → bytes_eq t first ≡ b → (b || list_any (bytes_eq t) xs) ≡ (b || list_any (bytes_eq t) ys) → list_any (bytes_eq t) ys ≡ true
      go true is e = absurd (not_first first xs t before k is)
      go false is e = sym e ∙ k

  rest_same : ((t : Text) → list_any (bytes_eq t) (first ∷ us) ≡ list_any (bytes_eq t) (first ∷ vs)) → (t : Text) → list_any (bytes_eq t) us ≡ list_any (bytes_eq t) vs
  rest_same h t = one_test (list_any (bytes_eq t) us) (list_any (bytes_eq t) vs) (in_rest us vs after t (h t)) (in_rest vs us after' t (sym (h t)))

other_in : (a b : Text) (rest : List Text) → bytes_eq a b ≡ false → list_any (bytes_eq a) (b ∷ rest) ≡ true → list_any (bytes_eq a) rest ≡ true
other_in a b rest e k = sym (ap (λ (x : Bool). x || list_any (bytes_eq a) rest) e) ∙ k

turned : (a b : Text) → bytes_eq a b ≡ false → bytes_eq b a ≡ false
turned a b e = go (bytes_eq b a) refl
  where
    go : (x : Bool) → bytes_eq b a ≡ x → x ≡ false
    go true is = let same : a ≡ b = sym ((bytes_eq-Decides b a).0 is) in absurd (true≢false (sym ((bytes_eq-Decides a b).1 same) ∙ e))
    go false is = refl

pub rising_one : (us vs : List Text) → is_rising us ≡ true → is_rising vs ≡ true → ((t : Text) → list_any (bytes_eq t) us ≡ list_any (bytes_eq t) vs) → us ≡ vs
rising_one [] [] r s h = refl
rising_one [] (v ∷ vs) r s h = absurd (true≢false (sym (h v ∙ first_in v vs)))
rising_one (u ∷ us) [] r s h = absurd (true≢false (sym (sym (h u) ∙ first_in u us)))
rising_one (u ∷ us) (v ∷ vs) r s h =
    let after = both_left (list_all (is_before u) us) (is_rising us) r in
    let after' = both_left (list_all (is_before v) vs) (is_rising vs) s in
    go after after' (bytes_eq u v) refl (λ k. rising_one us vs (both_right (list_all (is_before u) us) (is_rising us) r) (both_right (list_all (is_before v) vs) (is_rising vs) s) k)
  where
    go : list_all (is_before u) us ≡ true → list_all (is_before v) vs ≡ true → (b : Bool) → bytes_eq u v ≡ b
        → (((t : Text) → list_any (bytes_eq t) us ≡ list_any (bytes_eq t) vs) → us ≡ vs) → (u ∷ us) ≡ (v ∷ vs)
    go after after' true is below =
        let e : u ≡ v = (bytes_eq-Decides u v).0 is in
        let first' : list_all (is_before u) vs ≡ true = subst (λ (x : Text). list_all (is_before x) vs ≡ true) (sym e) after' in
        let same : (t : Text) → list_any (bytes_eq t) (u ∷ us) ≡ list_any (bytes_eq t) (u ∷ vs) = λ t. h t ∙ ap (λ (x : Text). list_any (bytes_eq t) (x ∷ vs)) (sym e) in
        ap₂ (λ x xs. x ∷ xs) e (below (rest_same us vs u after first' same))
    go after after' false is below =
        let u_in : list_any (bytes_eq u) vs ≡ true = other_in u v vs is (sym (h u) ∙ first_in u us) in
        let v_in : list_any (bytes_eq v) us ≡ true = other_in v u us (turned u v is) (h v ∙ first_in v vs) in
        absurd (not_itself u (before_trans u v u (holds_all (is_before u) us v after v_in) (holds_all (is_before v) vs u after' u_in)))
