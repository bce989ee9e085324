-- The measure decreases with each question.
use Rattle.std.proofs.Common.{◌≡◌, ℕ, zero, suc, ◌+◌, ◌*◌, ◌<◌, ◌≤◌, ◌==◌, max, Bool, true, false, cond, List, [], ◌∷◌, ◌++◌, refl, sym, subst, ◌∙◌, ap, arith, rules, true≢false, inl, inr, ⊎_elim}
use Rattle.std.specs.Prelude.{◌||◌, ◌⊎◌, Option, Some, None, option_and_then, unwrap_or, is_some, bytes_eq}
use Rattle.std.specs.List.{list_any}
use Rattle.std.proofs.Math.Nat.{mul-le-mul_left}
use Rattle.serde_json.specs.Data.{Data, null, boolean, number, string, array, object, Items, no_items, item, Members, no_members, member, depth, items_depth, members_depth}
use Rattle.theory_definitions.specs.Instance.{Text, Place, Step, to_member, to_item, to_name, Subject, a_value, a_name, member_of, item_of, after_step, subject_from, subject_at}
use Rattle.theory_definitions.specs.Laws.{IsPresent}
use Rattle.theory_definitions.specs.Guarded.{Nodes}
use Rattle.theory_meaning.specs.Numbered.{free, subject_height, highest, left, subject_in}

some_is : {A : Type 0} (x y : A) → Some x ≡ Some y → x ≡ y
some_is x y e = cc

member_depth : (k : Text) (ms : Members) (d : Data) → member_of k ms ≡ Some d → depth d ≤ members_depth ms
member_depth k no_members d h = absurd (let f : ⊥ = cc in f)
member_depth k (member l e ms) d h = go (bytes_eq k l) (member_depth k ms d) h
  where
    go : (b : Bool) → (member_of k ms ≡ Some d → depth d ≤ members_depth ms) → cond b (Some e) (member_of k ms) ≡ Some d → depth d ≤ max (depth e) (members_depth ms)
    go true f q = let r : depth e ≡ depth d = ap depth (some_is e d q) in omega arith
    go false f q = let r = f q in omega arith

item_depth : (i : ℕ) (ds : Items) (d : Data) → item_of i ds ≡ Some d → depth d ≤ items_depth ds
item_depth i no_items d h = absurd (let f : ⊥ = cc in f)
item_depth zero (item e ds) d h = let r : depth e ≡ depth d = ap depth (some_is e d h) in omega arith
item_depth (suc i) (item e ds) d h = let r = item_depth i ds d h in omega arith

value_falls : (o : Option Data) (n : ℕ) (y : Subject) → ((d : Data) → o ≡ Some d → depth d < n) → option_and_then (λ d. Some (a_value d)) o ≡ Some y → subject_height y < suc n
value_falls None n y f h = absurd (let f : ⊥ = cc in f)
value_falls (Some d) n y f h = let r = f d refl in let u : suc (depth d) ≡ subject_height y = ap subject_height (some_is (a_value d) y h) in omega arith

name_falls : (k : Text) (o : Option Data) (n : ℕ) (y : Subject) → option_and_then (λ d. Some (a_name k)) o ≡ Some y → subject_height y < suc n
name_falls k None n y h = absurd (let f : ⊥ = cc in f)
name_falls k (Some d) n y h = let u : 0 ≡ subject_height y = ap subject_height (some_is (a_name k) y h) in omega arith

none_is : {A P : Type 0} (y : A) → ◌≡◌ {A = Option A} None (Some y) → P
none_is y h = absurd (let f : ⊥ = cc in f)

-- A step leads to a lower subject.
pub step_falls : (s : Step) (x y : Subject) → after_step s x ≡ Some y → subject_height y < subject_height x
step_falls (to_member k) (a_value (object ms)) y h = value_falls (member_of k ms) _ y (λ d e. let r = member_depth k ms d e in omega arith) h
step_falls (to_name k) (a_value (object ms)) y h = name_falls k (member_of k ms) _ y h
step_falls (to_item n) (a_value (array ds)) y h = value_falls (item_of n ds) _ y (λ d e. let r = item_depth n ds d e in omega arith) h
step_falls (to_member k) (a_name j) y h = none_is y h
step_falls (to_name k) (a_name j) y h = none_is y h
step_falls (to_item n) (a_name j) y h = none_is y h
step_falls (to_member k) (a_value null) y h = none_is y h
step_falls (to_member k) (a_value (boolean b)) y h = none_is y h
step_falls (to_member k) (a_value (number b)) y h = none_is y h
step_falls (to_member k) (a_value (string b)) y h = none_is y h
step_falls (to_member k) (a_value (array b)) y h = none_is y h
step_falls (to_name k) (a_value null) y h = none_is y h
step_falls (to_name k) (a_value (boolean b)) y h = none_is y h
step_falls (to_name k) (a_value (number b)) y h = none_is y h
step_falls (to_name k) (a_value (string b)) y h = none_is y h
step_falls (to_name k) (a_value (array b)) y h = none_is y h
step_falls (to_item n) (a_value null) y h = none_is y h
step_falls (to_item n) (a_value (boolean b)) y h = none_is y h
step_falls (to_item n) (a_value (number b)) y h = none_is y h
step_falls (to_item n) (a_value (string b)) y h = none_is y h
step_falls (to_item n) (a_value (object b)) y h = none_is y h

none_after : (p : Place) (x y : Subject) → subject_from p x ≡ Some y → subject_height y ≤ subject_height x
none_after [] x y h = let e : subject_height x ≡ subject_height y = ap subject_height (some_is x y h) in omega arith
none_after (s ∷ p) x y h = go (after_step s x) (λ z e. step_falls s x z e) (λ z k. none_after p z y k) h
  where
    go : (o : Option Subject) → ((z : Subject) → o ≡ Some z → subject_height z < subject_height x) → ((z : Subject) → subject_from p z ≡ Some y → subject_height y ≤ subject_height z)
        → option_and_then (subject_from p) o ≡ Some y → subject_height y ≤ subject_height x
    go None f g k = none_is y k
    go (Some z) f g k = let a = f z refl in let b = g z k in omega arith

-- A path below leads to a lower subject.
pub path_falls : (s : Step) (p : Place) (x y : Subject) → subject_from (s ∷ p) x ≡ Some y → subject_height y < subject_height x
path_falls s p x y h = go (after_step s x) (λ z e. step_falls s x z e) h
  where
    go : (o : Option Subject) → ((z : Subject) → o ≡ Some z → subject_height z < subject_height x) → option_and_then (subject_from p) o ≡ Some y → subject_height y < subject_height x
    go None f k = none_is y k
    go (Some z) f k = let a = f z refl in let b = none_after p z y k in omega arith

pub from_below : (p : Place) (s : Step) (x : Subject) → subject_from (p ++ s ∷ []) x ≡ option_and_then (after_step s) (subject_from p x)
from_below [] s x = go (after_step s x)
  where
    go : (o : Option Subject) → option_and_then (subject_from []) o ≡ o
    go None = refl
    go (Some y) = refl
from_below (t ∷ p) s x = go (after_step t x) (from_below p s)
  where
    go : (o : Option Subject) → ((y : Subject) → subject_from (p ++ s ∷ []) y ≡ option_and_then (after_step s) (subject_from p y))
        → option_and_then (subject_from (p ++ s ∷ [])) o ≡ option_and_then (after_step s) (option_and_then (subject_from p) o)
    go None f = refl
    go (Some y) f = f y

none_below : (s : Step) → after_step s (a_value null) ≡ None
none_below (to_member k) = refl
none_below (to_item n) = refl
none_below (to_name k) = refl

-- One step below a place is a lower subject.
pub below_falls : (instance : Data) (p : Place) (s : Step) → IsPresent (subject_in instance p) (s ∷ [])
    → subject_height (subject_in instance (p ++ s ∷ [])) < subject_height (subject_in instance p)
below_falls instance p s h = subst (λ o. subject_height (unwrap_or o (a_value null)) < subject_height (subject_in instance p)) (sym (from_below p s (a_value instance))) (go (subject_at instance p) h)
  where
    present : (o : Option Subject) → is_some (option_and_then (subject_from []) o) ≡ true → (y : Subject) × (o ≡ Some y)
    present None e = absurd (let f : ⊥ = cc in f)
    present (Some y) e = (y, refl)

    go : (o : Option Subject) → IsPresent (unwrap_or o (a_value null)) (s ∷ []) → subject_height (unwrap_or (option_and_then (after_step s) o) (a_value null)) < subject_height (unwrap_or o (a_value null))
    go None e = let y = present (after_step s (a_value null)) e in none_is y.0 (sym (none_below s) ∙ y.1)
    go (Some x) e = let y = present (after_step s x) e in subst (λ o. subject_height (unwrap_or o (a_value null)) < subject_height x) (sym y.1) (step_falls s x y.0 y.1)

-- ---- three numbers, the first with the greatest weight

lower_digit : (a b m r s : ℕ) → a < b → r ≤ m → a * (m + 1) + r < b * (m + 1) + s
lower_digit a b m r s h k =
    let e : (m + 1) * suc a ≤ (m + 1) * b = mul-le-mul_left (m + 1) h in omega arith

among : ℕ → List ℕ → Bool
among n busy = list_any (λ i. i == n) busy

free_step : (b : Bool) (x n : ℕ) → x ≤ n → cond b x (suc x) ≤ suc n
free_step true x n h = omega arith
free_step false x n h = omega arith

pub free_bound : (n : ℕ) (busy : List ℕ) → free n busy ≤ n
free_bound zero busy = omega arith
free_bound (suc n) busy = free_step (list_any (λ i. i == n) busy) _ n (free_bound n busy)

or_later : (a b : Bool) → b ≡ true → (a || b) ≡ true
or_later true b h = refl
or_later false b h = h

same_number : (n : ℕ) → (n == n) ≡ true
same_number n = search rules

free_step_le : (a b : Bool) (x y : ℕ) → (a ≡ true → b ≡ true) → x ≤ y → cond b x (suc x) ≤ cond a y (suc y)
free_step_le true true x y f h = h
free_step_le true false x y f h = absurd (true≢false (sym (f refl)))
free_step_le false true x y f h = omega arith
free_step_le false false x y f h = omega arith

free_step_lt : (a b : Bool) (x y : ℕ) → (a ≡ true → b ≡ true) → x < y → cond b x (suc x) < cond a y (suc y)
free_step_lt true true x y f h = h
free_step_lt true false x y f h = absurd (true≢false (sym (f refl)))
free_step_lt false true x y f h = omega arith
free_step_lt false false x y f h = omega arith

free_entered_le : (n j : ℕ) (busy : List ℕ) → free n (j ∷ busy) ≤ free n busy
free_entered_le zero j busy = omega arith
free_entered_le (suc n) j busy = free_step_le (list_any (λ i. i == n) busy) (list_any (λ i. i == n) (j ∷ busy)) _ _ (or_later (j == n) _) (free_entered_le n j busy)

free_step_new : (a b : Bool) (x y : ℕ) → a ≡ false → b ≡ true → x ≤ y → cond b x (suc x) < cond a y (suc y)
free_step_new true b x y e f h = absurd (true≢false e)
free_step_new false true x y e f h = omega arith
free_step_new false false x y e f h = absurd (true≢false (sym f))

lt_or_eq : (n k : ℕ) → n < suc k → (n ≡ k) ⊎ (n < k)
lt_or_eq zero zero h = inl refl
lt_or_eq zero (suc k) h = inr (omega arith)
lt_or_eq (suc n) zero h = absurd (omega arith)
lt_or_eq (suc n) (suc k) h = ⊎_elim (λ e. inl (ap suc e)) (λ e. inr (omega arith)) (lt_or_eq n k (omega arith))

or_first : (a b : Bool) → a ≡ true → (a || b) ≡ true
or_first true b h = refl
or_first false b h = absurd (true≢false (sym h))

-- A number that is entered is no longer free.
free_entered : (n j : ℕ) (busy : List ℕ) → j < n → list_any (λ i. i == j) busy ≡ false → free n (j ∷ busy) < free n busy
free_entered zero j busy h e = absurd (omega arith)
free_entered (suc n) j busy h e = go (free_entered n j busy) (lt_or_eq j n h)
  where
    go : (j < n → list_any (λ i. i == j) busy ≡ false → free n (j ∷ busy) < free n busy) → (j ≡ n) ⊎ (j < n) → free (suc n) (j ∷ busy) < free (suc n) busy
    go f (inl q) = free_step_new (list_any (λ i. i == n) busy) (list_any (λ i. i == n) (j ∷ busy)) _ _ (ap (λ m. list_any (λ i. i == m) busy) (sym q) ∙ e) (or_first (j == n) _ (ap (λ m. j == m) (sym q) ∙ same_number j)) (free_entered_le n j busy)
    go f (inr q) = free_step_lt (list_any (λ i. i == n) busy) (list_any (λ i. i == n) (j ∷ busy)) _ _ (or_later (j == n) _) (f q e)

module _ {K : Type 0} (nodes : Nodes K) (count : ℕ) where
  rank_bound : (n i : ℕ) → i < n → nodes.rank i ≤ highest nodes count n
  rank_bound zero i h = absurd (omega arith)
  rank_bound (suc n) i h = go (rank_bound n i) (lt_or_eq i n h)
    where
      go : (i < n → nodes.rank i ≤ highest nodes count n) → (i ≡ n) ⊎ (i < n) → nodes.rank i ≤ max (nodes.rank n) (highest nodes count n)
      go f (inl q) = let r : nodes.rank i ≡ nodes.rank n = ap nodes.rank q in omega arith
      go f (inr q) = let r = f q in omega arith

  pub left_below : (i j : ℕ) (s t : Subject) (busy busy' : List ℕ) → j < count → subject_height t < subject_height s → left nodes count j t busy' < left nodes count i s busy
  unfolding left
  left_below i j s t busy busy' l h =
      let f = free_bound count busy' in
      let e : subject_height t * (count + 1) + free count busy' < subject_height s * (count + 1) + free count busy = lower_digit (subject_height t) (subject_height s) count (free count busy') (free count busy) h f in
      lower_digit _ _ (highest nodes count count) (nodes.rank j) (nodes.rank i) e (rank_bound count j l)

  pub left_entered : (i j : ℕ) (s : Subject) (busy : List ℕ) → j < count → list_any (λ n. n == j) busy ≡ false → left nodes count j s (j ∷ busy) < left nodes count i s busy
  unfolding left
  left_entered i j s busy l e =
      let f = free_entered count j busy l e in
      lower_digit _ _ (highest nodes count count) (nodes.rank j) (nodes.rank i) (omega arith) (rank_bound count j l)

  pub left_lower : (i j : ℕ) (s : Subject) (busy : List ℕ) → nodes.rank j < nodes.rank i → left nodes count j s busy < left nodes count i s busy
  unfolding left
  left_lower i j s busy h = omega arith
