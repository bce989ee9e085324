-- The pairs in progress: what is among them, one more, and one less.
use Rattle.std.proofs.Common.{◌≡◌, ℕ, zero, suc, ◌+◌, ◌<◌, ◌≤◌, ◌==◌, ◌&&◌, Bool, true, false, cond, List, [], ◌∷◌, ◌++◌, length, get_or, refl, sym, ◌∙◌, ap, subst, arith, rules, true≢false, length-append, inl, inr, ⊎_elim}
use Rattle.std.specs.Prelude.{◌||◌, ◌⊎◌, All, Contains}
use Rattle.std.specs.List.{list_any}
use Rattle.std.proofs.lemmas.Bool.{eqb-true}
use Rattle.std.proofs.lemmas.Slice.Eq.{bytes_eq-Decides}
use Rattle.theory_definitions.specs.Instance.{Place, Step, to_member, to_item, to_name, same_step, same_place}
use Rattle.schema_reports.proofs.Places.{differ_in_length}
use Rattle.schema_run_context.specs.Progress.{Pairs, busy_at, NoDeeper, Distinct, Enters}

abbrev pub among : ℕ → List ℕ → Bool
among n xs = list_any (λ i. i == n) xs

pub eqb-self : (n : ℕ) → (n == n) ≡ true
eqb-self n = search rules

same_step-self : (s : Step) → same_step s s ≡ true
same_step-self (to_member k) = (bytes_eq-Decides k k).1 refl
same_step-self (to_item i) = search rules
same_step-self (to_name k) = (bytes_eq-Decides k k).1 refl

pub same_place-self : (p : Place) → same_place p p ≡ true
same_place-self [] = refl
same_place-self (s ∷ p) = rw (same_step-self s) (same_place-self p)

and_left : (a b : Bool) → (a && b) ≡ true → a ≡ true
and_left true b h = refl
and_left false b h = absurd (true≢false (sym h))

and_right : (a b : Bool) → (a && b) ≡ true → b ≡ true
and_right true b h = h
and_right false b h = absurd (true≢false (sym h))

step_equal : (s t : Step) → same_step s t ≡ true → s ≡ t
step_equal (to_member k) (to_member l) h = ap to_member ((bytes_eq-Decides k l).0 h)
step_equal (to_member k) (to_item i) h = absurd (true≢false (sym h))
step_equal (to_member k) (to_name i) h = absurd (true≢false (sym h))
step_equal (to_item k) (to_member l) h = absurd (true≢false (sym h))
step_equal (to_item k) (to_item l) h = ap to_item (eqb-true k l h)
step_equal (to_item k) (to_name l) h = absurd (true≢false (sym h))
step_equal (to_name k) (to_member l) h = absurd (true≢false (sym h))
step_equal (to_name k) (to_item l) h = absurd (true≢false (sym h))
step_equal (to_name k) (to_name l) h = ap to_name ((bytes_eq-Decides k l).0 h)

pub place_equal : (p q : Place) → same_place p q ≡ true → p ≡ q
place_equal [] [] h = refl
place_equal [] (t ∷ q) h = absurd (true≢false (sym h))
place_equal (s ∷ p) [] h = absurd (true≢false (sym h))
place_equal (s ∷ p) (t ∷ q) h =
    let a = step_equal s t (and_left _ _ h) in
    let b = place_equal p q (and_right _ _ h) in
    ap (λ x. x ∷ p) a ∙ ap (λ x. t ∷ x) b

-- ---- the numbers in progress at a place

pub busy-pushed : (p : Place) (n : ℕ) (es : Pairs) → busy_at p (es ++ (n, p) ∷ []) ≡ n ∷ busy_at p es
busy-pushed p n [] = rw (same_place-self p) refl
busy-pushed p n (e ∷ es) = ap (λ (r : List ℕ). r ++ cond (same_place e.1 p) (e.0 ∷ []) []) (busy-pushed p n es)

first_of : (P : ℕ × Place → Type 0) (e : ℕ × Place) (es : Pairs) → All P (e ∷ es) → P e
first_of P e es h = h 0 e (omega arith)

rest_of : (P : ℕ × Place → Type 0) (e : ℕ × Place) (es : Pairs) → All P (e ∷ es) → All P es
rest_of P e es h = λ i d l. h (suc i) d (omega arith)

-- a place below has no pair of its own yet
pub busy-below : (p : Place) (s : Step) (es : Pairs) → NoDeeper p es → busy_at (p ++ s ∷ []) es ≡ []
busy-below p s [] h = refl
busy-below p s (e ∷ es) h =
    let m = first_of (λ e. length e.1 ≤ length p) e es h in
    let d : same_place e.1 (p ++ s ∷ []) ≡ false = differ_in_length e.1 (p ++ s ∷ []) (λ q. let l : length (p ++ s ∷ []) ≡ length p + 1 = length-append p (s ∷ []) in absurd (omega arith)) in
    let r = busy-below p s es (rest_of (λ e. length e.1 ≤ length p) e es h) in
    ap (λ (b : Bool). busy_at (p ++ s ∷ []) es ++ cond b (e.0 ∷ []) []) d ∙ ap (λ (xs : List ℕ). xs ++ []) r

pub deeper-below : (p : Place) (s : Step) (es : Pairs) → NoDeeper p es → NoDeeper (p ++ s ∷ []) es
deeper-below p s es h = λ i d l. let m = h i d l in let k : length (p ++ s ∷ []) ≡ length p + 1 = length-append p (s ∷ []) in omega arith

pub deeper-pushed : (p : Place) (n : ℕ) (es : Pairs) → NoDeeper p es → NoDeeper p (es ++ (n, p) ∷ [])
deeper-pushed p n [] h zero d l = omega arith
deeper-pushed p n [] h (suc i) d l = absurd (omega arith)
deeper-pushed p n (e ∷ es) h zero d l = first_of (λ e. length e.1 ≤ length p) e es h
deeper-pushed p n (e ∷ es) h (suc i) d l = deeper-pushed p n es (rest_of (λ e. length e.1 ≤ length p) e es h) i d (omega arith)

pub among-append : (n : ℕ) (xs ys : List ℕ) → among n (xs ++ ys) ≡ (among n xs || among n ys)
among-append n [] ys = refl
among-append n (x ∷ xs) ys = go (x == n) (among-append n xs ys)
  where
    go : (b : Bool) → among n (xs ++ ys) ≡ (among n xs || among n ys) → (b || among n (xs ++ ys)) ≡ ((b || among n xs) || among n ys)
    go true h = refl
    go false h = h

-- the test of a pair, first or later
pub among-pair : (n : ℕ) (p : Place) (e : ℕ × Place) (es : Pairs) → among n (busy_at p (e ∷ es)) ≡ ((same_place e.1 p && (e.0 == n)) || among n (busy_at p es))
among-pair n p e es = among-append n (busy_at p es) (cond (same_place e.1 p) (e.0 ∷ []) []) ∙ go (same_place e.1 p) (e.0 == n) (among n (busy_at p es))
  where
    go : (a b c : Bool) → (c || among n (cond a (e.0 ∷ []) [])) ≡ ((a && (e.0 == n)) || c)
    go true b true = search rules
    go true b false = search rules
    go false b true = refl
    go false b false = refl

later : (e : ℕ × Place) (es : Pairs) (x : ℕ × Place) → Contains es x → Contains (e ∷ es) x
later e es x w = (suc w.0, omega (arith, w.1), w.2)

-- the test finds exactly the pairs that are there
pub found : (n : ℕ) (p : Place) (es : Pairs) → among n (busy_at p es) ≡ true → Contains es (n, p)
found n p [] h = absurd (true≢false (sym h))
found n p (e ∷ es) h =
    let both : (a b c : Bool) → same_place e.1 p ≡ a → (e.0 == n) ≡ b → among n (busy_at p es) ≡ c → ((a && b) || c) ≡ true → Contains (e ∷ es) (n, p)
    = elim [
      | true ↦ elim [
        | true ↦ λ c x y z g. (0, omega arith, let u = eqb-true e.0 n y in let v = place_equal e.1 p x in ap (λ (k : ℕ). (k, e.1)) u ∙ ap (λ (r : Place). (n, r)) v)
        | false ↦ λ c x y z g. later e es (n, p) (found n p es (z ∙ g))
      ]
      | false ↦ λ b c x y z g. later e es (n, p) (found n p es (z ∙ g))
    ] in
    both (same_place e.1 p) (e.0 == n) (among n (busy_at p es)) refl refl refl (sym (among-pair n p e es) ∙ h)

or_right : (a b : Bool) → b ≡ true → (a || b) ≡ true
or_right true b h = refl
or_right false b h = h

pub there : (n : ℕ) (p : Place) (es : Pairs) → Contains es (n, p) → among n (busy_at p es) ≡ true
there n p [] w = absurd (omega (arith, w.1))
there n p (e ∷ es) w = among-pair n p e es ∙ go (λ k l i. there n p es (k, l, i)) w.0 w.1 w.2
  where
    go : ((k : ℕ) → k < length es → get_or es k (n, p) ≡ (n, p) → among n (busy_at p es) ≡ true)
        → (k : ℕ) → k < suc (length es) → get_or (e ∷ es) k (n, p) ≡ (n, p) → ((same_place e.1 p && (e.0 == n)) || among n (busy_at p es)) ≡ true
    go f zero l i = let a : e ≡ (n, p) = i in subst (λ (x : ℕ × Place). ((same_place x.1 p && (x.0 == n)) || among n (busy_at p es)) ≡ true) (sym a) (rw (same_place-self p, eqb-self n) refl)
    go f (suc k) l i = or_right (same_place e.1 p && (e.0 == n)) (among n (busy_at p es)) (f k (omega arith) i)

-- ---- no pair twice

contains_pushed : {X : Type 0} (xs : List X) (y x : X) (k : ℕ) → k < length (xs ++ y ∷ []) → get_or (xs ++ y ∷ []) k x ≡ x → Contains xs x ⊎ (y ≡ x)
contains_pushed [] y x zero l i = inr i
contains_pushed [] y x (suc k) l i = absurd (omega arith)
contains_pushed (a ∷ xs) y x zero l i = inl (0, omega arith, i)
contains_pushed (a ∷ xs) y x (suc k) l i = ⊎_elim (λ w. inl (suc w.0, omega (arith, w.1), w.2)) inr (contains_pushed xs y x k (omega arith) i)

contains_more : {X : Type 0} (xs : List X) (y x : X) (k : ℕ) → k < length xs → get_or xs k x ≡ x → Contains (xs ++ y ∷ []) x
contains_more [] y x k l i = absurd (omega arith)
contains_more (a ∷ xs) y x zero l i = (0, omega arith, i)
contains_more (a ∷ xs) y x (suc k) l i = let w = contains_more xs y x k (omega arith) i in (suc w.0, omega (arith, w.1), w.2)

distinct-push : (es : Pairs) (x : ℕ × Place) → Distinct es → (Contains es x → ⊥) → Distinct (es ++ x ∷ [])
distinct-push [] x d h = (λ w. absurd (omega (arith, w.1)), tt)
distinct-push (e ∷ es) x d h = (
  λ w. ⊎_elim d.0 (λ (q : x ≡ e). h (0, omega arith, sym q)) (contains_pushed es x e w.0 w.1 w.2),
  distinct-push es x d.1 (λ w. h (suc w.0, omega (arith, w.1), w.2)),
)

distinct-init : (es : Pairs) (x : ℕ × Place) → Distinct (es ++ x ∷ []) → Distinct es
distinct-init [] x d = tt
distinct-init (e ∷ es) x d = (λ w. d.0 (contains_more es x e w.0 w.1 w.2), distinct-init es x d.1)

-- ---- entering

pub entered_new : (n : ℕ) (p : Place) (old : Pairs) (b : Bool) (new : Pairs) → Enters n p old b new → b ≡ false → (among n (busy_at p old) ≡ false) × (new ≡ old ++ (n, p) ∷ [])
entered_new n p old b new e h =
    let go : (r : Bool) → among n (busy_at p old) ≡ r → r ≡ false
    = elim [ true ↦ λ q. let w = e.0.1 (found n p old q) in absurd (true≢false (sym w ∙ h)) | false ↦ λ q. refl ] in
    (go (among n (busy_at p old)) refl, rw h at e.1)

pub entered_old : (n : ℕ) (p : Place) (old : Pairs) (b : Bool) (new : Pairs) → Enters n p old b new → b ≡ true → (among n (busy_at p old) ≡ true) × (new ≡ old)
entered_old n p old b new e h = (there n p old (e.0.0 h), rw h at e.1)

-- a pair that is not in progress is entered
pub enters_fresh : (n : ℕ) (p : Place) (old : Pairs) (b : Bool) (new : Pairs) → Enters n p old b new → among n (busy_at p old) ≡ false → new ≡ old ++ (n, p) ∷ []
enters_fresh n p old true new e h = absurd (true≢false (sym (there n p old (e.0.0 refl)) ∙ h))
enters_fresh n p old false new e h = e.1

pub enters_old : (n : ℕ) (p : Place) (old : Pairs) → among n (busy_at p old) ≡ true → Enters n p old true old
enters_old n p old e = ((λ h. found n p old e, λ w. refl), refl)

pub enters_new : (n : ℕ) (p : Place) (old new : Pairs) → new ≡ old ++ (n, p) ∷ [] → among n (busy_at p old) ≡ false → Enters n p old false new
enters_new n p old new h e = ((λ g. absurd (true≢false (sym g)), λ w. sym e ∙ there n p old w), h)

pub distinct_pushed : (n : ℕ) (p : Place) (old : Pairs) → Distinct old → among n (busy_at p old) ≡ false → Distinct (old ++ (n, p) ∷ [])
distinct_pushed n p old d e = distinct-push old (n, p) d (λ w. true≢false (sym (there n p old w) ∙ e))

pub distinct_front : (es : Pairs) (x : ℕ × Place) → Distinct (es ++ x ∷ []) → Distinct es
distinct_front es x d = distinct-init es x d

-- what is left once the last is taken away
pub snoc_first : {X : Type 0} (xs ys : List X) (x y : X) → xs ++ x ∷ [] ≡ ys ++ y ∷ [] → (xs ≡ ys) × (x ≡ y)
snoc_first [] [] x y h = (refl, cc)
snoc_first [] (b ∷ []) x y h = absurd (let f : ⊥ = cc in f)
snoc_first [] (b ∷ c ∷ ys) x y h = absurd (let f : ⊥ = cc in f)
snoc_first (a ∷ []) [] x y h = absurd (let f : ⊥ = cc in f)
snoc_first (a ∷ c ∷ xs) [] x y h = absurd (let f : ⊥ = cc in f)
snoc_first {X = X} (a ∷ xs) (b ∷ ys) x y h =
    let first : a ≡ b = cc in
    let others : xs ++ x ∷ [] ≡ ys ++ y ∷ [] = cc in
    let r = snoc_first xs ys x y others in
    (ap (λ (u : X). u ∷ xs) first ∙ ap (λ (us : List X). b ∷ us) r.0, r.1)

pub nil_snoc : {X : Type 0} (xs : List X) (x : X) → [] ≡ xs ++ x ∷ [] → ⊥
nil_snoc [] x h = cc
nil_snoc (y ∷ xs) x h = cc
