-- Places of results: of lists, choices and turns.
use Rattle.std.proofs.Common.{◌≡◌, ℕ, zero, suc, ◌+◌, ◌-◌, ◌<◌, ◌≤◌, Bool, true, false, List, [], ◌∷◌, ◌++◌, refl, ap, sym, subst, ◌∙◌, arith, inl, inr, eq-eqb}
use Rattle.std.proofs.lemmas.Bool.{eqb-true}
use Rattle.std.specs.Prelude.{◌⊎◌, if◌then◌else◌, nat_eq, ◌&&◌, Option, Some, None, option_map}
use Rattle.std.specs.List.{flat_map}
use Rattle.pattern_trees.specs.declared.tree.Turns.{Turns}
use Rattle.pattern_trees.specs.Matching.{State, repeated, ordered, is_idle, is_spent, fewer, fresh}
use Rattle.pattern_trees.specs.Patterns.{IsWithin, Iterates}
use Rattle.pattern_trees.specs.Trees.{Has, Iff}

pub In : State → List State → Type 0
In y [] = ⊥
In y (z ∷ zs) = (z ≡ y) ⊎ In y zs

pub in-has : (y : State) (xs : List State) → In y xs → Has y.place xs
unfolding In
in-has y [] h = h
in-has y (z ∷ zs) (inl e) = inl (ap (λ w. w.place) e)
in-has y (z ∷ zs) (inr h) = inr (in-has y zs h)

pub has-in : (j : ℕ) (xs : List State) → Has j xs → (y : State) × In y xs × (y.place ≡ j)
unfolding In
has-in j [] h = absurd h
has-in j (z ∷ zs) (inl e) = (z, inl refl, e)
has-in j (z ∷ zs) (inr h) = let r = has-in j zs h in (r.0, inr r.1, r.2)

pub has-left : (j : ℕ) (xs ys : List State) → Has j xs → Has j (xs ++ ys)
has-left j [] ys h = absurd h
has-left j (x ∷ xs) ys (inl e) = inl e
has-left j (x ∷ xs) ys (inr h) = inr (has-left j xs ys h)

pub has-right : (j : ℕ) (xs ys : List State) → Has j ys → Has j (xs ++ ys)
has-right j [] ys h = h
has-right j (x ∷ xs) ys h = inr (has-right j xs ys h)

pub has-either : (j : ℕ) (xs ys : List State) → Has j (xs ++ ys) → Has j xs ⊎ Has j ys
has-either j [] ys h = inr h
has-either j (x ∷ xs) ys (inl e) = inl (inl e)
has-either j (x ∷ xs) ys (inr h) = elim (has-either j xs ys h) [ inl k ↦ inl (inr k) | inr k ↦ inr k ]

pub flat-out : (j : ℕ) (g : State → List State) (xs : List State) → Has j (flat_map g xs) → (y : State) × In y xs × Has j (g y)
unfolding In
flat-out j g [] h = absurd h
flat-out j g (x ∷ xs) h =
    elim (has-either j (g x) (flat_map g xs) h) [
      | inl k ↦ (x, inl refl, k)
      | inr k ↦ (let r = flat-out j g xs k in (r.0, inr r.1, r.2))
    ]

pub flat-in : (j : ℕ) (g : State → List State) (xs : List State) (y : State) → In y xs → Has j (g y) → Has j (flat_map g xs)
unfolding In
flat-in j g [] y h k = absurd h
flat-in j g (x ∷ xs) y (inl e) k = has-left j (g x) (flat_map g xs) (subst (λ w. Has j (g w)) (sym e) k)
flat-in j g (x ∷ xs) y (inr h) k = has-right j (g x) (flat_map g xs) (flat-in j g xs y h k)

pub if-out : (j : ℕ) (b : Bool) (xs ys : List State) → Has j (if b then xs else ys) → ((b ≡ true) × Has j xs) ⊎ ((b ≡ false) × Has j ys)
if-out j true xs ys h = inl (refl, h)
if-out j false xs ys h = inr (refl, h)

pub if-true : (j : ℕ) (b : Bool) (xs ys : List State) → b ≡ true → Has j xs → Has j (if b then xs else ys)
if-true j true xs ys e h = h
if-true j false xs ys e h = cc

pub if-false : (j : ℕ) (b : Bool) (xs ys : List State) → b ≡ false → Has j ys → Has j (if b then xs else ys)
if-false j false xs ys e h = h
if-false j true xs ys e h = cc

pub is-eq : (i j : ℕ) → nat_eq i j ≡ true → i ≡ j
is-eq i j e = eqb-true i j e

pub bool-cases : (b : Bool) → (b ≡ true) ⊎ (b ≡ false)
bool-cases true = inl refl
bool-cases false = inr refl

ordered-out : (j : ℕ) (t : Turns) (more : List State) (x : State) → Has j (ordered t more x) → ((t.min ≡ 0) × (x.place ≡ j)) ⊎ Has j more
ordered-out j t more x h =
    elim (if-out j (nat_eq t.min 0) (if t.greedy then more ++ x ∷ [] else x ∷ more) more h) [
      | inr k ↦ inr k.1
      | inl k ↦ elim (if-out j t.greedy (more ++ x ∷ []) (x ∷ more) k.1) [
        | inl m ↦ elim (has-either j more (x ∷ []) m.1) [ inl n ↦ inr n | inr n ↦ elim n [ inl e ↦ inl (is-eq t.min 0 k.0, e) | inr f ↦ absurd f ] ]
        | inr m ↦ elim m.1 [ inl e ↦ inl (is-eq t.min 0 k.0, e) | inr n ↦ inr n ]
      ]
    ]

ordered-more : (j : ℕ) (t : Turns) (more : List State) (x : State) → Has j more → Has j (ordered t more x)
ordered-more j t more x h =
    elim (bool-cases (nat_eq t.min 0)) [
      | inr e ↦ if-false j (nat_eq t.min 0) (if t.greedy then more ++ x ∷ [] else x ∷ more) more e h
      | inl e ↦ if-true j (nat_eq t.min 0) (if t.greedy then more ++ x ∷ [] else x ∷ more) more e (
          elim (bool-cases t.greedy) [
            | inl g ↦ if-true j t.greedy (more ++ x ∷ []) (x ∷ more) g (has-left j more (x ∷ []) h)
            | inr g ↦ if-false j t.greedy (more ++ x ∷ []) (x ∷ more) g (inr h)
          ])
    ]

ordered-done : (j : ℕ) (t : Turns) (more : List State) (x : State) → t.min ≡ 0 → x.place ≡ j → Has j (ordered t more x)
ordered-done j t more x e h =
    if-true j (nat_eq t.min 0) (if t.greedy then more ++ x ∷ [] else x ∷ more) more (eq-eqb t.min 0 e) (
    elim (bool-cases t.greedy) [
      | inl g ↦ if-true j t.greedy (more ++ x ∷ []) (x ∷ more) g (has-right j more (x ∷ []) (inl h))
      | inr g ↦ if-false j t.greedy (more ++ x ∷ []) (x ∷ more) g (inl h)
    ])

spent-within : (n : ℕ) (o : Option ℕ) → is_spent o ≡ true → IsWithin n o → n ≡ 0
spent-within n None e h = cc
spent-within n (Some m) e h = let z : m ≡ 0 = is-eq m 0 e in omega arith

zero-within : (o : Option ℕ) → IsWithin 0 o
zero-within None = tt
zero-within (Some m) = omega arith

within-more : (n : ℕ) (o : Option ℕ) → is_spent o ≡ false → IsWithin n (option_map (λ m. m - 1) o) → IsWithin (suc n) o
within-more n None e h = tt
within-more n (Some zero) e h = cc
within-more n (Some (suc m)) e h = omega arith

within-fewer : (n : ℕ) (o : Option ℕ) → IsWithin (suc n) o → IsWithin n (option_map (λ m. m - 1) o)
within-fewer n None h = tt
within-fewer n (Some m) h = omega arith

within-less : (n m : ℕ) (o : Option ℕ) → n ≤ m → IsWithin m o → IsWithin n o
within-less n m None l h = tt
within-less n m (Some k) l h = omega arith

within-pred : (n : ℕ) (o : Option ℕ) → IsWithin n o → IsWithin (n - 1) (option_map (λ m. m - 1) o)
within-pred n None h = tt
within-pred n (Some m) h = omega arith

and-right : (a b : Bool) → (a && b) ≡ true → b ≡ true
and-right true b e = e
and-right false b e = cc

-- a first step that goes somewhere, or none at all
Progress : (ℕ → ℕ → Type 0) → ℕ → ℕ → ℕ → (ℕ → ℕ) → Type 0
Progress R n i j rest = (m : ℕ) × (k : ℕ) × (suc m ≤ n) × R i k × (rest k < rest i) × Iterates R m k j

progress : (R : ℕ → ℕ → Type 0) (rest : ℕ → ℕ) → ((i k : ℕ) → R i k → (i ≡ k) ⊎ (rest k < rest i)) → (n i j : ℕ) → Iterates R n i j → (i ≡ j) ⊎ Progress R n i j rest
unfolding Progress
progress R rest moves zero i j h = inl h
progress R rest moves (suc n) i j (k, r, h) =
    elim (moves i k r) [
      | inr l ↦ inr (n, k, omega arith, r, l, h)
      | inl e ↦ elim (progress R rest moves n i j (subst (λ l. Iterates R n l j) (sym e) h)) [
        | inl d ↦ inl d
        | inr p ↦ inr (p.0, p.1, (let q : suc p.0 ≤ n = p.2 in omega arith), p.3, p.4, p.5)
      ]
    ]

-- of a body whose results lie where a relation leads, and of a relation that either stays or leaves less
module _ (body : State → List State) (R : ℕ → ℕ → Type 0) (rest : ℕ → ℕ) (leads : (x : State) (j : ℕ) → Iff (Has j (body x)) (R x.place j))
    (moves : (i k : ℕ) → R i k → (i ≡ k) ⊎ (rest k < rest i)) where
  abbrev pub Turned : Turns → ℕ → ℕ → Type 0
  Turned t i j = (n : ℕ) × (t.min ≤ n) × IsWithin n t.max × Iterates R n i j

  abbrev one_more : ℕ → Turns → State → State → List State
  one_more left t x y = if is_idle t x.place y then [] else repeated body left (fewer t) y

  idle-not : (t : Turns) (i : ℕ) (y : State) → is_idle t i y ≡ false → t.min ≡ 0 → y.place ≡ i → ⊥
  idle-not t i y e m p =
      let f : is_idle t i y ≡ true = ap (λ n. nat_eq n 0 && nat_eq y.place i) m ∙ eq-eqb y.place i p in cc

  zero-or : (n : ℕ) → (n ≡ 0) ⊎ (0 < n)
  zero-or zero = inl refl
  zero-or (suc n) = inr (omega arith)

  left-less : (left : ℕ) (t : Turns) (x y : State) → t.min + rest x.place ≤ suc left → is_idle t x.place y ≡ false →
      (x.place ≡ y.place) ⊎ (rest y.place < rest x.place) → (t.min - 1) + rest y.place ≤ left
  left-less left t x y l i (inr d) = omega arith
  left-less left t x y l i (inl e) =
      let q : rest x.place ≡ rest y.place = ap rest e in
      elim (zero-or t.min) [
        | inl z ↦ absurd (idle-not t x.place y i z (sym e))
        | inr p ↦ omega arith
      ]

  pub turns-out : (left : ℕ) (t : Turns) (x : State) (j : ℕ) → t.min + rest x.place ≤ left → IsWithin t.min t.max → Has j (repeated body left t x) → Turned t x.place j
  turns-out zero t x j l w (inl e) = (0, omega arith, zero-within t.max, e)
  turns-out zero t x j l w (inr h) = absurd h
  turns-out (suc left) t x j l w h =
      elim (if-out j (is_spent t.max) (x ∷ []) (ordered t (flat_map (one_more left t x) (body (fresh t x))) x) h) [
        | inl s ↦ (let z : t.min ≡ 0 = spent-within t.min t.max s.0 w in
            elim s.1 [ inl e ↦ (0, (let q : t.min ≤ 0 = omega arith in q), zero-within t.max, e) | inr f ↦ absurd f ])
        | inr s ↦ elim (ordered-out j t (flat_map (one_more left t x) (body (fresh t x))) x s.1) [
          | inl d ↦ (0, (let z : t.min ≡ 0 = d.0 in omega arith), zero-within t.max, d.1)
          | inr m ↦ (let r = flat-out j (one_more left t x) (body (fresh t x)) m in
              elim (if-out j (is_idle t x.place r.0) [] (repeated body left (fewer t) r.0) r.2) [
                | inl f ↦ absurd f.1
                | inr g ↦ (
                    let step : R x.place r.0.place = (leads (fresh t x) r.0.place).0 (in-has r.0 (body (fresh t x)) r.1) in
                    let small : (t.min - 1) + rest r.0.place ≤ left = left-less left t x r.0 l g.0 (moves x.place r.0.place step) in
                    let within : IsWithin (t.min - 1) (option_map (λ m. m - 1) t.max) = within-pred t.min t.max w in
                    let u : Turned (fewer t) r.0.place j = turns-out left (fewer t) r.0 j small within g.1 in
                    (suc u.0, (let q : t.min - 1 ≤ u.0 = u.1 in omega arith), within-more u.0 t.max s.0 u.2, (r.0.place, step, u.3)))
              ])
        ]
      ]

  idle-moved : (t : Turns) (i : ℕ) (y : State) → rest y.place < rest i → is_idle t i y ≡ false
  idle-moved t i y l =
      elim (bool-cases (is_idle t i y)) [
        | inr e ↦ e
        | inl e ↦ (let q : rest y.place ≡ rest i = ap rest (is-eq y.place i (and-right (nat_eq t.min 0) (nat_eq y.place i) e)) in absurd (omega arith))
      ]

  idle-least : (t : Turns) (i : ℕ) (y : State) → 0 < t.min → is_idle t i y ≡ false
  idle-least t i y l =
      elim (bool-cases (nat_eq t.min 0)) [
        | inl e ↦ (let q : t.min ≡ 0 = is-eq t.min 0 e in absurd (omega arith))
        | inr e ↦ ap (λ b. b && nat_eq y.place i) e
      ]

  iterates-none : (n i j : ℕ) → n ≡ 0 → Iterates R n i j → i ≡ j
  iterates-none zero i j e h = h
  iterates-none (suc n) i j e h = cc

  iterates-some : (n i j : ℕ) → 0 < n → Iterates R n i j → (m : ℕ) × (k : ℕ) × (n ≡ suc m) × R i k × Iterates R m k j
  iterates-some zero i j l h = absurd (omega arith)
  iterates-some (suc n) i j l (k, r, h) = (n, k, refl, r, h)

  -- one more turn, of which the others come
  more-in : (left : ℕ) (t : Turns) (x : State) (j k : ℕ) → is_spent t.max ≡ false → R x.place k →
      ((y : State) → y.place ≡ k → is_idle t x.place y ≡ false) → ((y : State) → y.place ≡ k → Has j (repeated body left (fewer t) y)) →
      Has j (repeated body (suc left) t x)
  more-in left t x j k s r busy later =
      let y = has-in k (body (fresh t x)) ((leads (fresh t x) k).1 r) in
      if-false j (is_spent t.max) (x ∷ []) (ordered t (flat_map (one_more left t x) (body (fresh t x))) x) s (
      ordered-more j t (flat_map (one_more left t x) (body (fresh t x))) x (
      flat-in j (one_more left t x) (body (fresh t x)) y.0 y.1 (
      if-false j (is_idle t x.place y.0) [] (repeated body left (fewer t) y.0) (busy y.0 y.2) (later y.0 y.2))))

  same-move : (x y : State) (k : ℕ) → y.place ≡ k → (x.place ≡ k) ⊎ (rest k < rest x.place) → (x.place ≡ y.place) ⊎ (rest y.place < rest x.place)
  same-move x y k e (inl d) = inl (d ∙ sym e)
  same-move x y k e (inr d) = inr (subst (λ q. rest q < rest x.place) (sym e) d)

  moved : (left : ℕ) (t : Turns) (x : State) (j : ℕ) → t.min + rest x.place ≤ suc left → (n : ℕ) → IsWithin n t.max → is_spent t.max ≡ false → t.min ≡ 0 →
      Progress R n x.place j rest → ((y : State) (m : ℕ) → (t.min - 1) + rest y.place ≤ left → Turned (fewer t) y.place j → Has j (repeated body left (fewer t) y)) →
      Has j (repeated body (suc left) t x)
  unfolding Progress
  moved left t x j l n most s z (m, k, c, r, d, h) later =
      more-in left t x j k s r
      (λ y e. idle-moved t x.place y (subst (λ q. rest q < rest x.place) (sym e) d))
      (λ y e. later y m
      (let f : rest y.place < rest x.place = subst (λ q. rest q < rest x.place) (sym e) d in omega arith)
      (m, omega arith, within-fewer m t.max (within-less (suc m) n t.max c most), subst (λ q. Iterates R m q j) (sym e) h))

  pub turns-in : (left : ℕ) (t : Turns) (x : State) (j : ℕ) → t.min + rest x.place ≤ left → Turned t x.place j → Has j (repeated body left t x)
  turns-in zero t x j l (n, least, most, h) =
      elim (progress R rest moves n x.place j h) [
        | inl e ↦ inl e
        | inr p ↦ absurd (unfold Progress in (let q : rest p.1 < rest x.place = p.4 in omega arith))
      ]
  turns-in (suc left) t x j l (n, least, most, h) =
      elim (bool-cases (is_spent t.max)) [
        | inl e ↦ if-true j (is_spent t.max) (x ∷ []) (ordered t (flat_map (one_more left t x) (body (fresh t x))) x) e (inl (iterates-none n x.place j (spent-within n t.max e most) h))
        | inr s ↦ elim (zero-or t.min) [
          | inr p ↦ (
              let r = iterates-some n x.place j (omega arith) h in
              let c : n ≡ suc r.0 = r.2 in
              more-in left t x j r.1 s r.3 (λ y e. idle-least t x.place y p) (λ y e.
              turns-in left (fewer t) y j (left-less left t x y l (idle-least t x.place y p) (same-move x y r.1 e (moves x.place r.1 r.3)))
              (r.0, omega arith, within-fewer r.0 t.max (subst (λ q. IsWithin q t.max) c most), subst (λ q. Iterates R r.0 q j) (sym e) r.4)))
          | inl z ↦ elim (progress R rest moves n x.place j h) [
            | inl e ↦ if-false j (is_spent t.max) (x ∷ []) (ordered t (flat_map (one_more left t x) (body (fresh t x))) x) s
                (ordered-done j t (flat_map (one_more left t x) (body (fresh t x))) x z e)
            | inr p ↦ moved left t x j l n most s z p (λ y m e g. turns-in left (fewer t) y j e g)
          ]
        ]
      ]
