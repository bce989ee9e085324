-- Of a pattern without back references, the results lie where this relation leads, ahead and back. It
-- is the relation of specs/Patterns, but for how it counts turns and where a lookaround may end.
use Rattle.std.proofs.Common.{◌≡◌, ℕ, zero, suc, ◌+◌, ◌-◌, ◌<◌, ◌≤◌, Bool, true, false, List, [], ◌∷◌, ◌++◌, refl, ap, sym, subst, arith, inl, inr, length}
use Rattle.std.specs.Prelude.{◌⊎◌, if◌then◌else◌, nat_le, map, slice_get}
use Rattle.std.specs.List.{flat_map}
use Rattle.std.proofs.lemmas.Option.{slice_get_cases}
use Rattle.std.proofs.lemmas.Bool.Decides.{nat_tests}
use Rattle.pattern_trees.specs.declared.tree.Turns.{Turns}
use Rattle.pattern_trees.specs.Nodes.{Node, Nothing, OneOf, At, Reference, Group, Around, Times, Pair, Choice}
use Rattle.pattern_trees.specs.Matching.{Chars, Captures, State, results, repeated, then_at, only_if, after_char, has_in, closed, with_first, where_none, holds_at}
use Rattle.pattern_trees.specs.Patterns.{IsWithin, Iterates, Leads, IfWanted}
use Rattle.pattern_trees.specs.Trees.{IsPlain, Has, Iff}
use Rattle.pattern_trees.proofs.Turning.{in-has, has-in, has-left, has-right, has-either, flat-out, flat-in, turns-out, turns-in}

abbrev pub Reaches : Node → Chars → ℕ → ℕ → Type 0
Reaches Nothing s i j = i ≡ j
Reaches (OneOf set) s i j = (has_in set (slice_get s i) ≡ true) × (i + 1 ≡ j)
Reaches (At edge) s i j = (holds_at edge s i ≡ true) × (i ≡ j)
Reaches (Reference k) s i j = ⊥
Reaches (Group k a) s i j = Reaches a s i j
Reaches (Around look a) s i j = IfWanted look.wanted ((k : ℕ) × Leads look.ahead (Reaches a s) i k) × (i ≡ j)
Reaches (Times t a) s i j = (n : ℕ) × (t.min ≤ n) × IsWithin n t.max × Iterates (Reaches a s) n i j
Reaches (Pair a b) s i j = (k : ℕ) × Reaches a s i k × Reaches b s k j
Reaches (Choice a b) s i j = Reaches a s i j ⊎ Reaches b s i j

pub iff-trans : (P Q R : Type 0) → Iff P Q → Iff Q R → Iff P R
iff-trans P Q R f g = (λ p. g.0 (f.0 p), λ r. f.1 (g.1 r))

-- how far it leads
unfoldable pub Up : Chars → ℕ → ℕ → Type 0
Up s i j = (i ≡ j) ⊎ ((i < j) × (j ≤ length s))

up-trans : (s : Chars) (i k j : ℕ) → Up s i k → Up s k j → Up s i j
unfolding Up
up-trans s i k j (inl e) v = subst (λ q. Up s q j) (sym e) v
up-trans s i k j (inr u) (inl e) = inr (omega arith, omega arith)
up-trans s i k j (inr u) (inr v) = inr (omega arith, omega arith)

up-iterates : (s : Chars) (R : ℕ → ℕ → Type 0) → ((i j : ℕ) → R i j → Up s i j) → (n i j : ℕ) → Iterates R n i j → Up s i j
unfolding Up
up-iterates s R h zero i j e = inl e
up-iterates s R h (suc n) i j (k, r, m) = up-trans s i k j (h i k r) (up-iterates s R h n k j m)

pub in-text : (set : List (ℕ × ℕ)) (s : Chars) (i : ℕ) → has_in set (slice_get s i) ≡ true → i < length s
in-text set s i e =
    elim (slice_get_cases s i).1 [
      | inl r ↦ r.1
      | inr r ↦ (let f : has_in set (slice_get s i) ≡ false = ap (has_in set) r.1 in cc)
    ]

pub reaches-up : (a : Node) → IsPlain a → (s : Chars) (i j : ℕ) → Reaches a s i j → Up s i j
unfolding Up
reaches-up Nothing p s i j h = inl h
reaches-up (OneOf set) p s i j h = let l : i < length s = in-text set s i h.0 in let e : i + 1 ≡ j = h.1 in inr (omega arith, omega arith)
reaches-up (At edge) p s i j h = inl h.1
reaches-up (Reference k) p s i j h = absurd h
reaches-up (Group k a) p s i j h = reaches-up a p s i j h
reaches-up (Around look a) p s i j h = inl h.1
reaches-up (Times t a) p s i j (n, l, w, h) = up-iterates s (Reaches a s) (reaches-up a p.1 s) n i j h
reaches-up (Pair a b) p s i j (k, h, m) = up-trans s i k j (reaches-up a p.0 s i k h) (reaches-up b p.1 s k j m)
reaches-up (Choice a b) p s i j (inl h) = reaches-up a p.0 s i j h
reaches-up (Choice a b) p s i j (inr h) = reaches-up b p.1 s i j h

-- what is left to pass over
rest_of : Bool → Chars → ℕ → ℕ
rest_of true s i = length s - i
rest_of false s i = if nat_le i (length s) then i else 0

rest-inside : (s : Chars) (i : ℕ) → i ≤ length s → rest_of false s i ≡ i
unfolding rest_of
rest-inside s i l = grind (arith, nat_tests)

back-fits : (s : Chars) (i : ℕ) → (if nat_le i (length s) then i else 0) ≤ length s
back-fits s i = grind (arith, nat_tests)

rest-fits : (ahead : Bool) (s : Chars) (i : ℕ) → rest_of ahead s i ≤ length s
unfolding rest_of
rest-fits true s i = omega arith
rest-fits false s i = back-fits s i

moves : (a : Node) → IsPlain a → (ahead : Bool) (s : Chars) (i k : ℕ) → Leads ahead (Reaches a s) i k → (i ≡ k) ⊎ (rest_of ahead s k < rest_of ahead s i)
unfolding Up rest_of
moves a p true s i k h = elim (reaches-up a p s i k h) [ inl e ↦ inl e | inr u ↦ inr (omega arith) ]
moves a p false s i k h = elim (reaches-up a p s k i h) [
  | inl e ↦ inl (sym e)
  | inr u ↦ (let e : rest_of false s i ≡ i = rest-inside s i u.1 in let d : rest_of false s k ≡ k = rest-inside s k (omega arith) in
      inr (subst (λ q. rest_of false s k < q) (sym e) (subst (λ q. q < i) (sym d) u.0)))
]

-- n steps back are n steps
snoc : (R : ℕ → ℕ → Type 0) (n i k j : ℕ) → Iterates R n i k → R k j → Iterates R (suc n) i j
snoc R zero i k j e r = (j, subst (λ q. R q j) (sym e) r, refl)
snoc R (suc n) i k j (m, q, h) r = (m, q, snoc R n m k j h r)

turn-round : (R S : ℕ → ℕ → Type 0) → ((i j : ℕ) → R i j → S j i) → (n i j : ℕ) → Iterates R n i j → Iterates S n j i
turn-round R S h zero i j e = sym e
turn-round R S h (suc n) i j (k, r, m) = snoc S n j k i (turn-round R S h n k j m) (h i k r)

-- an assertion
at-iff : (P : ℕ → Type 0) (ahead : Bool) (i j : ℕ) → Iff (P i × (i ≡ j)) (Leads ahead (λ k l. P k × (k ≡ l)) i j)
at-iff P true i j = (λ h. h, λ h. h)
at-iff P false i j = (λ h. (subst P h.1 h.0, sym h.1), λ h. (subst P h.1 h.0, sym h.1))

only-out : (cs : Captures) (b : Bool) (i j : ℕ) → Has j (then_at cs (only_if b i)) → (b ≡ true) × (i ≡ j)
only-out cs true i j (inl e) = (refl, e)
only-out cs true i j (inr h) = absurd h
only-out cs false i j h = absurd h

only-in : (cs : Captures) (b : Bool) (i j : ℕ) → b ≡ true → i ≡ j → Has j (then_at cs (only_if b i))
only-in cs true i j e h = inl h
only-in cs false i j e h = cc

set-iff : (set : List (ℕ × ℕ)) (ahead : Bool) (s : Chars) (cs : Captures) (i j : ℕ) → Iff (Has j (then_at cs (after_char set ahead s i))) (Leads ahead (Reaches (OneOf set) s) i j)
set-iff set true s cs i j = (only-out cs (has_in set (slice_get s i)) (i + 1) j, λ h. only-in cs (has_in set (slice_get s i)) (i + 1) j h.0 h.1)
set-iff set false s cs zero j = (λ h. absurd h, λ h. (let e : j + 1 ≡ zero = h.1 in absurd (omega arith)))
set-iff set false s cs (suc i) j = (
  λ h. (let r = only-out cs (has_in set (slice_get s i)) (suc i - 1) j h in
      let e : i ≡ j = (let f : suc i - 1 ≡ j = r.1 in omega arith) in
      (subst (λ q. has_in set (slice_get s q) ≡ true) e r.0, (let g : j + 1 ≡ suc i = omega arith in g))),
  λ h. (let e : j ≡ i = (let f : j + 1 ≡ suc i = h.1 in omega arith) in
      only-in cs (has_in set (slice_get s i)) (suc i - 1) j (subst (λ q. has_in set (slice_get s q) ≡ true) e h.0) (omega arith)),
)

closed-out : (k : ℕ) (ahead : Bool) (i j : ℕ) (xs : List State) → Has j (map (closed k ahead i) xs) → Has j xs
closed-out k ahead i j [] h = h
closed-out k ahead i j (x ∷ xs) (inl e) = inl e
closed-out k ahead i j (x ∷ xs) (inr h) = inr (closed-out k ahead i j xs h)

closed-in : (k : ℕ) (ahead : Bool) (i j : ℕ) (xs : List State) → Has j xs → Has j (map (closed k ahead i) xs)
closed-in k ahead i j [] h = h
closed-in k ahead i j (x ∷ xs) (inl e) = inl e
closed-in k ahead i j (x ∷ xs) (inr h) = inr (closed-in k ahead i j xs h)

around-iff : (b : Bool) (x : State) (xs : List State) (Q : ℕ → Type 0) → ((k : ℕ) → Iff (Has k xs) (Q k)) → (j : ℕ) →
    Iff (Has j (if b then with_first x xs else where_none x xs)) (IfWanted b ((k : ℕ) × Q k) × (x.place ≡ j))
around-iff true x [] Q h j = (λ p. absurd p, λ p. absurd ((h p.0.0).1 p.0.1))
around-iff true x (y ∷ ys) Q h j = (λ p. elim p [ inl e ↦ ((y.place, (h y.place).0 (inl refl)), e) | inr f ↦ absurd f ], λ p. inl p.1)
around-iff false x [] Q h j = (λ p. elim p [ inl e ↦ ((λ q. absurd ((h q.0).1 q.1)), e) | inr f ↦ absurd f ], λ p. inl p.1)
around-iff false x (y ∷ ys) Q h j = (λ p. absurd p, λ p. absurd (p.0 (y.place, (h y.place).0 (inl refl))))

repeat-iff : (a : Node) → IsPlain a → (ahead : Bool) (s : Chars) → ((x : State) (j : ℕ) → Iff (Has j (results a ahead s x)) (Leads ahead (Reaches a s) x.place j)) →
    (t : Turns) → IsWithin t.min t.max → (x : State) (j : ℕ) →
    Iff (Has j (repeated (results a ahead s) (t.min + length s) t x)) ((n : ℕ) × (t.min ≤ n) × IsWithin n t.max × Iterates (Leads ahead (Reaches a s)) n x.place j)
repeat-iff a p ahead s leads t w x j =
    let l : t.min + rest_of ahead s x.place ≤ t.min + length s = (let f : rest_of ahead s x.place ≤ length s = rest-fits ahead s x.place in omega arith) in (
      turns-out (results a ahead s) (Leads ahead (Reaches a s)) (rest_of ahead s) leads (moves a p ahead s) (t.min + length s) t x j l w,
      turns-in (results a ahead s) (Leads ahead (Reaches a s)) (rest_of ahead s) leads (moves a p ahead s) (t.min + length s) t x j l,
    )

turns-iff : (R : ℕ → ℕ → Type 0) (ahead : Bool) (t : Turns) (i j : ℕ) →
    Iff ((n : ℕ) × (t.min ≤ n) × IsWithin n t.max × Iterates (Leads ahead R) n i j) (Leads ahead (λ k l. (n : ℕ) × (t.min ≤ n) × IsWithin n t.max × Iterates R n k l) i j)
turns-iff R true t i j = (λ h. h, λ h. h)
turns-iff R false t i j = (
  λ h. (h.0, h.1, h.2, turn-round (Leads false R) R (λ k l r. r) h.0 i j h.3),
  λ h. (h.0, h.1, h.2, turn-round R (Leads false R) (λ k l r. r) h.0 j i h.3),
)

-- one after the other
pair-iff : (f g : State → List State) (Q R : ℕ → ℕ → Type 0) → ((x : State) (j : ℕ) → Iff (Has j (f x)) (Q x.place j)) → ((x : State) (j : ℕ) → Iff (Has j (g x)) (R x.place j)) →
    (x : State) (j : ℕ) → Iff (Has j (flat_map g (f x))) ((k : ℕ) × Q x.place k × R k j)
pair-iff f g Q R h m x j = (
  λ p. (let y = flat-out j g (f x) p in (y.0.place, (h x y.0.place).0 (in-has y.0 (f x) y.1), (m y.0 j).0 y.2)),
  λ p. (let y = has-in p.0 (f x) ((h x p.0).1 p.1) in flat-in j g (f x) y.0 y.1 ((m y.0 j).1 (subst (λ q. R q j) (sym y.2) p.2))),
)

either-iff : (xs ys : List State) (Q R : ℕ → ℕ → Type 0) (ahead : Bool) (i j : ℕ) → Iff (Has j xs) (Leads ahead Q i j) → Iff (Has j ys) (Leads ahead R i j) →
    Iff (Has j (xs ++ ys)) (Leads ahead (λ k l. Q k l ⊎ R k l) i j)
either-iff xs ys Q R true i j h m = (
  λ p. elim (has-either j xs ys p) [ inl q ↦ inl (h.0 q) | inr q ↦ inr (m.0 q) ],
  λ p. elim p [ inl q ↦ has-left j xs ys (h.1 q) | inr q ↦ has-right j xs ys (m.1 q) ],
)
either-iff xs ys Q R false i j h m = (
  λ p. elim (has-either j xs ys p) [ inl q ↦ inl (h.0 q) | inr q ↦ inr (m.0 q) ],
  λ p. elim p [ inl q ↦ has-left j xs ys (h.1 q) | inr q ↦ has-right j xs ys (m.1 q) ],
)

pub reached : (a : Node) → IsPlain a → (ahead : Bool) (s : Chars) (x : State) (j : ℕ) → Iff (Has j (results a ahead s x)) (Leads ahead (Reaches a s) x.place j)
reached Nothing p true s x j = (λ h. elim h [ inl e ↦ e | inr f ↦ absurd f ], λ h. inl h)
reached Nothing p false s x j = (λ h. elim h [ inl e ↦ sym e | inr f ↦ absurd f ], λ h. inl (sym h))
reached (OneOf set) p ahead s x j = set-iff set ahead s x.captures x.place j
reached (At edge) p ahead s x j = iff-trans _ _ _
    (only-out x.captures (holds_at edge s x.place) x.place j, λ h. only-in x.captures (holds_at edge s x.place) x.place j h.0 h.1)
    (at-iff (λ i. holds_at edge s i ≡ true) ahead x.place j)
reached (Reference k) p ahead s x j = absurd p
reached (Group k a) p ahead s x j =
    let r = reached a p ahead s x j in
    (λ h. r.0 (closed-out k ahead x.place j (results a ahead s x) h), λ h. closed-in k ahead x.place j (results a ahead s x) (r.1 h))
reached (Around look a) p ahead s x j = iff-trans _ _ _
    (around-iff look.wanted x (results a look.ahead s x) (λ k. Leads look.ahead (Reaches a s) x.place k) (λ k. reached a p look.ahead s x k) j)
    (at-iff (λ i. IfWanted look.wanted ((k : ℕ) × Leads look.ahead (Reaches a s) i k)) ahead x.place j)
reached (Times t a) p ahead s x j = iff-trans _ _ _
    (repeat-iff a p.1 ahead s (λ y k. reached a p.1 ahead s y k) t p.0 x j)
    (turns-iff (Reaches a s) ahead t x.place j)
reached (Pair a b) p true s x j = pair-iff (results a true s) (results b true s) (Reaches a s) (Reaches b s) (λ y k. reached a p.0 true s y k) (λ y k. reached b p.1 true s y k) x j
reached (Pair a b) p false s x j =
    let h = pair-iff (results b false s) (results a false s) (λ i k. Reaches b s k i) (λ i k. Reaches a s k i) (λ y k. reached b p.1 false s y k) (λ y k. reached a p.0 false s y k) x j in
    (λ m. (let u = h.0 m in (u.0, u.2, u.1)), λ m. h.1 (m.0, m.2, m.1))
reached (Choice a b) p ahead s x j =
    either-iff (results a ahead s x) (results b ahead s x) (Reaches a s) (Reaches b s) ahead x.place j (reached a p.0 ahead s x j) (reached b p.1 ahead s x j)
