-- Without back references, ECMA-262's definition is the relation between positions. A pattern matches
-- somewhere in a text (`found`) if and only if the relation leads from some position of the text to
-- another (`IsFound`). The same holds of each list of results: a result lies at a position, ahead or
-- back, if and only if the relation leads there. So what such a pattern captures, the order in which it
-- tries, and whether it is greedy do not change whether it matches.
use Rattle.std.proofs.Common.{◌≡◌, ℕ, zero, suc, ◌+◌, ◌-◌, ◌<◌, ◌≤◌, Bool, true, false, refl, ap, sym, subst, ◌∙◌, arith, inl, inr, length, eq-eqb}
use Rattle.std.specs.Prelude.{◌≢◌, ◌⊎◌, if◌then◌else◌, nat_eq, not, ◌||◌, List, [], ◌∷◌, Option, Some, None, option_map, slice_get, slice_index}
use Rattle.std.proofs.lemmas.Option.{slice_get-get_or}
use Rattle.std.proofs.lemmas.Bool.Decides.{nat_tests}
use Rattle.pattern_trees.specs.declared.tree.Edge.{Edge}
use Rattle.pattern_trees.specs.declared.tree.Edge.TheVariants.{TextStart, TextEnd, LineStart, LineEnd, WordEdge, NoWordEdge}
use Rattle.pattern_trees.specs.declared.tree.Turns.{Turns}
use Rattle.pattern_trees.specs.Sets.{in_set}
use Rattle.pattern_trees.specs.Nodes.{Node, Nothing, OneOf, At, Reference, Group, Around, Times, Pair, Choice}
use Rattle.pattern_trees.specs.Matching.{Chars, State, results, has_in, holds_at, found, found_from, matches_at, is_some_in, nothing_captured}
use Rattle.pattern_trees.specs.Patterns.{IsAt, IsWithin, Iterates, Leads, IfWanted, Matches, IsFound, word_before, word_after}
use Rattle.pattern_trees.specs.Trees.{IsPlain, pattern_of, Has, Iff}
use Rattle.pattern_trees.proofs.Turning.{is-eq, bool-cases}
use Rattle.pattern_trees.proofs.Reached.{Reaches, Up, reaches-up, in-text, iff-trans, reached}

-- one character

from-get : (set : List (ℕ × ℕ)) (s : Chars) (i : ℕ) → has_in set (slice_get s i) ≡ true → (i < length s) × (in_set set (slice_index s i) ≡ true)
from-get set s i e = let l : i < length s = in-text set s i e in (l, sym (ap (has_in set) (slice_get-get_or s i 0 l)) ∙ e)

to-get : (set : List (ℕ × ℕ)) (s : Chars) (i : ℕ) → i < length s → in_set set (slice_index s i) ≡ true → has_in set (slice_get s i) ≡ true
to-get set s i l e = ap (has_in set) (slice_get-get_or s i 0 l) ∙ e

-- an edge

differ : (a b : Bool) → Iff ((if a then not b else b) ≡ true) (a ≢ b)
differ true true = (λ e. cc, λ h. absurd (h refl))
differ true false = (λ e. λ f. cc, λ h. refl)
differ false true = (λ e. λ f. cc, λ h. refl)
differ false false = (λ e. cc, λ h. absurd (h refl))

agree : (a b : Bool) → Iff (not (if a then not b else b) ≡ true) (a ≡ b)
agree true true = (λ e. refl, λ h. refl)
agree true false = (λ e. cc, λ h. cc)
agree false true = (λ e. cc, λ h. cc)
agree false false = (λ e. refl, λ h. refl)

pub edge-iff : (edge : Edge) (s : Chars) (i : ℕ) → Iff (holds_at edge s i ≡ true) (IsAt edge s i)
edge-iff TextStart s i = (is-eq i 0, eq-eqb i 0)
edge-iff TextEnd s i = (is-eq i (length s), eq-eqb i (length s))
edge-iff LineStart s i = (λ e. e, λ e. e)
edge-iff LineEnd s i = (λ e. e, λ e. e)
edge-iff WordEdge s i = differ (word_before s i) (word_after s i)
edge-iff NoWordEdge s i = agree (word_before s i) (word_after s i)

-- turns

within-rest : (least n : ℕ) (most : Option ℕ) → least ≤ n → IsWithin n most → IsWithin (n - least) (option_map (λ m. m - least) most)
within-rest least n None l h = tt
within-rest least n (Some m) l h = omega arith

within-all : (least n : ℕ) (most : Option ℕ) → IsWithin least most → IsWithin n (option_map (λ m. m - least) most) → IsWithin (least + n) most
within-all least n None w h = tt
within-all least n (Some m) w h = omega arith

-- steps of relations that agree on the text's positions
same-turns : (s : Chars) (R S : ℕ → ℕ → Type 0) → ((i j : ℕ) → i ≤ length s → R i j → (j ≤ length s) × S i j) → (n i j : ℕ) → i ≤ length s → Iterates R n i j → Iterates S n i j
same-turns s R S h zero i j l e = e
same-turns s R S h (suc n) i j l (k, r, m) = let u = h i k l r in (k, u.1, same-turns s R S h n k j u.0 m)

-- what leads from a position of the text leads to one
up-inside : (s : Chars) (i j : ℕ) → i ≤ length s → Up s i j → j ≤ length s
unfolding Up
up-inside s i j l (inl e) = omega arith
up-inside s i j l (inr u) = u.1

up-from : (s : Chars) (i j : ℕ) → j ≤ length s → Up s i j → i ≤ length s
unfolding Up
up-from s i j l (inl e) = omega arith
up-from s i j l (inr u) = omega arith

inside : (a : Node) → IsPlain a → (s : Chars) (i j : ℕ) → i ≤ length s → Reaches a s i j → j ≤ length s
inside a p s i j l h = up-inside s i j l (reaches-up a p s i j h)

-- the two relations are the same between positions of the text

wanted-iff : (b : Bool) (P Q : Type 0) → Iff P Q → Iff (IfWanted b P) (IfWanted b Q)
wanted-iff true P Q h = h
wanted-iff false P Q h = (λ m q. m (h.1 q), λ m p. m (h.0 p))

look-iff : (a : Node) → IsPlain a → (s : Chars) → ((i j : ℕ) → i ≤ length s → Iff (Reaches a s i j) (Matches (pattern_of a) s i j)) → (ahead : Bool) (i : ℕ) → i ≤ length s →
    Iff ((k : ℕ) × Leads ahead (Reaches a s) i k) ((k : ℕ) × (k ≤ length s) × Leads ahead (λ x y. Matches (pattern_of a) s x y) i k)
look-iff a p s h true i l = (
  λ r. (r.0, inside a p s i r.0 l r.1, (h i r.0 l).0 r.1),
  λ r. (r.0, (h i r.0 l).1 r.2),
)
look-iff a p s h false i l = (
  λ r. (let u : r.0 ≤ length s = up-from s r.0 i l (reaches-up a p s r.0 i r.1) in (r.0, u, (h r.0 i u).0 r.1)),
  λ r. (r.0, (h r.0 i r.1).1 r.2),
)

times-iff : (a : Node) → IsPlain a → (s : Chars) → ((i j : ℕ) → i ≤ length s → Iff (Reaches a s i j) (Matches (pattern_of a) s i j)) →
    (t : Turns) → IsWithin t.min t.max → (i j : ℕ) → i ≤ length s → Iff (Reaches (Times t a) s i j) (Matches (pattern_of (Times t a)) s i j)
times-iff a p s h t w i j l = (
  λ r. (
    r.0 - t.min,
    within-rest t.min r.0 t.max r.1 r.2,
    subst (λ n. Iterates (λ x y. Matches (pattern_of a) s x y) n i j) (let u : t.min ≤ r.0 = r.1 in let e : r.0 ≡ t.min + (r.0 - t.min) = omega arith in e)
        (same-turns s (Reaches a s) (λ x y. Matches (pattern_of a) s x y) (λ x y m q. (inside a p s x y m q, (h x y m).0 q)) r.0 i j l r.3),
  ),
  λ r. (
    t.min + r.0,
    (let e : t.min ≤ t.min + r.0 = omega arith in e),
    within-all t.min r.0 t.max w r.1,
    same-turns s (λ x y. Matches (pattern_of a) s x y) (Reaches a s) (λ x y m q. (let u = (h x y m).1 q in (inside a p s x y m u, u))) (t.min + r.0) i j l r.2,
  ),
)

reaches-matches : (a : Node) → IsPlain a → (s : Chars) (i j : ℕ) → i ≤ length s → Iff (Reaches a s i j) (Matches (pattern_of a) s i j)
reaches-matches Nothing p s i j l = (λ h. h, λ h. h)
reaches-matches (OneOf set) p s i j l = (
  λ h. (let u = from-get set s i h.0 in (u.0, u.1, sym h.1)),
  λ h. (to-get set s i h.0 h.1, sym h.2),
)
reaches-matches (At edge) p s i j l = (λ h. ((edge-iff edge s i).0 h.0, h.1), λ h. ((edge-iff edge s i).1 h.0, h.1))
reaches-matches (Reference k) p s i j l = absurd p
reaches-matches (Group k a) p s i j l = reaches-matches a p s i j l
reaches-matches (Around look a) p s i j l =
    let w = wanted-iff look.wanted ((k : ℕ) × Leads look.ahead (Reaches a s) i k) ((k : ℕ) × (k ≤ length s) × Leads look.ahead (λ x y. Matches (pattern_of a) s x y) i k)
    (look-iff a p s (λ x y m. reaches-matches a p s x y m) look.ahead i l) in
    (λ h. (w.0 h.0, h.1), λ h. (w.1 h.0, h.1))
reaches-matches (Times t a) p s i j l = times-iff a p.1 s (λ x y m. reaches-matches a p.1 s x y m) t p.0 i j l
reaches-matches (Pair a b) p s i j l = (
  λ h. (h.0, (reaches-matches a p.0 s i h.0 l).0 h.1, (reaches-matches b p.1 s h.0 j (inside a p.0 s i h.0 l h.1)).0 h.2),
  λ h. (let u = (reaches-matches a p.0 s i h.0 l).1 h.1 in (h.0, u, (reaches-matches b p.1 s h.0 j (inside a p.0 s i h.0 l u)).1 h.2)),
)
reaches-matches (Choice a b) p s i j l = (
  λ h. elim h [ inl m ↦ inl ((reaches-matches a p.0 s i j l).0 m) | inr m ↦ inr ((reaches-matches b p.1 s i j l).0 m) ],
  λ h. elim h [ inl m ↦ inl ((reaches-matches a p.0 s i j l).1 m) | inr m ↦ inr ((reaches-matches b p.1 s i j l).1 m) ],
)

-- from a position of the text, read from its end if it looks back, it leads to positions of the text
leads-iff : (a : Node) → IsPlain a → (ahead : Bool) (s : Chars) (i j : ℕ) → i ≤ length s → j ≤ length s →
    Iff (Leads ahead (Reaches a s) i j) (Leads ahead (λ x y. Matches (pattern_of a) s x y) i j)
leads-iff a p true s i j l m = reaches-matches a p s i j l
leads-iff a p false s i j l m = reaches-matches a p s j i m

-- A result lies at a position of the text if and only if the relation leads there. Back, it leads from there.
pub results-match : (a : Node) → IsPlain a → (ahead : Bool) (s : Chars) (x : State) (j : ℕ) → x.place ≤ length s → j ≤ length s →
    Iff (Has j (results a ahead s x)) (Leads ahead (λ i k. Matches (pattern_of a) s i k) x.place j)
results-match a p ahead s x j l m = iff-trans _ _ _ (reached a p ahead s x j) (leads-iff a p ahead s x.place j l m)

leads-inside : (a : Node) → IsPlain a → (ahead : Bool) (s : Chars) (i j : ℕ) → i ≤ length s → Leads ahead (Reaches a s) i j → j ≤ length s
leads-inside a p true s i j l h = inside a p s i j l h
leads-inside a p false s i j l h = up-from s j i l (reaches-up a p s j i h)

-- A result lies at no other position than one of the text.
pub results-inside : (a : Node) → IsPlain a → (ahead : Bool) (s : Chars) (x : State) (j : ℕ) → x.place ≤ length s → Has j (results a ahead s x) → j ≤ length s
results-inside a p ahead s x j l h = leads-inside a p ahead s x.place j l ((reached a p ahead s x j).0 h)

-- the search from each position on

some-has : (xs : List State) → is_some_in xs ≡ true → (j : ℕ) × Has j xs
some-has [] e = cc
some-has (y ∷ ys) e = (y.place, inl refl)

has-some : (j : ℕ) (xs : List State) → Has j xs → is_some_in xs ≡ true
has-some j [] h = absurd h
has-some j (y ∷ ys) h = refl

from-out : (a : Node) (groups : ℕ) (s : Chars) (n i : ℕ) → found_from a groups s n i ≡ true → (k : ℕ) × (k < i + n) × (matches_at a groups s k ≡ true)
from-out a groups s zero i e = cc
from-out a groups s (suc n) i e =
    elim (bool-cases (matches_at a groups s i)) [
      | inl m ↦ (i, omega arith, m)
      | inr m ↦ (let f : found_from a groups s n (i + 1) ≡ true = sym (ap (λ b. b || found_from a groups s n (i + 1)) m) ∙ e in
          let r = from-out a groups s n (i + 1) f in (r.0, omega arith, r.2))
    ]

or-right : (a b : Bool) → b ≡ true → (a || b) ≡ true
or-right true b e = refl
or-right false b e = e

eq-or : (i k : ℕ) → i ≤ k → (i ≡ k) ⊎ (i < k)
eq-or i k l = elim (bool-cases (nat_eq i k)) [ inl e ↦ inl (is-eq i k e) | inr e ↦ inr (grind (arith, nat_tests)) ]

from-in : (a : Node) (groups : ℕ) (s : Chars) (n i k : ℕ) → i ≤ k → k < i + n → matches_at a groups s k ≡ true → found_from a groups s n i ≡ true
from-in a groups s zero i k l u m = absurd (omega arith)
from-in a groups s (suc n) i k l u m =
    elim (eq-or i k l) [
      | inl e ↦ ap (λ b. b || found_from a groups s n (i + 1)) (subst (λ q. matches_at a groups s q ≡ true) (sym e) m)
      | inr d ↦ or-right (matches_at a groups s i) (found_from a groups s n (i + 1)) (from-in a groups s n (i + 1) k (omega arith) (omega arith) m)
    ]

-- A pattern without back references matches somewhere in a text, as ECMA-262 defines it, if and only if
-- the relation leads from some position of the text to another.
pub found-matches : (a : Node) → IsPlain a → (groups : ℕ) (s : Chars) → Iff (found a groups s ≡ true) (IsFound (pattern_of a) s)
found-matches a p groups s = (
  λ e. (let r = from-out a groups s (length s + 1) 0 e in
      let h = some-has (results a true s (nothing_captured groups r.0)) r.2 in
      let l : r.0 ≤ length s = (let u : r.0 < 0 + (length s + 1) = r.1 in omega arith) in
      (r.0, h.0, l, (reaches-matches a p s r.0 h.0 l).0 ((reached a p true s (nothing_captured groups r.0) h.0).0 h.1))),
  λ h. from-in a groups s (length s + 1) 0 h.0 (omega arith) (let u : h.0 ≤ length s = h.2 in omega arith)
      (has-some h.1 (results a true s (nothing_captured groups h.0))
      ((reached a p true s (nothing_captured groups h.0) h.1).1 ((reaches-matches a p s h.0 h.1 h.2).1 h.3))),
)
