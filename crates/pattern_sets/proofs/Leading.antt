-- Images, as they are found.
use Rattle.std.proofs.Common.{not, ◌&&◌, ◌≡◌, ◌<◌, ◌≤◌, ◌==◌, ◌||◌, ◌+◌, ℕ, Bool, true, false, cond, ap, refl, subst, sym, ◌∙◌, ◌⊎◌, inl, inr, arith, nat_lt, true≢false}
use Rattle.std.proofs.lemmas.Bool.{eqb-true}
use Rattle.std.proofs.lemmas.Bool.Decides.{nat_tests}
use Rattle.pattern_sets.specs.Images.{IsImage, IsImageBelow, IsImageBut, Joined}

pub image_map : (R S : ℕ → ℕ → Type 0) (from to : ℕ → Bool) → IsImage R from to → ((i j : ℕ) → R i j → S i j) → ((i j : ℕ) → S i j → R i j) → IsImage S from to
image_map R S from to image there back = record {
  sound = λ j h. let s = image.sound j h in (s.0, s.1, there s.0 j s.2);
  complete = λ i j h r. image.complete i j h (back i j r);
}

pub below_begins : (R : ℕ → ℕ → Type 0) (from to : ℕ → Bool) → ((k : ℕ) → to k ≡ false) → IsImageBelow 0 R from to
below_begins R from to none = record {
  sound = λ j h. absurd (true≢false (sym h ∙ none j));
  complete = λ k j l. absurd (omega arith);
}

-- the next position of a set from one on
pub record IsNext (i m : ℕ) (from : ℕ → Bool) : Type 0 where
  pub from_on : i ≤ m
  pub set : from m ≡ true
  pub first : (k : ℕ) → i ≤ k → k < m → from k ≡ false

-- a position that was passed stands below it, or is it
pub passed : (i m : ℕ) (from : ℕ → Bool) → IsNext i m from → (k : ℕ) → k < m + 1 → from k ≡ true → (k < i) ⊎ (k ≡ m)
passed i m from next k l h = go (nat_lt k i) (nat_lt k m) refl refl
  where
    go : (x y : Bool) → nat_lt k i ≡ x → nat_lt k m ≡ y → (k < i) ⊎ (k ≡ m)
    go true y e f = inl (grind (arith, nat_tests))
    go false true e f =
        let ge : i ≤ k = grind (arith, nat_tests) in
        let lt : k < m = grind (arith, nat_tests) in
        absurd (true≢false (sym h ∙ next.first k ge lt))
    go false false e f = let ge : m ≤ k = grind (arith, nat_tests) in inr (omega arith)

pub below_put : (R : ℕ → ℕ → Type 0) (i m p : ℕ) (from to new : ℕ → Bool) → IsImageBelow i R from to → IsNext i m from → R m p → ((j : ℕ) → R m j → j ≡ p) →
    ((k : ℕ) → new k ≡ cond (k == p) true (to k)) → IsImageBelow (m + 1) R from new
below_put R i m p from to new below next leads_there only put = record { sound = sound; complete = complete }
  where
    sound : (j : ℕ) → new j ≡ true → (k : ℕ) × (k < m + 1) × (from k ≡ true) × R k j
    sound j h = go (j == p) refl
      where
        go : (x : Bool) → (j == p) ≡ x → (k : ℕ) × (k < m + 1) × (from k ≡ true) × R k j
        go true e = (m, omega arith, next.set, subst (λ (q : ℕ). R m q) (sym (eqb-true j p e)) leads_there)
        go false e =
            let old : to j ≡ true = sym (put j ∙ ap (λ (b : Bool). cond b true (to j)) e) ∙ h in
            let s = below.sound j old in
            let on = next.from_on in
            let less = s.1 in
            (s.0, omega arith, s.2, s.3)

    complete : (k j : ℕ) → k < m + 1 → from k ≡ true → R k j → new j ≡ true
    complete k j l h r = elim (passed i m from next k l h) [
      | inl less ↦ put j ∙ ap (λ (b : Bool). cond (j == p) true b) (below.complete k j less h r) ∙ either (j == p)
      | inr at ↦ (let e = only j (subst (λ (q : ℕ). R q j) at r) in put j ∙ ap (λ (b : Bool). cond b true (to j)) (same j e))
    ]
      where
        either : (b : Bool) → cond b true true ≡ true
        either true = refl
        either false = refl

        same : (j : ℕ) → j ≡ p → (j == p) ≡ true
        same j e = grind (arith, nat_tests)

pub below_skip : (R : ℕ → ℕ → Type 0) (i m : ℕ) (from to : ℕ → Bool) → IsImageBelow i R from to → IsNext i m from → ((j : ℕ) → ¬ (R m j)) → IsImageBelow (m + 1) R from to
below_skip R i m from to below next none = record {
  sound = λ j h. let s = below.sound j h in let on = next.from_on in let less = s.1 in (s.0, omega arith, s.2, s.3);
  complete = λ k j l h r. elim (passed i m from next k l h) [
    | inl less ↦ below.complete k j less h r
    | inr at ↦ absurd (none j (subst (λ (q : ℕ). R q j) at r))
  ];
}

pub below_ends : (R : ℕ → ℕ → Type 0) (i : ℕ) (from to : ℕ → Bool) → IsImageBelow i R from to → ((k : ℕ) → i ≤ k → from k ≡ false) → IsImage R from to
below_ends R i from to below none = record {
  sound = λ j h. let s = below.sound j h in (s.0, s.2, s.3);
  complete = λ k j h r. go k j h r (nat_lt k i) refl;
}
  where
    go : (k j : ℕ) → from k ≡ true → R k j → (x : Bool) → nat_lt k i ≡ x → to j ≡ true
    go k j h r true e = below.complete k j (grind (arith, nat_tests)) h r
    go k j h r false e = let ge : i ≤ k = grind (arith, nat_tests) in absurd (true≢false (sym h ∙ none k ge))

-- the one position of a set is the next one, and no other follows
pub next_only : (m : ℕ) (from : ℕ → Bool) → ((k : ℕ) → from k ≡ (k == m)) → IsNext 0 m from
next_only m from only = record {
  from_on = omega arith;
  set = only m ∙ same m;
  first = λ k a l. only k ∙ other k l;
}
  where
    same : (k : ℕ) → (k == k) ≡ true
    same k = grind (arith, nat_tests)

    other : (k : ℕ) → k < m → (k == m) ≡ false
    other k l = grind (arith, nat_tests)

pub none_after : (m : ℕ) (from : ℕ → Bool) → ((k : ℕ) → from k ≡ (k == m)) → (k : ℕ) → m + 1 ≤ k → from k ≡ false
none_after m from only k l = only k ∙ other
  where
    other : (k == m) ≡ false
    other = grind (arith, nat_tests)

-- ---- positions that are looked at in any order, and what is left of them

abbrev pub IsPartOf : (ℕ → Bool) → (ℕ → Bool) → Type 0
IsPartOf part whole = (k : ℕ) → part k ≡ true → whole k ≡ true

pub is_same : (k m : ℕ) (none : Bool) → none ≡ false → cond (k == m) true none ≡ (k == m)
is_same k m none e = go (k == m)
  where
    go : (x : Bool) → cond x true none ≡ x
    go true = refl
    go false = e

left_of : (m : ℕ) (old left : ℕ → Bool) → ((k : ℕ) → left k ≡ (old k && not (k == m))) → (k : ℕ) → left k ≡ true → old k ≡ true
left_of m old left rest k h = go (old k) (sym (rest k) ∙ h)
  where
    go : (x : Bool) → (x && not (k == m)) ≡ true → x ≡ true
    go true e = refl
    go false e = e

pub left_part : (m : ℕ) (from old left : ℕ → Bool) → IsPartOf old from → ((k : ℕ) → left k ≡ (old k && not (k == m))) → IsPartOf left from
left_part m from old left part rest k h = part k (left_of m old left rest k h)

pub left_was : (m : ℕ) (old left : ℕ → Bool) → ((k : ℕ) → left k ≡ (old k && not (k == m))) → (k : ℕ) → not (old k) ≡ true → not (left k) ≡ true
left_was m old left rest k h = ap not (rest k) ∙ go (old k) h
  where
    go : (x : Bool) → not x ≡ true → not (x && not (k == m)) ≡ true
    go true e = absurd (true≢false (sym e))
    go false e = refl

pub left_there : (m : ℕ) (old left : ℕ → Bool) → ((k : ℕ) → left k ≡ (old k && not (k == m))) → not (left m) ≡ true
left_there m old left rest = ap not (rest m) ∙ go (old m) (m == m) (same m)
  where
    same : (k : ℕ) → (k == k) ≡ true
    same k = grind (arith, nat_tests)

    go : (x y : Bool) → y ≡ true → not (x && not y) ≡ true
    go true true e = refl
    go false true e = refl
    go x false e = absurd (true≢false (sym e))

-- a position that is no longer left was not left before, or is the one at hand
gone : (m : ℕ) (old left : ℕ → Bool) → ((k : ℕ) → left k ≡ (old k && not (k == m))) → (k : ℕ) → left k ≡ false → (old k ≡ false) ⊎ (k ≡ m)
gone m old left rest k h = go (k == m) refl (old k) refl (sym (rest k) ∙ h)
  where
    go : (x : Bool) → (k == m) ≡ x → (y : Bool) → old k ≡ y → (y && not x) ≡ false → (y ≡ false) ⊎ (k ≡ m)
    go true e y f h = inr (eqb-true k m e)
    go false e true f h = absurd (true≢false h)
    go false e false f h = inl refl

pub but_begins : (R : ℕ → ℕ → Type 0) (from to : ℕ → Bool) → ((k : ℕ) → to k ≡ false) → IsImageBut from R from to
but_begins R from to none = record {
  sound = λ j h. absurd (true≢false (sym h ∙ none j));
  complete = λ k j f l r. absurd (true≢false (sym f ∙ l));
}

pub but_skip : (R : ℕ → ℕ → Type 0) (m : ℕ) (from old left to : ℕ → Bool) → IsImageBut old R from to → ((k : ℕ) → left k ≡ (old k && not (k == m))) → ((j : ℕ) → ¬ (R m j)) → IsImageBut left R from to
but_skip R m from old left to but rest none = record {
  sound = but.sound;
  complete = λ k j f l r. elim (gone m old left rest k l) [
    | inl before ↦ but.complete k j f before r
    | inr at ↦ absurd (none j (subst (λ (q : ℕ). R q j) at r))
  ];
}

pub but_put : (R : ℕ → ℕ → Type 0) (m p : ℕ) (from old left to new : ℕ → Bool) → IsImageBut old R from to → from m ≡ true → ((k : ℕ) → left k ≡ (old k && not (k == m))) → R m p → ((j : ℕ) → R m j → j ≡ p) →
    ((k : ℕ) → new k ≡ cond (k == p) true (to k)) → IsImageBut left R from new
but_put R m p from old left to new but here rest there only put = record { sound = sound; complete = complete }
  where
    sound : (j : ℕ) → new j ≡ true → (k : ℕ) × (from k ≡ true) × R k j
    sound j h = go (j == p) refl
      where
        go : (x : Bool) → (j == p) ≡ x → (k : ℕ) × (from k ≡ true) × R k j
        go true e = (m, here, subst (λ (q : ℕ). R m q) (sym (eqb-true j p e)) there)
        go false e = but.sound j (sym (put j ∙ ap (λ (b : Bool). cond b true (to j)) e) ∙ h)

    complete : (k j : ℕ) → from k ≡ true → left k ≡ false → R k j → new j ≡ true
    complete k j f l r = elim (gone m old left rest k l) [
      | inl before ↦ put j ∙ ap (λ (b : Bool). cond (j == p) true b) (but.complete k j f before r) ∙ either (j == p)
      | inr at ↦ (let e = only j (subst (λ (q : ℕ). R q j) at r) in put j ∙ ap (λ (b : Bool). cond b true (to j)) (same j e))
    ]
      where
        either : (b : Bool) → cond b true true ≡ true
        either true = refl
        either false = refl

        same : (j : ℕ) → j ≡ p → (j == p) ≡ true
        same j e = grind (arith, nat_tests)

pub but_ends : (R : ℕ → ℕ → Type 0) (from left to : ℕ → Bool) → IsImageBut left R from to → ((k : ℕ) → left k ≡ false) → IsImage R from to
but_ends R from left to but none = record { sound = but.sound; complete = λ k j f r. but.complete k j f (none k) r }

-- ---- one relation after another, and one beside another

pub joined_image : (R S : ℕ → ℕ → Type 0) (from mid to : ℕ → Bool) → IsImage R from mid → IsImage S mid to → IsImage (Joined R S) from to
joined_image R S from mid to first second = record {
  sound = λ j h. let s = second.sound j h in let f = first.sound s.0 s.1 in (f.0, f.1, (s.0, f.2, s.2));
  complete = λ i j h r. second.complete r.0 j (first.complete i r.0 h r.1) r.2;
}

-- two relations after one another, and then a third
pub joined_then : (R S T : ℕ → ℕ → Type 0) (from mid to : ℕ → Bool) → IsImage (Joined R S) from mid → IsImage T mid to → IsImage (Joined R (Joined S T)) from to
joined_then R S T from mid to first second =
    image_map (Joined (Joined R S) T) (Joined R (Joined S T)) from to (joined_image (Joined R S) T from mid to first second)
    (λ i j r. (r.1.0, r.1.1, (r.0, r.1.2, r.2)))
    (λ i j r. (r.2.0, (r.0, r.1, r.2.1), r.2.2))

pub or_true : (a b : Bool) → (a || b) ≡ true → (a ≡ true) ⊎ (b ≡ true)
or_true true b h = inl refl
or_true false b h = inr h

pub or_left : (a b : Bool) → a ≡ true → (a || b) ≡ true
or_left true b h = refl
or_left false b h = absurd (true≢false (sym h))

pub or_right : (a b : Bool) → b ≡ true → (a || b) ≡ true
or_right true b h = refl
or_right false b h = h

pub choice_image : (R S : ℕ → ℕ → Type 0) (from other left right to : ℕ → Bool) → ((k : ℕ) → other k ≡ from k) → IsImage R from left → IsImage S other right → ((k : ℕ) → to k ≡ (left k || right k)) → IsImage (λ i j. R i j ⊎ S i j) from to
choice_image R S from other left right to same first second union = record { sound = sound; complete = complete }
  where
    sound : (j : ℕ) → to j ≡ true → (i : ℕ) × (from i ≡ true) × (R i j ⊎ S i j)
    sound j h = elim (or_true (left j) (right j) (sym (union j) ∙ h)) [
      | inl l ↦ (let s = first.sound j l in (s.0, s.1, inl s.2))
      | inr r ↦ (let s = second.sound j r in (s.0, sym (same s.0) ∙ s.1, inr s.2))
    ]

    complete : (i j : ℕ) → from i ≡ true → R i j ⊎ S i j → to j ≡ true
    complete i j h r = elim r [
      | inl l ↦ union j ∙ or_left (left j) (right j) (first.complete i j h l)
      | inr s ↦ union j ∙ or_right (left j) (right j) (second.complete i j (same i ∙ h) s)
    ]
