-- Unfolding deeper changes nothing if no chain of questions goes through that many references.
use Rattle.std.proofs.Common.{◌≡◌, ℕ, zero, suc, ◌≤◌, refl, Bool, true, false, arith}
use Rattle.serde_json.specs.Data.{Data}
use Rattle.theory_definitions.specs.Instance.{Text, Place}
use Rattle.theory_definitions.specs.Parts.{Parts}
use Rattle.theory_definitions.specs.Plan.{Key, Edge, height}
use Rattle.theory_definitions.specs.Meaning.{within, unfolded}

module _ {S K R : Type 0} (w : Parts S K R) (instance : Data) {X : Type 0} (last : X) (node : Key S → Text → Place → (Edge S → Place → X) → X)
    (Asks : Key S → Place → Edge S → Place → Type 0)
    (local : (k : Key S) (path : Text) (p : Place) (f g : Edge S → Place → X) → ((edge : Edge S) (q : Place) → Asks k p edge q → f edge q ≡ g edge q) → node k path p f ≡ node k path p g) where
  -- Every chain of questions from the key at the place goes through at most n references.
  pub data Shallow : ℕ → Key S → Place → Type 0 where
    no_reference : {k : Key S} {p : Place}
        → ((edge : Edge S) (q : Place) → Asks k p edge q → edge.is_reference ≡ true → ⊥)
        → ((edge : Edge S) (q : Place) → Asks k p edge q → edge.is_reference ≡ false → Shallow zero edge.key q) → Shallow zero k p
    one_more : {n : ℕ} {k : Key S} {p : Place}
        → ((edge : Edge S) (q : Place) → Asks k p edge q → edge.is_reference ≡ true → Shallow n edge.key q)
        → ((edge : Edge S) (q : Place) → Asks k p edge q → edge.is_reference ≡ false → Shallow (suc n) edge.key q) → Shallow (suc n) k p

  abbrev pub Across : Type 0
  Across = Key S → Text → Place → X

  by_kind : (b : Bool) (x x' y y' : X) → (b ≡ true → x ≡ x') → (b ≡ false → y ≡ y')
      → ◌≡◌ {A = X} (elim b [ true ↦ x | false ↦ y ]) (elim b [ true ↦ x' | false ↦ y' ])
  by_kind true x x' y y' h k = h refl
  by_kind false x x' y y' h k = k refl

  within_same : (n : ℕ) (a b : Across) → ((k : Key S) (path : Text) (p : Place) → Shallow n k p → a k path p ≡ b k path p)
      → (h : ℕ) (k : Key S) (path : Text) (p : Place) → Shallow (suc n) k p
      → within w instance last node a h k path p ≡ within w instance last node b h k path p
  within_same n a b e zero k path p s = refl
  within_same n a b e (suc h) k path p (one_more refs subs) = local k path p _ _ (λ edge q asked. by_kind edge.is_reference _ _ _ _
      (λ is. e edge.key _ q (refs edge q asked is)) (λ is. within_same n a b e h edge.key _ q (subs edge q asked is)))

  within_none : (a b : Across) (h : ℕ) (k : Key S) (path : Text) (p : Place) → Shallow zero k p
      → within w instance last node a h k path p ≡ within w instance last node b h k path p
  within_none a b zero k path p s = refl
  within_none a b (suc h) k path p (no_reference refs subs) = local k path p _ _ (λ edge q asked. by_kind edge.is_reference _ _ _ _
      (λ is. absurd (refs edge q asked is)) (λ is. within_none a b h edge.key _ q (subs edge q asked is)))

  pub stable : (n m : ℕ) → n ≤ m → (k : Key S) (path : Text) (p : Place) → Shallow n k p
      → unfolded w instance last node m k path p ≡ unfolded w instance last node n k path p
  stable zero zero h k path p s = refl
  stable zero (suc m) h k path p s = within_none (unfolded w instance last node m) (λ k' path' p'. last) (height w k) k path p s
  stable (suc n) zero h k path p s = absurd (omega arith)
  stable (suc n) (suc m) h k path p s = within_same n (unfolded w instance last node m) (unfolded w instance last node n) (stable n m (omega arith)) (height w k) k path p s

  pub deeper : {n : ℕ} {k : Key S} {p : Place} → Shallow n k p → Shallow (suc n) k p
  deeper (no_reference refs subs) = one_more (λ edge q asked is. absurd (refs edge q asked is)) (λ edge q asked is. deeper (subs edge q asked is))
  deeper (one_more refs subs) = one_more (λ edge q asked is. deeper (refs edge q asked is)) (λ edge q asked is. deeper (subs edge q asked is))
