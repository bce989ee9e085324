-- A number under answers of edges: it says the same at every sufficient depth, it depends on the
-- answers at the place and below it, and more yeses among these do not make it say less.
use Rattle.std.proofs.Common.{◌≡◌, ◌∙◌, ℕ, zero, suc, ◌<◌, ◌++◌, Bool, true, false, [], ◌∷◌, refl, sym, subst, ap, arith, append_assoc, true≢false}
use Rattle.std.proofs.lemmas.List.{append-nil}
use Rattle.theory_definitions.specs.Instance.{Place}
use Rattle.theory_definitions.specs.Keywords.{Below, here, down}
use Rattle.theory_definitions.specs.Meaning.{place_below}
use Rattle.theory_definitions.specs.Guarded.{NodeEdge}
use Rattle.theory_meaning.specs.Numbered.{left, subject_in}
use Rattle.theory_meaning.proofs.Reading.{Reads, reads_of}
use Rattle.theory_meaning.proofs.Settles.{NodeAsks, free_falls}
use Rattle.theory_fixed_points.specs.NodesSay.{node_holds}
use Rattle.theory_fixed_points.proofs.NodesSay.{node_more, node_same, word_monotone}
use Rattle.theory_fixed_points.specs.Under.{EachMonotone, EdgeAnswers, Solving, IsSolvable, across_by, by_within, under_by}

pub same_bool : (a b : Bool) → (a ≡ true → b ≡ true) → (b ≡ true → a ≡ true) → a ≡ b
same_bool true b f g = sym (f refl)
same_bool false true f g = absurd (true≢false (sym (g refl)))
same_bool false false f g = refl

-- A place below begins with the place.
pub below_begins : (p : Place) (b : Below) → (r : Place) × (place_below p b ≡ p ++ r)
below_begins p here = ([], sym (append-nil p))
below_begins p (down s) = (s ∷ [], refl)

module _ {K R : Type 0} (w : Solving K R) (solvable : IsSolvable w) where
  reads : Reads w.keywords
  reads = reads_of w.keywords solvable.laws

  -- An edge leads to a number of the table.
  pub leads_inside : (i : ℕ) (p : Place) (e : NodeEdge) (b : Below) → i < w.count → NodeAsks w.instance w.nodes i p e b → e.node < w.count
  leads_inside i p e b l asks = (solvable.ranked i l e asks.edge).0

  abbrev holds : ℕ → Place → (NodeEdge → Below → Bool) → Bool
  holds = node_holds w.keywords w.matcher w.nodes (subject_in w.instance) w.completion

  -- What a number says depends only on the answers of edges that it may ask.
  pub holds_same : (i : ℕ) (p : Place) (f g : NodeEdge → Below → Bool)
      → ((e : NodeEdge) (b : Below) → NodeAsks w.instance w.nodes i p e b → f e b ≡ g e b) → holds i p f ≡ holds i p g
  holds_same i p f g h = node_same w.keywords reads w.matcher w.nodes w.instance w.completion i p f g h

  -- An edge that is not cut is not guarded.
  free : (e : NodeEdge) → w.cut e ≡ false → e.guarded ≡ false
  free e is = go e.guarded refl
    where
      go : (g : Bool) → e.guarded ≡ g → g ≡ false
      go true guarded = absurd (true≢false (sym (solvable.cuts e guarded) ∙ is))
      go false guarded = refl

  pub by_cut : (c x x' y y' : Bool) → (c ≡ true → x ≡ x') → (c ≡ false → y ≡ y') → ◌≡◌ {A = Bool} (elim c [ true ↦ x | false ↦ y ]) (elim c [ true ↦ x' | false ↦ y' ])
  by_cut true x x' y y' g h = g refl
  by_cut false x x' y y' g h = h refl

  -- The measure decreases along such an edge.
  pub free_lower : (i : ℕ) (p : Place) (e : NodeEdge) (d : Below) → i < w.count → NodeAsks w.instance w.nodes i p e d → w.cut e ≡ false
      → left w.nodes w.count e.node (subject_in w.instance (place_below p d)) [] < left w.nodes w.count i (subject_in w.instance p) []
  free_lower i p e here l asks uncut = free_falls w.instance w.nodes w.count solvable.ranked i p [] e here l asks (free e uncut)
  free_lower i p e (down s) l asks uncut = free_falls w.instance w.nodes w.count solvable.ranked i p [] e (down s) l asks (free e uncut)

  pub settles : (answers : EdgeAnswers) (m n i : ℕ) (p : Place) → i < w.count → left w.nodes w.count i (subject_in w.instance p) [] < m → left w.nodes w.count i (subject_in w.instance p) [] < n
      → by_within w answers m i p ≡ by_within w answers n i p
  settles answers zero n i p l a b = absurd (omega arith)
  settles answers (suc m) zero i p l a b = absurd (omega arith)
  settles answers (suc m) (suc n) i p l a b = holds_same i p _ _ (λ e d asks. by_cut (w.cut e) _ _ _ _ (λ cut. refl) (λ uncut.
      let f = free_lower i p e d l asks uncut in
      settles answers m n e.node (place_below p d) (leads_inside i p e d l asks) (omega (arith, f, a)) (omega (arith, f, b))))

  -- ---- what a number says under answers is what its node says with those of its edges

  pub under_is : (answers : EdgeAnswers) (i : ℕ) (p : Place) → i < w.count → under_by w answers i p ≡ holds i p (across_by w answers (under_by w answers) p)
  under_is answers i p l = holds_same i p _ _ (λ e d asks. by_cut (w.cut e) _ _ _ _ (λ cut. refl) (λ uncut.
      settles answers (left w.nodes w.count i (subject_in w.instance p) []) (suc (left w.nodes w.count e.node (subject_in w.instance (place_below p d)) [])) e.node (place_below p d)
      (leads_inside i p e d l asks) (free_lower i p e d l asks uncut) (omega arith)))

  -- ---- it depends on the answers at the place and below it

  at_below : (P : Place → Type 0) (p : Place) (b : Below) → ((r : Place) → P (p ++ r)) → P (place_below p b)
  at_below P p b h = let begins = below_begins p b in subst P (sym begins.1) (h begins.0)

  all_below : (P : Place → Type 0) (p : Place) (b : Below) → ((r : Place) → P (p ++ r)) → (r : Place) → P (place_below p b ++ r)
  all_below P p b h r =
      let begins = below_begins p b in
      let whole : place_below p b ++ r ≡ p ++ (begins.0 ++ r) = ap (λ q. q ++ r) begins.1 ∙ append_assoc p begins.0 r in
      subst P (sym whole) (h (begins.0 ++ r))

  abbrev SameAt : EdgeAnswers → EdgeAnswers → Place → Type 0
  SameAt f g q = (e : NodeEdge) → f e q ≡ g e q

  within_same : (f g : EdgeAnswers) (n i : ℕ) (p : Place) → ((r : Place) → SameAt f g (p ++ r)) → by_within w f n i p ≡ by_within w g n i p
  within_same f g zero i p h = refl
  within_same f g (suc n) i p h = holds_same i p _ _ (λ e b asks. by_cut (w.cut e) _ _ _ _
      (λ cut. at_below (SameAt f g) p b h e)
      (λ uncut. within_same f g n e.node (place_below p b) (all_below (SameAt f g) p b h)))

  pub under_same : (f g : EdgeAnswers) (i : ℕ) (p : Place) → ((r : Place) (e : NodeEdge) → f e (p ++ r) ≡ g e (p ++ r)) → under_by w f i p ≡ under_by w g i p
  under_same f g i p h = within_same f g (suc (left w.nodes w.count i (subject_in w.instance p) [])) i p h

  -- ---- if each keyword is monotone, more yeses never change a yes to a no

  module _ (monotone : EachMonotone w) where
    holds_more : (i : ℕ) (p : Place) (f g : NodeEdge → Below → Bool) → i < w.count
        → ((e : NodeEdge) (b : Below) → NodeAsks w.instance w.nodes i p e b → f e b ≡ true → g e b ≡ true) → holds i p f ≡ true → holds i p g ≡ true
    holds_more i p f g l h is = node_more w.keywords reads w.matcher w.nodes w.instance w.completion i p f g
        (word_monotone w.keywords reads w.matcher w.nodes w.instance w.completion w.count solvable.ranked monotone i l) h is

    across_more : (c x x' y y' : Bool) → (x ≡ true → x' ≡ true) → (y ≡ true → y' ≡ true)
        → (let a : Bool = elim c [ true ↦ x | false ↦ y ] in a) ≡ true → (let a : Bool = elim c [ true ↦ x' | false ↦ y' ] in a) ≡ true
    across_more true x x' y y' f g is = f is
    across_more false x x' y y' f g is = g is

    within_more : (fewer more : EdgeAnswers) (n i : ℕ) (p : Place) → i < w.count → ((e : NodeEdge) (q : Place) → fewer e q ≡ true → more e q ≡ true)
        → by_within w fewer n i p ≡ true → by_within w more n i p ≡ true
    within_more fewer more zero i p l h is = refl
    within_more fewer more (suc n) i p l h is = holds_more i p _ _ l (λ e b asks. across_more (w.cut e) _ _ _ _
        (h e (place_below p b))
        (within_more fewer more n e.node (place_below p b) (leads_inside i p e b l asks) h)) is

    pub under_more : (fewer more : EdgeAnswers) (i : ℕ) (p : Place) → i < w.count → ((e : NodeEdge) (q : Place) → fewer e q ≡ true → more e q ≡ true)
        → under_by w fewer i p ≡ true → under_by w more i p ≡ true
    under_more fewer more i p = within_more fewer more (suc (left w.nodes w.count i (subject_in w.instance p) [])) i p
