-- The questions behind one, on a path that never returns, are fewer than the targets times the
-- places.
use Rattle.std.proofs.Common.{◌≡◌, ℕ, ◌*◌, ◌≤◌, ◌<◌, List, [], ◌∷◌, length, map, refl, sym, subst, Bool, true, false, ◌&&◌, arith}
use Rattle.std.specs.Prelude.{Contains, nat_eq}
use Rattle.std.specs.List.{AllByRecursion, IsDistinct, list_any}
use Rattle.std.proofs.lemmas.Map.Steps.{length-le_from_distinct_below}
use Rattle.std.proofs.lemmas.Bool.{eqb-true}
use Rattle.std.proofs.lemmas.List.{length-map}
use Rattle.serde_json.specs.Data.{Data}
use Rattle.theory_definitions.specs.Instance.{Place, same_place, places}
use Rattle.theory_definitions.specs.Parts.{Parts}
use Rattle.theory_definitions.specs.Plan.{Target, same_target}
use Rattle.theory_meaning.specs.Returns.{Asked, questions, LeadsTo, stays, asks, Return, same_question}
use Rattle.theory_meaning.proofs.Questions.{further}
use Rattle.theory_definitions.proofs.Products.{both_left, both_right, in_either, both_true, index, index_below, met_at, product, length-product, any_product}

module _ {S K R : Type 0} (w : Parts S K R) (instance : Data) (root : Asked w instance) where
  -- The questions behind one, the latest first.
  pub data Trail : List (Asked w instance) → Asked w instance → Type 0 where
    begins : Trail [] root
    goes : {seen : List (Asked w instance)} {a b : Asked w instance} → Trail seen a → Contains (questions w instance a) b → Trail (a ∷ seen) b

  followed : {a b d : Asked w instance} → LeadsTo w instance a b → LeadsTo w instance b d → LeadsTo w instance a d
  followed stays k = k
  followed (asks g l) k = asks g (followed l k)

  pub trail_leads : {seen : List (Asked w instance)} {a : Asked w instance} → Trail seen a → LeadsTo w instance root a
  trail_leads begins = stays
  trail_leads (goes t h) = further w instance (trail_leads t) h

  module _ (none : ¬ (Return w instance root))
      -- A number below `bound` for each question that the root leads to, equal for two questions
      -- with the same target at the same place.
      (bound : ℕ) (code : Asked w instance → ℕ)
      (below : (a : Asked w instance) → LeadsTo w instance root a → code a < bound)
      (tells : (a b : Asked w instance) → LeadsTo w instance root a → LeadsTo w instance root b → code b ≡ code a → same_question w instance a b ≡ true) where
    differs : {a next b : Asked w instance} → LeadsTo w instance root a → Contains (questions w instance a) next → LeadsTo w instance next b → nat_eq (code b) (code a) ≡ false
    differs {a} {next} {b} l h m = go (nat_eq (code b) (code a)) refl
      where
        go : (t : Bool) → nat_eq (code b) (code a) ≡ t → t ≡ false
        go false e = refl
        go true e = absurd (none (record {
          met = a;
          next = next;
          again = b;
          reaches = l;
          goes_on = h;
          comes_back = m;
          same = tells a b l (followed l (asks h m)) (eqb-true (code b) (code a) e);
        }))

    all_differ : {seen : List (Asked w instance)} {a next : Asked w instance} (b : Asked w instance) → Trail seen a → Contains (questions w instance a) next → LeadsTo w instance next b
        → AllByRecursion (λ y. nat_eq (code b) y ≡ false) (code a ∷ map code seen)
    all_differ b begins h m = (differs stays h m, tt)
    all_differ b (goes t g) h m = (differs (further w instance (trail_leads t) g) h m, all_differ b t g (asks h m))

    distinct : {seen : List (Asked w instance)} {a : Asked w instance} → Trail seen a → IsDistinct nat_eq (code a ∷ map code seen)
    unfolding IsDistinct
    distinct begins = (tt, tt)
    distinct {a = a} (goes t h) = (all_differ a t h stays, distinct t)

    codes_below : {seen : List (Asked w instance)} {a : Asked w instance} → Trail seen a → (q : ℕ) → list_any (nat_eq q) (code a ∷ map code seen) ≡ true → q < bound
    codes_below {a = a} begins q e = in_either (nat_eq q (code root)) false (λ is. subst (λ z. z < bound) (sym (eqb-true q (code root) is)) (below root stays)) (λ is. absurd (cc is)) e
    codes_below {seen = seen} {a = a} (goes {seen = s} {a = a'} t h) q e = in_either (nat_eq q (code a)) _ (λ is. subst (λ z. z < bound) (sym (eqb-true q (code a) is)) (below a (further w instance (trail_leads t) h))) (codes_below t q) e

    pub short : {seen : List (Asked w instance)} {a : Asked w instance} → Trail seen a → length seen < bound
    short {seen} {a} t = let h : length (code a ∷ map code seen) ≤ bound = length-le_from_distinct_below (code a ∷ map code seen) bound (distinct t) (codes_below t) in omega (arith, length-map seen code)

  module _ (none : ¬ (Return w instance root)) (targets : List (Target S))
      (at_targets : (a : Asked w instance) → LeadsTo w instance root a → list_any (same_target w a.key.target) targets ≡ true)
      (at_places : (a : Asked w instance) → LeadsTo w instance root a → list_any (same_place a.place) (places instance) ≡ true)
      (one_target : (a b k : Target S) → same_target w a k ≡ true → same_target w b k ≡ true → same_target w a b ≡ true)
      (one_place : (a b p : Place) → same_place a p ≡ true → same_place b p ≡ true → same_place a b ≡ true) where
    pub test : Asked w instance → Target S × Place → Bool
    test a x = same_target w a.key.target x.0 && same_place a.place x.1

    pub grid : List (Target S × Place)
    grid = product targets (places instance)

    pub length-grid : length grid ≡ length targets * length (places instance)
    unfolding grid
    length-grid = length-product targets (places instance)

    pub on_grid : (a : Asked w instance) → LeadsTo w instance root a → list_any (test a) grid ≡ true
    unfolding test grid
    on_grid a l = any_product (same_target w a.key.target) (same_place a.place) targets (places instance) (at_targets a l) (at_places a l)

    pub tells : (a b : Asked w instance) → LeadsTo w instance root a → LeadsTo w instance root b → index (test b) grid ≡ index (test a) grid → same_question w instance a b ≡ true
    unfolding test
    tells a b l m e = let (x, p, q) = met_at (test a) (test b) grid (on_grid a l) (on_grid b m) e in
        both_true _ _ (one_target a.key.target b.key.target x.0 (both_left (same_target w a.key.target x.0) (same_place a.place x.1) p) (both_left (same_target w b.key.target x.0) (same_place b.place x.1) q))
        (one_place a.place b.place x.1 (both_right (same_target w a.key.target x.0) (same_place a.place x.1) p) (both_right (same_target w b.key.target x.0) (same_place b.place x.1) q))

    pub grid_short : {seen : List (Asked w instance)} {a : Asked w instance} → Trail seen a → length seen < length targets * length (places instance)
    unfolding grid
    grid_short t = let n : length grid ≡ length targets * length (places instance) = length-product targets (places instance) in
        let l = short none (length grid) (λ a. index (test a) grid) (λ a h. index_below (test a) grid (on_grid a h)) tells t in omega arith
