-- If a place has a number, then so has the one a step up; and each place with a subject has a
-- number.
use Rattle.std.proofs.Common.{◌≡◌, ℕ, suc, ◌+◌, ◌<◌, ◌&&◌, Bool, true, false, cond, List, [], ◌∷◌, ◌++◌, length, map, refl, sym, ◌∙◌, ap, ap₂, subst, arith, true≢false}
use Rattle.std.specs.Prelude.{Option, Some, None, is_some, option_map, ◌||◌}
use Rattle.serde_json.specs.Data.{Data, Items, Members, array, boolean, item, member, no_items, no_members, null, number, object, string}
use Rattle.theory_definitions.specs.Instance.{Place, Step, item_places, member_places, places, same_place, same_step, to_item, to_member, to_name}
use Rattle.schema_places.specs.Numbers.{Closed, number_of, place_at}
use Rattle.schema_places.proofs.Under.{step_equal}

pub some_map : (o : Option ℕ) → is_some (option_map (λ n. n + 1) o) ≡ is_some o
some_map None = refl
some_map (Some n) = refl

-- whether a place has a number, the first of the places apart
pub some_first : (p q : Place) (ps : List Place) → is_some (number_of p (q ∷ ps)) ≡ (same_place p q || is_some (number_of p ps))
some_first p q ps = go (same_place p q)
  where
    go : (b : Bool) → is_some (cond b (Some 0) (option_map (λ n. n + 1) (number_of p ps))) ≡ (b || is_some (number_of p ps))
    go true = refl
    go false = some_map (number_of p ps)

-- the same of a block of places that begin with one step
pub some_block : (t h : Step) (p : Place) (qs ys : List Place) → is_some (number_of (t ∷ p) (map (λ q. h ∷ q) qs ++ ys)) ≡ ((same_step t h && is_some (number_of p qs)) || is_some (number_of (t ∷ p) ys))
some_block t h p [] ys = go (same_step t h)
  where
    go : (b : Bool) → is_some (number_of (t ∷ p) ys) ≡ ((b && false) || is_some (number_of (t ∷ p) ys))
    go true = refl
    go false = refl
some_block t h p (q ∷ qs) ys =
    some_first (t ∷ p) (h ∷ q) (map (λ r. h ∷ r) qs ++ ys) ∙ ap (λ b. (same_step t h && same_place p q) || b) (some_block t h p qs ys)
    ∙ go (same_step t h) (same_place p q) (is_some (number_of p qs)) (is_some (number_of (t ∷ p) ys))
    ∙ ap (λ b. (same_step t h && b) || is_some (number_of (t ∷ p) ys)) (sym (some_first p q qs))
  where
    go : (a b c d : Bool) → ((a && b) || ((a && c) || d)) ≡ ((a && (b || c)) || d)
    go true true c d = refl
    go true false c d = refl
    go false b c d = refl

either_way : (a b c d : Bool) → (a ≡ true → b ≡ true) → (c ≡ true → d ≡ true) → (a || c) ≡ true → (b || d) ≡ true
either_way true b c d f g h = ap (λ x. x || d) (f refl)
either_way false true c d f g h = refl
either_way false false c d f g h = g h

both_way : (a b c : Bool) → (b ≡ true → c ≡ true) → (a && b) ≡ true → (a && c) ≡ true
both_way true b c f h = f h
both_way false b c f h = h

and_false : (b : Bool) → (b && false) ≡ false
and_false true = refl
and_false false = refl

longer : (p : Place) (s : Step) → same_place (p ++ s ∷ []) [] ≡ false
longer [] s = refl
longer (t ∷ p) s = refl

pub root_there : (d : Data) → is_some (number_of [] (places d)) ≡ true
root_there null = refl
root_there (boolean b) = refl
root_there (number n) = refl
root_there (string t) = refl
root_there (array ds) = refl
root_there (object ms) = refl

-- the root comes first
pub root_first : (d : Data) → (0 < length (places d)) × (place_at (places d) 0 ≡ [])
root_first null = (omega arith, refl)
root_first (boolean b) = (omega arith, refl)
root_first (number n) = (omega arith, refl)
root_first (string t) = (omega arith, refl)
root_first (array ds) = (omega arith, refl)
root_first (object ms) = (omega arith, refl)

mutual
  closed_at : (d : Data) (p : Place) (s : Step) → is_some (number_of (p ++ s ∷ []) (places d)) ≡ true → is_some (number_of p (places d)) ≡ true
  closed_at d [] s h = root_there d
  closed_at null (t ∷ p) s h = absurd (true≢false (sym h))
  closed_at (boolean b) (t ∷ p) s h = absurd (true≢false (sym h))
  closed_at (number n) (t ∷ p) s h = absurd (true≢false (sym h))
  closed_at (string x) (t ∷ p) s h = absurd (true≢false (sym h))
  closed_at (array ds) (t ∷ p) s h =
      some_map (number_of (t ∷ p) (item_places 0 ds)) ∙ closed_items 0 ds t p s (sym (some_map (number_of (t ∷ (p ++ s ∷ [])) (item_places 0 ds))) ∙ h)
  closed_at (object ms) (t ∷ p) s h =
      some_map (number_of (t ∷ p) (member_places ms)) ∙ closed_members ms t p s (sym (some_map (number_of (t ∷ (p ++ s ∷ [])) (member_places ms))) ∙ h)

  closed_items : (n : ℕ) (ds : Items) (t : Step) (p : Place) (s : Step) → is_some (number_of (t ∷ (p ++ s ∷ [])) (item_places n ds)) ≡ true → is_some (number_of (t ∷ p) (item_places n ds)) ≡ true
  closed_items n no_items t p s h = absurd (true≢false (sym h))
  closed_items n (item d ds) t p s h =
      some_block t (to_item n) p (places d) (item_places (n + 1) ds)
      ∙ either_way (same_step t (to_item n) && is_some (number_of (p ++ s ∷ []) (places d))) _ (is_some (number_of (t ∷ (p ++ s ∷ [])) (item_places (n + 1) ds))) _
      (both_way (same_step t (to_item n)) _ _ (closed_at d p s)) (closed_items (n + 1) ds t p s)
      (sym (some_block t (to_item n) (p ++ s ∷ []) (places d) (item_places (n + 1) ds)) ∙ h)

  closed_members : (ms : Members) (t : Step) (p : Place) (s : Step) → is_some (number_of (t ∷ (p ++ s ∷ [])) (member_places ms)) ≡ true → is_some (number_of (t ∷ p) (member_places ms)) ≡ true
  closed_members no_members t p s h = absurd (true≢false (sym h))
  closed_members (member k d ms) t p s h =
      some_first (t ∷ p) (to_name k ∷ []) (map (λ q. to_member k ∷ q) (places d) ++ member_places ms)
      ∙ either_way (same_step t (to_name k) && same_place (p ++ s ∷ []) []) _ (is_some (number_of (t ∷ (p ++ s ∷ [])) (map (λ q. to_member k ∷ q) (places d) ++ member_places ms))) _
      (λ e. absurd (true≢false (sym e ∙ ap (λ b. same_step t (to_name k) && b) (longer p s) ∙ and_false (same_step t (to_name k)))))
      (λ e. some_block t (to_member k) p (places d) (member_places ms)
      ∙ either_way (same_step t (to_member k) && is_some (number_of (p ++ s ∷ []) (places d))) _ (is_some (number_of (t ∷ (p ++ s ∷ [])) (member_places ms))) _
      (both_way (same_step t (to_member k)) _ _ (closed_at d p s)) (closed_members ms t p s)
      (sym (some_block t (to_member k) (p ++ s ∷ []) (places d) (member_places ms)) ∙ e))
      (sym (some_first (t ∷ (p ++ s ∷ [])) (to_name k ∷ []) (map (λ q. to_member k ∷ q) (places d) ++ member_places ms)) ∙ h)

pub places_closed : (d : Data) → Closed (places d)
places_closed d p s h = closed_at d p s h

-- ---- a place by its number

place_equal : (p q : Place) → same_place p q ≡ true → p ≡ q
place_equal [] [] h = refl
place_equal [] (t ∷ q) h = absurd (true≢false (sym h))
place_equal (s ∷ p) [] h = absurd (true≢false (sym h))
place_equal (s ∷ p) (t ∷ q) h = go (place_equal p q) (same_step s t) refl h
  where
    go : (same_place p q ≡ true → p ≡ q) → (b : Bool) → same_step s t ≡ b → (b && same_place p q) ≡ true → s ∷ p ≡ t ∷ q
    go rest true e g = ap₂ (λ (x : Step) (xs : Place). x ∷ xs) (step_equal s t e) (rest g)
    go rest false e g = absurd (true≢false (sym g))

-- a place that has a number stands there
pub stands : (q : Place) (ps : List Place) (k : ℕ) → number_of q ps ≡ Some k → (k < length ps) × (place_at ps k ≡ q)
stands q [] k e = absurd (let f : ⊥ = cc in f)
stands q (p ∷ ps) k e = go (λ m f. stands q ps m f) (same_place q p) refl (number_of q ps) refl e
  where
    go : ((m : ℕ) → number_of q ps ≡ Some m → (m < length ps) × (place_at ps m ≡ q)) → (b : Bool) → same_place q p ≡ b → (o : Option ℕ) → number_of q ps ≡ o
        → cond b (Some 0) (option_map (λ n. n + 1) o) ≡ Some k → (k < suc (length ps)) × (place_at (p ∷ ps) k ≡ q)
    go rest true s o f h =
        let is : 0 ≡ k = cc in
        (omega arith, subst (λ (j : ℕ). place_at (p ∷ ps) j ≡ q) is (sym (place_equal q p s)))
    go rest false s None f h = absurd (let g : ⊥ = cc in g)
    go rest false s (Some m) f h =
        let is : m + 1 ≡ k = cc in
        let r = rest m f in
        let next : suc m ≡ k = omega arith in
        (omega (arith, r.0), subst (λ (j : ℕ). place_at (p ∷ ps) j ≡ q) next r.1)

-- no place is below one that is not there
pub none_below : (p : Place) (s : Step) (ps : List Place) → Closed ps → number_of p ps ≡ None → number_of (p ++ s ∷ []) ps ≡ None
none_below p s ps c e = go (number_of (p ++ s ∷ []) ps) refl
  where
    go : (o : Option ℕ) → number_of (p ++ s ∷ []) ps ≡ o → o ≡ None
    go None f = refl
    go (Some n) f = absurd (true≢false (sym (c p s (ap is_some f)) ∙ ap is_some e))
