-- Sameness is an equivalence relation on places, since places that are the same are equal; likewise
-- on places in schemas.
use Rattle.std.proofs.Common.{◌≡◌, ◌∙◌, ◌&&◌, Bool, ap, ap₂, refl, rules, sym, true, false, true≢false, [], ◌∷◌}
use Rattle.std.proofs.lemmas.Bool.{eqb-true}
use Rattle.std.proofs.lemmas.Slice.Eq.{bytes_eq-Decides}
use Rattle.std.specs.Cmp.{IsEquivalence, and_equiv, both_ways, nat_eq_equiv, on_equiv}
use Rattle.theory_definitions.specs.Instance.{Place, Step, to_member, to_item, to_name, same_step, same_place}
use Rattle.theory_definitions.specs.Drafts.{SchemaPlace, same_schema_place}

step_itself : (s : Step) → same_step s s ≡ true
step_itself (to_member k) = (bytes_eq-Decides k k).1 refl
step_itself (to_item i) = search rules
step_itself (to_name k) = (bytes_eq-Decides k k).1 refl

place_itself : (p : Place) → same_place p p ≡ true
place_itself [] = refl
place_itself (s ∷ p) = rw (step_itself s) (place_itself p)

left_holds : (a b : Bool) → (a && b) ≡ true → a ≡ true
left_holds true b h = refl
left_holds false b h = absurd (true≢false (sym h))

right_holds : (a b : Bool) → (a && b) ≡ true → b ≡ true
right_holds true b h = h
right_holds false b h = absurd (true≢false (sym h))

step_equal : (s t : Step) → same_step s t ≡ true → s ≡ t
step_equal (to_member k) (to_member l) h = ap to_member ((bytes_eq-Decides k l).0 h)
step_equal (to_member k) (to_item i) h = absurd (true≢false (sym h))
step_equal (to_member k) (to_name i) h = absurd (true≢false (sym h))
step_equal (to_item k) (to_member l) h = absurd (true≢false (sym h))
step_equal (to_item k) (to_item l) h = ap to_item (eqb-true k l h)
step_equal (to_item k) (to_name l) h = absurd (true≢false (sym h))
step_equal (to_name k) (to_member l) h = absurd (true≢false (sym h))
step_equal (to_name k) (to_item l) h = absurd (true≢false (sym h))
step_equal (to_name k) (to_name l) h = ap to_name ((bytes_eq-Decides k l).0 h)

pub place_equal : (p q : Place) → same_place p q ≡ true → p ≡ q
place_equal [] [] h = refl
place_equal [] (t ∷ q) h = absurd (true≢false (sym h))
place_equal (s ∷ p) [] h = absurd (true≢false (sym h))
place_equal (s ∷ p) (t ∷ q) h = ap₂ (λ x xs. x ∷ xs) (step_equal s t (left_holds _ _ h)) (place_equal p q (right_holds _ _ h))

one_way : (p q : Place) → same_place p q ≡ true → same_place q p ≡ true
one_way p q e = ap (λ z. same_place z p) (sym (place_equal p q e)) ∙ place_itself p

pub places_equiv : IsEquivalence same_place
places_equiv = record {
  refl = place_itself;
  symm = λ p q. both_ways (same_place p q) (same_place q p) (one_way p q) (one_way q p);
  congr = λ p q r e. ap (λ z. same_place z r) (place_equal p q e);
}

pub schema_places_equiv : IsEquivalence same_schema_place
schema_places_equiv = and_equiv (on_equiv (λ (p : SchemaPlace). p.document) nat_eq_equiv) (on_equiv (λ (p : SchemaPlace). p.path) places_equiv)
