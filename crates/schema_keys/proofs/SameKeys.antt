-- Equality of the parts of a key, by their tests.
use Rattle.std.proofs.Common.{◌≡◌, ℕ, ◌&&◌, ◌==◌, Bool, true, false, List, [], ◌∷◌, refl, sym, ap, arith, true≢false, ◌∙◌, ◌<◌, length, map, get_or}
use Rattle.std.specs.Prelude.{Some, option_map, slice_get}
use Rattle.std.proofs.lemmas.Bool.{eqb-true, eq-eqb}
use Rattle.std.proofs.lemmas.List.{length-map}
use Rattle.std.proofs.lemmas.Slice.Eq.{bytes_eq-Decides}
use Rattle.std.proofs.lemmas.Option.{slice_get-map, slice_get_read}
use Rattle.theory_definitions.specs.Instance.{Place, Step, same_place, same_step, to_member, to_item, to_name}
use Rattle.theory_definitions.specs.Drafts as spec
use Rattle.theory_definitions.specs.Plan.{Key}

pub and_parts : (a b : Bool) → (a && b) ≡ true → (a ≡ true) × (b ≡ true)
and_parts true true h = (refl, refl)
and_parts true false h = absurd (true≢false (sym h))
and_parts false b h = absurd (true≢false (sym h))

both_true : (a b : Bool) → a ≡ true → b ≡ true → (a && b) ≡ true
both_true true true p q = refl
both_true true false p q = q
both_true false b p q = p

-- numbers
eq_true : (m n : ℕ) → (m == n) ≡ true → m ≡ n
eq_true m n h = eqb-true m n h

eq_itself : (n : ℕ) → (n == n) ≡ true
eq_itself n = eq-eqb n n refl

step_true : (a b : Step) → same_step a b ≡ true → a ≡ b
step_true (to_member k) (to_member l) h = ap to_member ((bytes_eq-Decides k l).0 h)
step_true (to_item m) (to_item n) h = ap to_item (eq_true m n h)
step_true (to_name k) (to_name l) h = ap to_name ((bytes_eq-Decides k l).0 h)
step_true _ _ h = absurd (true≢false (sym h))

step_itself : (a : Step) → same_step a a ≡ true
step_itself (to_member k) = (bytes_eq-Decides k k).1 refl
step_itself (to_item m) = eq_itself m
step_itself (to_name k) = (bytes_eq-Decides k k).1 refl

place_true : (p q : Place) → same_place p q ≡ true → p ≡ q
place_true [] [] h = refl
place_true [] (t ∷ q) h = absurd (true≢false (sym h))
place_true (s ∷ p) [] h = absurd (true≢false (sym h))
place_true (s ∷ p) (t ∷ q) h =
    let both = and_parts (same_step s t) (same_place p q) h in
    let first : s ≡ t = step_true s t both.0 in
    let rest : p ≡ q = place_true p q both.1 in cc

place_itself : (p : Place) → same_place p p ≡ true
place_itself [] = refl
place_itself (s ∷ p) = both_true (same_step s s) (same_place p p) (step_itself s) (place_itself p)

pub schema_place_true : (a b : spec.SchemaPlace) → spec.same_schema_place a b ≡ true → a ≡ b
schema_place_true a b h =
    let both = and_parts (a.document == b.document) (same_place a.path b.path) h in
    let first : a.document ≡ b.document = eq_true a.document b.document both.0 in
    let rest : a.path ≡ b.path = place_true a.path b.path both.1 in
    ap (λ d. record { document = d; path = a.path }) first ∙ ap (λ p. record { document = b.document; path = p }) rest

pub schema_place_itself : (a : spec.SchemaPlace) → spec.same_schema_place a a ≡ true
schema_place_itself a = both_true (a.document == a.document) (same_place a.path a.path) (eq_itself a.document) (place_itself a.path)

pub draft_true : (a b : spec.Draft) → spec.same_draft a b ≡ true → a ≡ b
draft_true spec.draft_4 spec.draft_4 h = refl
draft_true spec.draft_6 spec.draft_6 h = refl
draft_true spec.draft_7 spec.draft_7 h = refl
draft_true spec.draft_2019_09 spec.draft_2019_09 h = refl
draft_true spec.draft_2020_12 spec.draft_2020_12 h = refl
draft_true spec.draft_unknown spec.draft_unknown h = refl
draft_true _ _ h = absurd (true≢false (sym h))

pub draft_itself : (a : spec.Draft) → spec.same_draft a a ≡ true
draft_itself spec.draft_4 = refl
draft_itself spec.draft_6 = refl
draft_itself spec.draft_7 = refl
draft_itself spec.draft_2019_09 = refl
draft_itself spec.draft_2020_12 = refl
draft_itself spec.draft_unknown = refl

vocabulary_true : (a b : spec.Vocabulary) → spec.same_vocabulary a b ≡ true → a ≡ b
vocabulary_true spec.core_vocabulary spec.core_vocabulary h = refl
vocabulary_true spec.applicator_vocabulary spec.applicator_vocabulary h = refl
vocabulary_true spec.unevaluated_vocabulary spec.unevaluated_vocabulary h = refl
vocabulary_true spec.validation_vocabulary spec.validation_vocabulary h = refl
vocabulary_true spec.metadata_vocabulary spec.metadata_vocabulary h = refl
vocabulary_true spec.format_vocabulary spec.format_vocabulary h = refl
vocabulary_true spec.format_annotation_vocabulary spec.format_annotation_vocabulary h = refl
vocabulary_true spec.format_assertion_vocabulary spec.format_assertion_vocabulary h = refl
vocabulary_true spec.content_vocabulary spec.content_vocabulary h = refl
vocabulary_true (spec.custom_vocabulary k) (spec.custom_vocabulary l) h = ap spec.custom_vocabulary ((bytes_eq-Decides k l).0 h)
vocabulary_true _ _ h = absurd (true≢false (sym h))

vocabulary_itself : (a : spec.Vocabulary) → spec.same_vocabulary a a ≡ true
vocabulary_itself (spec.custom_vocabulary k) = (bytes_eq-Decides k k).1 refl
vocabulary_itself spec.core_vocabulary = refl
vocabulary_itself spec.applicator_vocabulary = refl
vocabulary_itself spec.unevaluated_vocabulary = refl
vocabulary_itself spec.validation_vocabulary = refl
vocabulary_itself spec.metadata_vocabulary = refl
vocabulary_itself spec.format_vocabulary = refl
vocabulary_itself spec.format_annotation_vocabulary = refl
vocabulary_itself spec.format_assertion_vocabulary = refl
vocabulary_itself spec.content_vocabulary = refl

pub vocabularies_true : (a b : spec.Vocabularies) → spec.same_vocabularies a b ≡ true → a ≡ b
vocabularies_true [] [] h = refl
vocabularies_true [] (t ∷ q) h = absurd (true≢false (sym h))
vocabularies_true (s ∷ p) [] h = absurd (true≢false (sym h))
vocabularies_true (s ∷ p) (t ∷ q) h =
    let both = and_parts (spec.same_vocabulary s t) (spec.same_vocabularies p q) h in
    let first : s ≡ t = vocabulary_true s t both.0 in
    let rest : p ≡ q = vocabularies_true p q both.1 in cc

pub vocabularies_itself : (a : spec.Vocabularies) → spec.same_vocabularies a a ≡ true
vocabularies_itself [] = refl
vocabularies_itself (s ∷ p) = both_true (spec.same_vocabulary s s) (spec.same_vocabularies p p) (vocabulary_itself s) (vocabularies_itself p)

pub one_key : {S : Type 0} (a b : Key S) → a.target.place ≡ b.target.place → a.target.state ≡ b.target.state → a.target.draft ≡ b.target.draft → a.target.vocabularies ≡ b.target.vocabularies
    → a.location ≡ b.location → a.base ≡ b.base → a.start ≡ b.start → a ≡ b
one_key a b p s d v l e n = λ j. record {
  target = record { place = p j; state = s j; draft = d j; vocabularies = v j };
  location = l j;
  base = e j;
  start = n j;
}

-- keys with different places or vocabularies differ
pub places_differ : {S : Type 0} (a b : Key S) → spec.same_schema_place a.target.place b.target.place ≡ false → a ≡ b → ⊥
places_differ {S} a b h e = true≢false (sym (schema_place_itself a.target.place) ∙ ap (λ (q : Key S). spec.same_schema_place a.target.place q.target.place) e ∙ h)

pub vocabularies_differ : {S : Type 0} (a b : Key S) → spec.same_vocabularies a.target.vocabularies b.target.vocabularies ≡ false → a ≡ b → ⊥
vocabularies_differ {S} a b h e = true≢false (sym (vocabularies_itself a.target.vocabularies) ∙ ap (λ (q : Key S). spec.same_vocabularies a.target.vocabularies q.target.vocabularies) e ∙ h)

-- ---- searching a list

-- the shared element at a number, as contracts see it
pub shared_at : {A B : Type 0} (u : B → A) (rs : List B) (xs : List A) (n : ℕ) (r : B) → map u rs ≡ xs → n < length xs → r ≡ get_or rs n r → slice_get xs n ≡ Some (u r)
shared_at {A} u rs xs n r is h at =
    let longs : length (map u rs) ≡ length xs = ap (λ (ys : List A). length ys) is in
    let within : n < length rs = omega (arith, longs, length-map rs u) in
    ap (λ (ys : List A). slice_get ys n) (sym is) ∙ slice_get-map u rs n ∙ ap (option_map u) (slice_get_read rs (length rs) n r refl within at)

-- an element that is not the one searched for
pub not_at : {A B : Type 0} (v : A → B) (xs : List A) (n : ℕ) (x : A) (b : B) → slice_get xs n ≡ Some x → (v x ≡ b → ⊥) → slice_get (map v xs) n ≡ Some b → ⊥
not_at v xs n x b at differs e =
    let same : Some (v x) ≡ Some b = rw (slice_get-map v xs n, at) at e in
    let same' : v x ≡ b = cc in
    differs same'
