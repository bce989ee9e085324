-- At each step no more targets that nest are open than the limit allows; and the edges of a key
-- determine whether its number is final.
use Rattle.std.proofs.Common.{◌≡◌, ◌≤◌, ◌<◌, ◌∙◌, ℕ, suc, Bool, true, false, ◌||◌, not, List, [], ◌∷◌, ◌++◌, length, refl, sym, ap, ap₂, subst, arith}
use Rattle.std.specs.Prelude.{◌↔◌, if◌then◌else◌, slice_get, slice_set}
use Rattle.theory_definitions.specs.Parts.{Parts}
use Rattle.theory_definitions.specs.Plan.{Edge}
use Rattle.schema_compiler.specs.Finding.{Course, Finds, Standing, Visits, and_then, formed_count, is_formed, is_open, is_opened, is_put, is_settled, nests, no_more, waits, was_found}
use Rattle.schema_compiler.specs.Nesting.{ComesTo, LedToSettled, NestsWithin, SettledByEdges, comes_here, comes_inside, comes_past, nesting_count}
use Rattle.schema_keys.proofs.Lists.{get-set_same, length-more, set-length}
use Rattle.schema_compiler.proofs.Courses.{visits_go_on}

neither : (a b : Bool) → (a || b) ≡ false → (a ≡ false) × (b ≡ false)
neither false b e = (refl, e)
neither true b e = absurd (cc e)

from_not : (b : Bool) → not b ≡ false → b ≡ true
from_not true e = refl
from_not false e = absurd (cc e)

from_true : (b : Bool) → not b ≡ true → b ≡ false
from_true false e = refl
from_true true e = absurd (cc e)

nesting_more : {S : Type 0} (e : Edge S) (around : List (Edge S)) (depth : ℕ) → nesting_count around ≡ depth → nesting_count (e ∷ around) ≡ (if nests e then suc depth else depth)
nesting_more e around depth same = ap (λ n. if nests e then suc n else n) same

settled_is : (ss : List Standing) (i r o : ℕ) (b : Bool) → i < length ss → is_settled (slice_get (slice_set ss i (is_formed r o b)) i) ≡ b
settled_is ss i r o b within = ap is_settled (get-set_same ss i (is_formed r o b) within)

module _ {S K R : Type 0} (w : Parts S K R) (nested : ℕ) where
  -- ---- how many are open

  still_within : (b : Bool) (depth : ℕ) → depth ≤ nested → (b ≡ true → depth < nested) → (if b then suc depth else depth) ≤ nested
  still_within true depth few room = let less = room refl in omega (arith, less)
  still_within false depth few room = few

  comes_within : {around : List (Edge S)} {c : Course S} {es : List (Edge S)} {inner : List (Edge S)} {d : Course S} → ComesTo w nested around c es inner d
      → nesting_count around ≡ c.depth → c.depth ≤ nested → nesting_count inner ≤ nested
  comes_within comes_here same few = subst (λ n. n ≤ nested) (sym same) few
  comes_within (comes_inside {around = around} {c = c} {e = e} new room more) same few = comes_within more (nesting_more e around c.depth same) (still_within (nests e) c.depth few room)
  comes_within (comes_past {c = c} x i visit more) same few =
      let kept : x.depth ≡ c.depth = (visits_go_on w nested visit).depth in
      comes_within more (same ∙ sym kept) (subst (λ n. n ≤ nested) (sym kept) few)

  pub nests_within : NestsWithin w nested
  nests_within c i k around d comes = comes_within comes refl (omega arith)

  -- ---- which numbers are final

  mutual
    visits_longer : {c : Course S} {e : Edge S} {d : Course S} {i : ℕ} → Visits w nested c e d i → length c.standings ≤ length d.standings
    visits_longer (was_found at) = omega arith
    visits_longer (is_put {c = c} {e = e} {c' = c'} new one full eq len) =
        let more : length c.standings ≤ length (c.standings ++ waits ∷ []) = omega (arith, length-more c.standings waits) in
        subst (λ x. length c.standings ≤ length x.standings) (sym eq) more
    visits_longer (is_opened {c = c} {e = e} {c' = c'} d new free inner eq len) =
        let around : length (c.standings ++ is_open c.round ∷ []) ≤ length d.standings = finds_longer inner in
        let same : length (slice_set d.standings (length c.keys) (is_formed d.round (formed_count d.standings) (not d.loose))) ≡ length d.standings = set-length d.standings (length c.keys) (is_formed d.round (formed_count d.standings) (not d.loose)) in
        let more : length c.standings ≤ length (slice_set d.standings (length c.keys) (is_formed d.round (formed_count d.standings) (not d.loose))) = omega (arith, around, same, length-more c.standings (is_open c.round)) in
        subst (λ x. length c.standings ≤ length x.standings) (sym eq) more

    finds_longer : {c : Course S} {es : List (Edge S)} {d : Course S} → Finds w nested c es d → length c.standings ≤ length d.standings
    finds_longer no_more = omega arith
    finds_longer (and_then {c = c} d i {c' = c'} v f) =
        let one : length c.standings ≤ length d.standings = visits_longer v in
        let two : length d.standings ≤ length c'.standings = finds_longer f in
        omega (arith, one, two)

  visit_loose : {c : Course S} {e : Edge S} {d : Course S} {i : ℕ} → Visits w nested c e d i → d.loose ≡ c.loose
  visit_loose (was_found at) = refl
  visit_loose (is_put new one full eq len) = ap (λ x. x.loose) eq
  visit_loose (is_opened d new free inner eq len) = ap (λ x. x.loose) eq

  led : {c : Course S} {es : List (Edge S)} {d : Course S} (f : Finds w nested c es d) → (d.loose ≡ false) ↔ ((c.loose ≡ false) × LedToSettled w nested f)
  led no_more = (λ e. (e, tt), λ h. h.0)
  led (and_then {c = c} d i v f) =
      let rest = led f in
      let same : d.loose ≡ c.loose = visit_loose v in (
        λ e. let (one, later) = rest.0 e in
            let (none, settled) = neither d.loose (not (is_settled (slice_get d.standings i))) one in
            (sym same ∙ none, (from_not (is_settled (slice_get d.standings i)) settled, later)),
        λ h. rest.1 (ap₂ (λ a b. a || not b) (same ∙ h.0) h.1.0, h.1.1),
      )

  -- if nothing was recorded at the start
  by_edges : (loose : Bool) {P : Type 0} (b : Bool) → b ≡ not loose → (loose ≡ false) ↔ ((◌≡◌ {A = Bool} false false) × P) → (b ≡ true) ↔ P
  by_edges loose b is edges = (λ e. (edges.0 (from_true loose (sym is ∙ e))).1, λ p. is ∙ ap not (edges.1 (refl, p)))

  pub settled_by_edges : SettledByEdges w nested
  settled_by_edges = (
    λ c e d even f.
        let opened : length (c.standings ++ is_open c.round ∷ []) ≤ length d.standings = finds_longer f in
        let within : length c.keys < length d.standings = omega (arith, opened, even, length-more c.standings (is_open c.round)) in
        by_edges d.loose _ (settled_is d.standings (length c.keys) d.round (formed_count d.standings) (not d.loose) within) (led f),
    λ c i k d there f.
        let same : length (slice_set c.standings i (is_open i)) ≡ length c.standings = set-length c.standings i (is_open i) in
        let more : length (slice_set c.standings i (is_open i)) ≤ length d.standings = finds_longer f in
        let within : i < length d.standings = omega (arith, same, more, there) in
        by_edges d.loose _ (settled_is d.standings i d.round (formed_count d.standings) (not d.loose) within) (led f),
  )
