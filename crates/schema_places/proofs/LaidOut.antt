-- What the rows of a value's places say.
use Rattle.std.proofs.Common.{◌≡◌, ◌∙◌, ◌<◌, ◌≤◌, ◌&&◌, leb, ap₂, ◌++◌, ◌∷◌, [], ◌+◌, ℕ, List, ap, arith, length, subst, sym}
use Rattle.std.specs.Prelude.{Some}
use Rattle.serde_json.specs.View.{view}
use Rattle.serde_json.specs.declared.value.Value.{Value}
use Rattle.theory_definitions.specs.Instance.{Place, Step, places}
use Rattle.schema_places.specs.Numbers.{Ascends, Closed, is_under, number_of, place_at}
use Rattle.schema_places.specs.Rows.{Laid, LaidOut, RisesBelow, leads_of, led_by, places_of, row_in, rows_at}
use Rattle.schema_places.proofs.Closing.{places_closed}
use Rattle.schema_places.proofs.Ascending.{places_ascend}
use Rattle.schema_places.proofs.Names.{names_apart}
use Rattle.schema_places.proofs.Rising.{rows_rise}
use Rattle.schema_places.proofs.Laying.{length_rows}
use Rattle.schema_places.proofs.Sitting.{sits_self}
use Rattle.schema_places.proofs.Under.{last_bounds, last_of, under_at}
use Rattle.schema_places.proofs.Numbers.{led_at, more_none, stands_at}

pub count : (v : Value) (rows : List Laid) (ps : List Place) → LaidOut v rows → places_of v ≡ ps → length rows ≡ length ps
count v rows ps l e = ap length l.rows_are ∙ length_rows 0 (view v) ∙ ap length e

pub ascends : (v : Value) (rows : List Laid) (ps : List Place) → LaidOut v rows → places_of v ≡ ps → Ascends ps
ascends v rows ps l e = subst Ascends e (places_ascend (view v) l.ascend)

pub closed : (v : Value) (ps : List Place) → places_of v ≡ ps → Closed ps
closed v ps e = subst Closed e (places_closed (view v))

row_there : (v : Value) (rows : List Laid) (i : ℕ) → LaidOut v rows → row_in (rows_at 0 (view v)) i ≡ row_in rows i
row_there v rows i l = ap (λ xs. row_in xs i) (sym l.rows_are)

pub row_leads : (v : Value) (rows : List Laid) (ps : List Place) (i : ℕ) (s : Step) → LaidOut v rows → places_of v ≡ ps → i < length ps
    → led_by s (leads_of rows (row_in rows i).below) ≡ number_of (place_at ps i ++ s ∷ []) ps
row_leads v rows ps i s l e w =
    let many = count v rows ps l e in
    let all : i < length (places (view v)) = omega (arith, ap length e) in
    ap (λ (r : List Laid). led_by s (leads_of r (row_in r i).below)) l.rows_are
    ∙ led_at s (rows_at 0 (view v)) 0 (view v) i (sits_self (rows_at 0 (view v))) (names_apart (view v) l.ascend) all ∙ more_none (number_of (place_at (places (view v)) i ++ s ∷ []) (places (view v)))
    ∙ ap (λ (qs : List Place). number_of (place_at qs i ++ s ∷ []) qs) e

pub row_last : (v : Value) (rows : List Laid) (ps : List Place) (i : ℕ) → LaidOut v rows → places_of v ≡ ps → i < length ps
    → (i ≤ (row_in rows i).last) × ((row_in rows i).last < length ps) × ((k : ℕ) → k < length ps → is_under (place_at ps i) (place_at ps k) ≡ (leb i k && leb k (row_in rows i).last))
row_last v rows ps i l e w =
    let many = count v rows ps l e in
    let all : i < length (places (view v)) = omega (arith, ap length e) in
    let there = row_there v rows i l in
    let its : last_of (rows_at 0 (view v)) i ≡ (row_in rows i).last = ap (λ (x : Laid). x.last) there in
    let bounds = last_bounds 0 (view v) i all in
    let from : i ≤ (row_in rows i).last = omega (arith, bounds.0, its) in
    let known : (row_in rows i).last < length ps = omega (arith, bounds.1, its, ap length e) in (
      from,
      known,
      λ k m. ap (λ (qs : List Place). is_under (place_at qs i) (place_at qs k)) (sym e)
          ∙ under_at 0 (view v) i k (names_apart (view v) l.ascend) all (omega (arith, ap length e))
          ∙ ap₂ (λ (x y : ℕ). leb i k && leb x y) (nothing k) its,
    )
  where
    nothing : (k : ℕ) → 0 + k ≡ k
    nothing k = omega arith

pub found_given : (v : Value) (ps : List Place) (rows : List Laid) (n : ℕ) → LaidOut v rows → places_of v ≡ ps → n < length ps → Some n ≡ number_of (place_at ps n) ps
found_given v ps rows n l e w = sym (subst (λ (qs : List Place). n < length qs → number_of (place_at qs n) qs ≡ Some n) e (λ m. stands_at (view v) n (names_apart (view v) l.ascend) m) w)

pub row_rises : (v : Value) (rows : List Laid) (i : ℕ) → LaidOut v rows → RisesBelow rows (row_in rows i).below
row_rises v rows i l = subst (λ (r : List Laid). RisesBelow r (row_in r i).below) (sym l.rows_are) (rows_rise (rows_at 0 (view v)) 0 (view v) i (sits_self (rows_at 0 (view v))) l.ascend)
