-- The rows of a solver's context beside its pairs: what is in progress, what comes to the assumed pairs, what of them is dropped, and what
-- is settled.
use Rattle.std.proofs.Common.{◌≡◌, ◌∙◌, ℕ, zero, suc, ◌+◌, ◌-◌, ◌*◌, ◌/◌, ◌<◌, ◌==◌, ◌&&◌, ◌||◌, ◌++◌, not, Bool, true, false, cond, List, [], ◌∷◌, length, get_or, take, drop, refl, sym, subst, ap, ap₂, arith, true≢false}
use Rattle.std.specs.Prelude.{All, Option, Some, if◌then◌else◌}
use Rattle.std.proofs.Math.Seq.{take-suc}
use Rattle.std.proofs.lemmas.Bool.{false_from_ne_true}
use Rattle.std.proofs.lemmas.List.{drop-map, length-drop, map-append, take-append-drop, take-map, take_all}
use Rattle.std.proofs.lemmas.List.Elements.{All-append, All-cons, All-drop, All-head, All-nil, All-tail, All-take}
use Rattle.std.proofs.lemmas.List.Folds.{list_any-append}
use Rattle.theory_definitions.specs.Instance.{Place, same_place}
use Rattle.schema_places.specs.Numbers.{OwnNumbers, place_at}
use Rattle.schema_run_context.specs.Progress.{Pairs, Verdicts, busy_at, row_words}
use Rattle.schema_run_context.specs.ProgressViews.{all_verdicts, pair_of}
use Rattle.schema_run_context.specs.Rows.{AreWide, PutsBit, has_bit, has_words, row_in}
use Rattle.schema_run_context.specs.Verdicts.{Remembers, is_pair, verdict_of}
use Rattle.schema_run_context.proofs.Entering.{in_row}
use Rattle.schema_run_context.proofs.Guarding.{has_row, same_at}
use Rattle.schema_run_context.proofs.Pairs.{among, among-pair, eqb-self}
use Rattle.theory_fixed_points.specs.Found.{is_this}
use Rattle.theory_fixed_points.proofs.Pairs.{of_this, this_self}
use Rattle.schema_solver_state.specs.Contexts.{SettlesAll, has_pair}
use Rattle.schema_solver_state.specs.ContextViews.{Assumes, HaveBits, KeepsVerdict, SettlesPairs, has_number_pair, pairs_at}
use Rattle.schema_run_context.specs.declared.numbered_pairs.NumberedPair.{NumberedPair}
use Rattle.schema_solver_state.proofs.FoundOf.{has_append, has_pushed}

and_swap : (a b : Bool) → (a && b) ≡ (b && a)
and_swap true true = refl
and_swap true false = refl
and_swap false true = refl
and_swap false false = refl

-- a number at a place is a pair
pub busy_pair : (n : ℕ) (p : Place) (es : Pairs) → among n (busy_at p es) ≡ has_pair es n p
busy_pair n p [] = refl
busy_pair n p (e ∷ es) = among-pair n p e es ∙ ap₂ (λ (x y : Bool). x || y) (and_swap (same_place e.1 p) (e.0 == n)) (busy_pair n p es)

none_of : {X : Type 0} (xs : List X) → length xs ≡ 0 → xs ≡ []
none_of [] h = refl
none_of (x ∷ xs) h = absurd (omega arith)

-- none is in progress at a place that has no number
pub none_busy : (p : Place) (es : Pairs) → length (busy_at p es) ≡ 0 → (n : ℕ) → has_pair es n p ≡ false
none_busy p es empty n = sym (busy_pair n p es) ∙ ap (among n) (none_of (busy_at p es) empty)

pub some_busy : (p : Place) (es : Pairs) → (length (busy_at p es) ≡ 0 → ⊥) → (n : ℕ) × (has_pair es n p ≡ true)
some_busy p es some = go (busy_at p es) refl
  where
    go : (xs : List ℕ) → busy_at p es ≡ xs → (n : ℕ) × (has_pair es n p ≡ true)
    go [] e = absurd (some (ap length e))
    go (x ∷ xs) e = (x, sym (busy_pair x p es) ∙ ap (among x) e ∙ ap (λ (b : Bool). b || among x xs) (eqb-self x))

-- the elements up to one, and that one
pub take_next : {X : Type 0} (xs : List X) (i : ℕ) (d : X) → i < length xs → take (i + 1) xs ≡ take i xs ++ get_or xs i d ∷ []
take_next xs i d l = let next : i + 1 ≡ suc i = omega arith in ap (λ n. take n xs) next ∙ take-suc xs i d l

-- all elements from one on
pub rest_all : {X : Type 0} (xs : List X) (n : ℕ) → take (length xs - n) (drop n xs) ≡ drop n xs
rest_all xs n = take_all (length xs - n) (drop n xs) (let size = length-drop n xs in omega (arith, size))

-- ---- a pair that is assumed

pub assumed_more : (ps : List Place) (es : List NumberedPair) (yeses mid new : List (List ℕ)) (e : NumberedPair) → OwnNumbers ps → e.place < length ps → Assumes ps es yeses
    → ((q b : ℕ) → has_bit (row_in mid q) b ≡ has_bit (row_in yeses q) b) → PutsBit e.node.0 e.place true mid new → AreWide (row_words (length ps)) mid → Assumes ps (es ++ e ∷ []) new
assumed_more ps es yeses mid new e own within assumes same put wide = record {
  bits = λ n k l.
      put.bits n k ∙ ap (λ (b : Bool). cond ((e.node.0 == n) && (e.place == k)) true b) (same n k ∙ assumes.bits n k l)
      ∙ ap (λ (x : Bool). cond ((e.node.0 == n) && x) true (has_pair (pairs_at ps es) n (place_at ps k))) (sym (same_at ps e.place k own within l))
      ∙ either (is_this e.node.0 (place_at ps e.place) n (place_at ps k)) (has_pair (pairs_at ps es) n (place_at ps k))
      ∙ sym (has_pushed (pairs_at ps es) e.node.0 (place_at ps e.place) n (place_at ps k))
      ∙ ap (λ (xs : Pairs). has_pair xs n (place_at ps k)) (sym (map-append (pair_of ps) es (e ∷ [])));
  placed = All-append (λ (x : NumberedPair). x.place < length ps) es (e ∷ []) assumes.placed
      (All-cons (λ (x : NumberedPair). x.place < length ps) e [] within (All-nil (λ (x : NumberedPair). x.place < length ps)));
  wide = put.wide (row_words (length ps)) wide;
}
  where
    either : (a b : Bool) → cond a true b ≡ (a || b)
    either true b = refl
    either false b = refl

-- ---- what is dropped

-- each assumed pair has its bit
bit_of : (ps : List Place) (es : List NumberedPair) (yeses : List (List ℕ)) → Assumes ps es yeses → (i : ℕ) (d : NumberedPair) → i < length es → has_bit (row_in yeses (get_or es i d).node.0) (get_or es i d).place ≡ true
bit_of ps es yeses assumes i d l =
    assumes.bits (get_or es i d).node.0 (get_or es i d).place (assumes.placed i d l) ∙ there es i l
  where
    there : (xs : List NumberedPair) (j : ℕ) → j < length xs → has_pair (pairs_at ps xs) (get_or xs j d).node.0 (place_at ps (get_or xs j d).place) ≡ true
    there [] j m = absurd (omega arith)
    there (x ∷ xs) zero m = ap (λ (b : Bool). b || has_pair (pairs_at ps xs) x.node.0 (place_at ps x.place)) (this_self x.node.0 (place_at ps x.place))
    there (x ∷ xs) (suc j) m = or_second (is_pair (get_or xs j d).node.0 (place_at ps (get_or xs j d).place) (pair_of ps x)) (there xs j (omega arith))
      where
        or_second : (a : Bool) {b : Bool} → b ≡ true → (a || b) ≡ true
        or_second true h = refl
        or_second false h = h

pub have_bits : (ps : List Place) (es : List NumberedPair) (yeses : List (List ℕ)) → Assumes ps es yeses → HaveBits es yeses
have_bits ps es yeses assumes = record {
  words = row_words (length ps);
  wide = assumes.wide;
  there = λ i d l. (in_row (row_words (length ps)) (get_or es i d).place (length ps) refl (assumes.placed i d l), has_row yeses (get_or es i d).node.0 (get_or es i d).place (bit_of ps es yeses assumes i d l));
}

pub later_bits : (n : ℕ) (es : List NumberedPair) (rows : List (List ℕ)) → HaveBits es rows → HaveBits (drop n es) rows
later_bits n es rows have = record {
  words = have.words;
  wide = have.wide;
  there = All-drop (λ (e : NumberedPair). (e.place / 64 < have.words) × (has_words (row_in rows e.node.0) ≡ true)) n es have.there;
}

-- a pair by numbers is one by places
by_numbers : (ps : List Place) (es : List NumberedPair) (n k : ℕ) → OwnNumbers ps → k < length ps → All (λ e. e.place < length ps) es → has_number_pair es n k ≡ has_pair (pairs_at ps es) n (place_at ps k)
by_numbers ps [] n k own l placed = refl
by_numbers ps (e ∷ es) n k own l placed = ap₂ (λ (x y : Bool). x || y)
    (ap (λ (x : Bool). (e.node.0 == n) && x) (sym (same_at ps e.place k own (All-head (λ (x : NumberedPair). x.place < length ps) e es placed) l)))
    (by_numbers ps es n k own l (All-tail (λ (x : NumberedPair). x.place < length ps) e es placed))

pub assumed_less : (ps : List Place) (es : List NumberedPair) (yeses new : List (List ℕ)) (mark : ℕ) → OwnNumbers ps → Assumes ps es yeses
    → ((i : ℕ) (p : Place) → has_pair (drop mark (pairs_at ps es)) i p ≡ true → has_pair (take mark (pairs_at ps es)) i p ≡ false)
    → ((n k : ℕ) → has_bit (row_in new n) k ≡ (has_bit (row_in yeses n) k && not (has_number_pair (drop mark es) n k)))
    → ((w : ℕ) → AreWide w yeses → AreWide w new) → Assumes ps (take mark es) new
assumed_less ps es yeses new mark own assumes apart cleared wide = record {
  bits = λ n k l.
      cleared n k
      ∙ ap₂ (λ (x y : Bool). x && not y) (assumes.bits n k l ∙ split n (place_at ps k)) (by_numbers ps (drop mark es) n k own l (All-drop (λ (e : NumberedPair). e.place < length ps) mark es assumes.placed))
      ∙ left (has_pair (pairs_at ps (take mark es)) n (place_at ps k)) (has_pair (pairs_at ps (drop mark es)) n (place_at ps k)) (away n (place_at ps k));
  placed = All-take (λ (e : NumberedPair). e.place < length ps) mark es assumes.placed;
  wide = wide (row_words (length ps)) assumes.wide;
}
  where
    split : (n : ℕ) (p : Place) → has_pair (pairs_at ps es) n p ≡ (has_pair (pairs_at ps (take mark es)) n p || has_pair (pairs_at ps (drop mark es)) n p)
    split n p =
        ap (λ (xs : List NumberedPair). has_pair (pairs_at ps xs) n p) (sym (take-append-drop mark es))
        ∙ ap (λ (xs : Pairs). has_pair xs n p) (map-append (pair_of ps) (take mark es) (drop mark es))
        ∙ has_append (pairs_at ps (take mark es)) (pairs_at ps (drop mark es)) n p

    away : (n : ℕ) (p : Place) → has_pair (pairs_at ps (drop mark es)) n p ≡ true → has_pair (pairs_at ps (take mark es)) n p ≡ false
    away n p h =
        ap (λ (xs : Pairs). has_pair xs n p) (sym (take-map (pair_of ps) mark es)) ∙ apart n p (ap (λ (xs : Pairs). has_pair xs n p) (drop-map (pair_of ps) mark es) ∙ h)

    left : (t d : Bool) → (d ≡ true → t ≡ false) → ((t || d) && not d) ≡ t
    left true true h = sym (h refl)
    left true false h = refl
    left false true h = refl
    left false false h = refl

-- ---- bits that are cleared one after another

pub cleared_more : (es : List NumberedPair) (e : NumberedPair) (old mid new : List (List ℕ)) → ((n k : ℕ) → has_bit (row_in mid n) k ≡ (has_bit (row_in old n) k && not (has_number_pair es n k)))
    → PutsBit e.node.0 (64 * 0 + e.place) false mid new → (n k : ℕ) → has_bit (row_in new n) k ≡ (has_bit (row_in old n) k && not (has_number_pair (es ++ e ∷ []) n k))
cleared_more es e old mid new sofar put n k =
    put.bits n k ∙ ap (λ (j : ℕ). cond ((e.node.0 == n) && (j == k)) false (has_bit (row_in mid n) k)) here ∙ ap (cond ((e.node.0 == n) && (e.place == k)) false) (sofar n k)
    ∙ go ((e.node.0 == n) && (e.place == k)) (has_bit (row_in old n) k) (has_number_pair es n k)
    ∙ ap (λ (b : Bool). has_bit (row_in old n) k && not b) (sym (list_any-append (λ (x : NumberedPair). (x.node.0 == n) && (x.place == k)) es (e ∷ [])))
  where
    here : 64 * 0 + e.place ≡ e.place
    here = omega arith

    go : (t o s : Bool) → cond t false (o && not s) ≡ (o && not (s || (t || false)))
    go true true true = refl
    go true true false = refl
    go true false s = refl
    go false true true = refl
    go false true false = refl
    go false false s = refl

-- ---- what is made final

-- a pair that is not this one, said the other way round
other_way : (i : ℕ) (p : Place) (j : ℕ) (q : Place) → is_this i p j q ≡ false → is_pair i p (j, q) ≡ false
other_way i p j q other = false_from_ne_true (is_pair i p (j, q)) (λ is. true≢false (sym (of_this (λ m r. is_this m r j q ≡ true) j q i p is (this_self j q)) ∙ other))

-- the verdict of a pair that is remembered
known_by : (i : ℕ) (p : Place) (old new : Verdicts) → Remembers i p true old new → (j : ℕ) (q : Place) → verdict_of j q new ≡ (if is_this i p j q then Some true else verdict_of j q old)
known_by i p old new kept j q = go (is_this i p j q) refl
  where
    go : (b : Bool) → is_this i p j q ≡ b → verdict_of j q new ≡ (if b then Some true else verdict_of j q old)
    go true this = of_this (λ m r. verdict_of m r new ≡ Some true) i p j q this kept.its
    go false other = kept.others j q (other_way i p j q other)

settles_two : (a b : Bool) (o : Option Bool) → (if a then Some true else (if b then Some true else o)) ≡ (if a || b then Some true else o)
settles_two true b o = refl
settles_two false b o = refl

settles_other : (a b : Bool) (o : Option Bool) → (if b then Some true else (if a then Some true else o)) ≡ (if a || b then Some true else o)
settles_other true true o = refl
settles_other true false o = refl
settles_other false b o = refl

-- some, and then one more
pub settles_last : (es : Pairs) (i : ℕ) (p : Place) (old mid new : Verdicts) → SettlesAll es old mid → Remembers i p true mid new → SettlesAll (es ++ (i, p) ∷ []) old new
settles_last es i p old mid new first kept j q =
    known_by i p mid new kept j q ∙ ap (λ (o : Option Bool). if is_this i p j q then Some true else o) (first j q)
    ∙ settles_two (is_this i p j q) (has_pair es j q) (verdict_of j q old) ∙ ap (λ (b : Bool). if b then Some true else verdict_of j q old) (sym (has_pushed es i p j q))

-- one, and then some
pub settles_first : (es : Pairs) (i : ℕ) (p : Place) (old mid new : Verdicts) → Remembers i p true old mid → SettlesAll es mid new → SettlesAll ((i, p) ∷ es) old new
settles_first es i p old mid new kept rest j q =
    rest j q ∙ ap (λ (o : Option Bool). if has_pair es j q then Some true else o) (known_by i p old mid kept j q) ∙ settles_other (is_this i p j q) (has_pair es j q) (verdict_of j q old)

-- one alone
pub settles_one : (i : ℕ) (p : Place) (old new : Verdicts) → Remembers i p true old new → SettlesAll ((i, p) ∷ []) old new
settles_one i p old new kept j q = known_by i p old new kept j q ∙ settles_two (is_this i p j q) false (verdict_of j q old)

pub settles_more : (count : ℕ) (es : List NumberedPair) (e : NumberedPair) (old mid new : List (List ℕ)) → SettlesPairs count es old mid → KeepsVerdict count e.node.0 e.place true mid new → SettlesPairs count (es ++ e ∷ []) old new
settles_more count es e old mid new first kept ps own many =
    subst (λ (xs : Pairs). SettlesAll xs (all_verdicts ps old) (all_verdicts ps new)) (sym (map-append (pair_of ps) es (e ∷ [])))
    (settles_last (pairs_at ps es) e.node.0 (place_at ps e.place) (all_verdicts ps old) (all_verdicts ps mid) (all_verdicts ps new) (first ps own many) (kept ps own many))
