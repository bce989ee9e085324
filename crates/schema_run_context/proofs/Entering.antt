-- What the fields of a run say as pairs, when one is entered and when one is left.
use Rattle.std.proofs.Common.{◌≡◌, ℕ, zero, suc, ◌+◌, ◌-◌, ◌*◌, ◌/◌, ◌<◌, ◌≤◌, ◌==◌, Bool, true, false, cond, List, [], ◌∷◌, ◌++◌, length, get_or, map, refl, sym, ◌∙◌, ap, arith, ⊎_elim}
use Rattle.std.specs.Prelude.{Option, Some, None, ◌||◌, slice_set}
use Rattle.std.specs.Option.{option_to_list}
use Rattle.std.proofs.lemmas.Bool.{eqb-false, eqb-true}
use Rattle.std.proofs.lemmas.Grind.{get_or-set_at}
use Rattle.std.proofs.lemmas.List.{append-nil, get_or-set_other, map-append}
use Rattle.theory_definitions.specs.Instance.{Place}
use Rattle.schema_places.specs.Numbers.{place_at}
use Rattle.schema_run_context.specs.ProgressViews.{Guards, pair_of}
use Rattle.schema_run_context.specs.Progress.{Pairs, busy_at, has_number, row_words}
use Rattle.schema_run_context.specs.Rows.{AreWide, MakesRow, PutsBit, has_bit, has_words, row_in}
use Rattle.schema_run_context.specs.declared.numbered_pairs.NumberedPair.{NumberedPair}
use Rattle.schema_run_context.proofs.Guarding.{has_row}
use Rattle.schema_run_context.proofs.Pairs.{among, busy-pushed, eqb-self, nil_snoc, snoc_first}
use Rattle.schema_run_context.proofs.RowsChanged.{number_if}

-- a place's word is within a row
pub in_row : (w k n : ℕ) → w ≡ row_words n → k < n → k / 64 < w
in_row w k n e l = omega arith

pub few_places : (w n : ℕ) → w ≡ row_words n → n ≤ 64 * w
few_places w n e = omega arith

pub pushed : (ps : List Place) (old new : List NumberedPair) (e : NumberedPair) → new ≡ old ++ e ∷ [] → map (pair_of ps) new ≡ map (pair_of ps) old ++ pair_of ps e ∷ []
pushed ps old new e h = ap (map (pair_of ps)) h ∙ map-append (pair_of ps) old (e ∷ [])

none_of : {X : Type 0} (xs : List X) → length xs ≡ 0 → xs ≡ []
none_of [] h = refl
none_of (x ∷ xs) h = absurd (omega arith)

-- what is left once the last pair is taken away
pub popped : (ps : List Place) (old new : List NumberedPair) (o : Option NumberedPair) (x : ℕ × Place) (rest : Pairs) → old ≡ new ++ option_to_list o → (o ≡ None → length new ≡ 0)
    → map (pair_of ps) old ≡ rest ++ x ∷ [] → map (pair_of ps) old ≡ map (pair_of ps) new ++ x ∷ []
popped ps old new None x rest h empty e =
    let z : map (pair_of ps) old ≡ [] = ap (map (pair_of ps)) (h ∙ append-nil new ∙ none_of new (empty refl)) in
    absurd (nil_snoc rest x (sym z ∙ e))
popped ps old new (Some y) x rest h empty e =
    let all = pushed ps new old y h in
    let r = snoc_first (map (pair_of ps) new) rest (pair_of ps y) x (sym all ∙ e) in
    all ∙ ap (λ (q : ℕ × Place). map (pair_of ps) new ++ q ∷ []) r.1

-- counts after one was written
pub count_put : (counts : List ℕ) (k j : ℕ) (x : ℕ) → k < length counts → get_or (slice_set counts k x) j 0 ≡ cond (k == j) x (get_or counts j 0)
count_put counts k j x l = go (k == j) refl
  where
    go : (b : Bool) → (k == j) ≡ b → get_or (slice_set counts k x) j 0 ≡ cond b x (get_or counts j 0)
    go true e = get_or-set_at counts k j x 0 (sym (eqb-true k j e)) l
    go false e = get_or-set_other counts k j x 0 (λ f. eqb-false k j e (sym f))

pub whatever_else : (xs : List ℕ) (i d e : ℕ) → i < length xs → get_or xs i d ≡ get_or xs i e
whatever_else [] i d e l = absurd (omega arith)
whatever_else (x ∷ xs) zero d e l = refl
whatever_else (x ∷ xs) (suc i) d e l = whatever_else xs i d e (omega arith)

-- the count that is written is by the one that was read
pub at_its_own : (b : Bool) (k j x y : ℕ) (f : ℕ → ℕ) → (k == j) ≡ b → x ≡ f k → cond b (x + 1) y ≡ cond b (f j + 1) y
at_its_own true k j x y f e h = ap (λ i. i + 1) (h ∙ ap f (eqb-true k j e))
at_its_own false k j x y f e h = refl

pub at_its_own_less : (b : Bool) (k j x y : ℕ) (f : ℕ → ℕ) → (k == j) ≡ b → x ≡ f k → cond b (x - 1) y ≡ cond b (f j - 1) y
at_its_own_less true k j x y f e h = ap (λ i. i - 1) (h ∙ ap f (eqb-true k j e))
at_its_own_less false k j x y f e h = refl

-- a pair that is the last is in progress
pub last_busy : (ps : List Place) (es rest : Pairs) (n k : ℕ) → es ≡ rest ++ (n, place_at ps k) ∷ [] → busy_at (place_at ps k) es ≡ n ∷ busy_at (place_at ps k) rest
last_busy ps es rest n k e = ap (busy_at (place_at ps k)) e ∙ busy-pushed (place_at ps k) n rest

-- a pair that is the last has its bit and its count
pub last_bit : (ps : List Place) (es rest : Pairs) (counts : List ℕ) (guard : List (List ℕ)) (n k : ℕ) → Guards ps es counts guard → k < length ps → es ≡ rest ++ (n, place_at ps k) ∷ []
    → has_bit (row_in guard n) k ≡ true
last_bit ps es rest counts guard n k g l e = g.bits n k l ∙ ap (among n) (last_busy ps es rest n k e) ∙ ap (λ b. b || among n (busy_at (place_at ps k) rest)) (eqb-self n)

pub last_row : (ps : List Place) (w : ℕ) (es rest : Pairs) (counts : List ℕ) (guard : List (List ℕ)) (n k : ℕ) → Guards ps es counts guard → w ≡ row_words (length ps) → AreWide w guard → k < length ps
    → es ≡ rest ++ (n, place_at ps k) ∷ [] → 0 + k / 64 < length (row_in guard n)
last_row ps w es rest counts guard n k g is wide l e =
    let size = wide n (has_row guard n k (last_bit ps es rest counts guard n k g l e)) in
    let within = in_row w k (length ps) is l in
    omega (arith, size, within)

pub last_count : (ps : List Place) (es rest : Pairs) (counts : List ℕ) (guard : List (List ℕ)) (n k : ℕ) → Guards ps es counts guard → k < length ps → es ≡ rest ++ (n, place_at ps k) ∷ []
    → (1 ≤ get_or counts k 0) × (k < length counts)
last_count ps es rest counts guard n k g l e =
    let count : get_or counts k 0 ≡ suc (length (busy_at (place_at ps k) rest)) = g.counted k l ∙ ap length (last_busy ps es rest n k e) in
    (omega arith, ⊎_elim (λ (z : length counts ≡ 0). none counts z count) (λ (z : length counts ≡ length ps). omega arith) g.sized)
  where
    none : (xs : List ℕ) → length xs ≡ 0 → get_or xs k 0 ≡ suc (length (busy_at (place_at ps k) rest)) → k < length xs
    none [] z c = absurd (omega arith)
    none (x ∷ xs) z c = absurd (omega arith)

-- a row that was made stays as long, whatever bit of it is put
pub row_kept : (n w b : ℕ) (on : Bool) (old mid two : List (List ℕ)) → MakesRow n w old mid → PutsBit n b on mid two → AreWide w old → length (row_in two n) ≡ w
row_kept n w b on old mid two made put wide =
    let still : has_words (row_in two n) ≡ true = sym (number_if two n) ∙ ap (has_number n) put.numbers ∙ number_if mid n ∙ made.there in
    put.wide w (made.wide wide) n still

-- a row for some place has words
pub some_place : (w k n : ℕ) → w ≡ row_words n → k < n → 0 < w
some_place w k n e l = omega arith
