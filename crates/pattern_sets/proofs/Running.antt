-- Runs of characters of one set, and where they lead.
use Rattle.std.proofs.Common.{◌≡◌, ◌<◌, ◌≤◌, ◌||◌, ◌&&◌, ◌+◌, ◌-◌, ℕ, zero, suc, Bool, true, false, ap, refl, subst, sym, ◌∙◌, inl, inr, arith, max, min, nat_le, nat_lt, true≢false, List, length, Option, Some, None}
use Rattle.std.proofs.lemmas.Bool.Decides.{nat_tests}
use Rattle.pattern_trees.specs.Patterns.{IsWithin, Iterates, Matches, One, Repeat}
use Rattle.pattern_sets.specs.Images.{GoesOn, IsImage, IsImageBelow, IsTaken, Joined, Runs, RunsFor, leads, most_within}
use Rattle.pattern_sets.proofs.Leading.{IsNext, image_map, or_left, or_right, or_true}

-- what is known of the run that was seen last, before the next position is looked for
pub record Scan (set : List (ℕ × ℕ)) (text : List ℕ) (most i end : ℕ) : Type 0 where
  pub taken : (k : ℕ) → i ≤ k → k < end → IsTaken set text k
  pub near : end ≤ i + most

pub scan_begins : (set : List (ℕ × ℕ)) (text : List ℕ) (most : ℕ) → Scan set text most 0 0
scan_begins set text most = record { taken = λ k h l. absurd (omega arith); near = omega arith }

-- the run from a position, as far as it may go
pub record RunFrom (set : List (ℕ × ℕ)) (text : List ℕ) (most m end : ℕ) : Type 0 where
  pub on : m ≤ end
  pub taken : (k : ℕ) → m ≤ k → k < end → IsTaken set text k
  pub near : end ≤ m + most
  pub blocked : end < m + most → ¬ (IsTaken set text end)

-- it ends at the stop at the latest, unless it does not begin
goes_to : (set : List (ℕ × ℕ)) (text : List ℕ) (start stop end : ℕ) → GoesOn set text start stop end → end ≤ max start stop
goes_to set text start stop end goes = go (nat_lt start end) refl
  where
    go : (x : Bool) → nat_lt start end ≡ x → end ≤ max start stop
    go true e =
        let lt : start < end = grind (arith, nat_tests) in
        let last = (goes.taken (end - 1) (omega arith) (omega arith)).0 in
        omega arith
    go false e = let le : end ≤ start = grind (arith, nat_tests) in omega arith

pub run_from : (set : List (ℕ × ℕ)) (text : List ℕ) (most i m old start stop end : ℕ) → Scan set text most i old → i ≤ m → start ≡ max m old → stop ≡ min (m + most) (length text) → GoesOn set text start stop end → RunFrom set text most m end
run_from set text most i m old start stop end scan le begin limit goes =
    let to = goes_to set text start stop end goes in
    let on = goes.on in
    let near = scan.near in
    record {
      on = omega arith;
      taken = λ k h l. go k h l (nat_lt k start) refl;
      near = omega arith;
      blocked = λ h t. let inside = t.0 in goes.blocked (omega arith) t;
    }
  where
    go : (k : ℕ) → m ≤ k → k < end → (x : Bool) → nat_lt k start ≡ x → IsTaken set text k
    go k h l true e = let lt : k < start = grind (arith, nat_tests) in scan.taken k (omega arith) (omega arith)
    go k h l false e = let ge : start ≤ k = grind (arith, nat_tests) in (goes.taken k ge l).1

pub run_within : (set : List (ℕ × ℕ)) (text : List ℕ) (most m old start stop end bound : ℕ) → start ≡ max m old → stop ≡ min (m + most) (length text) → GoesOn set text start stop end → m ≤ bound → old ≤ bound → length text ≤ bound → end ≤ bound
run_within set text most m old start stop end bound begin limit goes a b c = let to = goes_to set text start stop end goes in omega arith

pub scan_on : (set : List (ℕ × ℕ)) (text : List ℕ) (most m end next : ℕ) → RunFrom set text most m end → m < next → Scan set text most next end
scan_on set text most m end next run less = let near = run.near in record { taken = λ k h l. run.taken k (omega arith) l; near = omega arith }

le_true : (a b : ℕ) → a ≤ b → nat_le a b ≡ true
le_true a b h = grind (arith, nat_tests)

false_le : (a b : ℕ) → b < a → nat_le a b ≡ false
false_le a b h = grind (arith, nat_tests)

true_le : (a b : ℕ) → nat_le a b ≡ true → a ≤ b
true_le a b h = grind (arith, nat_tests)

pub in_span : (first last k : ℕ) → (nat_le first k && nat_le k last) ≡ true → (first ≤ k) × (k ≤ last)
in_span first last k h = go (nat_le first k) (nat_le k last) refl refl h
  where
    go : (x y : Bool) → nat_le first k ≡ x → nat_le k last ≡ y → (x && y) ≡ true → (first ≤ k) × (k ≤ last)
    go true true e f h = (true_le first k e, true_le k last f)
    go true false e f h = absurd (true≢false (sym h))
    go false y e f h = absurd (true≢false (sym h))

span_in : (first last k : ℕ) → first ≤ k → k ≤ last → (nat_le first k && nat_le k last) ≡ true
span_in first last k a b = rw (le_true first k a, le_true k last b) refl

-- the runs from one more position, as the positions that they lead to are put into a set
pub below_run : (set : List (ℕ × ℕ)) (text : List ℕ) (least most i m end next : ℕ) (from to new : ℕ → Bool) → IsImageBelow i (RunsFor set text least most) from to → IsNext i m from → RunFrom set text most m end →
    m < next → ((k : ℕ) → m < k → k < next → (k ≤ end) × (end < m + most)) → ((k : ℕ) → new k ≡ (to k || (nat_le (m + least) k && nat_le k end))) → IsImageBelow next (RunsFor set text least most) from new
below_run set text least most i m end next from to new below found run less within put = record { sound = sound; complete = complete }
  where
    sound : (j : ℕ) → new j ≡ true → (k : ℕ) × (k < next) × (from k ≡ true) × RunsFor set text least most k j
    sound j h = elim (or_true (to j) (nat_le (m + least) j && nat_le j end) (sym (put j) ∙ h)) [
      | inl old ↦ (let s = below.sound j old in let lt = s.1 in let on = found.from_on in (s.0, omega arith, s.2, s.3))
      | inr fresh ↦ (
          let span = in_span (m + least) end j fresh in
          let first = span.0 in
          let last = span.1 in
          let near = run.near in
          (m, less, found.set, ((omega arith, λ k a b. run.taken k a (omega arith)), first, omega arith)))
    ]

    on_to : (k : ℕ) → m ≤ k → k < next → (k ≤ end) × ((j : ℕ) → j ≤ k + most → end < j → end < m + most)
    on_to k h l = go (nat_lt m k) refl
      where
        go : (x : Bool) → nat_lt m k ≡ x → (k ≤ end) × ((j : ℕ) → j ≤ k + most → end < j → end < m + most)
        go true e = let lt : m < k = grind (arith, nat_tests) in let w = within k lt l in (w.0, λ j a b. w.1)
        go false e = let le : k ≤ m = grind (arith, nat_tests) in let on = run.on in (omega arith, λ j a b. omega arith)

    not_past : (k j : ℕ) → m ≤ k → k < next → RunsFor set text least most k j → j ≤ end
    not_past k j h l r = go (nat_le j end) refl
      where
        go : (x : Bool) → nat_le j end ≡ x → j ≤ end
        go true e = true_le j end e
        go false e =
            let past : end < j = grind (arith, nat_tests) in
            let on = on_to k h l in
            absurd (run.blocked (on.1 j r.2 past) (r.0.1 end on.0 past))

    complete : (k j : ℕ) → k < next → from k ≡ true → RunsFor set text least most k j → new j ≡ true
    complete k j l f r = go (nat_lt k i) (nat_lt k m) refl refl
      where
        go : (x y : Bool) → nat_lt k i ≡ x → nat_lt k m ≡ y → new j ≡ true
        go true y e g = let lt : k < i = grind (arith, nat_tests) in put j ∙ or_left (to j) (nat_le (m + least) j && nat_le j end) (below.complete k j lt f r)
        go false true e g =
            let ge : i ≤ k = grind (arith, nat_tests) in
            let lt : k < m = grind (arith, nat_tests) in
            absurd (true≢false (sym f ∙ found.first k ge lt))
        go false false e g =
            let ge : m ≤ k = grind (arith, nat_tests) in
            let first = r.1 in
            put j ∙ or_right (to j) (nat_le (m + least) j && nat_le j end) (span_in (m + least) end j (omega arith) (not_past k j ge l r))

-- positions that were put before need not be put again
pub put_again : (first past start end k : ℕ) (old new : Bool) → start ≡ max first past → (first ≤ k → k < past → old ≡ true) → new ≡ (old || (nat_le start k && nat_le k end)) → new ≡ (old || (nat_le first k && nat_le k end))
put_again first past start end k true new begin before put = put
put_again first past start end k false new begin before put = put ∙ go (nat_le first k) (nat_lt k past) refl refl
  where
    go : (x y : Bool) → nat_le first k ≡ x → nat_lt k past ≡ y → (nat_le start k && nat_le k end) ≡ (x && nat_le k end)
    go true true e f = absurd (true≢false (sym (before (true_le first k e) (grind (arith, nat_tests)))))
    go true false e f = let le : first ≤ k = true_le first k e in let ge : past ≤ k = grind (arith, nat_tests) in ap (λ (b : Bool). b && nat_le k end) (le_true start k (omega arith))
    go false y e f = let lt : k < first = grind (arith, nat_tests) in ap (λ (b : Bool). b && nat_le k end) (false_le start k (omega arith))

-- the positions that are reached after a run
pub reached_on : (m least end next k : ℕ) (old new : ℕ → Bool) → ((k : ℕ) → new k ≡ (old k || (nat_le (m + least) k && nat_le k end))) → m < next → next + least ≤ k → k < end + 1 → new k ≡ true
reached_on m least end next k old new put less a b = put k ∙ or_right (old k) (nat_le (m + least) k && nat_le k end) (span_in (m + least) end k (omega arith) (omega arith))

-- ---- runs are repetitions of one character of the set

pub iterates_runs : (set : List (ℕ × ℕ)) (text : List ℕ) (n i j : ℕ) → Iterates (λ x y. Matches (One set) text x y) n i j → Runs set text i j × (j ≡ i + n)
iterates_runs set text zero i j e = ((omega arith, λ k h l. absurd (omega arith)), omega arith)
iterates_runs set text (suc n) i j h =
    let rest = iterates_runs set text n h.0 j h.2 in
    let at = h.1.2 in
    let le = rest.0.0 in
    let sum = rest.1 in
    ((omega arith, λ k a b. go rest.0.1 k a b (nat_lt i k) refl), omega arith)
  where
    go : ((k : ℕ) → h.0 ≤ k → k < j → IsTaken set text k) → (k : ℕ) → i ≤ k → k < j → (x : Bool) → nat_lt i k ≡ x → IsTaken set text k
    go later k a b true e =
        let lt : i < k = grind (arith, nat_tests) in
        let at = h.1.2 in
        later k (omega arith) b
    go later k a b false e =
        let le : k ≤ i = grind (arith, nat_tests) in
        let same : i ≡ k = omega arith in
        subst (λ (p : ℕ). IsTaken set text p) same (h.1.0, h.1.1)

pub runs_iterates : (set : List (ℕ × ℕ)) (text : List ℕ) (n i j : ℕ) → j ≡ i + n → Runs set text i j → Iterates (λ x y. Matches (One set) text x y) n i j
runs_iterates set text zero i j e r = omega arith
runs_iterates set text (suc n) i j e r =
    let here = r.1 i (omega arith) (omega arith) in
    (i + 1, (here.0, here.1, refl), runs_iterates set text n (i + 1) j (omega arith) (omega arith, λ k a b. r.1 k (omega arith) b))

-- a run ends within the text
runs_inside : (set : List (ℕ × ℕ)) (text : List ℕ) (i j : ℕ) → Runs set text i j → j ≤ i + length text
runs_inside set text i j r = go (nat_lt i j) refl
  where
    go : (x : Bool) → nat_lt i j ≡ x → j ≤ i + length text
    go true e = let lt : i < j = grind (arith, nat_tests) in let last = (r.1 (j - 1) (omega arith) (omega arith)).0 in omega arith
    go false e = let le : j ≤ i = grind (arith, nat_tests) in omega arith

within_most : (longest n : ℕ) (more : Option ℕ) → IsWithin n more → n ≤ longest → n ≤ most_within longest more
within_most longest n None w l = l
within_most longest n (Some more) w l = w

most_is_within : (longest n : ℕ) (more : Option ℕ) → n ≤ most_within longest more → IsWithin n more
most_is_within longest n None l = tt
most_is_within longest n (Some more) l = l

pub runs_times : (set : List (ℕ × ℕ)) (text : List ℕ) (least : ℕ) (more : Option ℕ) (i j : ℕ) → RunsFor set text least (least + most_within (length text) more) i j → leads true (Repeat least more (One set)) text i j
runs_times set text least more i j r =
    let first = r.1 in
    let last = r.2 in
    (j - (i + least), most_is_within (length text) (j - (i + least)) more (omega arith), runs_iterates set text (least + (j - (i + least))) i j (omega arith) r.0)

pub times_runs : (set : List (ℕ × ℕ)) (text : List ℕ) (least : ℕ) (more : Option ℕ) (i j : ℕ) → leads true (Repeat least more (One set)) text i j → RunsFor set text least (least + most_within (length text) more) i j
times_runs set text least more i j r =
    let s = iterates_runs set text (least + r.0) i j r.2 in
    let sum = s.1 in
    let inside = runs_inside set text i j s.0 in
    let most = within_most (length text) r.0 more r.1 (omega arith) in
    (s.0, omega arith, omega arith)

pub times_image : (set : List (ℕ × ℕ)) (text : List ℕ) (least : ℕ) (more : Option ℕ) (from to : ℕ → Bool) → IsImage (RunsFor set text least (least + most_within (length text) more)) from to → IsImage (leads true (Repeat least more (One set)) text) from to
times_image set text least more from to image =
    image_map (RunsFor set text least (least + most_within (length text) more)) (leads true (Repeat least more (One set)) text) from to image
    (λ i j r. runs_times set text least more i j r)
    (λ i j r. times_runs set text least more i j r)

pub times_joined : (set : List (ℕ × ℕ)) (text : List ℕ) (least : ℕ) (more : Option ℕ) (S : ℕ → ℕ → Type 0) (from to : ℕ → Bool) → IsImage (Joined (RunsFor set text least (least + most_within (length text) more)) S) from to → IsImage (Joined (leads true (Repeat least more (One set)) text) S) from to
times_joined set text least more S from to image =
    image_map (Joined (RunsFor set text least (least + most_within (length text) more)) S) (Joined (leads true (Repeat least more (One set)) text) S) from to image
    (λ i j r. (r.0, runs_times set text least more i r.0 r.1, r.2))
    (λ i j r. (r.0, times_runs set text least more i r.0 r.1, r.2))
