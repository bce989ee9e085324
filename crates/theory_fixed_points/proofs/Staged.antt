-- What is found by stages is what numbered nodes say under guards.
use Rattle.std.proofs.Common.{◌≡◌, ◌∙◌, ℕ, zero, suc, ◌+◌, ◌<◌, ◌≤◌, ◌==◌, ◌++◌, ◌&&◌, ◌||◌, [], ◌∷◌, Bool, true, false, List, length, refl, sym, subst, ap, arith, append_assoc, length-append, true≢false}
use Rattle.std.specs.Prelude.{None, Option, Some, if◌then◌else◌, nat_lt}
use Rattle.std.specs.List.{list_any}
use Rattle.std.proofs.lemmas.Bool.{and_parts, eqb-true, or_left, or_right}
use Rattle.std.proofs.lemmas.List.Elements.{All-contains}
use Rattle.theory_definitions.specs.Instance.{Place, Text, same_place}
use Rattle.theory_definitions.specs.Reports.{Outcome, accepted}
use Rattle.theory_definitions.specs.Keywords.{Below, down, here}
use Rattle.theory_definitions.specs.Meaning.{place_below}
use Rattle.theory_definitions.specs.Guarded.{NodeEdge, across, guarded_within, node_outcome, progress_below, yes_outcome}
use Rattle.theory_definitions.proofs.Products.{in_either}
use Rattle.theory_meaning.specs.Fractions.{node_words}
use Rattle.theory_meaning.specs.Numbered.{left, subject_in}
use Rattle.theory_meaning.proofs.Alike.{verdict_by_any_path}
use Rattle.theory_meaning.proofs.Reading.{reads_of}
use Rattle.theory_meaning.proofs.Settles.{NodeAsks, free_falls, guarded_falls, node_local, settles}
use Rattle.theory_fixed_points.specs.Under.{EdgeAnswers, Solving, IsSolvable, by_within, under_by}
use Rattle.theory_fixed_points.specs.Stages.{FitsStage, Stages}
use Rattle.theory_fixed_points.proofs.NodesSay.{node_verdict}
use Rattle.theory_fixed_points.proofs.Pairs.{place_equal, same_place-self}
use Rattle.theory_fixed_points.proofs.Steps.{by_test, if_false, if_true}
use Rattle.theory_fixed_points.proofs.Under.{below_begins, free_lower, holds_same, leads_inside}

-- A verdict, by whether an edge is guarded and its pair in progress.
across_is : (g met : Bool) (x y : Outcome) (v : Bool) → (g ≡ false → x.verdict ≡ v) → (g ≡ true → met ≡ true → true ≡ v) → (g ≡ true → met ≡ false → y.verdict ≡ v)
    → v ≡ (let o : Outcome = elim g [ false ↦ x | true ↦ elim met [ true ↦ accepted | false ↦ y ] ] in o.verdict)
across_is false met x y v free there entered = sym (free refl)
across_is true true x y v free there entered = sym (there refl refl)
across_is true false x y v free there entered = sym (entered refl refl)

module _ {K R : Type 0} (w : Solving K R) (solvable : IsSolvable w) (known : ℕ → Place → Option Bool) (stages : Stages w known) where
  abbrev Says : ℕ → ℕ → Text → Place → List ℕ → Outcome
  Says = guarded_within yes_outcome (node_outcome w.keywords w.matcher w.nodes (subject_in w.instance) w.completion)

  abbrev need : ℕ → Place → List ℕ → ℕ
  need i p busy = left w.nodes w.count i (subject_in w.instance p) busy

  -- What a number says at a sufficient depth.
  abbrev Verdict : ℕ → Place → List ℕ → Bool
  Verdict i p busy = (Says (suc (need i p busy)) i [] p busy).verdict

  settled : (n i : ℕ) (path : Text) (p : Place) (busy : List ℕ) → i < w.count → need i p busy < n → (Says n i path p busy).verdict ≡ Verdict i p busy
  settled n i path p busy l low =
      ap (λ (o : Outcome). o.verdict) (settles w.instance w.nodes w.count solvable.ranked yes_outcome (node_outcome w.keywords w.matcher w.nodes (subject_in w.instance) w.completion) (node_local w.keywords w.matcher w.instance w.nodes (reads_of w.keywords solvable.laws) w.completion) n (suc (need i p busy)) i path p busy l low (omega arith))
      ∙ verdict_by_any_path w.keywords w.matcher w.nodes (subject_in w.instance) w.completion (suc (need i p busy)) i path [] p busy

  -- No pair in progress at a place was refused before a stage.
  abbrev pub NoneRefused : ℕ → Place → List ℕ → Type 0
  NoneRefused now p busy = (j : ℕ) → list_any (λ n. n == j) busy ≡ true → known j p ≡ Some false → now ≤ stages.stage j p

  none_entered : (j : ℕ) (p : Place) (busy : List ℕ) → NoneRefused (stages.stage j p) p busy → NoneRefused (stages.stage j p) p (j ∷ busy)
  none_entered j p busy none k there refused = in_either (j == k) (list_any (λ n. n == k) busy)
      (λ same. let at : j ≡ k = eqb-true j k same in let stage = ap (λ (m : ℕ). stages.stage m p) at in omega (arith, stage))
      (λ others. none k others refused) there

  -- A number says this if the edges answer as known before a stage, and, if required, yes for the
  -- pairs that got a yes in that stage.
  abbrev pub SaysAt : ℕ → Place → ℕ → Bool → Type 0
  SaysAt i p now v = (answers : EdgeAnswers) → FitsStage known stages.stage now v answers → under_by w answers i p ≡ v

  -- If a number says this, it says the same under guards, given a measure below n.
  abbrev Holds : ℕ → Type 0
  Holds n = (i : ℕ) (p : Place) (busy : List ℕ) (now : ℕ) (v : Bool) → i < w.count → SaysAt i p now v → NoneRefused now p busy → need i p busy < n → Verdict i p busy ≡ v

  module _ (n : ℕ) (deep : Holds n) (top : Place) (busy : List ℕ) (now : ℕ) (v : Bool) (none : NoneRefused now top busy) where
    -- The nodes in progress at a place, given those at the top.
    busy_at : Place → List ℕ
    busy_at p = if same_place top p then busy else []

    at_top : busy_at top ≡ busy
    unfolding busy_at
    at_top = if_true (same_place top top) busy [] (same_place-self top)

    met_at_top : (j : ℕ) (p : Place) → list_any (λ n. n == j) (busy_at p) ≡ true → (top ≡ p) × (list_any (λ n. n == j) busy ≡ true)
    unfolding busy_at
    met_at_top j p there = by_test (same_place top p)
        (λ same. (place_equal top p same, ap (λ (ns : List ℕ). list_any (λ n. n == j) ns) (sym (if_true (same_place top p) busy [] same)) ∙ there))
        (λ other. absurd (true≢false (sym there ∙ ap (λ (ns : List ℕ). list_any (λ n. n == j) ns) (if_false (same_place top p) busy [] other))))

    none_at : (p : Place) → NoneRefused now p (busy_at p)
    none_at p j there refused =
        let met = met_at_top j p there in
        subst (λ q. now ≤ stages.stage j q) met.0 (none j met.1 (subst (λ q. known j q ≡ Some false) (sym met.0) refused))

    busy_below : (p : Place) (b : Below) → (r : Place) → p ≡ top ++ r → progress_below (busy_at p) b ≡ busy_at (place_below p b)
    unfolding busy_at
    busy_below p here r begins = refl
    busy_below p (down s) r begins = by_test (same_place top (p ++ s ∷ []))
        (λ same.
        let whole : top ≡ (top ++ r) ++ s ∷ [] = place_equal top (p ++ s ∷ []) same ∙ ap (λ q. q ++ s ∷ []) begins in
        let size = ap length whole in
        let a : length ((top ++ r) ++ s ∷ []) ≡ length (top ++ r) + 1 = length-append (top ++ r) (s ∷ []) in
        let b : length (top ++ r) ≡ length top + length r = length-append top r in
        absurd (omega (arith, size, a, b)))
        (λ other. sym (if_false (same_place top (p ++ s ∷ [])) busy [] other))

    -- ---- answers: the verdict of a stage if that counts, and otherwise what is said under guards

    counts : ℕ → Place → Bool → Bool
    counts j p told = nat_lt (stages.stage j p) now || ((v && told) && (stages.stage j p == now))

    guarded : ℕ → Bool → Place → Bool
    guarded j g p = elim g [ false ↦ Verdict j p (busy_at p) | true ↦ elim (list_any (λ n. n == j) (busy_at p)) [ true ↦ true | false ↦ Verdict j p (j ∷ busy_at p) ] ]

    answers : EdgeAnswers
    answers e p = elim (known e.node p) [ None ↦ guarded e.node e.guarded p | Some told ↦ if counts e.node p told then told else guarded e.node e.guarded p ]

    as_told : (e : NodeEdge) (p : Place) (told : Bool) → known e.node p ≡ Some told → counts e.node p told ≡ true → answers e p ≡ told
    unfolding answers
    as_told e p told is counted =
        ap (λ o. elim o as (λ (o : Option Bool). Bool) [ None ↦ guarded e.node e.guarded p | Some told ↦ if counts e.node p told then told else guarded e.node e.guarded p ]) is
        ∙ if_true (counts e.node p told) told (guarded e.node e.guarded p) counted

    -- An answer is the verdict of a stage, or what is said under guards.
    answer_cases : {P : Type 0} (e : NodeEdge) (p : Place) → ((told : Bool) → known e.node p ≡ Some told → counts e.node p told ≡ true → answers e p ≡ told → P) → (answers e p ≡ guarded e.node e.guarded p → P) → P
    unfolding answers
    answer_cases {P} e p f g = go (known e.node p) refl
      where
        value : Option Bool → Bool
        value o = elim o [ None ↦ guarded e.node e.guarded p | Some told ↦ if counts e.node p told then told else guarded e.node e.guarded p ]

        go : (o : Option Bool) → known e.node p ≡ o → P
        go None is = g (ap (λ o. elim o as (λ (o : Option Bool). Bool) [ None ↦ guarded e.node e.guarded p | Some told ↦ if counts e.node p told then told else guarded e.node e.guarded p ]) is)
        go (Some told) is = by_test (counts e.node p told)
            (λ counted. f told is counted (as_told e p told is counted))
            (λ other. g (ap (λ o. elim o as (λ (o : Option Bool). Bool) [ None ↦ guarded e.node e.guarded p | Some told ↦ if counts e.node p told then told else guarded e.node e.guarded p ]) is ∙ if_false (counts e.node p told) told (guarded e.node e.guarded p) other))

    answers_fit : FitsStage known stages.stage now v answers
    unfolding answers guarded counts
    answers_fit = record {
      alike = λ a b p node guards. ap (λ j. elim (known j p) as (λ (o : Option Bool). Bool) [ None ↦ guarded j a.guarded p | Some told ↦ if counts j p told then told else guarded j a.guarded p ]) node
          ∙ ap (λ g. elim (known b.node p) as (λ (o : Option Bool). Bool) [ None ↦ guarded b.node g p | Some told ↦ if counts b.node p told then told else guarded b.node g p ]) guards;
      before = λ e p told is early. as_told e p told is (or_left _ _ (less_test (stages.stage e.node p) now early));
      same = λ yes e p is at. as_told e p true is (or_right (nat_lt (stages.stage e.node p) now) _ (all_three v (stages.stage e.node p) now yes at));
    }
      where
        less_test : (a b : ℕ) → a < b → nat_lt a b ≡ true
        less_test a b l = grind (arith, l)

        same_test : (a b : ℕ) → a ≡ b → (a == b) ≡ true
        same_test a b is = grind (arith, is)

        all_three : (x : Bool) (a b : ℕ) → x ≡ true → a ≡ b → ((x && true) && (a == b)) ≡ true
        all_three true a b is at = same_test a b at
        all_three false a b is at = absurd (true≢false (sym is))

    -- A verdict that counts was found in no later stage, and a no was found earlier.
    counted_stage : (j : ℕ) (p : Place) (told : Bool) → counts j p told ≡ true → stages.stage j p ≤ now
    unfolding counts
    counted_stage j p told is = in_either (nat_lt (stages.stage j p) now) ((v && told) && (stages.stage j p == now))
        (λ early. let l = test_less (stages.stage j p) now early in omega (arith, l))
        (λ same. let at = eqb-true (stages.stage j p) now (and_parts (v && told) _ same).1 in omega (arith, at)) is
      where
        test_less : (a b : ℕ) → nat_lt a b ≡ true → a < b
        test_less a b is = grind (arith, is)

    counted_no : (j : ℕ) (p : Place) → counts j p false ≡ true → stages.stage j p < now
    unfolding counts
    counted_no j p is = in_either (nat_lt (stages.stage j p) now) ((v && false) && (stages.stage j p == now))
        (λ early. test_less (stages.stage j p) now early)
        (λ same. absurd (true≢false (sym (and_parts v false (and_parts (v && false) _ same).0).1))) is
      where
        test_less : (a b : ℕ) → nat_lt a b ≡ true → a < b
        test_less a b is = grind (arith, is)

    earlier : (a b : ℕ) (p : Place) (ns : List ℕ) → a ≤ b → NoneRefused b p ns → NoneRefused a p ns
    earlier a b p ns l h j there refused = let m = h j there refused in omega (arith, l, m)

    -- ---- so what is said under these answers is what is said under guards

    module _ (k : ℕ) (i : ℕ) (path : Text) (p : Place) (r : Place) (begins : p ≡ top ++ r) (l : i < w.count) (low : need i p (busy_at p) < suc n) (enough : need i p (busy_at p) < suc k)
        (e : NodeEdge) (b : Below) (asks : NodeAsks w.instance w.nodes i p e b) where
      abbrev q : Place
      q = place_below p b

      abbrev below : List ℕ
      below = progress_below (busy_at p) b

      is_below : below ≡ busy_at q
      is_below = busy_below p b r begins

      inside : e.node < w.count
      inside = leads_inside w solvable i p e b l asks

      abbrev Across : Bool
      Across = (across yes_outcome (node_outcome w.keywords w.matcher w.nodes (subject_in w.instance) w.completion) (Says k) path p (busy_at p) e b).verdict

      falls_free : e.guarded ≡ false → need e.node q below < need i p (busy_at p)
      falls_free free = free_falls w.instance w.nodes w.count solvable.ranked i p (busy_at p) e b l asks free

      falls_entered : list_any (λ j. j == e.node) below ≡ false → need e.node q (e.node ∷ below) < need i p (busy_at p)
      falls_entered other = guarded_falls w.instance w.nodes w.count solvable.ranked i p (busy_at p) e b l asks other

      -- A pair that counts.
      told_across : (told : Bool) → known e.node q ≡ Some told → counts e.node q told ≡ true → told ≡ Across
      told_across told is counted = across_is e.guarded (list_any (λ j. j == e.node) below) _ _ told
          (λ free. let falls = falls_free free in
          settled k e.node _ q below inside (omega (arith, falls, enough))
          ∙ deep e.node q below (stages.stage e.node q) told inside (stages.rests e.node q told is) none_here (omega (arith, falls, low)))
          (λ guards there. met told is counted there)
          (λ guards other. let falls = falls_entered other in
          settled k e.node _ q (e.node ∷ below) inside (omega (arith, falls, enough))
          ∙ deep e.node q (e.node ∷ below) (stages.stage e.node q) told inside (stages.rests e.node q told is) (none_entered e.node q below none_here) (omega (arith, falls, low)))
        where
          none_here : NoneRefused (stages.stage e.node q) q below
          none_here = subst (NoneRefused (stages.stage e.node q) q) (sym is_below) (earlier (stages.stage e.node q) now q (busy_at q) (counted_stage e.node q told counted) (none_at q))

          met : (t : Bool) → known e.node q ≡ Some t → counts e.node q t ≡ true → list_any (λ j. j == e.node) below ≡ true → true ≡ t
          met true is counted there = refl
          met false is counted there =
              let late = none_at q e.node (subst (λ (ns : List ℕ). list_any (λ j. j == e.node) ns ≡ true) is_below there) is in
              let early = counted_no e.node q counted in
              absurd (omega (arith, late, early))

      -- A pair that does not count.
      guarded_across : guarded e.node e.guarded q ≡ Across
      unfolding guarded
      guarded_across =
          ap (λ (ns : List ℕ). elim e.guarded as (λ g. Bool) [ false ↦ Verdict e.node q ns | true ↦ elim (list_any (λ n. n == e.node) ns) as (λ m. Bool) [ true ↦ true | false ↦ Verdict e.node q (e.node ∷ ns) ] ]) (sym is_below)
          ∙ go e.guarded (list_any (λ n. n == e.node) below) refl refl
        where
          go : (g m : Bool) → e.guarded ≡ g → list_any (λ n. n == e.node) below ≡ m
              → ◌≡◌ {A = Bool} (elim e.guarded [ false ↦ Verdict e.node q below | true ↦ elim (list_any (λ n. n == e.node) below) [ true ↦ true | false ↦ Verdict e.node q (e.node ∷ below) ] ]) Across
          go false m guards there = across_is e.guarded (list_any (λ j. j == e.node) below) _ _ _
              (λ free. let falls = falls_free free in settled k e.node _ q below inside (omega (arith, falls, enough)) ∙ pick_free free)
              (λ is there. absurd (true≢false (sym is ∙ guards)))
              (λ is other. absurd (true≢false (sym is ∙ guards)))
            where
              pick_free : e.guarded ≡ false → Verdict e.node q below ≡ (elim e.guarded [ false ↦ Verdict e.node q below | true ↦ elim (list_any (λ n. n == e.node) below) [ true ↦ true | false ↦ Verdict e.node q (e.node ∷ below) ] ])
              pick_free free = sym (ap (λ g. elim g as (λ g. Bool) [ false ↦ Verdict e.node q below | true ↦ elim (list_any (λ n. n == e.node) below) as (λ m. Bool) [ true ↦ true | false ↦ Verdict e.node q (e.node ∷ below) ] ]) free)
          go true m guards there = across_is e.guarded (list_any (λ j. j == e.node) below) _ _ _
              (λ free. absurd (true≢false (sym guards ∙ free)))
              (λ is met. sym (picked true met))
              (λ is other. let falls = falls_entered other in settled k e.node _ q (e.node ∷ below) inside (omega (arith, falls, enough)) ∙ sym (picked false other))
            where
              picked : (x : Bool) → list_any (λ n. n == e.node) below ≡ x
                  → ◌≡◌ {A = Bool} (elim e.guarded [ false ↦ Verdict e.node q below | true ↦ elim (list_any (λ n. n == e.node) below) [ true ↦ true | false ↦ Verdict e.node q (e.node ∷ below) ] ]) (elim x [ true ↦ true | false ↦ Verdict e.node q (e.node ∷ below) ])
              picked x is =
                  ap (λ g. elim g as (λ g. Bool) [ false ↦ Verdict e.node q below | true ↦ elim (list_any (λ n. n == e.node) below) as (λ m. Bool) [ true ↦ true | false ↦ Verdict e.node q (e.node ∷ below) ] ]) guards
                  ∙ ap (λ m. elim m as (λ m. Bool) [ true ↦ true | false ↦ Verdict e.node q (e.node ∷ below) ]) is

      cut_across : answers e q ≡ Across
      cut_across = answer_cases e q (λ told is counted at. at ∙ told_across told is counted) (λ at. at ∙ guarded_across)

    unguarded : (e : NodeEdge) → w.cut e ≡ false → e.guarded ≡ false
    unguarded e uncut = go e.guarded refl
      where
        go : (g : Bool) → e.guarded ≡ g → g ≡ false
        go true is = absurd (true≢false (sym (solvable.cuts e is) ∙ uncut))
        go false is = refl

    -- The answer of an edge, if its target says it one deeper.
    by_edge : (m k i : ℕ) (path : Text) (p : Place) (r : Place) → p ≡ top ++ r → i < w.count → need i p (busy_at p) < suc n → need i p (busy_at p) < suc k
        → (e : NodeEdge) (b : Below) → NodeAsks w.instance w.nodes i p e b
        → (w.cut e ≡ false → need e.node (place_below p b) (busy_at (place_below p b)) < need i p (busy_at p)
        → by_within w answers m e.node (place_below p b) ≡ (Says k e.node (path ++ e.path) (place_below p b) (busy_at (place_below p b))).verdict)
        → (c : Bool) → w.cut e ≡ c
        → ◌≡◌ {A = Bool} (elim (w.cut e) [ true ↦ answers e (place_below p b) | false ↦ by_within w answers m e.node (place_below p b) ]) (across yes_outcome (node_outcome w.keywords w.matcher w.nodes (subject_in w.instance) w.completion) (Says k) path p (busy_at p) e b).verdict
    by_edge m k i path p r begins l low enough e b asks deeper true cut =
        ap (λ c. elim c as (λ c. Bool) [ true ↦ answers e (place_below p b) | false ↦ by_within w answers m e.node (place_below p b) ]) cut
        ∙ cut_across k i path p r begins l low enough e b asks
    by_edge m k i path p r begins l low enough e b asks deeper false uncut =
        let free : e.guarded ≡ false = unguarded e uncut in
        let falls : need e.node (place_below p b) (busy_at (place_below p b)) < need i p (busy_at p) = subst (λ ns. need e.node (place_below p b) ns < need i p (busy_at p)) (is_below k i path p r begins l low enough e b asks) (falls_free k i path p r begins l low enough e b asks free) in
        ap (λ c. elim c as (λ c. Bool) [ true ↦ answers e (place_below p b) | false ↦ by_within w answers m e.node (place_below p b) ]) uncut
        ∙ deeper uncut falls
        ∙ ap (λ ns. (Says k e.node (path ++ e.path) (place_below p b) ns).verdict) (sym (is_below k i path p r begins l low enough e b asks))
        ∙ sym (ap (λ g. (let o : Outcome = elim g [ false ↦ Says k e.node (path ++ e.path) (place_below p b) (progress_below (busy_at p) b) | true ↦ elim (list_any (λ j. j == e.node) (progress_below (busy_at p) b)) [ true ↦ accepted | false ↦ Says k e.node (path ++ e.path) (place_below p b) (e.node ∷ progress_below (busy_at p) b) ] ] in o.verdict)) free)

    below_top : (p r : Place) (b : Below) → p ≡ top ++ r → (z : Place) × (place_below p b ≡ top ++ z)
    below_top p r b begins = let begun = below_begins p b in (r ++ begun.0, begun.1 ∙ ap (λ z. z ++ begun.0) begins ∙ append_assoc top r begun.0)

    within_guarded : (m k : ℕ) (i : ℕ) (path : Text) (p : Place) (r : Place) → p ≡ top ++ r → i < w.count → need i p (busy_at p) < suc n → need i p (busy_at p) < k → need i p [] < m
        → by_within w answers m i p ≡ (Says k i path p (busy_at p)).verdict
    within_guarded zero k i path p r begins l low enough high = absurd (omega (arith, high))
    within_guarded (suc m) zero i path p r begins l low enough high = absurd (omega (arith, enough))
    within_guarded (suc m) (suc k) i path p r begins l low enough high =
        holds_same w solvable i p _ _ (λ e b asks. by_edge m k i path p r begins l low enough e b asks
        (λ uncut falls.
        let lower = free_lower w solvable i p e b l asks uncut in
        let there = below_top p r b begins in
        within_guarded m k e.node (path ++ e.path) (place_below p b) there.0 there.1 (leads_inside w solvable i p e b l asks) (omega (arith, falls, low)) (omega (arith, falls, enough)) (omega (arith, lower, high)))
        (w.cut e) refl)
        ∙ sym (node_verdict w.keywords w.matcher w.nodes (subject_in w.instance) w.completion i path p (across yes_outcome (node_outcome w.keywords w.matcher w.nodes (subject_in w.instance) w.completion) (Says k) path p (busy_at p))
        (λ m is. All-contains (λ m. w.keywords.is_told m ≡ false) (node_words (w.nodes.entries i)) m (solvable.untold i l) is))

    pub one_deeper : (i : ℕ) → i < w.count → SaysAt i top now v → need i top busy < suc n → Verdict i top busy ≡ v
    one_deeper i l says low =
        ap (λ ns. Verdict i top ns) (sym at_top)
        ∙ sym (within_guarded (suc (need i top [])) (suc (need i top (busy_at top))) i [] top [] (sym (append_none top)) l (subst (λ ns. need i top ns < suc n) (sym at_top) low) (omega arith) (omega arith))
        ∙ says answers answers_fit
      where
        append_none : (p : Place) → p ++ [] ≡ p
        append_none [] = refl
        append_none (s ∷ p) = ap (λ q. s ∷ q) (append_none p)

  all_hold : (n : ℕ) → Holds n
  all_hold zero i p busy now v l says none low = absurd (omega (arith, low))
  all_hold (suc n) i p busy now v l says none low = one_deeper n (all_hold n) p busy now v none i l says low

  -- A verdict that rests on what was known before a stage, and on yeses of the stage, is what is
  -- said under guards, with any path.
  pub told_guarded : (i : ℕ) (path : Text) (p : Place) (busy : List ℕ) (now : ℕ) (v : Bool) → i < w.count → SaysAt i p now v → NoneRefused now p busy → (n : ℕ) → need i p busy < n
      → (Says n i path p busy).verdict ≡ v
  told_guarded i path p busy now v l says none n low = settled n i path p busy l low ∙ all_hold (suc (need i p busy)) i p busy now v l says none (omega arith)
