-- What a pair's function does and says, by what the run of its node does and says.
use Rattle.std.proofs.Common.{suc, ◌+◌, ◌<◌, ◌≡◌, ◌∙◌, ℕ, ◌++◌, ◌≤◌, ◌||◌, not, Bool, true, false, List, [], ◌∷◌, length, sym, subst, ap, ap₂, append_assoc, arith, true≢false}
use Rattle.std.specs.Prelude.{Some}
use Rattle.std.proofs.Math.Nat.{min-le_left}
use Rattle.std.proofs.lemmas.Bool.{or_left}
use Rattle.std.proofs.lemmas.List.{append-nil}
use Rattle.std.proofs.lemmas.List.Elements.{All-append, All-cons, All-head, All-nil, All-tail}
use Rattle.serde_json.specs.View.{view}
use Rattle.serde_json.specs.Data.{Data}
use Rattle.serde_json.specs.declared.value.Value.{Value}
use Rattle.theory_definitions.specs.Instance.{Place, Subject, subject_at}
use Rattle.theory_definitions.proofs.Products.{in_either}
use Rattle.schema_run_context.specs.Progress.{NoDeeper, Pairs, root_places}
use Rattle.schema_run_context.specs.Verdicts.{Remembers, is_pair}
use Rattle.schema_run_steps.specs.NodeRuns.{TellsAll}
use Rattle.theory_fixed_points.specs.NodesSay.{KeepsUntold}
use Rattle.theory_fixed_points.proofs.NodesSay.{are_untold}
use Rattle.theory_fixed_points.specs.Under.{Solving, IsSolvable}
use Rattle.theory_fixed_points.specs.Found.{Grows, NoneAt, NoneDeeper, after_no, after_yes, after_yes_alone, after_yes_free, entered, is_this}
use Rattle.theory_fixed_points.specs.Stages.{IsStaged, PairTells, Tells, for_now}
use Rattle.theory_fixed_points.specs.Work.{IsBoundedBy, IsCounted, Pairs as AllPairs, pairs_of}
use Rattle.theory_fixed_points.proofs.Pairs.{of_this, this_place}
use Rattle.theory_fixed_points.proofs.Steps.{alone_grows, alone_says, alone_sound, assumes_grows, assumes_says, assumes_sound, entered_sound, free_grows, free_says, free_sound, no_grows, no_says, no_sound}
use Rattle.theory_fixed_points.proofs.Work.{assumed_counts, entered_counts, freed_counts, refused_counts, settled_counts}
use Rattle.theory_fixed_points.proofs.Bounds.{bounded_by, pairs_among, pairs_few}
use Rattle.schema_solver_state.specs.Contexts.{SettlesAll, Solver, found_of, has_pair, solver_places}
use Rattle.schema_solver_state.specs.Answering.{Begins}
use Rattle.schema_solver.specs.Solving.{Goes, HasEachCut, HasRoom, InEach, IsLate, IsNew, Leaves, MaySolve, Setting, StaysWithin, solving_in}
use Rattle.schema_solver_state.proofs.FoundOf.{has_pushed, found_assumed, found_entered, found_freed, found_refused, found_settled}

-- what no pair in progress lies deeper than is so of what is found
deeper : (p : Place) (es : Pairs) → NoDeeper p es → (j : ℕ) (q : Place) → has_pair es j q ≡ true → length q ≤ length p
deeper p [] above j q is = absurd (true≢false (sym is))
deeper p (e ∷ es) above j q is = in_either (is_pair j q e) (has_pair es j q)
    (λ here. subst (λ r. length r ≤ length p) (this_place e.0 e.1 j q here) (All-head (λ (x : ℕ × Place). length x.1 ≤ length p) e es above))
    (λ later. deeper p es (All-tail (λ (x : ℕ × Place). length x.1 ≤ length p) e es above) j q later) is

-- if a pair is not among some, and none of others is, none of the others and the pair is
pushed_apart : (i : ℕ) (p : Place) (old more : Pairs) → has_pair old i p ≡ false → ((j : ℕ) (q : Place) → has_pair more j q ≡ true → has_pair old j q ≡ false)
    → (j : ℕ) (q : Place) → has_pair (more ++ (i, p) ∷ []) j q ≡ true → has_pair old j q ≡ false
pushed_apart i p old more free apart j q is = in_either (is_this i p j q) (has_pair more j q)
    (λ this. of_this (λ m r. has_pair old m r ≡ false) i p j q this free) (apart j q) (sym (has_pushed more i p j q) ∙ is)

-- ---- as a pair is begun

module _ {K R : Type 0} (g : Setting K R) (old : Solver) (p : Place) (i : ℕ) where
  -- no more pairs are begun than may be
  pub within_begun : (b : Solver) → Begins i p old b → HasRoom g old → StaysWithin g old b
  within_begun b begins room most limit few =
      let capped = min-le_left (old.begun + 1) 18446744073709551615 in
      let fewer : old.begun < most = room most limit in
      omega (arith, begins.begun, capped, fewer)

  module _ (is_new : IsNew g old p i) where
    abbrev AllOf : List ℕ → AllPairs
    AllOf ns = pairs_of ns (solver_places old)

    -- one pair more is counted
    counted_more : (ns : List ℕ) → HasEachCut g ns → IsCounted (AllOf ns) (length ns) (found_of old) old.begun → IsCounted (AllOf ns) (length ns) (entered (found_of old) i p) (old.begun + 1)
    counted_more ns each counted = entered_counts (AllOf ns) (length ns) (found_of old) i p old.begun (pairs_among ns (solver_places old) i p (is_new.among ns each) is_new.there) is_new.unknown is_new.idle is_new.free counted

    pub counted_begun : (b : Solver) → Begins i p old b → (ns : List ℕ) → HasEachCut g ns → IsCounted (AllOf ns) (length ns) (found_of old) old.begun → IsCounted (AllOf ns) (length ns) (found_of b) b.begun
    counted_begun b begins ns each counted = subst (λ f. IsCounted (AllOf ns) (length ns) f b.begun) (sym (found_entered i p old b begins.in_progress begins.assumed begins.verdicts))
        (let more = counted_more ns each counted in
        let few = min-le_left (old.begun + 1) 18446744073709551615 in
        omega (arith, begins.begun, few, more))

    -- so if no more may be begun, the limit is below the bound
    pub late_here : (most : ℕ) → g.most ≡ Some most → most ≤ old.begun → IsLate g old
    late_here most limit full = record {
      most = most;
      limit = limit;
      within_bound = λ ns each counted.
          let bound : IsBoundedBy ns (solver_places old) (old.begun + 1) = bounded_by ns (solver_places old) (entered (found_of old) i p) (old.begun + 1) (counted_more ns each counted) in
          omega (arith, bound, full);
    }

    -- and if a limit is reached once it is begun
    pub late_begun : (b : Solver) → Begins i p old b → IsLate g b → IsLate g old
    late_begun b begins late = record {
      most = late.most;
      limit = late.limit;
      within_bound = λ ns each counted. subst (λ v. IsCounted (pairs_of ns (root_places v)) (length ns) (found_of b) b.begun → IsBoundedBy ns (root_places v) (suc late.most)) begins.root
          (late.within_bound ns each) (counted_begun b begins ns each counted);
    }

module _ {K R : Type 0} (g : Setting K R) (laws : (texts : Bool) → KeepsUntold (g.words texts)) where
  -- a fact in each reading of a root value
  at_root : (fact : Bool → Solving K R → Type 0) (v u : Value) → v ≡ u → InEach g (view v) fact → InEach g (view u) fact
  at_root fact v u same = subst (λ r. InEach g (view r) fact) same

  module _ (old b : Solver) (s : Subject) (p : Place) (i : ℕ) (may : MaySolve g old s p i) (is_new : IsNew g old p i) (begins : Begins i p old b) where
    pub solvable : (root : Data) (texts : Bool) → IsSolvable (solving_in g root texts)
    solvable root texts = record {
      laws = (laws texts).laws;
      untold = are_untold (g.words texts) (laws texts).never g.nodes g.count;
      ranked = may.ranked;
      cuts = λ e guarded. or_left _ _ guarded;
      alike = λ c d same guards. ap₂ (λ x y. x || not (g.is_followed y)) guards same;
    }

    found_b : found_of b ≡ entered (found_of old) i p
    found_b = found_entered i p old b begins.in_progress begins.assumed begins.verdicts

    -- the node may be run then
    pub begun_may : MaySolve g b s p i
    begun_may = record {
      known = may.known;
      ranked = may.ranked;
      finishes = may.finishes;
      above = subst (NoDeeper p) (sym begins.in_progress) (All-append (λ (e : ℕ × Place). length e.1 ≤ length p) old.in_progress ((i, p) ∷ []) may.above (All-cons (λ (e : ℕ × Place). length e.1 ≤ length p) (i, p) [] (omega arith) (All-nil (λ (e : ℕ × Place). length e.1 ≤ length p))));
      stands = ap (λ v. subject_at (view v) p) begins.root ∙ may.stands;
      sound = at_root (λ texts w. IsStaged w (found_of b)) old.root b.root (sym begins.root)
          (λ texts tells. subst (IsStaged (solving_in g (view old.root) texts)) (sym found_b)
          (entered_sound (solving_in g (view old.root) texts) (solvable (view old.root) texts) (found_of old) i p (may.sound texts tells) is_new.unknown is_new.free));
    }

    module _ (room : HasRoom g old) (e n : Solver) (went : Goes g p b e) (leaves : Leaves old e n) where
      root_e : e.root ≡ old.root
      root_e = went.root ∙ begins.root

      root_n : n.root ≡ old.root
      root_n = leaves.root ∙ root_e

      abbrev In : Bool → Solving K R
      In texts = solving_in g (view old.root) texts

      abbrev Says : Bool → Bool → Type 0
      Says v leans = InEach g (view e.root) (λ texts w. Tells w (found_of e) i p v leans)

      says_old : (v leans : Bool) → Says v leans → InEach g (view old.root) (λ texts w. Tells w (found_of e) i p v leans)
      says_old v leans = at_root (λ texts w. Tells w (found_of e) i p v leans) e.root old.root root_e

      -- it was neither in progress nor assumed before
      was_not : for_now (found_of old) i p ≡ false
      was_not = ap (λ b. b || has_pair old.assumed i p) is_new.idle ∙ is_new.free

      sound_e : InEach g (view old.root) (λ texts w. IsStaged w (found_of e))
      sound_e = at_root (λ texts w. IsStaged w (found_of e)) e.root old.root root_e went.sound

      grew_e : Grows p (entered (found_of old) i p) (found_of e)
      grew_e = subst (λ f. Grows p f (found_of e)) found_b went.grew

      grown : e.assumed ≡ old.assumed ++ went.more
      grown = went.assumed ∙ ap (λ es. es ++ went.more) begins.assumed

      apart_old : (j : ℕ) (q : Place) → has_pair went.more j q ≡ true → has_pair old.assumed j q ≡ false
      apart_old j q is = ap (λ es. has_pair es j q) (sym begins.assumed) ∙ went.apart j q is

      none_deeper : NoneDeeper p (found_of old)
      none_deeper = deeper p old.in_progress may.above

      -- a reading in which texts are not covered
      silent : TellsAll false (view old.root) g.is_whole g.nodes g.count
      silent = record { keywords = λ is. absurd (true≢false (sym is)); instance = λ is. absurd (true≢false (sym is)) }

      silent_w : IsSolvable (In false)
      silent_w = solvable (view old.root) false

      -- ---- the count, at the end of the node's run

      abbrev All_ : List ℕ → AllPairs
      All_ ns = pairs_of ns (solver_places old)

      counted_e : (ns : List ℕ) → HasEachCut g ns → IsCounted (All_ ns) (length ns) (found_of old) old.begun → IsCounted (All_ ns) (length ns) (found_of e) n.begun
      counted_e ns each counted = subst (λ k. IsCounted (All_ ns) (length ns) (found_of e) k) (sym leaves.begun)
          (subst (λ v. IsCounted (pairs_of ns (root_places v)) (length ns) (found_of b) b.begun → IsCounted (pairs_of ns (root_places v)) (length ns) (found_of e) e.begun) begins.root (went.counted ns each) (counted_begun g old p i is_new b begins ns each counted))

      within_n : StaysWithin g old n
      within_n most limit few = subst (λ k. k ≤ most) (sym leaves.begun) (went.within most limit (within_begun g old p i b begins room most limit few))

      -- ---- after a no

      module _ (leans : Bool) (says : Says false leans) (dropped : n.assumed ≡ old.assumed) (refused : Remembers i p false e.verdicts n.verdicts) where
        found_no : found_of n ≡ after_no (found_of old) (found_of e) i p
        found_no = found_refused i p old e n leaves.in_progress dropped refused

        pub refused_goes : Goes g p old n
        refused_goes = record {
          root = root_n;
          in_progress = leaves.in_progress;
          more = [];
          assumed = dropped ∙ sym (append-nil old.assumed);
          apart = λ j q is. absurd (true≢false (sym is));
          grew = subst (Grows p (found_of old)) (sym found_no) (no_grows (In false) silent_w (found_of old) (found_of e) i p may.known (may.sound false silent) (sound_e false silent) grew_e);
          sound = at_root (λ texts w. IsStaged w (found_of n)) old.root n.root (sym root_n) (λ texts tells. subst (IsStaged (In texts)) (sym found_no)
              (no_sound (In texts) (solvable (view old.root) texts) (found_of old) (found_of e) i p may.known (may.sound texts tells) (sound_e texts tells) grew_e was_not leans (says_old false leans says texts tells)));
          counted = λ ns each counted. subst (λ f. IsCounted (All_ ns) (length ns) f n.begun) (sym found_no)
              (refused_counts (In false) silent_w (found_of old) (found_of e) i p may.known (may.sound false silent) (sound_e false silent) grew_e (All_ ns) (length ns) n.begun
              (pairs_among ns (solver_places old) i p (is_new.among ns each) is_new.there) (pairs_few ns (solver_places old) is_new.once) none_deeper (counted_e ns each counted));
          within = within_n;
        }

        pub refused_says : (k : Bool) → PairTells (found_of n) i p false k
        refused_says k = subst (λ f. PairTells f i p false k) (sym found_no) (no_says (In false) silent_w (found_of old) (found_of e) i p may.known (may.sound false silent) (sound_e false silent) grew_e k)

      -- ---- after a "valid" beside another pair in progress at its place

      module _ (leans : Bool) (says : Says true leans) (k : ℕ) (beside : has_pair old.in_progress k p ≡ true) (pushed : n.assumed ≡ e.assumed ++ (i, p) ∷ []) (verdicts : n.verdicts ≡ e.verdicts) where
        found_assumes : found_of n ≡ after_yes (found_of old) (found_of e) i p
        found_assumes = found_assumed i p old e n leaves.in_progress pushed verdicts

        pub assumed_says : PairTells (found_of n) i p true true
        assumed_says = subst (λ f. PairTells f i p true true) (sym found_assumes) (assumes_says (In false) silent_w (found_of old) (found_of e) i p may.known (may.sound false silent) (sound_e false silent) grew_e)

        pub assumed_goes : Goes g p old n
        assumed_goes = record {
          root = root_n;
          in_progress = leaves.in_progress;
          more = went.more ++ (i, p) ∷ [];
          assumed = pushed ∙ ap (λ es. es ++ (i, p) ∷ []) grown ∙ append_assoc old.assumed went.more ((i, p) ∷ []);
          apart = λ j q is. pushed_apart i p old.assumed went.more is_new.free apart_old j q is;
          grew = subst (Grows p (found_of old)) (sym found_assumes) (assumes_grows (In false) silent_w (found_of old) (found_of e) i p may.known (may.sound false silent) (sound_e false silent) grew_e);
          sound = at_root (λ texts w. IsStaged w (found_of n)) old.root n.root (sym root_n) (λ texts tells. subst (IsStaged (In texts)) (sym found_assumes)
              (assumes_sound (In texts) (solvable (view old.root) texts) (found_of old) (found_of e) i p may.known (may.sound texts tells) (sound_e texts tells) grew_e was_not leans (says_old true leans says texts tells) k beside));
          counted = λ ns each counted. subst (λ f. IsCounted (All_ ns) (length ns) f n.begun) (sym found_assumes)
              (assumed_counts (In false) silent_w (found_of old) (found_of e) i p may.known (may.sound false silent) (sound_e false silent) grew_e (All_ ns) (length ns) n.begun (counted_e ns each counted));
          within = within_n;
        }

      -- ---- after a final "valid", beside another

      module _ (says : Says true false) (k : ℕ) (beside : has_pair old.in_progress k p ≡ true) (same : n.assumed ≡ e.assumed) (kept : Remembers i p true e.verdicts n.verdicts) where
        found_free : found_of n ≡ after_yes_free (found_of old) (found_of e) i p
        found_free = found_freed i p old e n leaves.in_progress same kept

        pub freed_says : (k : Bool) → PairTells (found_of n) i p true k
        freed_says k = subst (λ f. PairTells f i p true k) (sym found_free) (free_says (In false) silent_w (found_of old) (found_of e) i p may.known (may.sound false silent) (sound_e false silent) grew_e k)

        pub freed_goes : Goes g p old n
        freed_goes = record {
          root = root_n;
          in_progress = leaves.in_progress;
          more = went.more;
          assumed = same ∙ grown;
          apart = apart_old;
          grew = subst (Grows p (found_of old)) (sym found_free) (free_grows (In false) silent_w (found_of old) (found_of e) i p may.known (may.sound false silent) (sound_e false silent) grew_e);
          sound = at_root (λ texts w. IsStaged w (found_of n)) old.root n.root (sym root_n) (λ texts tells. subst (IsStaged (In texts)) (sym found_free)
              (free_sound (In texts) (solvable (view old.root) texts) (found_of old) (found_of e) i p may.known (may.sound texts tells) (sound_e texts tells) grew_e was_not k beside (says_old true false says texts tells)));
          counted = λ ns each counted. subst (λ f. IsCounted (All_ ns) (length ns) f n.begun) (sym found_free)
              (freed_counts (In false) silent_w (found_of old) (found_of e) i p may.known (may.sound false silent) (sound_e false silent) grew_e (All_ ns) (length ns) n.begun (counted_e ns each counted));
          within = within_n;
        }

      -- ---- after a "valid" of the only pair in progress at its place

      module _ (leans : Bool) (says : Says true leans) (none_at : NoneAt p (found_of old)) (dropped : n.assumed ≡ old.assumed) (settles : SettlesAll ((i, p) ∷ went.more) e.verdicts n.verdicts) where
        found_alone : found_of n ≡ after_yes_alone (found_of old) (found_of e) i p
        found_alone = found_settled i p old e n went.more leaves.in_progress dropped grown apart_old settles

        pub settled_says : (k : Bool) → PairTells (found_of n) i p true k
        settled_says k = subst (λ f. PairTells f i p true k) (sym found_alone) (alone_says (In false) silent_w (found_of old) (found_of e) i p may.known (may.sound false silent) (sound_e false silent) grew_e k)

        pub settled_goes : Goes g p old n
        settled_goes = record {
          root = root_n;
          in_progress = leaves.in_progress;
          more = [];
          assumed = dropped ∙ sym (append-nil old.assumed);
          apart = λ j q is. absurd (true≢false (sym is));
          grew = subst (Grows p (found_of old)) (sym found_alone) (alone_grows (In false) silent_w (found_of old) (found_of e) i p may.known (may.sound false silent) (sound_e false silent) grew_e);
          sound = at_root (λ texts w. IsStaged w (found_of n)) old.root n.root (sym root_n) (λ texts tells. subst (IsStaged (In texts)) (sym found_alone)
              (alone_sound (In texts) (solvable (view old.root) texts) (found_of old) (found_of e) i p may.known (may.sound texts tells) (sound_e texts tells) grew_e none_at none_deeper leans (says_old true leans says texts tells)));
          counted = λ ns each counted. subst (λ f. IsCounted (All_ ns) (length ns) f n.begun) (sym found_alone)
              (settled_counts (In false) silent_w (found_of old) (found_of e) i p may.known (may.sound false silent) (sound_e false silent) grew_e (All_ ns) (length ns) n.begun (counted_e ns each counted));
          within = within_n;
        }
