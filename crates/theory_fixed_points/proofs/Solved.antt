-- With no pair in progress, a solver says what numbered nodes say under guards, and, if each
-- keyword is monotone, the greatest solution.
use Rattle.std.proofs.Common.{◌≡◌, ◌∙◌, ℕ, zero, suc, ◌<◌, ◌||◌, ◌&&◌, Bool, true, false, [], refl, sym, subst, ap, arith, true≢false}
use Rattle.std.specs.Prelude.{None, Option, Some}
use Rattle.std.proofs.lemmas.Bool.{or_left}
use Rattle.theory_definitions.specs.Instance.{Place}
use Rattle.theory_meaning.specs.Numbered.{left, subject_in}
use Rattle.theory_fixed_points.proofs.NodesSay.{nodes_say_greatest}
use Rattle.theory_fixed_points.specs.Under.{EachMonotone, EdgeAnswers, PairSet, Solving, IsSolvable, FailsUnderEach, Stands, by_set, under}
use Rattle.theory_fixed_points.specs.Found.{Found, IsSound, accepted_now, settled}
use Rattle.theory_fixed_points.specs.Stages.{Fits, FitsStage, IsStaged}
use Rattle.theory_fixed_points.specs.Solved.{IsIdle, SolverSaysGreatest, SolverSaysGuarded, StagedIsSound, TellsUnderSets, nothing_found}
use Rattle.theory_fixed_points.proofs.Under.{under_more}
use Rattle.theory_fixed_points.proofs.Between.{accepted_fits, by_assumed, by_busy, by_settled, is_refused, is_settled, lean_less, now_cases, refused_by, settled_by}
use Rattle.theory_fixed_points.proofs.Staged.{told_guarded}

module _ {K R : Type 0} (w : Solving K R) where
  pub nothing_staged : IsStaged w nothing_found
  nothing_staged = record {
    apart = λ i p is. refl;
    once = λ i p is. refl;
    placed = λ i p is. absurd (true≢false (sym is));
    within = λ i p is. absurd (true≢false (sym is));
    held = λ i p is. absurd (true≢false (sym is));
    stages = record {
      next = 0;
      stage = λ i p. 0;
      before = λ i p v is. never i v is;
      inside = λ i p v is. never i v is;
      rests = λ i p v is. never i v is;
    };
  }
    where
      never : {P : Type 0} (i : ℕ) (v : Bool) → None ≡ Some v → P
      never i v is = absurd (let f : ⊥ = cc is in f)

  -- With no pair in progress nothing is assumed, so answers that fit before the next stage fit all
  -- that is found.
  idle_fits : (f : Found) (staged : IsStaged w f) → IsIdle f → (l : Bool) (answers : EdgeAnswers) → FitsStage f.known staged.stages.stage staged.stages.next l answers → Fits f true answers
  idle_fits f staged idle l answers fits = record {
    alike = fits.alike;
    known = λ e p v is. fits.before e p v is (staged.stages.before e.node p v is);
    leaning = λ is e p. now_cases f e.node p
        (λ now. absurd (true≢false (sym now ∙ idle e.node p)))
        (λ now. let other = staged.placed e.node p now in absurd (true≢false (sym other.1 ∙ idle other.0 p)));
  }

  pub solver_says_guarded : SolverSaysGuarded w
  solver_says_guarded solvable i p b l (f, staged, idle, tells) path n low =
      told_guarded w solvable f.known staged.stages i path p [] staged.stages.next b l
      (λ answers fits. tells answers (lean_less f (b && true) true answers (λ is. refl) (idle_fits f staged idle b answers fits)))
      (λ j there. absurd (true≢false (sym there))) n low

  pub solver_says_greatest : SolverSaysGreatest w
  solver_says_greatest solvable monotone i p b l said =
      let guarded = solver_says_guarded solvable i p b l said [] (suc (left w.nodes w.count i (subject_in w.instance p) [])) (omega arith) in
      let greatest = nodes_say_greatest w.keywords solvable.laws w.matcher w.nodes w.count solvable.ranked monotone w.instance w.completion i [] p l (suc (left w.nodes w.count i (subject_in w.instance p) [])) (omega arith) in
      (λ is. greatest.0 (guarded ∙ is), λ h. sym guarded ∙ greatest.1 h)

  -- ---- what is said under sets of pairs

  pub tells_under_sets : TellsUnderSets w
  tells_under_sets f i p b tells inside between = tells (by_set inside) (record {
    alike = λ a c q node guards. ap (λ n. inside n q) node;
    known = λ e q v is. known e.node q v is;
    leaning = λ leans e q. now_cases f e.node q (λ now. between.above e.node q (by_busy f e.node q now)) (λ now. between.above e.node q (by_assumed f e.node q now));
  })
    where
      known : (j : ℕ) (q : Place) (v : Bool) → f.known j q ≡ Some v → inside j q ≡ v
      known j q true is = between.above j q (by_settled f j q (settled_by f j q is))
      known j q false is = between.below j q (refused_by f j q is)

  module _ (solvable : IsSolvable w) (monotone : EachMonotone w) (f : Found) (staged : IsStaged w f) where
    -- A set that stands by itself, with all pairs that have a final yes.
    with_settled : PairSet → PairSet
    with_settled inside j q = inside j q || settled f j q

    value : (o : Option Bool) (v : Bool) → o ≡ Some v → (let b : Bool = elim o [ None ↦ false | Some x ↦ x ] in b) ≡ v
    value o v is = ap (λ o. elim o as (λ (o : Option Bool). Bool) [ None ↦ false | Some x ↦ x ]) is

    -- If no pair of it was refused before a stage, it agrees with what was known before that stage.
    as_known : (inside : PairSet) (now : ℕ) → ((j : ℕ) (q : Place) → f.known j q ≡ Some false → staged.stages.stage j q < now → inside j q ≡ false)
        → (j : ℕ) (q : Place) (v : Bool) → f.known j q ≡ Some v → staged.stages.stage j q < now → with_settled inside j q ≡ v
    unfolding with_settled
    as_known inside now none j q v told early = joined (inside j q) (settled f j q) v (λ no. none j q (subst (λ x. f.known j q ≡ Some x) no told) early) (value (f.known j q) v told)
      where
        joined : (a b v : Bool) → (v ≡ false → a ≡ false) → b ≡ v → (a || b) ≡ v
        joined true b true none at = refl
        joined true b false none at = none refl
        joined false b v none at = at

    more_settled : (inside : PairSet) (j : ℕ) (q : Place) → inside j q ≡ true → with_settled inside j q ≡ true
    unfolding with_settled
    more_settled inside j q has = or_left _ _ has

    not_in : (inside : PairSet) → Stands w inside → (j : ℕ) (q : Place) → j < w.count → (under w inside j q ≡ true → ⊥) → inside j q ≡ false
    not_in inside stands j q l fails = go (inside j q) refl
      where
        go : (b : Bool) → inside j q ≡ b → b ≡ false
        go true has = absurd (fails (stands j q l has))
        go false has = refl

    -- No pair that was refused before a stage holds under a set that stands by itself.
    fails_before : (n i : ℕ) (p : Place) → f.known i p ≡ Some false → staged.stages.stage i p < n → FailsUnderEach w i p
    fails_before zero i p is early inside stands holds = absurd (omega (arith, early))
    fails_before (suc n) i p is early inside stands holds = true≢false (
        sym (under_more w solvable monotone (by_set inside) (by_set (with_settled inside)) i p (staged.stages.inside i p false is) (λ e q has. more_settled inside e.node q has) holds)
        ∙ staged.stages.rests i p false is (by_set (with_settled inside)) (record {
          alike = λ a b q node guards. ap (λ m. with_settled inside m q) node;
          before = λ e. as_known inside (staged.stages.stage i p)
              (λ j q out earlier. not_in inside stands j q (staged.stages.inside j q false out) (fails_before n j q out (omega (arith, earlier, early)) inside stands)) e.node;
          same = λ asked. absurd (true≢false (sym asked));
        }))

    pub sound_if_monotone : IsSound w f
    sound_if_monotone = record {
      apart = staged.apart;
      held = λ i p l is. staged.held i p is (by_set (accepted_now f)) (accepted_fits w f staged);
      placed = staged.placed;
      stands = λ i p l is. staged.stages.rests i p true (is_settled f i p is) (by_set (settled f)) (record {
        alike = λ a b q node guards. ap (λ m. settled f m q) node;
        before = λ e q v told early. value (f.known e.node q) v told;
        same = λ asked e q told at. value (f.known e.node q) true told;
      });
      fails = λ i p is. let out = is_refused f i p is in (staged.stages.inside i p false out, fails_before (suc (staged.stages.stage i p)) i p out (omega arith));
    }

  pub staged_is_sound : StagedIsSound w
  staged_is_sound solvable monotone f staged = sound_if_monotone solvable monotone f staged
