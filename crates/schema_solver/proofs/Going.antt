-- Steps of a solver one after another, how it begins, and what it says at the end.
use Rattle.std.proofs.Common.{◌≡◌, ◌∙◌, ℕ, ◌++◌, ◌<◌, ◌≤◌, ◌||◌, not, Bool, true, false, [], length, refl, sym, subst, ap, ap₂, append_assoc, arith, true≢false, suc}
use Rattle.std.specs.Prelude.{IfSome, None, Option, Some}
use Rattle.std.proofs.lemmas.Bool.{false_from_ne_true, or_left}
use Rattle.std.proofs.lemmas.List.{append-nil}
use Rattle.std.proofs.lemmas.List.Elements.{All-nil}
use Rattle.serde_json.specs.Data.{Data}
use Rattle.serde_json.specs.View.{view}
use Rattle.serde_json.specs.declared.value.Value.{Value}
use Rattle.theory_definitions.specs.Instance.{Place, Subject, Text, a_value, subject_at}
use Rattle.theory_definitions.specs.Guarded.{guarded_within, node_outcome, yes_outcome}
use Rattle.theory_definitions.specs.Keywords.{Below}
use Rattle.theory_definitions.specs.Meaning.{place_below}
use Rattle.theory_definitions.proofs.Products.{in_either}
use Rattle.schema_traits.specs.MatcherViews.{FinishesEach}
use Rattle.schema_run_context.specs.Progress.{NoDeeper, root_places}
use Rattle.schema_run_context.specs.Verdicts.{verdict_of}
use Rattle.theory_meaning.specs.Numbered.{Ranked, left, subject_in}
use Rattle.theory_fixed_points.specs.NodesSay.{KeepsUntold}
use Rattle.theory_fixed_points.proofs.NodesSay.{are_untold}
use Rattle.theory_fixed_points.specs.Under.{Solving, IsSolvable}
use Rattle.theory_fixed_points.specs.Found.{Found, IsSound}
use Rattle.theory_fixed_points.specs.Stages.{IsStaged, Tells}
use Rattle.theory_fixed_points.specs.Work.{IsBoundedBy, IsCounted, pairs_of}
use Rattle.theory_fixed_points.proofs.Between.{grows_below, grows_none, grows_on, lean_less}
use Rattle.theory_fixed_points.proofs.Solved.{nothing_staged, solver_says_guarded, staged_is_sound, tells_under_sets}
use Rattle.theory_fixed_points.proofs.Staged.{told_guarded}
use Rattle.theory_fixed_points.proofs.Bounds.{bounded_by}
use Rattle.schema_solver_state.specs.Contexts.{Solver, found_of, has_pair}
use Rattle.schema_solver_state.specs.Answering.{fresh}
use Rattle.schema_solver.specs.Solving.{BeginsFew, Goes, HoldsAsNodes, InEach, IsLate, IsSoundIn, IsStagedIn, LimitWithinBound, MaySolve, RestsOnFound, SaysAsNodes, Setting, StaysCounted, StaysWithin, solving_in}
use Rattle.schema_solver_state.proofs.FoundOf.{has_append}

module _ {K R : Type 0} (g : Setting K R) where
  pub counted_on : (a b c : Solver) → b.root ≡ a.root → StaysCounted g a b → StaysCounted g b c → StaysCounted g a c
  counted_on a b c root first second ns each counted =
      subst (λ v. IsCounted (pairs_of ns (root_places v)) (length ns) (found_of b) b.begun → IsCounted (pairs_of ns (root_places v)) (length ns) (found_of c) c.begun) root (second ns each) (first ns each counted)

  -- no step, and two
  pub goes_none : (p : Place) (c : Solver) → IsStagedIn g c → Goes g p c c
  goes_none p c sound = record {
    root = refl;
    in_progress = refl;
    more = [];
    assumed = sym (append-nil c.assumed);
    apart = λ i q is. absurd (true≢false (sym is));
    grew = grows_none p (found_of c);
    sound = sound;
    counted = λ ns each counted. counted;
    within = λ most limit few. few;
  }

  pub goes_on : (p : Place) (a b c : Solver) → Goes g p a b → Goes g p b c → Goes g p a c
  goes_on p a b c first second = record {
    root = second.root ∙ first.root;
    in_progress = second.in_progress ∙ first.in_progress;
    more = first.more ++ second.more;
    assumed = second.assumed ∙ ap (λ es. es ++ second.more) first.assumed ∙ append_assoc a.assumed first.more second.more;
    apart = λ i q is. in_either (has_pair first.more i q) (has_pair second.more i q)
        (first.apart i q)
        (λ later. false_from_ne_true (has_pair a.assumed i q) (λ had. true≢false
        (sym (ap (λ es. has_pair es i q) first.assumed ∙ has_append a.assumed first.more i q ∙ or_left (has_pair a.assumed i q) _ had) ∙ second.apart i q later)))
        (sym (has_append first.more second.more i q) ∙ is);
    grew = grows_on p (found_of a) (found_of b) (found_of c) first.grew second.grew;
    sound = second.sound;
    counted = counted_on a b c first.root first.counted second.counted;
    within = λ most limit few. second.within most limit (first.within most limit few);
  }

  -- a step at a place below is one of the question there
  pub goes_below : (p : Place) (b : Below) (c c' : Solver) → Goes g (place_below p b) c c' → Goes g p c c'
  goes_below p b c c' went = record {
    root = went.root;
    in_progress = went.in_progress;
    more = went.more;
    assumed = went.assumed;
    apart = went.apart;
    grew = grows_below p b (found_of c) (found_of c') went.grew;
    sound = went.sound;
    counted = went.counted;
    within = went.within;
  }

  -- a question that may be asked may be asked after a step
  pub may_after : (p : Place) (c c' : Solver) (s : Subject) (i : ℕ) → MaySolve g c s p i → Goes g p c c' → MaySolve g c' s p i
  may_after p c c' s i may went = record {
    known = may.known;
    ranked = may.ranked;
    finishes = may.finishes;
    above = subst (NoDeeper p) (sym went.in_progress) may.above;
    stands = ap (λ v. subject_at (view v) p) went.root ∙ may.stands;
    sound = went.sound;
  }

  -- ---- where it stops

  -- a limit that is met after a step
  pub late_on : (p : Place) (a b : Solver) → Goes g p a b → IsLate g b → IsLate g a
  late_on p a b went late = record {
    most = late.most;
    limit = late.limit;
    within_bound = λ ns each counted. subst (λ v. IsCounted (pairs_of ns (root_places v)) (length ns) (found_of b) b.begun → IsBoundedBy ns (root_places v) (suc late.most)) went.root
        (late.within_bound ns each) (went.counted ns each counted);
  }

  -- ---- as it begins

  pub fresh_staged : (v : Value) → IsStagedIn g (fresh v)
  fresh_staged v texts tells = nothing_staged (solving_in g (view v) texts)

  -- so any number of the table may be evaluated at the root place
  pub fresh_may : (v : Value) (i : ℕ) → i < g.count → Ranked g.nodes g.count → FinishesEach g.matcher → MaySolve g (fresh v) (a_value (view v)) [] i
  fresh_may v i known ranked finishes = record {
    known = known;
    ranked = ranked;
    finishes = finishes;
    above = All-nil (λ (e : ℕ × Place). length e.1 ≤ 0);
    stands = refl;
    sound = fresh_staged v;
  }

  -- while it goes on it stays within the limit, and a limit that is reached is below the bound
  pub root_within : (v : Value) (c : Solver) → StaysWithin g (fresh v) c → IfSome g.most (λ most. c.begun ≤ most)
  root_within v c within = if_some g.most (λ most limit. within most limit (omega arith))
    where
      if_some : (limit : Option ℕ) → ((most : ℕ) → limit ≡ Some most → c.begun ≤ most) → IfSome limit (λ most. c.begun ≤ most)
      if_some None few = tt
      if_some (Some most) few = few most refl

  pub root_late : (v : Value) → IsLate g (fresh v) → IfSome g.most (LimitWithinBound g v)
  root_late v late = subst (λ limit. IfSome limit (LimitWithinBound g v)) (sym late.limit) (λ ns each. late.within_bound ns each (omega arith))

  -- ---- at the end

  module _ (laws : (texts : Bool) → KeepsUntold (g.words texts)) (ranked : Ranked g.nodes g.count) (v : Value) (i : ℕ) (l : i < g.count) (c : Solver) (went : Goes g [] (fresh v) c) where
    solvable : (texts : Bool) → IsSolvable (solving_in g (view v) texts)
    solvable texts = record {
      laws = (laws texts).laws;
      untold = are_untold (g.words texts) (laws texts).never g.nodes g.count;
      ranked = ranked;
      cuts = λ e guarded. or_left _ _ guarded;
      alike = λ d e same guards. ap₂ (λ x y. x || not (g.is_followed y)) guards same;
    }

    staged : InEach g (view v) (λ texts w. IsStaged w (found_of c))
    staged = subst (λ u. InEach g (view u) (λ texts w. IsStaged w (found_of c))) went.root went.sound

    -- a final verdict may count as a provisional one
    may_lean : (w : Solving K R) (f : Found) (b k : Bool) → Tells w f i [] b k → Tells w f i [] b true
    may_lean w f true k tells answers fits = tells answers (lean_less f k true answers (λ is. refl) fits)
    may_lean w f false k tells answers fits = tells answers fits

    -- what is said of the number is what its nodes say under guards
    pub end_says : (b k : Bool) → InEach g (view c.root) (λ texts w. Tells w (found_of c) i [] b k) → SaysAsNodes g (view v) i b
    end_says b k says texts tells path n low =
        let w : Solving K R = solving_in g (view v) texts in
        let said : InEach g (view v) (λ texts w. Tells w (found_of c) i [] b k) = subst (λ u. InEach g (view u) (λ texts w. Tells w (found_of c) i [] b k)) went.root says in
        solver_says_guarded w (solvable texts) i [] b l (found_of c, staged texts tells, (λ j q. ap (λ es. has_pair es j q) went.in_progress), may_lean w (found_of c) b k (said texts tells)) path n low

    -- it is the verdict under each set between what is accepted and what is not refused
    pub end_rests : (b k : Bool) → InEach g (view c.root) (λ texts w. Tells w (found_of c) i [] b k) → RestsOnFound g c i b
    end_rests b k says texts tells = tells_under_sets (solving_in g (view c.root) texts) (found_of c) i [] b (may_lean (solving_in g (view c.root) texts) (found_of c) b k (says texts tells))

    -- everything in the context is true, if each keyword is monotone
    pub end_sound : IsSoundIn g c
    end_sound monotone = subst (λ u. InEach g (view u) (λ texts w. IsSound w (found_of c))) (sym went.root) (λ texts tells. staged_is_sound (solving_in g (view v) texts) (solvable texts) (monotone texts) (found_of c) (staged texts tells))

    -- each verdict that is held is what the nodes say
    pub end_holds : HoldsAsNodes g c
    end_holds = subst (λ u. Held (view u)) (sym went.root) held
      where
        Held : Data → Type 0
        Held root = InEach g root (λ texts w. (i : ℕ) (p : Place) (v : Bool) → verdict_of i p c.verdicts ≡ Some v → (path : Text) (n : ℕ) → left g.nodes g.count i (subject_in w.instance p) [] < n
            → (guarded_within yes_outcome (node_outcome w.keywords w.matcher w.nodes (subject_in w.instance) w.completion) n i path p []).verdict ≡ v)

        held : Held (view v)
        held texts tells j p b known path n low =
            let stages = (staged texts tells).stages in
            told_guarded (solving_in g (view v) texts) (solvable texts) (found_of c).known stages j path p [] (stages.stage j p) b (stages.inside j p b known) (stages.rests j p b known) (λ k there. absurd (true≢false (sym there))) n low

    -- and few pairs were begun, no more than may be
    pub end_few : BeginsFew g v c.begun
    end_few ns each = bounded_by ns (root_places v) (found_of c) c.begun (went.counted ns each (omega arith))

    pub end_within : IfSome g.most (λ most. c.begun ≤ most)
    end_within = root_within v c went.within
