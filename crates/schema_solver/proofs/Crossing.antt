-- What falls with each question of a solver, and the questions and answers of the functions of edges and of pairs.
use Rattle.std.proofs.Common.{◌≡◌, ◌∙◌, ℕ, suc, ◌<◌, ◌≤◌, ◌==◌, ◌++◌, ◌||◌, ◌&&◌, not, Bool, true, false, inl, inr, List, [], ◌∷◌, length, refl, sym, subst, ap, arith, true≢false}
use Rattle.std.specs.Prelude.{Contains, None, Some, drop, take}
use Rattle.std.specs.List.{list_any}
use Rattle.std.proofs.Math.Bool.{and-true}
use Rattle.std.proofs.lemmas.Bool.{false_from_ne_true, or_left}
use Rattle.std.proofs.lemmas.List.{drop_at, take_at}
use Rattle.serde_json.specs.Data.{Data}
use Rattle.serde_json.specs.View.{view}
use Rattle.theory_definitions.specs.Instance.{Place, Step, Subject, Text, after_step, same_place}
use Rattle.theory_definitions.specs.Guarded.{Children, NodeEdge, NodePart, Nodes, node_edges, node_keyword}
use Rattle.theory_definitions.specs.Keywords.{Answer}
use Rattle.theory_definitions.specs.Turns.{Standing, TurnLaws}
use Rattle.theory_meaning.specs.Numbered.{Ranked, left, subject_in}
use Rattle.theory_meaning.proofs.Falls.{left_below, left_entered, left_lower, step_falls}
use Rattle.schema_places.specs.Numbers.{OwnNumbers, number_of}
use Rattle.schema_traits.specs.AtOnce.{EndsAtOnce}
use Rattle.schema_traits.specs.KeywordViews.{Tells as MayTell}
use Rattle.schema_run_context.specs.Progress.{Pairs, busy_at}
use Rattle.schema_run_context.specs.Verdicts.{Remembers, is_pair, verdict_of}
use Rattle.schema_run_context.proofs.Pairs.{among-pair, busy-pushed, snoc_first}
use Rattle.schema_run_steps.specs.NodeRuns.{HasForm}
use Rattle.schema_run_steps.proofs.NodeRuns.{stands_in}
use Rattle.theory_fixed_points.specs.NodesSay.{KeepsUntold}
use Rattle.theory_fixed_points.specs.Under.{EdgeAnswers, IsSolvable, Solving}
use Rattle.theory_fixed_points.specs.Found.{NoneAt}
use Rattle.theory_fixed_points.specs.Stages.{FormTells, PairTells, PartsTell, Tells, edges_by, form_by, parts_by}
use Rattle.theory_fixed_points.proofs.Between.{grows_fits, lean_less, tells_known, tells_now}
use Rattle.theory_fixed_points.proofs.Turning.{at_once_by}
use Rattle.schema_solver_state.specs.Contexts.{SettlesAll, Solver, found_of, has_pair, solver_places}
use Rattle.schema_solver_state.specs.Answering.{Accepts, Begins, IsFound, Refuses}
use Rattle.schema_solver_state.specs.Saying.{WhatIsSaid}
use Rattle.schema_solver.specs.Solving.{Goes, HasEachCut, HasRoom, InEach, IsNew, Leaves, MaySolve, Setting, is_cut, solving_in}
use Rattle.schema_solver.specs.Needs.{PairRan, SaysTheRest, edge_needs, pair_needs}
use Rattle.schema_solver.proofs.PairSteps.{assumed_goes, assumed_says, freed_goes, freed_says, refused_goes, refused_says, settled_goes, settled_says}
use Rattle.schema_solver.proofs.PlacesOnce.{once_from_own, there_from_number}
use Rattle.schema_solver.proofs.Turned.{solvable_in, tells_there}

-- ---- what falls

module _ {K : Type 0} (nodes : Nodes K) (count : ℕ) where
  pair_case : (b : Bool) (n : ℕ) → b ≡ false → ◌≡◌ {A = ℕ} (elim b [ true ↦ 0 | false ↦ suc n ]) (suc n)
  pair_case true n h = absurd (true≢false h)
  pair_case false n h = refl

  pub needs_of_new : (i : ℕ) (s : Subject) (busy : List ℕ) → list_any (λ k. k == i) busy ≡ false → pair_needs nodes count i s busy ≡ suc (left nodes count i s (i ∷ busy))
  needs_of_new i s busy is = pair_case (list_any (λ k. k == i) busy) _ is

  cut_case : (b : Bool) (m n : ℕ) → b ≡ true → ◌≡◌ {A = ℕ} (elim b [ true ↦ m | false ↦ n ]) m
  cut_case true m n h = refl
  cut_case false m n h = absurd (true≢false (sym h))

  free_case : (b : Bool) (m n : ℕ) → b ≡ false → ◌≡◌ {A = ℕ} (elim b [ true ↦ m | false ↦ n ]) n
  free_case true m n h = absurd (true≢false h)
  free_case false m n h = refl

  module _ (cut : NodeEdge → Bool) (e : NodeEdge) (s : Subject) (busy : List ℕ) where
    pub needs_of_cut : cut e ≡ true → edge_needs cut nodes count e s busy ≡ pair_needs nodes count e.node s busy
    needs_of_cut is = cut_case (cut e) _ _ is

    pub needs_of_free : cut e ≡ false → edge_needs cut nodes count e s busy ≡ suc (left nodes count e.node s busy)
    needs_of_free is = free_case (cut e) _ _ is

    by_cut : (n : ℕ) → (cut e ≡ false → left nodes count e.node s busy < n) → (list_any (λ k. k == e.node) busy ≡ false → left nodes count e.node s (e.node ∷ busy) < n)
        → edge_needs cut nodes count e s busy ≤ n
    by_cut n f h = go (cut e) (list_any (λ k. k == e.node) busy) f h
      where
        go : (b t : Bool) → (b ≡ false → left nodes count e.node s busy < n) → (t ≡ false → left nodes count e.node s (e.node ∷ busy) < n)
            → (elim b [ true ↦ elim t [ true ↦ 0 | false ↦ suc (left nodes count e.node s (e.node ∷ busy)) ] | false ↦ suc (left nodes count e.node s busy) ]) ≤ n
        go false t f h = f refl
        go true true f h = omega arith
        go true false f h = h refl

  module _ (cut : NodeEdge → Bool) (cuts : (e : NodeEdge) → cut e ≡ false → e.guarded ≡ false) (ranked : Ranked nodes count) (i : ℕ) (s : Subject) (busy : List ℕ) (e : NodeEdge) (k : i < count) (h : Contains (node_edges (nodes.entries i)) e) where
    pub falls_across : edge_needs cut nodes count e s busy ≤ left nodes count i s busy
    falls_across = by_cut cut e s busy (left nodes count i s busy)
        (λ free. left_lower nodes count i e.node s busy ((ranked i k e h).1 (cuts e free)))
        (λ idle. left_entered nodes count i e.node s busy (ranked i k e h).0 idle)

    pub falls_across_below : (t : Subject) (step : Step) (busy' : List ℕ) → busy' ≡ [] → after_step step s ≡ Some t → edge_needs cut nodes count e t busy' ≤ left nodes count i s busy
    falls_across_below t step busy' none a =
        let lower = step_falls step s t a in
        by_cut cut e t busy' (left nodes count i s busy)
        (λ free. left_below nodes count i e.node s t busy busy' (ranked i k e h).0 lower)
        (λ idle. left_below nodes count i e.node s t busy (e.node ∷ busy') (ranked i k e h).0 lower)

-- every guarded edge is answered by what is found
pub cut_guards : (is_followed : ℕ → Bool) (e : NodeEdge) → is_cut is_followed e ≡ false → e.guarded ≡ false
cut_guards is_followed e free = false_from_ne_true e.guarded (λ is. true≢false (sym (or_left e.guarded (not (is_followed e.node)) is) ∙ free))

-- ---- a pair is in progress if its number is at its place

turned : (a b : Bool) → (a && b) ≡ (b && a)
turned true true = refl
turned true false = refl
turned false true = refl
turned false false = refl

pub busy_has : (i : ℕ) (p : Place) (es : Pairs) → list_any (λ k. k == i) (busy_at p es) ≡ has_pair es i p
busy_has i p [] = refl
busy_has i p (e ∷ es) = among-pair i p e es ∙ ap (λ b. b || list_any (λ k. k == i) (busy_at p es)) (turned (same_place e.1 p) (e.0 == i)) ∙ ap (λ b. is_pair i p e || b) (busy_has i p es)

-- ---- what is so of a pair, by its node and its place

pub at_pair : {m i : ℕ} {q p : Place} {d c : Solver} → (F : ℕ → Place → Solver → Type 0) → m ≡ i → q ≡ p → d ≡ c → F m q d → F i p c
at_pair {m = m} {i = i} {q = q} {p = p} {d = d} {c = c} F node place same h = subst (λ k. F k p c) node (subst (λ r. F m r c) place (subst (λ z. F m q z) same h))

-- ---- the question and the effect of the function of a pair

module _ {K R : Type 0} (g : Setting K R) (old : Solver) (s : Subject) (p : Place) (i : ℕ) (may : MaySolve g old s p i) where
  -- what is found of a pair is what it says
  pub found_says : (said : WhatIsSaid) → IsFound i p old said → PairTells (found_of old) i p said.valid said.leans
  found_says said found = elim found [
    | inl (known, free) ↦ tells_known (found_of old) i p said.valid said.leans known
    | inr (is, leans, held) ↦ subst (λ b. PairTells (found_of old) i p b said.leans) (sym is) (subst (PairTells (found_of old) i p true) (sym leans) (tells_now (found_of old) i p held))
  ]

  -- the measure falls when it is entered
  pub falls_entered : (b : Solver) → Begins i p old b → has_pair old.in_progress i p ≡ false
      → pair_needs g.nodes g.count i s (busy_at p old.in_progress) ≡ suc (left g.nodes g.count i s (busy_at p b.in_progress))
  falls_entered b begins idle =
      needs_of_new g.nodes g.count i s (busy_at p old.in_progress) (busy_has i p old.in_progress ∙ idle)
      ∙ ap (λ busy. suc (left g.nodes g.count i s busy)) (sym (ap (busy_at p) begins.in_progress ∙ busy-pushed p i old.in_progress))

module _ {K R : Type 0} (g : Setting K R) (old : Solver) (p : Place) (i : ℕ) where
  -- the pair is requested by its own node and place, over the same context
  pub pair_new : (m : ℕ) (q : Place) (c : Solver) → m ≡ i → q ≡ p → c ≡ old
      → verdict_of m q c.verdicts ≡ None → has_pair c.in_progress m q ≡ false → has_pair c.assumed m q ≡ false
      → (n : ℕ) → number_of q (solver_places old) ≡ Some n → OwnNumbers (solver_places old) → ((ns : List ℕ) → HasEachCut g ns → list_any (λ k. i == k) ns ≡ true)
      → IsNew g old p i
  pair_new m q c node place same unknown idle free n numbered own among = record {
    unknown = at_pair (λ k z c. verdict_of k z c.verdicts ≡ None) node place same unknown;
    idle = at_pair (λ k z c. has_pair c.in_progress k z ≡ false) node place same idle;
    free = at_pair (λ k z c. has_pair c.assumed k z ≡ false) node place same free;
    among = among;
    there = there_from_number p (solver_places old) n (subst (λ z. number_of z (solver_places old) ≡ Some n) place numbered);
    once = once_from_own (solver_places old) own;
  }

  pub pair_ran : (m : ℕ) (q r : Place) (c b e x : Solver) (mark : ℕ) (v : WhatIsSaid) → m ≡ i → q ≡ p → c ≡ old → r ≡ q
      → verdict_of m q c.verdicts ≡ None → has_pair c.in_progress m q ≡ false → has_pair c.assumed m q ≡ false
      → (n : ℕ) → number_of q (solver_places old) ≡ Some n → OwnNumbers (solver_places old) → ((ns : List ℕ) → HasEachCut g ns → list_any (λ k. i == k) ns ≡ true)
      → HasRoom g c → Begins m q c b → Goes g r b e → InEach g (view e.root) (λ texts w. Tells w (found_of e) i r v.valid v.leans) → mark ≡ length c.assumed
      → e.in_progress ≡ x.in_progress ++ (m, q) ∷ [] → x.root ≡ e.root → x.assumed ≡ e.assumed → x.verdicts ≡ e.verdicts → x.marking ≡ e.marking → x.begun ≡ e.begun
      → PairRan g old b e x p i mark v
  pair_ran m q r c b e x mark v node place same at_q unknown idle free n numbered own among room begins went says at_mark left root assumed verdicts marking begun = record {
    is_new = pair_new m q c node place same unknown idle free n numbered own among;
    room = at_pair (λ k z c. HasRoom g c) node place same room;
    begins = at_pair (λ k z c. Begins k z c b) node place same begins;
    went = subst (λ z. Goes g z b e) (at_q ∙ place) went;
    says = subst (λ z. InEach g (view e.root) (λ texts w. Tells w (found_of e) i z v.valid v.leans)) (at_q ∙ place) says;
    at_mark = at_mark ∙ ap (λ (c : Solver). length c.assumed) same;
    in_progress = at_pair (λ k z c. e.in_progress ≡ x.in_progress ++ (k, z) ∷ []) node place same left;
    root = root;
    assumed = assumed;
    verdicts = verdicts;
    marking = marking;
    begun_still = begun;
  }

  module _ (b e x : Solver) (mark : ℕ) (v : WhatIsSaid) (ran : PairRan g old b e x p i mark v) where
    in_progress_then : e.in_progress ≡ old.in_progress ++ (i, p) ∷ []
    in_progress_then = ran.went.in_progress ∙ ran.begins.in_progress

    in_progress_back : x.in_progress ≡ old.in_progress
    in_progress_back = (snoc_first x.in_progress old.in_progress (i, p) (i, p) (sym ran.in_progress ∙ in_progress_then)).0

    grown : x.assumed ≡ old.assumed ++ ran.went.more
    grown = ran.assumed ∙ ran.went.assumed ∙ ap (λ es. es ++ ran.went.more) ran.begins.assumed

    -- what was assumed before the mark, and since
    pub before_mark : take mark x.assumed ≡ old.assumed
    before_mark = ap (take mark) grown ∙ take_at old.assumed ran.went.more mark (sym ran.at_mark)

    since_mark : drop mark x.assumed ≡ ran.went.more
    since_mark = ap (drop mark) grown ∙ drop_at old.assumed ran.went.more mark (sym ran.at_mark)

    pub apart_mark : (j : ℕ) (q : Place) → has_pair (drop mark x.assumed) j q ≡ true → has_pair (take mark x.assumed) j q ≡ false
    apart_mark j q is = ap (λ es. has_pair es j q) (before_mark ∙ sym ran.begins.assumed) ∙ ran.went.apart j q (ap (λ es. has_pair es j q) (sym since_mark) ∙ is)

    module _ (n : Solver) (root : n.root ≡ x.root) (still : n.in_progress ≡ x.in_progress) (marking : n.marking ≡ x.marking) (begun : n.begun ≡ x.begun) where
      pub ran_leaves : Leaves old e n
      ran_leaves = record { root = root ∙ ran.root; in_progress = still ∙ in_progress_back; marking = marking ∙ ran.marking; begun = begun ∙ ran.begun_still }

      pub ran_settles : SettlesAll ((i, p) ∷ drop mark x.assumed) x.verdicts n.verdicts → SettlesAll ((i, p) ∷ ran.went.more) e.verdicts n.verdicts
      ran_settles settles = subst (λ es. SettlesAll ((i, p) ∷ es) e.verdicts n.verdicts) since_mark (subst (λ vs. SettlesAll ((i, p) ∷ drop mark x.assumed) vs n.verdicts) ran.verdicts settles)

module _ {K R : Type 0} (g : Setting K R) (laws : (texts : Bool) → KeepsUntold (g.words texts)) (old : Solver) (s : Subject) (p : Place) (i : ℕ) (may : MaySolve g old s p i)
    (b e x : Solver) (mark : ℕ) (v : WhatIsSaid) (ran : PairRan g old b e x p i mark v)
    (n : Solver) (root : n.root ≡ x.root) (still : n.in_progress ≡ x.in_progress) (marking : n.marking ≡ x.marking) (begun : n.begun ≡ x.begun) where
  leaves : Leaves old e n
  leaves = ran_leaves g old p i b e x mark v ran n root still marking begun

  ran_says : (c l : Bool) → v.valid ≡ c → v.leans ≡ l → InEach g (view e.root) (λ texts w. Tells w (found_of e) i p c l)
  ran_says c l is leans = subst (λ l. InEach g (view e.root) (λ texts w. Tells w (found_of e) i p c l)) leans (subst (λ c. InEach g (view e.root) (λ texts w. Tells w (found_of e) i p c v.leans)) is ran.says)

  -- what is left and said of the pair: it goes on, and the pair says this
  abbrev Kept : WhatIsSaid → Type 0
  Kept now = Goes g p old n × PairTells (found_of n) i p now.valid now.leans

  kept_as : (now : WhatIsSaid) (c l : Bool) → now.valid ≡ c → now.leans ≡ l → PairTells (found_of n) i p c l → PairTells (found_of n) i p now.valid now.leans
  kept_as now c l is leans tells = subst (λ c. PairTells (found_of n) i p c now.leans) (sym is) (subst (PairTells (found_of n) i p c) (sym leans) tells)

  module _ (is_no : v.valid ≡ false) (dropped : n.assumed ≡ take mark x.assumed) (refused : Remembers i p false x.verdicts n.verdicts) where
    ran_refused : (now : WhatIsSaid) → now.valid ≡ false → Kept now
    ran_refused now is = (
      refused_goes g laws old b s p i may ran.is_new ran.begins ran.room e n ran.went leaves v.leans (ran_says false v.leans is_no refl)
          (dropped ∙ before_mark g old p i b e x mark v ran) (subst (λ vs. Remembers i p false vs n.verdicts) ran.verdicts refused),
      kept_as now false now.leans is refl (refused_says g laws old b s p i may ran.is_new ran.begins ran.room e n ran.went leaves v.leans (ran_says false v.leans is_no refl)
          (dropped ∙ before_mark g old p i b e x mark v ran) (subst (λ vs. Remembers i p false vs n.verdicts) ran.verdicts refused) now.leans),
    )

  module _ (is_yes : v.valid ≡ true) where
    beside_old : (k : ℕ) → has_pair x.in_progress k p ≡ true → has_pair old.in_progress k p ≡ true
    beside_old k beside = ap (λ es. has_pair es k p) (sym (sym still ∙ leaves.in_progress)) ∙ beside

    ran_assumed : (k : ℕ) → has_pair x.in_progress k p ≡ true → n.assumed ≡ x.assumed ++ (i, p) ∷ [] → n.verdicts ≡ x.verdicts → (now : WhatIsSaid) → now.valid ≡ true → now.leans ≡ true → Kept now
    ran_assumed k beside pushed verdicts now is yes_leans = (
      assumed_goes g laws old b s p i may ran.is_new ran.begins ran.room e n ran.went leaves v.leans (ran_says true v.leans is_yes refl) k (beside_old k beside)
          (pushed ∙ ap (λ es. es ++ (i, p) ∷ []) ran.assumed) (verdicts ∙ ran.verdicts),
      kept_as now true true is yes_leans (assumed_says g laws old b s p i may ran.is_new ran.begins ran.room e n ran.went leaves v.leans (ran_says true v.leans is_yes refl) k (beside_old k beside)
          (pushed ∙ ap (λ es. es ++ (i, p) ∷ []) ran.assumed) (verdicts ∙ ran.verdicts)),
    )

    ran_freed : v.leans ≡ false → (k : ℕ) → has_pair x.in_progress k p ≡ true → n.assumed ≡ x.assumed → Remembers i p true x.verdicts n.verdicts → (now : WhatIsSaid) → now.valid ≡ true → Kept now
    ran_freed free k beside same kept now is = (
      freed_goes g laws old b s p i may ran.is_new ran.begins ran.room e n ran.went leaves (ran_says true false is_yes free) k (beside_old k beside)
          (same ∙ ran.assumed) (subst (λ vs. Remembers i p true vs n.verdicts) ran.verdicts kept),
      kept_as now true now.leans is refl (freed_says g laws old b s p i may ran.is_new ran.begins ran.room e n ran.went leaves (ran_says true false is_yes free) k (beside_old k beside)
          (same ∙ ran.assumed) (subst (λ vs. Remembers i p true vs n.verdicts) ran.verdicts kept) now.leans),
    )

    none_old : ((k : ℕ) → has_pair x.in_progress k p ≡ false) → NoneAt p (found_of old)
    none_old none k = ap (λ es. has_pair es k p) (sym (sym still ∙ leaves.in_progress)) ∙ none k

    ran_settled : ((k : ℕ) → has_pair x.in_progress k p ≡ false) → n.assumed ≡ take mark x.assumed → SettlesAll ((i, p) ∷ drop mark x.assumed) x.verdicts n.verdicts → (now : WhatIsSaid) → now.valid ≡ true → Kept now
    ran_settled none dropped settles now is = (
      settled_goes g laws old b s p i may ran.is_new ran.begins ran.room e n ran.went leaves v.leans (ran_says true v.leans is_yes refl) (none_old none)
          (dropped ∙ before_mark g old p i b e x mark v ran) (ran_settles g old p i b e x mark v ran n root still marking begun settles),
      kept_as now true now.leans is refl (settled_says g laws old b s p i may ran.is_new ran.begins ran.room e n ran.went leaves v.leans (ran_says true v.leans is_yes refl) (none_old none)
          (dropped ∙ before_mark g old p i b e x mark v ran) (ran_settles g old p i b e x mark v ran n root still marking begun settles) now.leans),
    )

    ran_accepted : (now : WhatIsSaid) → now.valid ≡ true → Accepts i p mark v now x n → Kept now
    ran_accepted now is accepts = elim accepts [
      | inl ((none, dropped, settles), free) ↦ ran_settled none dropped settles now is
      | inr other ↦ elim other [
        | inl (((k, beside), pushed, verdicts), yes_leans) ↦ ran_assumed k beside pushed verdicts now is yes_leans
        | inr (((k, beside), same, kept), free, now_free) ↦ ran_freed free k beside same kept now is
      ]
    ]

  either_way : {A : Type 0} → (b : Bool) → (b ≡ false → A) → (b ≡ true → A) → A
  either_way false f h = f refl
  either_way true f h = h refl

  pub ran_kept : (now : WhatIsSaid) → now.valid ≡ v.valid → (v.valid ≡ false → Refuses i p mark x n) → (v.valid ≡ true → Accepts i p mark v now x n) → Goes g p old n × PairTells (found_of n) i p now.valid now.leans
  ran_kept now same as_no as_yes = either_way v.valid
      (λ is. let (dropped, refused) = as_no is in ran_refused is dropped refused now (same ∙ is))
      (λ is. ran_accepted is now (same ∙ is) (as_yes is))

-- ---- the entries of a node, one after another

module _ {K R : Type 0} (g : Setting K R) (p : Place) (c d : Solver) (went : Goes g p c d) (all : List (NodePart K)) (x : NodePart K) (rest : List (NodePart K)) (l : Bool)
    (so_far : InEach g (view c.root) (λ texts w. SaysTheRest w p (found_of c) l all (x ∷ rest))) where
  said_before : InEach g (view d.root) (λ texts w. SaysTheRest w p (found_of c) l all (x ∷ rest))
  said_before = subst (λ u. InEach g (view u) (λ texts w. SaysTheRest w p (found_of c) l all (x ∷ rest))) (sym went.root) so_far

  first_yes : (a b : Bool) → a ≡ true → (a || b) ≡ true
  first_yes true b h = refl
  first_yes false b h = absurd (true≢false (sym h))

  last_yes : (a b : Bool) → b ≡ true → (a || b) ≡ true
  last_yes true b h = refl
  last_yes false b h = h

  no_after : (a b : Bool) → b ≡ false → (a && b) ≡ false
  no_after true b h = h
  no_after false b h = refl

  pub entry_accepts : (k : Bool) → InEach g (view d.root) (λ texts w. FormTells w p (found_of d) x.form true k) → InEach g (view d.root) (λ texts w. SaysTheRest w p (found_of d) (l || k) all rest)
  entry_accepts k says texts tells = record {
    same = λ answers fits.
        (said_before texts tells).same answers (grows_fits p (found_of c) (found_of d) went.grew l (l || k) (first_yes l k) answers fits)
        ∙ ap (λ b. b && parts_by (solving_in g (view d.root) texts) p answers rest) (says texts tells answers (lean_less (found_of d) k (l || k) answers (last_yes l k) fits));
    refuses = λ answers no. (said_before texts tells).refuses answers (no_after _ _ no);
  }

  pub entry_refuses : (k : Bool) → InEach g (view d.root) (λ texts w. FormTells w p (found_of d) x.form false k) → InEach g (view d.root) (λ texts w. PartsTell w p (found_of d) all false k)
  entry_refuses k says texts tells answers fits = (said_before texts tells).refuses answers (ap (λ b. b && parts_by (solving_in g (view d.root) texts) p answers rest) (says texts tells answers fits))

-- one of the remaining entries, after some that wait, needs no questions
module _ {K R : Type 0} (g : Setting K R) (p : Place) (c : Solver) (all pre : List (NodePart K)) (x : NodePart K) (rest : List (NodePart K))
    (so_far : InEach g (view c.root) (λ texts w. SaysTheRest w p (found_of c) false all (pre ++ x ∷ rest))) where
  abbrev by_all : Solving K R → EdgeAnswers → List (NodePart K) → Bool
  by_all w answers xs = parts_by w p answers xs

  both_no : (a b c : Bool) → (b ≡ false → c ≡ false) → (a && b) ≡ false → (a && c) ≡ false
  both_no true b c h is = h is
  both_no false b c h is = refl

  either_no : (a b : Bool) → b ≡ false → (a && b) ≡ false
  either_no true b h = h
  either_no false b h = refl

  passed : (w : Solving K R) (answers : EdgeAnswers) (ys : List (NodePart K)) → form_by w p (edges_by w p answers) x.form ≡ true → by_all w answers (ys ++ x ∷ rest) ≡ by_all w answers (ys ++ rest)
  passed w answers [] is = ap (λ b. b && by_all w answers rest) is
  passed w answers (y ∷ ys) is = ap (λ b. form_by w p (edges_by w p answers) y.form && b) (passed w answers ys is)

  still_no : (w : Solving K R) (answers : EdgeAnswers) (ys : List (NodePart K)) → by_all w answers (ys ++ rest) ≡ false → by_all w answers (ys ++ x ∷ rest) ≡ false
  still_no w answers [] is = either_no _ _ is
  still_no w answers (y ∷ ys) is = both_no _ _ _ (still_no w answers ys) is

  stopped : (w : Solving K R) (answers : EdgeAnswers) (ys : List (NodePart K)) → form_by w p (edges_by w p answers) x.form ≡ false → by_all w answers (ys ++ x ∷ rest) ≡ false
  stopped w answers [] is = ap (λ b. b && by_all w answers rest) is
  stopped w answers (y ∷ ys) is = either_no _ _ (stopped w answers ys is)

  pub told_accepts : InEach g (view c.root) (λ texts w. FormTells w p (found_of c) x.form true false) → InEach g (view c.root) (λ texts w. SaysTheRest w p (found_of c) false all (pre ++ rest))
  told_accepts says texts tells = record {
    same = λ answers fits. (so_far texts tells).same answers fits ∙ passed (solving_in g (view c.root) texts) answers pre (says texts tells answers fits);
    refuses = λ answers is. (so_far texts tells).refuses answers (still_no (solving_in g (view c.root) texts) answers pre is);
  }

  pub told_refuses : InEach g (view c.root) (λ texts w. FormTells w p (found_of c) x.form false false) → InEach g (view c.root) (λ texts w. PartsTell w p (found_of c) all false false)
  told_refuses says texts tells answers fits = (so_far texts tells).refuses answers (stopped (solving_in g (view c.root) texts) answers pre (says texts tells answers fits))

-- all have the verdict of the remaining ones, if those before have a final "valid"
module _ {K R : Type 0} (g : Setting K R) (p : Place) (c d : Solver) (went : Goes g p c d) (all rest : List (NodePart K))
    (so_far : InEach g (view c.root) (λ texts w. SaysTheRest w p (found_of c) false all rest)) where
  leans_on_nothing : (b : Bool) → false ≡ true → b ≡ true
  leans_on_nothing b is = absurd (true≢false (sym is))

  pub rest_says : (b k : Bool) → InEach g (view d.root) (λ texts w. PartsTell w p (found_of d) rest b k) → InEach g (view d.root) (λ texts w. PartsTell w p (found_of d) all b k)
  rest_says b k says texts tells answers fits =
      let before : SaysTheRest (solving_in g (view d.root) texts) p (found_of c) false all rest = subst (λ u. InEach g (view u) (λ texts w. SaysTheRest w p (found_of c) false all rest)) (sym went.root) so_far texts tells in
      before.same answers (grows_fits p (found_of c) (found_of d) went.grew false (b && k) (leans_on_nothing (b && k)) answers fits) ∙ says texts tells answers fits

  -- and one alone, what it says
  pub last_says : (x : NodePart K) → rest ≡ x ∷ [] → (b k : Bool) → InEach g (view d.root) (λ texts w. FormTells w p (found_of d) x.form b k) → InEach g (view d.root) (λ texts w. PartsTell w p (found_of d) all b k)
  last_says x is b k says = rest_says b k (λ texts tells answers fits. ap (parts_by (solving_in g (view d.root) texts) p answers) is ∙ and-true _ ∙ says texts tells answers fits)

-- ---- a keyword that decides without questions

module _ {K R : Type 0} (g : Setting K R) (laws : (texts : Bool) → KeepsUntold (g.words texts)) (c : Solver) (s : Subject) (p : Place) (i : ℕ) (may : MaySolve g c s p i) where
  pub solvable_here : (root : Data) (texts : Bool) → IsSolvable (solving_in g root texts)
  solvable_here root texts = solvable_in g laws may.ranked root texts

  module _ (m : K) (es : Children) (form : HasForm g.nodes i (node_keyword m es)) where
    pub says_at_once : (absorbed : List Text) (remaining : Subject → R → ℕ) (can_be : Bool → Subject → R → Type 0) (end_of : Bool → Standing R → Answer) (Fits : Bool → Standing R → Type 0)
        → ((texts : Bool) → TurnLaws (g.words texts) m absorbed remaining (can_be texts) (end_of texts) (Fits texts)) → (valid : Bool)
        → ((texts : Bool) → MayTell texts (g.is_whole m) s → EndsAtOnce (g.words texts) m s valid)
        → InEach g (view c.root) (λ texts w. FormTells w p (found_of c) (node_keyword m es) valid false)
    says_at_once absorbed remaining can_be end_of Fits turn_laws valid at_once texts tells =
        let ends : EndsAtOnce (g.words texts) m (subject_in (view c.root) p) valid = subst (λ z. EndsAtOnce (g.words texts) m z valid) (sym (stands_in (view c.root) p s may.stands)) (at_once texts (tells_there g c s p i m es may form texts tells)) in
        at_once_by (solving_in g (view c.root) texts) (solvable_here (view c.root) texts) p m absorbed remaining (can_be texts) (end_of texts) (Fits texts) (turn_laws texts) es (found_of c) (may.sound texts tells) valid ends.asks_nothing ends.says
