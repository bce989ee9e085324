-- The trees that grow from the lists on the stack.
use Rattle.std.proofs.Common.{◌≡◌, ◌<◌, ◌⊎◌, inl, inr, ℕ, zero, suc, ◌+◌, List, [], ◌∷◌, ◌++◌, Option, Some, None, true, false, sym, ◌∙◌, ap, subst, refl, append_assoc, arith, length, reverse}
use Rattle.std.proofs.lemmas.List.{append-nil, reverse-append}
use Rattle.theory_definitions.specs.Matching.{Assumptions}
use Rattle.theory_definitions.specs.Runs.{Met}
use Rattle.theory_definitions.specs.Cover.{assuming}
use Rattle.theory_definitions.specs.Unfinished.{Failure, FirstIsNew, Remembered, located_by, located_by_all, starting}
use Rattle.theory_meaning.specs.Search.{Grows, GrowsFrom, IsInOrder, Tree, branch, member, results_of, runs, sites, unrun, waiting}

module _ {S T : Type 0} (Step : S → Remembered → Remembered → T → S → Type 0) where
  -- the trees that grow from the lists, one after another
  abbrev pub GrowAll : List Assumptions → S → List (Tree T) → S → Type 0
  GrowAll [] s [] end = s ≡ end
  GrowAll [] s (c ∷ cs) end = ⊥
  GrowAll (a ∷ as') s [] end = ⊥
  GrowAll (a ∷ as') s (c ∷ cs) end = (s1 : S) × Grows Step a s c s1 × GrowAll as' s1 cs end

pub reverse-push : {A : Type 0} (xs : List A) (a : A) → reverse (xs ++ a ∷ []) ≡ a ∷ reverse xs
reverse-push xs a = reverse-append xs (a ∷ [])

pub reverse-push_two : {A : Type 0} (xs : List A) (a b : A) → reverse (xs ++ a ∷ [] ++ b ∷ []) ≡ b ∷ a ∷ reverse xs
reverse-push_two xs a b = reverse-push (xs ++ a ∷ []) b ∙ ap (λ z. b ∷ z) (reverse-push xs a)

module _ {T : Type 0} where
  abbrev pub results_all : List (Tree T) → List T
  results_all [] = []
  results_all (c ∷ cs) = results_of c ++ results_all cs

  abbrev pub runs_all : List (Tree T) → ℕ
  runs_all [] = 0
  runs_all (c ∷ cs) = runs c + runs_all cs

  abbrev pub waiting_all : List (Tree T) → ℕ
  waiting_all [] = 0
  waiting_all (c ∷ cs) = waiting c + waiting_all cs

  abbrev pub sites_all : List (Tree T) → List (List Met)
  sites_all [] = []
  sites_all (c ∷ cs) = sites c ++ sites_all cs

  -- nothing of these trees has been run
  abbrev pub AllWait : List (Tree T) → Type 0
  AllWait [] = Unit {0}
  AllWait (c ∷ cs) = (c ≡ unrun) × AllWait cs

  -- no list is run before an earlier one, in its tree or in another, that still waits
  abbrev pub AllInOrder : List (Tree T) → Type 0
  AllInOrder [] = Unit {0}
  AllInOrder (c ∷ cs) = IsInOrder c × (0 < waiting c → AllWait cs) × AllInOrder cs

-- two trees at the front, joined by a branching
branch_in_order : {T : Type 0} (met : Remembered) (v : Failure) (x y : Tree T) (cs : List (Tree T)) → AllInOrder (x ∷ y ∷ cs) → AllInOrder (branch met v x y ∷ cs)
branch_in_order met v x y cs order = (
  (order.0, order.2.0, λ some. (order.1 some).0),
  (λ some. either some (some_of (waiting x))),
  order.2.2,
)
  where
    some_of : (n : ℕ) → (n ≡ 0) ⊎ (0 < n)
    some_of zero = inl refl
    some_of (suc n) = inr (omega arith)

    either : 0 < waiting x + waiting y → (waiting x ≡ 0) ⊎ (0 < waiting x) → AllWait cs
    either some (inl none) = order.2.1 (omega (arith, some, none))
    either some (inr first) = (order.1 first).1

module _ {S T : Type 0} (Step : S → Remembered → Remembered → T → S → Type 0) (first : Remembered) (u : Failure) (start : S) where
  -- a tree of the call, and its results
  pub record Grown (end : S) (results : List T) (count left : ℕ) (failure : Failure) : Type 0 where
    pub tree : Tree T
    pub grows : GrowsFrom Step first start tree end
    pub in_order : IsInOrder tree
    pub results_are : results_of tree ≡ results
    pub runs_are : runs tree ≡ count
    pub waiting_are : waiting tree ≡ left
    pub failure_is : located_by_all u (sites tree) ≡ failure

  -- whatever trees grow from the lists that wait, they complete the tree of the call
  abbrev pub Completes : List Assumptions → S → List T → ℕ → Failure → Type 0
  Completes lists state results count failure =
      (cs : List (Tree T)) (end : S)
      → GrowAll Step lists state cs end
      → AllInOrder cs
      → Grown end (results ++ results_all cs) (count + runs_all cs) (waiting_all cs) (located_by_all failure (sites_all cs))

  pub Grown-same : {end : S} {results results' : List T} {count count' left left' : ℕ} {failure failure' : Failure} → Grown end results count left failure → results ≡ results' → count ≡ count' → left ≡ left' → failure ≡ failure' → Grown end results' count' left' failure'
  Grown-same w e1 e2 e3 e4 = record {
    tree = w.tree;
    grows = w.grows;
    in_order = w.in_order;
    results_are = w.results_are ∙ e1;
    runs_are = w.runs_are ∙ e2;
    waiting_are = w.waiting_are ∙ e3;
    failure_is = w.failure_is ∙ e4;
  }

  pub completes_first : first.unassumed ≡ Some u → FirstIsNew first → Completes (assuming u.met false first.assumptions ∷ assuming u.met true first.assumptions ∷ []) start [] 1 (located_by u first.located)
  completes_first is new [] end g order = absurd g
  completes_first is new (a ∷ []) end g order = absurd g.2
  completes_first is new (a ∷ b ∷ []) end g order = record {
    tree = branch first u a b;
    grows = (g.0, refl, is, g.1, subst (λ e. Grows Step (assuming u.met true first.assumptions) g.0 b e) g.2.2 g.2.1, new u is);
    in_order = (order.0, order.2.0, λ some. (order.1 some).0);
    results_are = ap (λ x. results_of a ++ x) (sym (append-nil (results_of b)));
    runs_are = omega arith;
    waiting_are = omega arith;
    failure_is = ap (λ x. located_by_all (located_by u first.located) (sites a ++ x)) (sym (append-nil (sites b)));
  }
  completes_first is new (a ∷ b ∷ c ∷ cs) end g order = absurd g.2.2

  pub completes_member : (lists : List Assumptions) (a : Assumptions) (s : S) (results : List T) (count : ℕ) (failure : Failure) (met : Remembered) (result : T) (s' : S) → Completes (a ∷ lists) s results count failure → Step s (starting a) met result s' → met.unassumed ≡ None → Completes lists s' (results ++ result ∷ []) (count + 1) (located_by failure met.located)
  completes_member lists a s results count failure met result s' h step none cs end g order =
      Grown-same (h (member met result ∷ cs) end (s', (step, none), g) (tt, (λ some. absurd (omega (arith, some))), order))
      (sym (append_assoc results (result ∷ []) (results_all cs))) (omega arith) (omega arith) refl

  pub completes_branch : (lists : List Assumptions) (a : Assumptions) (s : S) (results : List T) (count : ℕ) (failure : Failure) (met : Remembered) (result : T) (v : Failure) (s' : S) → Completes (a ∷ lists) s results count failure → Step s (starting a) met result s' → met.unassumed ≡ Some v → FirstIsNew met → Completes (assuming v.met false a ∷ assuming v.met true a ∷ lists) s' results (count + 1) (located_by failure met.located)
  completes_branch lists a s results count failure met result v s' h step some new [] end g order = absurd g
  completes_branch lists a s results count failure met result v s' h step some new (x ∷ []) end g order = absurd g.2
  completes_branch lists a s results count failure met result v s' h step some new (x ∷ y ∷ cs) end g order =
      Grown-same (h (branch met v x y ∷ cs) end (g.2.0, (result, s', g.0, step, some, g.1, g.2.1, new v some), g.2.2) (branch_in_order met v x y cs order))
      (ap (λ z. results ++ z) (append_assoc (results_of x) (results_of y) (results_all cs))) (omega arith) (omega arith)
      (ap (λ z. located_by_all (located_by failure met.located) z) (append_assoc (sites x) (sites y) (sites_all cs)))

  pub completes_end : (s : S) (results : List T) (count : ℕ) (failure : Failure) → Completes [] s results count failure → Grown s results count 0 failure
  completes_end s results count failure h =
      Grown-same (h [] s refl tt) (append-nil results) (omega arith) refl refl

  waits : List Assumptions → List (Tree T)
  waits [] = []
  waits (a ∷ lists) = unrun ∷ waits lists

  waits_grow : (lists : List Assumptions) (s : S) → GrowAll Step lists s (waits lists) s
  unfolding waits
  waits_grow [] s = refl
  waits_grow (a ∷ lists) s = (s, refl, waits_grow lists s)

  waits_wait : (lists : List Assumptions) → AllWait (waits lists)
  unfolding waits
  waits_wait [] = tt
  waits_wait (a ∷ lists) = (refl, waits_wait lists)

  waits_in_order : (lists : List Assumptions) → AllInOrder (waits lists)
  unfolding waits
  waits_in_order [] = tt
  waits_in_order (a ∷ lists) = (tt, (λ some. waits_wait lists), waits_in_order lists)

  waits_members : (lists : List Assumptions) → results_all (waits lists) ≡ []
  unfolding waits
  waits_members [] = refl
  waits_members (a ∷ lists) = waits_members lists

  waits_runs : (lists : List Assumptions) → runs_all (waits lists) ≡ 0
  unfolding waits
  waits_runs [] = refl
  waits_runs (a ∷ lists) = omega (arith, waits_runs lists)

  waits_waiting : (lists : List Assumptions) → waiting_all (waits lists) ≡ length lists
  unfolding waits
  waits_waiting [] = refl
  waits_waiting (a ∷ lists) = omega (arith, waits_waiting lists)

  waits_sites : (lists : List Assumptions) → sites_all (waits lists) ≡ []
  unfolding waits
  waits_sites [] = refl
  waits_sites (a ∷ lists) = waits_sites lists

  pub completes_stop : (lists : List Assumptions) (s : S) (results : List T) (count : ℕ) (failure : Failure) → Completes lists s results count failure → Grown s results count (length lists) failure
  completes_stop lists s results count failure h =
      Grown-same (h (waits lists) s (waits_grow lists s) (waits_in_order lists))
      (ap (λ z. results ++ z) (waits_members lists) ∙ append-nil results) (omega (arith, waits_runs lists)) (waits_waiting lists)
      (ap (λ z. located_by_all failure z) (waits_sites lists))

  -- the same for the stack, whose last list is run first
  pub stack_first : first.unassumed ≡ Some u → FirstIsNew first → (items : List Assumptions) (results : List T) (failure : Failure) → items ≡ [] ++ assuming u.met true first.assumptions ∷ [] ++ assuming u.met false first.assumptions ∷ [] → results ≡ [] → failure ≡ located_by u first.located → Completes (reverse items) start results 1 failure
  stack_first is new items results failure e er ef =
      let q = ap reverse e ∙ reverse-push_two [] _ _ in rw (q, er, ef) (completes_first is new)

  pub stack_member : (stack items : List Assumptions) (a : Assumptions) (s : S) (results : List T) (count : ℕ) (failure : Failure) (met : Remembered) (result : T) (s' : S) (results' : List T) (failure' : Failure) → stack ≡ items ++ a ∷ [] → Completes (reverse stack) s results count failure → Step s (starting a) met result s' → met.unassumed ≡ None → results' ≡ results ++ result ∷ [] → failure' ≡ located_by failure met.located → Completes (reverse items) s' results' (count + 1) failure'
  stack_member stack items a s results count failure met result s' results' failure' e h step none er ef =
      let q = ap reverse e ∙ reverse-push items a in
      rw (er, ef) (completes_member (reverse items) a s results count failure met result s' (subst (λ z. Completes z s results count failure) q h) step none)

  pub stack_branch : (stack items items' : List Assumptions) (a : Assumptions) (s : S) (results : List T) (count : ℕ) (failure : Failure) (met : Remembered) (result : T) (v : Failure) (s' : S) (failure' : Failure) → stack ≡ items ++ a ∷ [] → Completes (reverse stack) s results count failure → Step s (starting a) met result s' → met.unassumed ≡ Some v → FirstIsNew met → items' ≡ items ++ assuming v.met true a ∷ [] ++ assuming v.met false a ∷ [] → failure' ≡ located_by failure met.located → Completes (reverse items') s' results (count + 1) failure'
  stack_branch stack items items' a s results count failure met result v s' failure' e h step some new ei ef =
      let q = ap reverse e ∙ reverse-push items a in
      let q' = ap reverse ei ∙ reverse-push_two items (assuming v.met true a) (assuming v.met false a) in
      rw (q', ef) (completes_branch (reverse items) a s results count failure met result v s' (subst (λ z. Completes z s results count failure) q h) step some new)

  -- the same for either list, after the run met a match that it did not assume
  pub stack_taken : (stack items items' : List Assumptions) (a : Assumptions) (s : S) (results results' : List T) (count : ℕ) (failure failure' : Failure) (met : Remembered) (result : T) (s' : S) (unassumed : Option Failure) → met.unassumed ≡ unassumed → stack ≡ items ++ a ∷ [] → Completes (reverse stack) s results count failure → Step s (starting a) met result s' → FirstIsNew met → failure' ≡ located_by failure met.located → (met.unassumed ≡ None → (items' ≡ items) × (results' ≡ results ++ result ∷ [])) → ((v : Failure) → met.unassumed ≡ Some v → (items' ≡ items ++ assuming v.met true a ∷ [] ++ assuming v.met false a ∷ []) × (results' ≡ results)) → Completes (reverse items') s' results' (count + 1) failure'
  stack_taken stack items items' a s results results' count failure failure' met result s' None none e h step new ef whole branches =
      let w = whole none in
      subst (λ z. Completes (reverse z) s' results' (count + 1) failure') (sym w.0) (stack_member stack items a s results count failure met result s' results' failure' e h step none w.1 ef)
  stack_taken stack items items' a s results results' count failure failure' met result s' (Some v) some e h step new ef whole branches =
      let w = branches v some in
      subst (λ z. Completes (reverse items') s' z (count + 1) failure') (sym w.1) (stack_branch stack items items' a s results count failure met result v s' failure' e h step some new w.0 ef)

  pub stack_end : (stack : List Assumptions) (s : S) (results : List T) (count : ℕ) (failure : Failure) → stack ≡ [] → Completes (reverse stack) s results count failure → Grown s results count 0 failure
  stack_end stack s results count failure e h =
      completes_end s results count failure (subst (λ z. Completes (reverse z) s results count failure) e h)

  pub stack_stop : (stack items : List Assumptions) (a : Assumptions) (s : S) (results : List T) (count : ℕ) (failure : Failure) → stack ≡ items ++ a ∷ [] → Completes (reverse stack) s results count failure → Grown s results count (1 + length (reverse items)) failure
  stack_stop stack items a s results count failure e h =
      let q = ap reverse e ∙ reverse-push items a in
      Grown-same (completes_stop (a ∷ reverse items) s results count failure (subst (λ z. Completes z s results count failure) q h)) refl refl (omega arith) refl
