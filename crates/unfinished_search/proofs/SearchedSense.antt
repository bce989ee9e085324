-- The tree that a sense's runs grow is the sense's cover, or a part of it.
use Rattle.std.proofs.Common.{◌≡◌, ◌≤◌, ◌<◌, ◌+◌, ◌⊎◌, inl, inr, ℕ, zero, suc, List, [], ◌∷◌, ◌++◌, true, false, Some, None, sym, ◌∙◌, ap, ap₂, subst, refl, arith, map}
use Rattle.std.specs.Prelude.{⊤, option_map, is_some, All, Contains}
use Rattle.std.proofs.lemmas.List.Elements.{All-nil, All-cons, All-append}
use Rattle.theory_definitions.specs.Matching.{Assumptions}
use Rattle.theory_definitions.specs.Runs.{Met}
use Rattle.theory_definitions.specs.Cover.{Call, Cover, IsRun, Sense, assuming, branch_at, first_run, further, split, whole}
use Rattle.theory_meaning.specs.Members.{Partly, splits, waits}
use Rattle.theory_definitions.specs.Unfinished.{Failure, Remembered, starting}
use Rattle.theory_meaning.specs.RunOrder.{IsMade, waiting_after}
use Rattle.theory_meaning.specs.Search.{Grows, GrowsFrom, IsInOrder, Tree, branch, ends, lists_of, member, results_of, runs, sites, unrun, waiting}
use Rattle.theory_meaning.specs.Searched.{IsRunOf, Reaches, Remembers, here, next}
use Rattle.theory_meaning.proofs.RunOrder.{branch_next, member_next}
use Rattle.theory_meaning.proofs.TakenApart.{reaches_end}

pub map_append : {A B : Type 0} (f : A → B) (xs ys : List A) → map f (xs ++ ys) ≡ map f xs ++ map f ys
map_append f [] ys = refl
map_append f (x ∷ xs) ys = ap (λ z. f x ∷ z) (map_append f xs ys)

none_or_some : (n : ℕ) → (n ≡ 0) ⊎ (0 < n)
none_or_some zero = inl refl
none_or_some (suc n) = inr (omega arith)

module _ (v : Sense) (call : Call) (most : ℕ) where
  -- sites of runs that the call makes
  abbrev pub Sited : List Met → Type 0
  Sited ms = (as' : Assumptions) × IsMade v most call as' × ((m : Met) → Contains ms m → Contains (v.meets call as') m × (is_some m.site.located ≡ true))

  abbrev pub AllSited : List (List Met) → Type 0
  AllSited [] = ⊤
  AllSited (ms ∷ more) = Sited ms × AllSited more

  all_sited_append : (xs ys : List (List Met)) → AllSited xs → AllSited ys → AllSited (xs ++ ys)
  all_sited_append [] ys a b = b
  all_sited_append (x ∷ xs) ys a b = (a.0, all_sited_append xs ys a.1 b)

module _ (v : Sense) (call : Call) where
  some_from : (as' : Assumptions) (r : Remembered) (f : Failure) → Remembers v call as' r → r.unassumed ≡ Some f → branch_at v call as' ≡ Some f.met
  some_from as' r f h e = sym h.first ∙ ap (option_map (λ (g : Failure). g.met)) e

  none_from : (as' : Assumptions) (r : Remembered) → Remembers v call as' r → r.unassumed ≡ None → branch_at v call as' ≡ None
  none_from as' r h e = sym h.first ∙ ap (option_map (λ (g : Failure). g.met)) e

  -- the sites of both sides of a branching; if something of its no still waits, then nothing of its
  -- yes is run
  two_sides : {T : Type 0} (most n : ℕ) (a b : Tree T) (rest : List Assumptions) → AllSited v call most (sites a)
      → (waiting a ≡ 0 → AllSited v call most (sites b) × (waiting b ≡ 0 → waiting_after v call ((suc n + runs a) + runs b) ≡ rest))
      → (0 < waiting a → b ≡ unrun)
      → AllSited v call most (sites a ++ sites b) × (waiting a + waiting b ≡ 0 → waiting_after v call (n + (1 + (runs a + runs b))) ≡ rest)
  two_sides {T} most n a b rest for_no for_yes cut = go (none_or_some (waiting a))
    where
      go : (waiting a ≡ 0) ⊎ (0 < waiting a) → AllSited v call most (sites a ++ sites b) × (waiting a + waiting b ≡ 0 → waiting_after v call (n + (1 + (runs a + runs b))) ≡ rest)
      go (inl done) =
          let (sited, past) = for_yes done in
          let same : (suc n + runs a) + runs b ≡ n + (1 + (runs a + runs b)) = omega arith in
          (all_sited_append v call most (sites a) (sites b) for_no sited, λ w. subst (λ k. waiting_after v call k ≡ rest) same (past (omega (arith, w))))
      go (inr some) = (
        all_sited_append v call most (sites a) (sites b) for_no (subst (λ (t : Tree T). AllSited v call most (sites t)) (sym (cut some)) tt),
        λ w. absurd (omega (arith, w, some)),
      )

  module _ {S T V : Type 0} (Step : S → Remembered → Remembered → T → S → Type 0) (first : Remembered) (start : S) (view : T → V) (says : Assumptions → V) (is : IsRunOf v call Step first start view says) where
    -- a whole tree is the sense's cover, and its results are what the sense says under the members
    pub record IsCovered (as' : Assumptions) (tree : Tree T) : Type 0 where
      pub cover : Cover v call as' (lists_of as' tree)
      pub same : map view (results_of tree) ≡ map says (lists_of as' tree)

    -- what grows from a list is a part of what the sense's runs call for
    grown_part : (as' : Assumptions) (s : S) (tree : Tree T) (end : S) → ¬ (as' ≡ []) → IsRun v call as' → Reaches Step start s → Grows Step as' s tree end → Partly v call as' (ends tree)
    grown_part as' s unrun end some run at g = waits
    grown_part as' s (member r result) end some run at g = waits
    grown_part as' s (branch r f a b) end some run at g =
        let h = is.remembers s as' r g.0 g.1 at run some g.3 in
        let e = some_from as' r f h g.4 in
        let at1 = next s (starting as') r g.0 g.1 at g.3 in
        let at2 = reaches_end Step start (assuming f.met false as') g.1 a g.2 at1 g.5 in
        let p = grown_part (assuming f.met false as') g.1 a g.2 (λ e'. cc e') (further f.met false run e) at1 g.5 in
        let q = grown_part (assuming f.met true as') g.2 b end (λ e'. cc e') (further f.met true run e) at2 g.6 in
        splits f.met e p q

    -- if its list waits first, and this many runs are left for it, then each of its sites belongs
    -- to a run that is made; once all of it is run, the rest waits
    module _ (most : ℕ) where
      grown_sited : (as' : Assumptions) (s : S) (tree : Tree T) (end : S) → ¬ (as' ≡ []) → IsRun v call as' → Reaches Step start s → Grows Step as' s tree end
          → (n : ℕ) (rest : List Assumptions) → waiting_after v call n ≡ as' ∷ rest → IsInOrder tree → n + runs tree ≤ most
          → AllSited v call most (sites tree) × (waiting tree ≡ 0 → waiting_after v call (n + runs tree) ≡ rest)
      grown_sited as' s unrun end some run at g n rest is_next order few = (tt, λ w. absurd (omega (arith, w)))
      grown_sited as' s (member r result) end some run at g n rest is_next order few =
          let h = is.remembers s as' r result end at run some g.0 in
          let within : n < most = omega (arith, few) in
          let same : suc n ≡ n + 1 = omega arith in
          (((as', (n, within, rest, is_next), h.sites), tt), λ w. subst (λ k. waiting_after v call k ≡ rest) same (member_next v call n as' rest is_next (none_from as' r h g.1)))
      grown_sited as' s (branch r f a b) end some run at g n rest is_next order few =
          let h = is.remembers s as' r g.0 g.1 at run some g.3 in
          let e = some_from as' r f h g.4 in
          let at1 = next s (starting as') r g.0 g.1 at g.3 in
          let at2 = reaches_end Step start (assuming f.met false as') g.1 a g.2 at1 g.5 in
          let within : n < most = omega (arith, few) in
          let few_no : suc n + runs a ≤ most = omega (arith, few) in
          let few_yes : (suc n + runs a) + runs b ≤ most = omega (arith, few) in
          let for_no = grown_sited (assuming f.met false as') g.1 a g.2 (λ e'. cc e') (further f.met false run e) at1 g.5 (suc n) (assuming f.met true as' ∷ rest) (branch_next v call n as' rest f.met is_next e) order.0 few_no in
          let both = two_sides most n a b rest for_no.0 (λ done. grown_sited (assuming f.met true as') g.2 b end (λ e'. cc e') (further f.met true run e) at2 g.6 (suc n + runs a) rest (for_no.1 done) order.1 few_yes) order.2 in
          (((as', (n, within, rest, is_next), h.sites), both.0), both.1)

    grown_cover : (as' : Assumptions) (s : S) (tree : Tree T) (end : S) → ¬ (as' ≡ []) → IsRun v call as' → Reaches Step start s → Grows Step as' s tree end → waiting tree ≡ 0 → IsCovered as' tree
    grown_cover as' s unrun end some run at g w = absurd (omega arith)
    grown_cover as' s (member r result) end some run at g w = record {
      cover = whole (none_from as' r (is.remembers s as' r result end at run some g.0) g.1);
      same = ap (λ z. z ∷ []) (is.gives s as' r result end at run some g.0 g.1);
    }
    grown_cover as' s (branch r f a b) end some run at g w =
        let h = is.remembers s as' r g.0 g.1 at run some g.3 in
        let e = some_from as' r f h g.4 in
        let at1 = next s (starting as') r g.0 g.1 at g.3 in
        let at2 = reaches_end Step start (assuming f.met false as') g.1 a g.2 at1 g.5 in
        let p = grown_cover (assuming f.met false as') g.1 a g.2 (λ e'. cc e') (further f.met false run e) at1 g.5 (omega arith) in
        let q = grown_cover (assuming f.met true as') g.2 b end (λ e'. cc e') (further f.met true run e) at2 g.6 (omega arith) in
        record {
          cover = split f.met e p.cover q.cover;
          same = map_append view (results_of a) (results_of b) ∙ ap₂ (λ x y. x ++ y) p.same q.same ∙ sym (map_append says (lists_of (assuming f.met false as') a) (lists_of (assuming f.met true as') b));
        }

    -- each result is that of a further run which met no match but the assumed ones
    module _ (Q : T → Type 0) (each : (s : S) (as' : Assumptions) (r : Remembered) (result : T) (end : S) → Reaches Step start s → IsRun v call as' → ¬ (as' ≡ []) → Step s (starting as') r result end → r.unassumed ≡ None → Q result) where
      grown_each : (as' : Assumptions) (s : S) (tree : Tree T) (end : S) → ¬ (as' ≡ []) → IsRun v call as' → Reaches Step start s → Grows Step as' s tree end → All Q (results_of tree)
      grown_each as' s unrun end some run at g = All-nil Q
      grown_each as' s (member r result) end some run at g = All-cons Q result [] (each s as' r result end at run some g.0 g.1) (All-nil Q)
      grown_each as' s (branch r f a b) end some run at g =
          let e = some_from as' r f (is.remembers s as' r g.0 g.1 at run some g.3) g.4 in
          let at1 = next s (starting as') r g.0 g.1 at g.3 in
          let at2 = reaches_end Step start (assuming f.met false as') g.1 a g.2 at1 g.5 in
          let p = grown_each (assuming f.met false as') g.1 a g.2 (λ e'. cc e') (further f.met false run e) at1 g.5 in
          let q = grown_each (assuming f.met true as') g.2 b end (λ e'. cc e') (further f.met true run e) at2 g.6 in
          All-append Q (results_of a) (results_of b) p q

    -- the same for the call's tree
    from_first : (as' : Assumptions) (s s2 end : S) (f : Failure) (a b : Tree T) → as' ≡ []
        → Grows Step (assuming f.met false as') s a s2 → Grows Step (assuming f.met true as') s2 b end
        → Grows Step (assuming f.met false []) s a s2 × Grows Step (assuming f.met true []) s2 b end
    from_first as' s s2 end f a b e g h = (subst (λ z. Grows Step (assuming f.met false z) s a s2) e g, subst (λ z. Grows Step (assuming f.met true z) s2 b end) e h)

    pub call_part : (tree : Tree T) (end : S) → GrowsFrom Step first start tree end → Partly v call [] (ends tree)
    call_part unrun end g = absurd g
    call_part (member r result) end g = absurd g
    call_part (branch r f a b) end g =
        let e = some_from [] first f is.remembers_first g.2 in
        let grown = from_first first.assumptions start g.0 end f a b is.assumes_none g.3 g.4 in
        let p = grown_part (assuming f.met false []) start a g.0 (λ e'. cc e') (further f.met false first_run e) here grown.0 in
        let q = grown_part (assuming f.met true []) g.0 b end (λ e'. cc e') (further f.met true first_run e) (reaches_end Step start (assuming f.met false []) start a g.0 here grown.0) grown.1 in
        splits f.met e p q

    pub some_run : (tree : Tree T) (end : S) → GrowsFrom Step first start tree end → 0 < runs tree
    some_run unrun end g = absurd g
    some_run (member r result) end g = absurd g
    some_run (branch r f a b) end g = omega arith

    -- each site belongs to a run that the call makes
    pub call_sited : (most : ℕ) (tree : Tree T) (end : S) → GrowsFrom Step first start tree end → IsInOrder tree → runs tree ≤ most → AllSited v call most (sites tree)
    call_sited most unrun end g order few = absurd g
    call_sited most (member r result) end g order few = absurd g
    call_sited most (branch r f a b) end g order few =
        let e = some_from [] first f is.remembers_first g.2 in
        let grown = from_first first.assumptions start g.0 end f a b is.assumes_none g.3 g.4 in
        let at2 = reaches_end Step start (assuming f.met false []) start a g.0 here grown.0 in
        let within : 0 < most = omega (arith, few) in
        let few_no : 1 + runs a ≤ most = omega (arith, few) in
        let few_yes : (1 + runs a) + runs b ≤ most = omega (arith, few) in
        let for_no = grown_sited most (assuming f.met false []) start a g.0 (λ e'. cc e') (further f.met false first_run e) here grown.0 1 (assuming f.met true [] ∷ []) (branch_next v call 0 [] [] f.met refl e) order.0 few_no in
        let both = two_sides most 0 a b [] for_no.0 (λ done. grown_sited most (assuming f.met true []) g.0 b end (λ e'. cc e') (further f.met true first_run e) at2 grown.1 (1 + runs a) [] (for_no.1 done) order.1 few_yes) order.2 in (
          ([], (0, within, [], refl), subst (λ (z : Remembered). (m : Met) → Contains z.located m → Contains (v.meets call []) m × (is_some m.site.located ≡ true)) (sym g.1) is.remembers_first.sites),
          both.0,
        )

    pub call_cover : (tree : Tree T) (end : S) → GrowsFrom Step first start tree end → waiting tree ≡ 0 → IsCovered [] tree
    call_cover unrun end g w = absurd g
    call_cover (member r result) end g w = absurd g
    call_cover (branch r f a b) end g w =
        let e = some_from [] first f is.remembers_first g.2 in
        let grown = from_first first.assumptions start g.0 end f a b is.assumes_none g.3 g.4 in
        let p = grown_cover (assuming f.met false []) start a g.0 (λ e'. cc e') (further f.met false first_run e) here grown.0 (omega arith) in
        let q = grown_cover (assuming f.met true []) g.0 b end (λ e'. cc e') (further f.met true first_run e) (reaches_end Step start (assuming f.met false []) start a g.0 here grown.0) grown.1 (omega arith) in
        record {
          cover = split f.met e p.cover q.cover;
          same = map_append view (results_of a) (results_of b) ∙ ap₂ (λ x y. x ++ y) p.same q.same ∙ sym (map_append says (lists_of (assuming f.met false []) a) (lists_of (assuming f.met true []) b));
        }

    pub call_each : (Q : T → Type 0) → ((s : S) (as' : Assumptions) (r : Remembered) (result : T) (end : S) → Reaches Step start s → IsRun v call as' → ¬ (as' ≡ []) → Step s (starting as') r result end → r.unassumed ≡ None → Q result)
        → (tree : Tree T) (end : S) → GrowsFrom Step first start tree end → All Q (results_of tree)
    call_each Q each unrun end g = absurd g
    call_each Q each (member r result) end g = absurd g
    call_each Q each (branch r f a b) end g =
        let e = some_from [] first f is.remembers_first g.2 in
        let grown = from_first first.assumptions start g.0 end f a b is.assumes_none g.3 g.4 in
        let p = grown_each Q each (assuming f.met false []) start a g.0 (λ e'. cc e') (further f.met false first_run e) here grown.0 in
        let q = grown_each Q each (assuming f.met true []) g.0 b end (λ e'. cc e') (further f.met true first_run e) (reaches_end Step start (assuming f.met false []) start a g.0 here grown.0) grown.1 in
        All-append Q (results_of a) (results_of b) p q
