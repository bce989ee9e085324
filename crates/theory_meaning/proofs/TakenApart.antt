-- Lists that grow from one list by branching on matches that are not yet assumed: each completion
-- extends exactly one of them.
use Rattle.std.proofs.Common.{◌≡◌, ◌+◌, ◌⊎◌, ℕ, zero, suc, List, [], ◌∷◌, ◌++◌, Bool, true, false, length, refl, ap, subst, inl, inr, arith, cond, sym}
use Rattle.std.specs.Prelude.{Contains, None, Some, find, option_map, slice_get}
use Rattle.std.proofs.lemmas.List.Elements.{Contains-append_cases}
use Rattle.std.proofs.lemmas.Option.{get_or_from_slice_get, slice_get_within}
use Rattle.theory_definitions.specs.Matching.{Assumptions, Completion, Extends, assumed, completed, same_pair}
use Rattle.theory_definitions.specs.Runs.{Met}
use Rattle.theory_definitions.specs.Cover.{assuming}
use Rattle.theory_meaning.specs.Members.{ExtendsAt}
use Rattle.theory_meaning.specs.Search.{BranchesAreNew, Grows, GrowsFrom, HandsBack, TakesApart, Tree, branch, lists_of, member, unrun, waiting}
use Rattle.theory_meaning.specs.Searched.{Reaches, here, next}
use Rattle.theory_definitions.specs.Unfinished.{Remembered, starting}
use Rattle.theory_meaning.proofs.CoversApart.{extended, only_one, same_is, same_itself}

-- ---- positions of a list

pub in_list : {A : Type 0} (xs : List A) (i : ℕ) (x : A) → slice_get xs i ≡ Some x → Contains xs x
in_list xs i x e = (i, slice_get_within xs i x e, get_or_from_slice_get xs i x x e)

pub get_left : {A : Type 0} (xs ys : List A) (i : ℕ) (x : A) → slice_get xs i ≡ Some x → slice_get (xs ++ ys) i ≡ Some x
get_left [] ys i x e = absurd (cc e)
get_left (y ∷ xs) ys zero x e = e
get_left (y ∷ xs) ys (suc i) x e = get_left xs ys i x e

pub get_right : {A : Type 0} (xs ys : List A) (i j : ℕ) (x : A) → j ≡ length xs + i → slice_get ys i ≡ Some x → slice_get (xs ++ ys) j ≡ Some x
get_right [] ys i j x is e = let same : i ≡ j = omega arith in subst (λ k. slice_get ys k ≡ Some x) same e
get_right (y ∷ xs) ys i zero x is e = absurd (omega arith)
get_right (y ∷ xs) ys i (suc j) x is e = get_right xs ys i j x (omega arith) e

abbrev pub EitherSide : {A : Type 0} → List A → List A → ℕ → A → Type 0
EitherSide xs ys j x = (slice_get xs j ≡ Some x) ⊎ ((i : ℕ) × (j ≡ length xs + i) × (slice_get ys i ≡ Some x))

pub get_cases : {A : Type 0} (xs ys : List A) (j : ℕ) (x : A) → slice_get (xs ++ ys) j ≡ Some x → EitherSide xs ys j x
get_cases [] ys j x e = inr (j, omega arith, e)
get_cases (y ∷ xs) ys zero x e = inl e
get_cases (y ∷ xs) ys (suc j) x e = go (get_cases xs ys j x e)
  where
    go : EitherSide xs ys j x → EitherSide (y ∷ xs) ys (suc j) x
    go (inl at_j) = inl at_j
    go (inr (i, is, at_i)) = inr (i, omega arith, at_i)

-- ---- lists that separate the completions

pub data Taken : Assumptions → List Assumptions → Type 0 where
  one_list : {as' : Assumptions} → Taken as' (as' ∷ [])
  two_sides : {as' : Assumptions} {no yes : List Assumptions} (m : Met) → assumed as' m.pair ≡ None
      → Taken (assuming m false as') no → Taken (assuming m true as') yes → Taken as' (no ++ yes)

answers : (c : Completion) (as' : Assumptions) (m : Met) (b : Bool) → Extends c (assuming m b as') → completed c m.pair ≡ b
answers c as' m b h = h m.pair b (rw (same_itself m.pair))

shorter : (c : Completion) (as' : Assumptions) (m : Met) (b : Bool) → assumed as' m.pair ≡ None → Extends c (assuming m b as') → Extends c as'
shorter c as' m b new h a b' is = go (same_pair a m.pair) refl (h a b')
  where
    go : (t : Bool) → same_pair a m.pair ≡ t
        → (option_map (λ x. x.outcome) (cond t (Some (record { pair = m.pair; outcome = b })) (find (λ x. same_pair a x.pair) as')) ≡ Some b' → completed c a ≡ b')
        → completed c a ≡ b'
    go true s k = absurd (cc (is, ap (assumed as') (same_is a m.pair s), new))
    go false s k = k is

up : {as' : Assumptions} {ms : List Assumptions} (c : Completion) (x : Assumptions) → Taken as' ms → Contains ms x → Extends c x → Extends c as'
up c x one_list in_it h = subst (Extends c) (sym (only_one _ x in_it)) h
up {as'} c x (two_sides {no = ns} {yes = ys} m e s t) in_it h = go (Contains-append_cases ns ys x in_it) (λ k. up c x s k h) (λ k. up c x t k h)
  where
    go : Contains ns x ⊎ Contains ys x → (Contains ns x → Extends c (assuming m false as')) → (Contains ys x → Extends c (assuming m true as')) → Extends c as'
    go (inl k) f g = shorter c as' m false e (f k)
    go (inr k) f g = shorter c as' m true e (g k)

abbrev pub ExtendsOne : Completion → List Assumptions → Type 0
ExtendsOne c ms = (i : ℕ) × ExtendsAt c ms i × ((j : ℕ) → ExtendsAt c ms j → j ≡ i)

pub one_taken : {as' : Assumptions} {ms : List Assumptions} (c : Completion) → Taken as' ms → Extends c as' → ExtendsOne c ms
one_taken {as'} c one_list h = (0, (as', refl, h), first)
  where
    first : (j : ℕ) → ExtendsAt c (as' ∷ []) j → j ≡ 0
    first zero at_j = refl
    first (suc j) (m, at_j, ext) = absurd (cc at_j)
one_taken {as'} c (two_sides {no = ns} {yes = ys} m e s t) h = go (completed c m.pair) refl (one_taken c s) (one_taken c t)
  where
    says_no : (j : ℕ) (x : Assumptions) → slice_get ns j ≡ Some x → Extends c x → completed c m.pair ≡ false
    says_no j x at_j ext = answers c as' m false (up c x s (in_list ns j x at_j) ext)

    says_yes : (j : ℕ) (x : Assumptions) → slice_get ys j ≡ Some x → Extends c x → completed c m.pair ≡ true
    says_yes j x at_j ext = answers c as' m true (up c x t (in_list ys j x at_j) ext)

    go : (b : Bool) → completed c m.pair ≡ b → (Extends c (assuming m false as') → ExtendsOne c ns) → (Extends c (assuming m true as') → ExtendsOne c ys) → ExtendsOne c (ns ++ ys)
    go false is no_side yes_side = let (i, (x, at_i, ext), only) = no_side (extended c as' m false h is) in
        (i, (x, get_left ns ys i x at_i, ext), λ j (y, at_j, ext'). by i only j y ext' (get_cases ns ys j y at_j))
      where
        by : (i : ℕ) → ((j : ℕ) → ExtendsAt c ns j → j ≡ i) → (j : ℕ) (y : Assumptions) → Extends c y → EitherSide ns ys j y → j ≡ i
        by i only j y ext' (inl at_j) = only j (y, at_j, ext')
        by i only j y ext' (inr (n, same, at_n)) = absurd (cc (is, says_yes n y at_n ext'))
    go true is no_side yes_side = let (i, (x, at_i, ext), only) = yes_side (extended c as' m true h is) in
        (length ns + i, (x, get_right ns ys i (length ns + i) x refl at_i, ext), λ j (y, at_j, ext'). by i only j y ext' (get_cases ns ys j y at_j))
      where
        by : (i : ℕ) → ((j : ℕ) → ExtendsAt c ys j → j ≡ i) → (j : ℕ) (y : Assumptions) → Extends c y → EitherSide ns ys j y → j ≡ length ns + i
        by i only j y ext' (inl at_j) = absurd (cc (is, says_no j y at_j ext'))
        by i only j y ext' (inr (n, same, at_n)) = let it : n ≡ i = only n (y, at_n, ext') in omega arith

-- ---- a whole tree separates the completions

pub taken_tree : {T : Type 0} (as' : Assumptions) (tree : Tree T) → BranchesAreNew as' tree → waiting tree ≡ 0 → Taken as' (lists_of as' tree)
taken_tree as' unrun new w = absurd (omega arith)
taken_tree as' (member r result) new w = one_list
taken_tree as' (branch r f a b) new w =
    two_sides f.met new.0 (taken_tree (assuming f.met false as') a new.1 (omega arith)) (taken_tree (assuming f.met true as') b new.2 (omega arith))

pub takes_apart : {T : Type 0} (as' : Assumptions) (tree : Tree T) → BranchesAreNew as' tree → waiting tree ≡ 0 → TakesApart as' (lists_of as' tree)
takes_apart as' tree new w c h = one_taken c (taken_tree as' tree new w) h

-- ---- its branchings are on matches that are not yet assumed, if each use of the run returns the
-- assumptions that it received

module _ {S T : Type 0} (Step : S → Remembered → Remembered → T → S → Type 0) (start : S) where
  pub reaches_end : (as' : Assumptions) (s : S) (tree : Tree T) (end : S) → Reaches Step start s → Grows Step as' s tree end → Reaches Step start end
  reaches_end as' s unrun end at g = subst (λ z. Reaches Step start z) g at
  reaches_end as' s (member r result) end at g = next s (starting as') r result end at g.0
  reaches_end as' s (branch r f a b) end at g =
      reaches_end (assuming f.met true as') g.2 b end (reaches_end (assuming f.met false as') g.1 a g.2 (next s (starting as') r g.0 g.1 at g.3) g.5) g.6

  module _ (hands_back : HandsBack Step start) where
    new_below : (as' : Assumptions) (s : S) (tree : Tree T) (end : S) → Reaches Step start s → Grows Step as' s tree end → BranchesAreNew as' tree
    new_below as' s unrun end at g = tt
    new_below as' s (member r result) end at g = tt
    new_below as' s (branch r f a b) end at g =
        let at1 = next s (starting as') r g.0 g.1 at g.3 in
        let at2 = reaches_end (assuming f.met false as') g.1 a g.2 at1 g.5 in (
          subst (λ z. assumed z f.met.pair ≡ None) (hands_back s (starting as') r g.0 g.1 at g.3) g.7,
          new_below (assuming f.met false as') g.1 a g.2 at1 g.5,
          new_below (assuming f.met true as') g.2 b end at2 g.6,
        )

    pub new_from : (first : Remembered) (tree : Tree T) (end : S) → GrowsFrom Step first start tree end → BranchesAreNew first.assumptions tree
    new_from first unrun end g = absurd g
    new_from first (member r result) end g = absurd g
    new_from first (branch r f a b) end g =
        let at2 = reaches_end (assuming f.met false first.assumptions) start a g.0 here g.3 in (
          g.5,
          new_below (assuming f.met false first.assumptions) start a g.0 here g.3,
          new_below (assuming f.met true first.assumptions) g.0 b end at2 g.4,
        )
