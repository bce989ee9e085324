-- Each completion extends one member of a cover, the runs of a cover are counted, and branches are
-- on distinct pairs.
use Rattle.std.proofs.Common.{arith, ◌≡◌, zero, suc, List, [], ◌∷◌, ◌++◌, ◌+◌, ◌*◌, length, map, refl, ap, sym, subst, ◌∙◌, ◌⊎◌, inl, inr, cond}
use Rattle.std.specs.Prelude.{Bool, Contains, Some, None, false, find, option_map, true}
use Rattle.std.proofs.lemmas.List.{length-append}
use Rattle.std.proofs.lemmas.List.Elements.{Contains-append_left, Contains-append_right, Contains-append_cases}
use Rattle.theory_definitions.specs.Matching.{Assumptions, Completion, Extends, Pair, assumed, completion_of, same_pair}
use Rattle.theory_definitions.specs.Runs.{Met}
use Rattle.theory_definitions.specs.Cover.{Call, Cover, IsRun, Sense, assuming, branch_at, first_run, further, split, whole}
use Rattle.theory_meaning.specs.Members.{RunsAre, StandOnce}
use Rattle.theory_meaning.proofs.CoversApart.{Some-is, only_one, same_is, same_itself, unassumed}
use Rattle.theory_meaning.proofs.TakenApart.{EitherSide, ExtendsOne, Taken, get_cases, in_list, one_list, one_taken, two_sides}
use Rattle.theory_meaning.proofs.Senses.{own_extended}

-- ---- positions of a list

Contains-here : {A : Type 0} (x : A) (xs : List A) → Contains (x ∷ xs) x
Contains-here x xs = (zero, omega arith, refl)

Contains-later : {A : Type 0} (x : A) (xs : List A) (y : A) → Contains xs y → Contains (x ∷ xs) y
Contains-later x xs y (i, is, at_i) = (suc i, omega arith, at_i)

pub Contains-cases : {A : Type 0} (x : A) (xs : List A) (y : A) → Contains (x ∷ xs) y → (x ≡ y) ⊎ Contains xs y
Contains-cases x xs y (zero, is, at_i) = inl at_i
Contains-cases x xs y (suc i, is, at_i) = inr (i, omega arith, at_i)

once_cons : {A : Type 0} (x : A) (xs : List A) → (Contains xs x → ⊥) → StandOnce xs → StandOnce (x ∷ xs)
once_cons x xs new once zero zero y e f = refl
once_cons x xs new once zero (suc j) y e f = absurd (new (subst (Contains xs) (sym (Some-is x y e)) (in_list xs j y f)))
once_cons x xs new once (suc i) zero y e f = absurd (new (subst (Contains xs) (sym (Some-is x y f)) (in_list xs i y e)))
once_cons x xs new once (suc i) (suc j) y e f = ap suc (once i j y e f)

once_append : {A : Type 0} (xs ys : List A) → StandOnce xs → StandOnce ys → ((x : A) → Contains xs x → Contains ys x → ⊥) → StandOnce (xs ++ ys)
once_append {A} xs ys one two apart i j x e f = go (get_cases xs ys i x e) (get_cases xs ys j x f)
  where
    go : EitherSide xs ys i x → EitherSide xs ys j x → i ≡ j
    go (inl a) (inl b) = one i j x a b
    go (inl a) (inr (n, is, b)) = absurd (apart x (in_list xs i x a) (in_list ys n x b))
    go (inr (n, is, a)) (inl b) = absurd (apart x (in_list xs j x b) (in_list ys n x a))
    go (inr (n, is, a)) (inr (n', is', b)) = let same : n ≡ n' = two n n' x a b in omega arith

-- ---- a pair that is not assumed occurs nowhere in the list

not_listed : (as' : Assumptions) (a : Pair) → assumed as' a ≡ None → Contains (map (λ x. x.pair) as') a → ⊥
not_listed [] a e (i, is, at_i) = absurd (omega arith)
not_listed (x ∷ xs) a e here = go (same_pair a x.pair) refl e (Contains-cases x.pair (map (λ y. y.pair) xs) a here) (not_listed xs a)
  where
    go : (t : Bool) → same_pair a x.pair ≡ t → option_map (λ y. y.outcome) (cond t (Some x) (find (λ y. same_pair a y.pair) xs)) ≡ None
        → (x.pair ≡ a) ⊎ Contains (map (λ y. y.pair) xs) a → (assumed xs a ≡ None → Contains (map (λ y. y.pair) xs) a → ⊥) → ⊥
    go true is h k rest = absurd (cc h)
    go false is h (inl same) rest = let yes : same_pair a x.pair ≡ true = ap (same_pair a) same ∙ same_itself a in absurd (cc (yes, is))
    go false is h (inr later) rest = rest h later

module _ (v : Sense) (call : Call) where
  -- ---- each completion extends one member

  taken_of : {as' : Assumptions} {ms : List Assumptions} → Cover v call as' ms → Taken as' ms
  taken_of (whole e) = one_list
  taken_of {as'} (split m e s t) = two_sides m (unassumed v call as' m e) (taken_of s) (taken_of t)

  pub one_member : {as' : Assumptions} {ms : List Assumptions} (c : Completion) → Cover v call as' ms → Extends c as' → ExtendsOne c ms
  one_member c cover h = one_taken c (taken_of cover) h

  -- ---- the runs of a cover, in the order in which they are made

  abbrev pub runs_of : {as' : Assumptions} {ms : List Assumptions} → Cover v call as' ms → List Assumptions
  runs_of {as'} (whole e) = as' ∷ []
  runs_of {as'} (split m e s t) = as' ∷ (runs_of s ++ runs_of t)

  pub runs_count : {as' : Assumptions} {ms : List Assumptions} (t : Cover v call as' ms) → length (runs_of t) + 1 ≡ 2 * length ms
  runs_count (whole e) = refl
  runs_count (split {no = ns} {yes = ys} m e s t) = let a = runs_count s in let b = runs_count t in omega (arith, length-append ns ys, length-append (runs_of s) (runs_of t))

  first_in : {as' : Assumptions} {ms : List Assumptions} (t : Cover v call as' ms) → Contains (runs_of t) as'
  first_in {as'} (whole e) = Contains-here as' []
  first_in {as'} (split m e s t) = Contains-here as' (runs_of s ++ runs_of t)

  further_in : {as' : Assumptions} {ms : List Assumptions} (t : Cover v call as' ms) (x : Assumptions) → Contains (runs_of t) x → (m : Met) → branch_at v call x ≡ Some m → (b : Bool) → Contains (runs_of t) (assuming m b x)
  further_in {as'} (whole e) x in_it m branch b = absurd (cc (e, branch, only_one as' x in_it))
  further_in {as'} (split m e s t) x in_it m' branch b = go (Contains-cases as' (runs_of s ++ runs_of t) x in_it) (λ k. further_in s x k m' branch b) (λ k. further_in t x k m' branch b) (first_in s) (first_in t)
    where
      below : (d : Bool) → Contains (runs_of s) (assuming m false as') → Contains (runs_of t) (assuming m true as') → Contains (runs_of s ++ runs_of t) (assuming m d as')
      below false k l = Contains-append_left (runs_of s) (runs_of t) (assuming m false as') k
      below true k l = Contains-append_right (runs_of s) (runs_of t) (assuming m true as') l

      go : (as' ≡ x) ⊎ Contains (runs_of s ++ runs_of t) x → (Contains (runs_of s) x → Contains (runs_of s) (assuming m' b x)) → (Contains (runs_of t) x → Contains (runs_of t) (assuming m' b x))
          → Contains (runs_of s) (assuming m false as') → Contains (runs_of t) (assuming m true as') → Contains (as' ∷ (runs_of s ++ runs_of t)) (assuming m' b x)
      go (inl same) f g k l =
          let one : m ≡ m' = Some-is m m' (sym e ∙ (ap (branch_at v call) same ∙ branch)) in
          Contains-later as' (runs_of s ++ runs_of t) (assuming m' b x) (subst (λ z. Contains (runs_of s ++ runs_of t) (assuming z b x)) one (subst (λ z. Contains (runs_of s ++ runs_of t) (assuming m b z)) same (below b k l)))
      go (inr later) f g k l = Contains-later as' (runs_of s ++ runs_of t) (assuming m' b x) (by (Contains-append_cases (runs_of s) (runs_of t) x later))
        where
          by : Contains (runs_of s) x ⊎ Contains (runs_of t) x → Contains (runs_of s ++ runs_of t) (assuming m' b x)
          by (inl i) = Contains-append_left (runs_of s) (runs_of t) (assuming m' b x) (f i)
          by (inr i) = Contains-append_right (runs_of s) (runs_of t) (assuming m' b x) (g i)

  pub each_run : {ms : List Assumptions} (t : Cover v call [] ms) {x : Assumptions} → IsRun v call x → Contains (runs_of t) x
  each_run t first_run = first_in t
  each_run t (further {as' = y} m b r e) = further_in t y (each_run t r) m e b

  only_runs : {as' : Assumptions} {ms : List Assumptions} (t : Cover v call as' ms) → IsRun v call as' → (x : Assumptions) → Contains (runs_of t) x → IsRun v call x
  only_runs {as'} (whole e) r x in_it = subst (IsRun v call) (only_one as' x in_it) r
  only_runs {as'} (split m e s t) r x in_it = go (Contains-cases as' (runs_of s ++ runs_of t) x in_it) (only_runs s (further m false r e) x) (only_runs t (further m true r e) x)
    where
      go : (as' ≡ x) ⊎ Contains (runs_of s ++ runs_of t) x → (Contains (runs_of s) x → IsRun v call x) → (Contains (runs_of t) x → IsRun v call x) → IsRun v call x
      go (inl same) f g = subst (IsRun v call) same r
      go (inr later) f g = elim (Contains-append_cases (runs_of s) (runs_of t) x later) [ inl k ↦ f k | inr k ↦ g k ]

  -- ---- no list occurs twice among them: on the two sides of a branch the same pair is assumed
  -- with different outcomes

  still_assumed : (as' : Assumptions) (m : Met) (d : Bool) → branch_at v call as' ≡ Some m → (a : Pair) (b : Bool) → assumed as' a ≡ Some b → assumed (assuming m d as') a ≡ Some b
  still_assumed as' m d e a b is = go (same_pair a m.pair) refl
    where
      go : (t : Bool) → same_pair a m.pair ≡ t → option_map (λ x. x.outcome) (cond t (Some (record { pair = m.pair; outcome = d })) (find (λ x. same_pair a x.pair) as')) ≡ Some b
      go true same = absurd (cc (is, ap (assumed as') (same_is a m.pair same), unassumed v call as' m e))
      go false same = is

  keeps_assumed : {as' : Assumptions} {ms : List Assumptions} (t : Cover v call as' ms) (a : Pair) (b : Bool) → assumed as' a ≡ Some b → (x : Assumptions) → Contains (runs_of t) x → assumed x a ≡ Some b
  keeps_assumed {as'} (whole e) a b is x in_it = subst (λ z. assumed z a ≡ Some b) (only_one as' x in_it) is
  keeps_assumed {as'} (split m e s t) a b is x in_it = go (Contains-cases as' (runs_of s ++ runs_of t) x in_it) (keeps_assumed s a b (still_assumed as' m false e a b is) x) (keeps_assumed t a b (still_assumed as' m true e a b is) x)
    where
      go : (as' ≡ x) ⊎ Contains (runs_of s ++ runs_of t) x → (Contains (runs_of s) x → assumed x a ≡ Some b) → (Contains (runs_of t) x → assumed x a ≡ Some b) → assumed x a ≡ Some b
      go (inl same) f g = subst (λ z. assumed z a ≡ Some b) same is
      go (inr later) f g = elim (Contains-append_cases (runs_of s) (runs_of t) x later) [ inl k ↦ f k | inr k ↦ g k ]

  now_assumed : (as' : Assumptions) (m : Met) (d : Bool) → assumed (assuming m d as') m.pair ≡ Some d
  now_assumed as' m d = rw (same_itself m.pair)

  runs_once : {as' : Assumptions} {ms : List Assumptions} (t : Cover v call as' ms) → StandOnce (runs_of t)
  runs_once {as'} (whole e) = once_cons as' [] (λ (i, is, at_i). absurd (omega arith)) (λ i j x f g. absurd (cc f))
  runs_once {as'} (split m e s t) = once_cons as' (runs_of s ++ runs_of t) (λ k. fresh (Contains-append_cases (runs_of s) (runs_of t) as' k))
      (once_append (runs_of s) (runs_of t) (runs_once s) (runs_once t) (λ x k l. absurd (cc (no_in x k, yes_in x l))))
    where
      no_in : (x : Assumptions) → Contains (runs_of s) x → assumed x m.pair ≡ Some false
      no_in x k = keeps_assumed s m.pair false (now_assumed as' m false) x k

      yes_in : (x : Assumptions) → Contains (runs_of t) x → assumed x m.pair ≡ Some true
      yes_in x k = keeps_assumed t m.pair true (now_assumed as' m true) x k

      fresh : Contains (runs_of s) as' ⊎ Contains (runs_of t) as' → ⊥
      fresh (inl k) = absurd (cc (no_in as' k, unassumed v call as' m e))
      fresh (inr k) = absurd (cc (yes_in as' k, unassumed v call as' m e))

  pub runs_are : {ms : List Assumptions} → Cover v call [] ms → (runs : List Assumptions) × RunsAre v call runs × (length runs + 1 ≡ 2 * length ms)
  runs_are t = (runs_of t, record { each = λ x r. each_run t r; only = λ x k. only_runs t first_run x k; once = runs_once t }, runs_count t)

  -- ---- branches are on distinct pairs

  pub pairs_differ : {as' : Assumptions} → IsRun v call as' → StandOnce (map (λ a. a.pair) as') × Extends (completion_of as') as'
  pairs_differ first_run = (λ i j x f g. absurd (cc f), λ a b is. absurd (cc is))
  pairs_differ (further {as' = y} m b r e) =
      let (once, own) = pairs_differ r in
      let new : assumed y m.pair ≡ None = unassumed v call y m e in
      (once_cons m.pair (map (λ a. a.pair) y) (not_listed y m.pair new) once, own_extended y m b new own)

  pub members_run : {as' : Assumptions} {ms : List Assumptions} (t : Cover v call as' ms) → IsRun v call as' → (x : Assumptions) → Contains ms x → IsRun v call x × (branch_at v call x ≡ None)
  members_run {as'} (whole e) r x in_it = subst (λ z. IsRun v call z × (branch_at v call z ≡ None)) (only_one as' x in_it) (r, e)
  members_run {as'} (split {no = ns} {yes = ys} m e s t) r x in_it = go (Contains-append_cases ns ys x in_it) (members_run s (further m false r e) x) (members_run t (further m true r e) x)
    where
      go : Contains ns x ⊎ Contains ys x → (Contains ns x → IsRun v call x × (branch_at v call x ≡ None)) → (Contains ys x → IsRun v call x × (branch_at v call x ≡ None)) → IsRun v call x × (branch_at v call x ≡ None)
      go (inl k) f g = f k
      go (inr k) f g = g k
