-- A cover separates the completions, so its members decide which errors all completions share.
use Rattle.std.proofs.Common.{◌≡◌, zero, suc, List, [], ◌∷◌, ◌++◌, refl, ap, sym, subst, ◌∙◌, Bool, true, false, ◌&&◌, arith, cond, not}
use Rattle.std.specs.Prelude.{All, Contains, Option, Some, None, find, option_map, is_some, Decides, filter}
use Rattle.std.specs.List.{list_any}
use Rattle.std.proofs.lemmas.List.Elements.{Contains-append_left, Contains-append_right, All-contains}
use Rattle.std.proofs.lemmas.List.Sums.{AllPass-from_list_all, list_all-from_AllPass}
use Rattle.std.proofs.lemmas.Slice.Eq.{bytes_eq-Decides}
use Rattle.theory_definitions.specs.Reports.{Error, same_error}
use Rattle.theory_definitions.specs.Matching.{Pair, same_pair, Completion, completed, all_match, Assumptions, assumed, completion_of, Extends}
use Rattle.theory_definitions.specs.Runs.{Met}
use Rattle.theory_definitions.specs.Cover.{Call, Sense, Cover, whole, split, assuming, branch_at}
use Rattle.theory_meaning.specs.Shared.{IsShared, in_each, Kept, none, keep, leave, Shared, shared_by, errors_of}

pub both_left : (a b : Bool) → (a && b) ≡ true → a ≡ true
both_left true b e = refl
both_left false b e = e

pub both_right : (a b : Bool) → (a && b) ≡ true → b ≡ true
both_right true b e = e
both_right false true e = refl
both_right false false e = e

pub same_is : (a b : Pair) → same_pair a b ≡ true → a ≡ b
same_is a b e = λ i. record { pattern = (bytes_eq-Decides a.pattern b.pattern).0 (both_left _ _ e) i; subject = (bytes_eq-Decides a.subject b.subject).0 (both_right _ _ e) i }

pub Some-is : {A : Type 0} (a b : A) → ◌≡◌ {A = Option A} (Some a) (Some b) → a ≡ b
Some-is a b e = ap (λ o. elim o [ Some x ↦ x | None ↦ a ]) e

-- One more assumption, with the completion's own outcome.
pub extended : (c : Completion) (as' : Assumptions) (m : Met) (b : Bool) → Extends c as' → completed c m.pair ≡ b → Extends c (assuming m b as')
extended c as' m b h e a b' is = go (same_pair a m.pair) refl is
  where
    go : (t : Bool) → same_pair a m.pair ≡ t → option_map (λ x. x.outcome) (cond t (Some (record { pair = m.pair; outcome = b })) (find (λ x. same_pair a x.pair) as')) ≡ Some b' → completed c a ≡ b'
    go true s i = ap (completed c) (same_is a m.pair s) ∙ (e ∙ Some-is b b' i)
    go false s i = h a b' i

module _ (v : Sense) (call : Call) where
  -- Each completion that extends the list extends a member that grows from it.
  pub covered : {as' : Assumptions} {ms : List Assumptions} (c : Completion) → Cover v call as' ms → Extends c as' → (m : Assumptions) × Contains ms m × Extends c m
  covered {as'} c (whole e) h = (as', (zero, omega arith, refl), h)
  covered {as'} c (split {no = ns} {yes = ys} m e ns_cover ys_cover) h = go (completed c m.pair) refl (covered c ns_cover) (covered c ys_cover)
    where
      go : (b : Bool) → completed c m.pair ≡ b
          → (Extends c (assuming m false as') → (x : Assumptions) × Contains ns x × Extends c x)
          → (Extends c (assuming m true as') → (x : Assumptions) × Contains ys x × Extends c x)
          → (x : Assumptions) × Contains (ns ++ ys) x × Extends c x
      go false is no_side yes_side = let (x, in_it, ext) = no_side (extended c as' m false h is) in (x, Contains-append_left ns ys x in_it, ext)
      go true is no_side yes_side = let (x, in_it, ext) = yes_side (extended c as' m true h is) in (x, Contains-append_right ns ys x in_it, ext)

-- The run of a member speaks for every completion that extends the member.
abbrev pub Faithful : Sense → List Assumptions → Type 0
Faithful v ms = (c : Completion) → All (λ m. Extends c m → (v.says c).errors ≡ (v.says (completion_of m)).errors) ms

pub shared_decides : (v : Sense) (call : Call) (ms : List Assumptions) → Cover v call [] ms → Faithful v ms → (e : Error) → Decides (in_each v ms e) (IsShared v e)
shared_decides v call ms cover faithful e = (to, from)
  where
    to : in_each v ms e ≡ true → IsShared v e
    to all c = let (m, in_ms, ext) = covered v call c cover (λ a b is. absurd (cc is)) in
        subst (λ es. list_any (same_error e) es ≡ true) (sym (All-contains (λ x. Extends c x → (v.says c).errors ≡ (v.says (completion_of x)).errors) ms m (faithful c) in_ms ext)) (All-contains (λ x. list_any (same_error e) (v.says (completion_of x)).errors ≡ true) ms m (AllPass-from_list_all _ ms all) in_ms)

    from : IsShared v e → in_each v ms e ≡ true
    from shared = list_all-from_AllPass _ ms (λ i d is. shared _)

-- The errors that pass the test are those that all completions share.
kept_by : (v : Sense) (test : Error → Bool) → ((e : Error) → Decides (test e) (IsShared v e)) → (es : List Error) → Kept v es (filter test es)
kept_by v test h [] = none
kept_by v test h (e ∷ es) = go (kept_by v test h es) (test e) refl
  where
    go : Kept v es (filter test es) → (b : Bool) → test e ≡ b → Kept v (e ∷ es) (cond b (e ∷ filter test es) (filter test es))
    go tail true is = keep ((h e).0 is) tail
    go tail false is = leave (λ shared. absurd (cc ((h e).1 shared, is))) tail

-- The shared errors are those of the last member that each member has.
pub shared_is : (v : Sense) (call : Call) (ms : List Assumptions) (last : Assumptions) → Cover v call [] ms → Faithful v ms → Contains ms last → Extends all_match last
    → Shared v (shared_by v ms last)
shared_is v call ms last cover faithful in_ms ext = subst (λ es. Kept v es (shared_by v ms last)) (sym (All-contains (λ x. Extends all_match x → (v.says all_match).errors ≡ (v.says (completion_of x)).errors) ms last (faithful all_match) in_ms ext))
    (kept_by v (in_each v ms) (shared_decides v call ms cover faithful) (errors_of v last))

-- ---- no completion extends two members

find_passes : {A : Type 0} (p : A → Bool) (xs : List A) (x : A) → find p xs ≡ Some x → p x ≡ true
find_passes p [] x e = absurd (cc e)
find_passes p (y ∷ ys) x e = go (p y) refl e (find_passes p ys x)
  where
    go : (b : Bool) → p y ≡ b → cond b (Some y) (find p ys) ≡ Some x → (find p ys ≡ Some x → p x ≡ true) → p x ≡ true
    go true is e' rest = subst (λ z. p z ≡ true) (Some-is y x e') is
    go false is e' rest = rest e'

pub same_itself : (a : Pair) → same_pair a a ≡ true
same_itself a = rw ((bytes_eq-Decides a.pattern a.pattern).1 refl, (bytes_eq-Decides a.subject a.subject).1 refl)

pub only_one : {A : Type 0} (y x : A) → Contains (y ∷ []) x → y ≡ x
only_one y x (zero, is, e) = e
only_one y x (suc i, is, e) = absurd (omega arith)

module _ (v : Sense) (call : Call) where
  pub unassumed : (as' : Assumptions) (m : Met) → branch_at v call as' ≡ Some m → assumed as' m.pair ≡ None
  unassumed as' m e = go (assumed as' m.pair) (find_passes (λ x. not (is_some (assumed as' x.pair))) (v.meets call as') m e)
    where
      go : (o : Option Bool) → not (is_some o) ≡ true → o ≡ None
      go None e' = refl
      go (Some b) e' = absurd (cc e')
