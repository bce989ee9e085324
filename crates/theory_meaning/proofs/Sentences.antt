-- The sentences of the four calls, from the members of their covers.
use Rattle.std.proofs.Common.{◌≡◌, ℕ, zero, suc, ◌*◌, ◌+◌, ◌≤◌, List, [], ◌∷◌, ◌++◌, length, refl, ap, ap₂, sym, subst, ◌∙◌, Bool, true, false, cond, ◌&&◌, ◌||◌, arith, inl, inr}
use Rattle.std.specs.Prelude.{Option, Some, None, Contains, filter, ◌↔◌}
use Rattle.std.specs.List.{list_all, list_any}
use Rattle.std.proofs.lemmas.List.Elements.{All-contains, Contains-append_right, Contains-append_cases}
use Rattle.std.proofs.lemmas.List.Sums.{AllPass-from_list_all}
use Rattle.std.proofs.lemmas.List.Folds.{list_all-append}
use Rattle.std.proofs.lemmas.Slice.Eq.{bytes_eq-Decides}
use Rattle.theory_definitions.specs.Reports.{Error, same_error, instance_path, Outcome}
use Rattle.theory_definitions.specs.Matching.{Completion, all_match, Assumptions, completion_of, Extends}
use Rattle.theory_definitions.specs.Keywords.{for_all}
use Rattle.theory_definitions.specs.Runs.{Met, first_error}
use Rattle.theory_definitions.specs.Cover.{Call, validate, iter_errors, evaluate, mode_of, Sense, Cover, whole, split, assuming, branch_at}
use Rattle.theory_meaning.specs.Shared.{EachAccepts, SomeRefuses, in_each, Kept, none, keep, leave, Shared, errors_of}
use Rattle.theory_definitions.specs.Laws.{Agrees}
use Rattle.theory_meaning.specs.Members.{Follows, all_accept, shared_with, listed, is_nil, none_has, or_failure}
use Rattle.theory_meaning.specs.Headline as h
use Rattle.theory_meaning.specs.Searched.{WantsAllLater}
use Rattle.theory_meaning.proofs.CoversApart.{covered, shared_is}
use Rattle.theory_meaning.proofs.Senses.{last_member, Longer, longer, all_accept_each, faithful}

-- ---- lists

same_error_itself : (e : Error) → same_error e e ≡ true
same_error_itself e = rw ((bytes_eq-Decides (instance_path e) (instance_path e)).1 refl, (bytes_eq-Decides e.schema_path e.schema_path).1 refl, (bytes_eq-Decides e.evaluation_path e.evaluation_path).1 refl, (bytes_eq-Decides e.text e.text).1 refl)

any_here : (x e : Error) (xs : List Error) → x ≡ e → list_any (same_error e) (x ∷ xs) ≡ true
any_here x e xs is = ap (λ z. z || list_any (same_error e) xs) (ap (same_error e) is ∙ same_error_itself e)

or_true : (b : Bool) → (b || true) ≡ true
or_true true = refl
or_true false = refl

any_in : (xs : List Error) (e : Error) → Contains xs e → list_any (same_error e) xs ≡ true
any_in [] e (i, is, at_i) = absurd (omega arith)
any_in (x ∷ xs) e (zero, is, at_i) = any_here x e xs at_i
any_in (x ∷ xs) e (suc i, is, at_i) = ap (λ z. same_error e x || z) (any_in xs e (i, omega arith, at_i)) ∙ or_true (same_error e x)

later_in : {A : Type 0} (x : A) (xs : List A) (y : A) → Contains xs y → Contains (x ∷ xs) y
later_in x xs y (i, is, at_i) = (suc i, omega arith, at_i)

filter_same : {A : Type 0} (p q : A → Bool) (xs : List A) → ((x : A) → Contains xs x → p x ≡ q x) → filter p xs ≡ filter q xs
filter_same p q [] e = refl
filter_same p q (x ∷ xs) e = ap₂ (λ b ys. cond b (x ∷ ys) ys) (e x (zero, omega arith, refl)) (filter_same p q xs (λ y in_xs. e y (later_in x xs y in_xs)))

filter_yes : {A : Type 0} (xs : List A) → filter (λ x. true) xs ≡ xs
filter_yes [] = refl
filter_yes (x ∷ xs) = ap (λ ys. x ∷ ys) (filter_yes xs)

last_or : {A : Type 0} → A → List A → A
last_or d [] = d
last_or d (x ∷ xs) = last_or x xs

last_of : {A : Type 0} (d : A) (xs : List A) (y : A) → last_or d (xs ++ y ∷ []) ≡ y
unfolding last_or
last_of d [] y = refl
last_of d (x ∷ xs) y = last_of x xs y

same_last : {A : Type 0} (xs ys : List A) (x y : A) → xs ++ x ∷ [] ≡ ys ++ y ∷ [] → x ≡ y
same_last xs ys x y e = sym (last_of x xs x) ∙ (ap (last_or x) e ∙ last_of x ys y)

refused_one : {A : Type 0} (p : A → Bool) (xs : List A) → list_all p xs ≡ false → (x : A) × Contains xs x × (p x ≡ false)
refused_one p [] e = absurd (cc e)
refused_one {A} p (x ∷ xs) e = go (p x) refl e (refused_one p xs)
  where
    go : (b : Bool) → p x ≡ b → (b && list_all p xs) ≡ false → (list_all p xs ≡ false → (y : A) × Contains xs y × (p y ≡ false)) → (y : A) × Contains (x ∷ xs) y × (p y ≡ false)
    go false is h k = (x, (zero, omega arith, refl), is)
    go true is h k = let (y, in_xs, nay) = k h in (y, later_in x xs y in_xs, nay)

nil_is : (es : List Error) → is_nil es ≡ true → es ≡ []
nil_is [] e = refl
nil_is (x ∷ es) e = absurd (cc e)

nil_not : (es : List Error) → is_nil es ≡ false → es ≡ [] → ⊥
nil_not es e h = absurd (cc (sym e, ap is_nil h))

refuses_from : (o : Outcome) → Agrees o → (o.errors ≡ [] → ⊥) → o.verdict ≡ false
refuses_from o a h = go o.verdict refl
  where
    go : (b : Bool) → o.verdict ≡ b → b ≡ false
    go false is = refl
    go true is = absurd (h (a.0 is))

module _ (v : Sense) where
  pub kept_first : {es kept : List Error} → Kept v es kept → h.FirstShared v es (first_error kept)
  kept_first none = h.none
  kept_first (keep s rest) = h.here s
  kept_first (leave s rest) = h.later s (kept_first rest)

  -- The head of the shared errors is the first shared error.
  pub first_is_head : {es kept : List Error} {o : Option Error} → Kept v es kept → h.FirstShared v es o → o ≡ first_error kept
  first_is_head none h.none = refl
  first_is_head (keep s rest) (h.here t) = refl
  first_is_head (keep s rest) (h.later t more) = absurd (t s)
  first_is_head (leave s rest) (h.here t) = absurd (s t)
  first_is_head (leave s rest) (h.later t more) = first_is_head rest more

  first_listed : (most : ℕ) (call : Call) (shared es : List Error) → h.IsListed v most call shared es → call ≡ validate → h.IsFirst v most (first_error shared) (first_error es)
  first_listed most call (f ∷ shared) es is same = ap first_error is
  first_listed most call [] [] is same = is
  first_listed most call [] (e ∷ es) is same = (is.0, subst (λ z. h.IsFailure v most z e) same is.1)

module _ (v : Sense) (call : Call) (follows : Follows v) where
  -- The list of errors is empty if and only if every completion accepts.
  pub listed_none : (most : ℕ) (es : List Error) → h.Lists v most call es → (es ≡ []) ↔ EachAccepts v
  listed_none most es (shared, is_shared, is) = go shared es is_shared is
    where
      no_errors : EachAccepts v → (v.says all_match).errors ≡ []
      no_errors each = (follows.agrees all_match).0 (each all_match)

      kept_none : (errors kept : List Error) → Kept v errors kept → errors ≡ [] → kept ≡ []
      kept_none [] kept none e = refl
      kept_none (x ∷ errors) kept k e = absurd (cc e)

      go : (shared es : List Error) → Shared v shared → h.IsListed v most call shared es → (es ≡ []) ↔ EachAccepts v
      go (f ∷ shared) es k is = (λ e. absurd (cc (sym is ∙ e)), λ each. absurd (cc (kept_none (v.says all_match).errors (f ∷ shared) k (no_errors each))))
      go [] [] k is = (λ e. is, λ each. refl)
      go [] (e ∷ es) k is = let ((c, nay), fails, one) = is in (λ e'. absurd (cc e'), λ each. absurd (cc (each c, nay)))

  module _ (ms : List Assumptions) (cover : Cover v call [] ms) where
    -- ---- a verdict

    pub verdict_says : (limit : ℕ) → 2 * length ms ≤ limit + 1 → h.VerdictSays v limit call (all_accept v ms)
    verdict_says limit few = (λ d. all_accept_each v call follows ms cover, λ n. absurd (n (ms, cover, few)))

    -- ---- errors, if the run of each member collects all of them

    module _ (wants_all : (m : Assumptions) → Contains ms m → mode_of call m ≡ for_all) (others : List Assumptions) (last : Assumptions) (is : ms ≡ others ++ last ∷ []) where
      last_yes : Extends all_match last
      last_yes = let (others', last', is', ext) = last_member v call cover (λ a b e. absurd (cc e)) in
          subst (Extends all_match) (same_last others' others last' last (sym is' ∙ is)) ext

      in_others : (e : Error) → Contains (errors_of v last) e → in_each v ms e ≡ in_each v others e
      in_others e in_es = ap (λ l. in_each v l e) is ∙ (list_all-append (λ as'. list_any (same_error e) (errors_of v as')) others (last ∷ [])
          ∙ (ap (λ z. in_each v others e && (z && true)) (any_in (errors_of v last) e in_es) ∙ and_true (in_each v others e)))
        where
          and_true : (b : Bool) → (b && true) ≡ b
          and_true true = refl
          and_true false = refl

      last_in : Contains ms last
      last_in = subst (λ l. Contains l last) (sym is) (Contains-append_right others (last ∷ []) last (zero, omega arith, refl))

      -- The errors of the last member that each other member has are the shared ones, in order.
      pub shared_with_is : Shared v (shared_with v others last)
      shared_with_is = subst (Shared v) (filter_same (in_each v ms) (in_each v others) (errors_of v last) in_others)
          (shared_is v call ms last cover (faithful v call follows ms cover wants_all) last_in last_yes)

      none_each : none_has v (others ++ last ∷ []) ≡ true → EachAccepts v
      none_each all c =
          let (m, in_ms, ext) = covered v call c cover (λ a b e. absurd (cc e)) in
          let same : (v.says c).errors ≡ (v.says (completion_of m)).errors = All-contains (λ x. Extends c x → (v.says c).errors ≡ (v.says (completion_of x)).errors) ms m (faithful v call follows ms cover wants_all c) in_ms ext in
          let nil : is_nil (errors_of v m) ≡ true = All-contains (λ x. is_nil (errors_of v x) ≡ true) (others ++ last ∷ []) m (AllPass-from_list_all _ (others ++ last ∷ []) all) (subst (λ l. Contains l m) is in_ms) in
          (follows.agrees c).1 (same ∙ nil_is (errors_of v m) nil)

      some_refuse : none_has v (others ++ last ∷ []) ≡ false → SomeRefuses v
      some_refuse e = let (m, in_ms, nay) = refused_one (λ m. is_nil (errors_of v m)) (others ++ last ∷ []) e in
          (completion_of m, refuses_from (v.says (completion_of m)) (follows.agrees (completion_of m)) (nil_not (errors_of v m) nay))

      -- A single member shares all its errors.
      branches : {ns : List Assumptions} → Cover v call [] ns → ns ≡ others ++ last ∷ [] → shared_with v others last ≡ [] → none_has v (others ++ last ∷ []) ≡ false
          → (m : Met) × (branch_at v call [] ≡ Some m)
      branches (split m e s t) same kept nay = (m, e)
      branches (whole e) same kept nay = go others same kept nay
        where
          go : (l : List Assumptions) → ◌≡◌ {A = List Assumptions} ([] ∷ []) (l ++ last ∷ []) → shared_with v l last ≡ [] → list_all (λ m. is_nil (errors_of v m)) (l ++ last ∷ []) ≡ false
              → (m : Met) × (branch_at v call [] ≡ Some m)
          go [] same kept nay = absurd (cc (ap (λ es. is_nil es && true) (sym (filter_yes (errors_of v last)) ∙ kept), nay))
          go (x ∷ []) same kept nay = absurd (cc same)
          go (x ∷ (y ∷ l)) same kept nay = absurd (cc same)

      -- The sentence of `iter_errors`.
      pub lists : (most : ℕ) (failure : Error) → ((m : Met) → branch_at v call [] ≡ Some m → h.IsFailure v most call failure) → h.Lists v most call (listed v others last failure)
      lists most failure fails = (shared_with v others last, shared_with_is, go (shared_with v others last) refl)
        where
          go : (shared : List Error) → shared_with v others last ≡ shared
              → h.IsListed v most call shared (or_failure shared (none_has v (others ++ last ∷ [])) failure)
          go (f ∷ shared) e = refl
          go [] e = by (none_has v (others ++ last ∷ [])) refl
            where
              by : (b : Bool) → none_has v (others ++ last ∷ []) ≡ b → h.IsListed v most call [] (or_failure [] b failure)
              by true nay = none_each nay
              by false nay = let (m, at) = branches cover is e nay in (some_refuse nay, fails m at, refl)

-- ---- a single member

pub listed_alone : (v : Sense) (last : Assumptions) (failure : Error) → listed v [] last failure ≡ errors_of v last
listed_alone v last failure = ap (λ es. or_failure es (is_nil (errors_of v last) && true) failure) (filter_yes (errors_of v last)) ∙ go (errors_of v last)
  where
    go : (es : List Error) → or_failure es (is_nil es && true) failure ≡ es
    go [] = refl
    go (e ∷ rest) = refl

alone : {x : Assumptions} (others : List Assumptions) (last : Assumptions) → ◌≡◌ {A = List Assumptions} (x ∷ []) (others ++ last ∷ []) → (others ≡ []) × (x ≡ last)
alone {x} [] last e = (refl, same_last [] [] x last e)
alone (y ∷ []) last e = absurd (cc e)
alone (y ∷ (z ∷ l)) last e = absurd (cc e)

-- The further runs of `validate` and `evaluate` collect all errors.
pub validate_later : WantsAllLater validate
validate_later [] some = absurd (some refl)
validate_later (a ∷ as') some = refl

pub evaluate_later : WantsAllLater evaluate
evaluate_later [] some = absurd (some refl)
evaluate_later (a ∷ as') some = refl

split_wants_all : (v : Sense) (call : Call) → WantsAllLater call → {ns ys : List Assumptions} (m : Met) → Cover v call (assuming m false []) ns → Cover v call (assuming m true []) ys
    → (x : Assumptions) → Contains (ns ++ ys) x → mode_of call x ≡ for_all
split_wants_all v call later {ns} {ys} m s t x in_it =
    let more : Longer x = elim (Contains-append_cases ns ys x in_it) [ inl k ↦ longer v call s tt x k | inr k ↦ longer v call t tt x k ] in
    later x (λ e. subst Longer e more)

-- ---- the four calls

module _ (v : Sense) (follows : Follows v) (others : List Assumptions) (last : Assumptions) (failure : Error) where
  pub errors_say : (limit : ℕ) (ms : List Assumptions) → Cover v iter_errors [] ms → ms ≡ others ++ last ∷ [] → 2 * length ms ≤ limit + 1
      → ((m : Met) → branch_at v iter_errors [] ≡ Some m → h.IsFailure v limit iter_errors failure) → h.ErrorsSay v limit (listed v others last failure)
  errors_say limit ms cover is few fails = (λ d. lists v iter_errors follows ms cover (λ m k. refl) others last is limit failure fails, λ n. absurd (n (ms, cover, few)))

  -- The same of each call whose further runs collect all errors, if its first run meets an
  -- unfinished match.
  pub later_errors_say : (limit : ℕ) (call : Call) → WantsAllLater call → (ms : List Assumptions) → Cover v call [] ms → ¬ (branch_at v call [] ≡ None) → ms ≡ others ++ last ∷ [] → 2 * length ms ≤ limit + 1
      → ((m : Met) → branch_at v call [] ≡ Some m → h.IsFailure v limit call failure) → h.ErrorsOf v limit call (listed v others last failure)
  later_errors_say limit call later _ (whole e) some is few fails = absurd (some e)
  later_errors_say limit call later _ (split {no = ns} {yes = ys} m e s t) some is few fails = (
    λ d. lists v call follows (ns ++ ys) (split m e s t) (split_wants_all v call later m s t) others last is limit failure fails,
    λ n. absurd (n (ns ++ ys, split m e s t, few)),
  )

  -- The first run alone: its first error is that of every completion.
  first_alone : (most : ℕ) → branch_at v validate [] ≡ None → (o : Option Error) × h.FirstShared v (v.says all_match).errors o × h.IsFirst v most o (first_error (errors_of v []))
  first_alone most e = go (v.says all_match).errors refl
    where
      each : (c : Completion) → first_error (errors_of v []) ≡ first_error (v.says c).errors
      each c = follows.speaks validate [] c (λ a b is. absurd (cc is)) (λ a b is. absurd (cc is)) e

      in_each_one : (x : Error) (es : List Error) → Some x ≡ first_error es → list_any (same_error x) es ≡ true
      in_each_one x [] is = absurd (cc is)
      in_each_one x (y ∷ es) is = any_here y x es (sym (ap (λ o. elim o [ Some z ↦ z | None ↦ x ]) is))

      no_first : (es : List Error) → None ≡ first_error es → es ≡ []
      no_first [] is = refl
      no_first (y ∷ es) is = absurd (cc is)

      go : (es : List Error) → (v.says all_match).errors ≡ es → (o : Option Error) × h.FirstShared v es o × h.IsFirst v most o (first_error (errors_of v []))
      go [] is = (None, h.none, subst (h.IsFirst v most None) (sym (each all_match ∙ ap first_error is)) (λ c. (follows.agrees c).1 (no_first _ (sym (each all_match ∙ ap first_error is) ∙ each c))))
      go (x ∷ es) is = (Some x, h.here (λ c. in_each_one x _ (sym (each all_match ∙ ap first_error is) ∙ each c)), each all_match ∙ ap first_error is)

  first_of_members : (most : ℕ) (ms : List Assumptions) → Cover v validate [] ms → ms ≡ others ++ last ∷ []
      → ((m : Met) → branch_at v validate [] ≡ Some m → h.IsFailure v most validate failure)
      → (o : Option Error) × h.FirstShared v (v.says all_match).errors o × h.IsFirst v most o (first_error (listed v others last failure))
  first_of_members most _ (whole e) is fails =
      let (nothing, same) = alone others last is in
      subst (λ x. (o : Option Error) × h.FirstShared v (v.says all_match).errors o × h.IsFirst v most o (first_error x))
      (sym (ap₂ (λ l x. listed v l x failure) nothing (sym same) ∙ listed_alone v [] failure)) (first_alone most e)
  first_of_members most _ (split {no = ns} {yes = ys} m e s t) is fails =
      let (shared, is_shared, it) = lists v validate follows (ns ++ ys) (split m e s t) (split_wants_all v validate validate_later m s t) others last is most failure fails in
      (first_error shared, kept_first v is_shared, first_listed v most validate shared _ it refl)

  pub first_says : (limit : ℕ) (ms : List Assumptions) → Cover v validate [] ms → ms ≡ others ++ last ∷ [] → 2 * length ms ≤ limit + 1
      → ((m : Met) → branch_at v validate [] ≡ Some m → h.IsFailure v limit validate failure) → h.FirstSays v limit (first_error (listed v others last failure))
  first_says limit ms cover is few fails = (λ d. first_of_members limit ms cover is fails, λ n. absurd (n (ms, cover, few)))

  nil_agrees : (o : Outcome) → Agrees o → (is_nil o.errors ≡ true) ↔ (o.verdict ≡ true)
  nil_agrees o a = (λ e. a.1 (nil_is o.errors e), λ e. ap is_nil (a.0 e))

  nil_members : (most : ℕ) (ms : List Assumptions) → Cover v evaluate [] ms → ms ≡ others ++ last ∷ []
      → ((m : Met) → branch_at v evaluate [] ≡ Some m → h.IsFailure v most evaluate failure) → (is_nil (listed v others last failure) ≡ true) ↔ EachAccepts v
  nil_members most _ (whole e) is fails =
      let (nothing, same) = alone others last is in
      let each = all_accept_each v evaluate follows ([] ∷ []) (whole e) in
      let it : listed v others last failure ≡ errors_of v [] = ap₂ (λ l x. listed v l x failure) nothing (sym same) ∙ listed_alone v [] failure in
      let agrees = nil_agrees (v.says (completion_of [])) (follows.agrees (completion_of [])) in
      (λ e'. each.0 (ap (λ b. b && true) (agrees.0 (sym (ap is_nil it) ∙ e'))), λ k. ap is_nil it ∙ agrees.1 (k (completion_of [])))
  nil_members most _ (split {no = ns} {yes = ys} m e s t) is fails =
      let each = listed_none v evaluate follows most _ (lists v evaluate follows (ns ++ ys) (split m e s t) (split_wants_all v evaluate evaluate_later m s t) others last is most failure fails) in
      (λ e'. each.0 (nil_is _ e'), λ k. ap is_nil (each.1 k))

  -- An evaluation is valid if nothing is listed.
  pub evaluate_says : (limit : ℕ) (ms : List Assumptions) → Cover v evaluate [] ms → ms ≡ others ++ last ∷ [] → 2 * length ms ≤ limit + 1
      → ((m : Met) → branch_at v evaluate [] ≡ Some m → h.IsFailure v limit evaluate failure) → h.VerdictSays v limit evaluate (is_nil (listed v others last failure))
  evaluate_says limit ms cover is few fails = (λ d. nil_members limit ms cover is fails, λ n. absurd (n (ms, cover, few)))

-- ---- a list has one cover

pub one_cover : (v : Sense) (call : Call) {as' : Assumptions} {ms ns : List Assumptions} → Cover v call as' ms → Cover v call as' ns → ms ≡ ns
one_cover v call (whole e) (whole f) = refl
one_cover v call (whole e) (split m f s t) = absurd (cc (sym e ∙ f))
one_cover v call (split m e s t) (whole f) = absurd (cc (sym e ∙ f))
one_cover v call {as'} (split {no = ns} {yes = ys} m e s t) (split {no = ns'} {yes = ys'} m' f s' t') =
    let same : m' ≡ m = ap (λ o. elim o [ Some x ↦ x | None ↦ m ]) (sym f ∙ e) in
    ap₂ (λ a b. a ++ b) (one_cover v call s (subst (λ x. Cover v call (assuming x false as') ns') same s')) (one_cover v call t (subst (λ x. Cover v call (assuming x true as') ys') same t'))
