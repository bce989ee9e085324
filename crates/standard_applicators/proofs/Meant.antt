-- The keywords mean what their definitions say.
use Rattle.std.proofs.Common.{◌≡◌, ◌∙◌, ◌↔◌, ℕ, zero, suc, ◌+◌, ◌-◌, ◌<◌, ◌≤◌, ◌++◌, ◌∷◌, ◌&&◌, [], List, Bool, true, false, ap, arith, inl, inr, length, map, min, refl, subst, sym}
use Rattle.std.proofs.Math.Nat.{eq-or-lt_of_le, le-min, min-le_left, min-le_right}
use Rattle.std.proofs.lemmas.List.{map-append}
use Rattle.std.specs.List.{list_all}
use Rattle.std.specs.Prelude.{flat_map}
use Rattle.theory_definitions.specs.Instance.{Subject, Text}
use Rattle.theory_definitions.specs.Keywords.{Answers, Question, own, passed}
use Rattle.schema_traits.specs.KeywordViews.{is_nil}
use Rattle.keyword_authoring.specs.Items.{child_here, each_from}
use Rattle.keyword_authoring.specs.Members.{has_member, only_if}
use Rattle.keyword_authoring.specs.Somes.{somes}
use Rattle.keyword_authoring.specs.Ways.{plain, unless}
use Rattle.standard_applicators.specs.Dependents.{dependents_from}
use Rattle.standard_applicators.specs.DependentSchemas.{EachDependentAccepts}
use Rattle.standard_applicators.specs.ListedItems.{EachFitsItsOwn, EachLaterFits}
use Rattle.standard_applicators.specs.OwnErrors.{OneUnless, own_error, passed_on}

-- ---- all keywords

both : (a b : Bool) → a ≡ true → b ≡ true → (a && b) ≡ true
both true b h k = k
both false b h k = cc

first_of : (a b : Bool) → (a && b) ≡ true → a ≡ true
first_of true b h = refl
first_of false b h = cc

second_of : (a b : Bool) → (a && b) ≡ true → b ≡ true
second_of true b h = h
second_of false b h = cc

-- ---- errors that are passed on

pub faults_passed : (answers : Answers) (qs : List Question) → flat_map (λ q. map passed (answers q).errors) qs ≡ passed_on answers qs
faults_passed answers [] = refl
faults_passed answers (q ∷ qs) = ap (λ l. map passed (answers q).errors ++ l) (faults_passed answers qs)
    ∙ sym (map-append passed (answers q).errors (flat_map (λ q. (answers q).errors) qs))

-- ---- an error unless a test holds

pub nil_unless : (f : Text → Text) (b : Bool) (text : Text) → is_nil (map f (unless b text)) ≡ b
nil_unless f true text = refl
nil_unless f false text = refl

pub one_unless : (f : Text → Text) (b : Bool) (Holds : Type 0) (name text : Text) → (b ≡ true) ↔ Holds
    → OneUnless Holds (own_error name (f text)) (map (λ t. own (plain name t)) (map f (unless b text)))
one_unless f true Holds name text tells = record {
  none = λ h. refl;
  one = λ refuses. absurd (refuses (tells.0 refl));
}
one_unless f false Holds name text tells = record {
  none = λ h. let wrong : false ≡ true = tells.1 h in absurd (cc wrong);
  one = λ refuses. refl;
}

-- ---- items, one after the other

module _ (accepts : Question → Bool) (f : ℕ → Question) where
  each_all : (i n : ℕ) → list_all accepts (each_from f i n) ≡ true → (k : ℕ) → i ≤ k → k < i + n → accepts (f k) ≡ true
  each_all i zero h k from to = absurd (omega (arith, from, to))
  each_all i (suc n) h k from to = elim (eq-or-lt_of_le from) [
    | inl same ↦ subst (λ j. accepts (f j) ≡ true) same (first_of (accepts (f i)) _ h)
    | inr later ↦ each_all (i + 1) n (second_of (accepts (f i)) _ h) k (omega (arith, later)) (omega (arith, to))
  ]

  all_each : (i n : ℕ) → ((k : ℕ) → i ≤ k → k < i + n → accepts (f k) ≡ true) → list_all accepts (each_from f i n) ≡ true
  all_each i zero h = refl
  all_each i (suc n) h = both (accepts (f i)) _ (h i (omega arith) (omega arith)) (all_each (i + 1) n (λ k from to. h k (omega (arith, from)) (omega (arith, to))))

  pub listed_hold : (n items : ℕ) → (list_all accepts (each_from f 0 (min n items)) ≡ true) ↔ EachFitsItsOwn n items (λ i. accepts (f i))
  listed_hold n items = (
    (λ h i in_list in_items. each_all 0 (min n items) h i (omega arith) (omega (arith, le-min in_list in_items))),
    (λ h. all_each 0 (min n items) (λ k from to. h k (omega (arith, to, min-le_left n items)) (omega (arith, to, min-le_right n items)))),
  )

  pub later_hold : (before items : ℕ) → (list_all accepts (each_from f before (items - before)) ≡ true) ↔ EachLaterFits before items (λ i. accepts (f i))
  later_hold before items = (
    (λ h i from to. each_all before (items - before) h i from (omega (arith, from, to))),
    (λ h. all_each before (items - before) (λ k from to. h k from (omega (arith, from, to)))),
  )

-- ---- dependents

module _ (accepts : Question → Bool) (s : Subject) where
  abbrev all_from : ℕ → List Text → Bool
  all_from i ks = list_all accepts (somes (dependents_from i ks s))

  abbrev AcceptFrom : ℕ → List Text → Type 0
  AcceptFrom i ks = (name : Text) (before after : List Text) → ks ≡ before ++ name ∷ after → has_member name s ≡ true → accepts (child_here (i + length before)) ≡ true

  -- The first child is evaluated if the instance has the member of its name.
  asked_first : (b : Bool) (i : ℕ) (k : Text) (ks : List Text) → has_member k s ≡ b
      → list_all accepts (somes (only_if b (child_here i) ∷ dependents_from (i + 1) ks s)) ≡ true → has_member k s ≡ true → accepts (child_here i) ≡ true
  asked_first true i k ks e h here = first_of (accepts (child_here i)) _ h
  asked_first false i k ks e h here = cc

  asked_later : (b : Bool) (i : ℕ) (ks : List Text) → list_all accepts (somes (only_if b (child_here i) ∷ dependents_from (i + 1) ks s)) ≡ true → all_from (i + 1) ks ≡ true
  asked_later true i ks h = second_of (accepts (child_here i)) _ h
  asked_later false i ks h = h

  ask_first : (b : Bool) (i : ℕ) (ks : List Text) → (b ≡ true → accepts (child_here i) ≡ true) → all_from (i + 1) ks ≡ true
      → list_all accepts (somes (only_if b (child_here i) ∷ dependents_from (i + 1) ks s)) ≡ true
  ask_first true i ks first later = both (accepts (child_here i)) _ (first refl) later
  ask_first false i ks first later = later

  no_more : (i : ℕ) → i + 0 ≡ i
  no_more i = omega arith

  one_more : (i n : ℕ) → (i + 1) + n ≡ i + suc n
  one_more i n = omega arith

  all_accept : (i : ℕ) (ks : List Text) → all_from i ks ≡ true → AcceptFrom i ks
  all_accept i [] h name [] after e here = cc
  all_accept i [] h name (b ∷ bs) after e here = cc
  all_accept i (k ∷ ks) h name [] after e here =
      let same : k ≡ name = cc in
      subst (λ j. accepts (child_here j) ≡ true) (sym (no_more i)) (asked_first (has_member k s) i k ks refl h (ap (λ x. has_member x s) same ∙ here))
  all_accept i (k ∷ ks) h name (b ∷ bs) after e here =
      let rest : ks ≡ bs ++ name ∷ after = cc in
      subst (λ j. accepts (child_here j) ≡ true) (one_more i (length bs)) (all_accept (i + 1) ks (asked_later (has_member k s) i ks h) name bs after rest here)

  accept_all : (i : ℕ) (ks : List Text) → AcceptFrom i ks → all_from i ks ≡ true
  accept_all i [] h = refl
  accept_all i (k ∷ ks) h = ask_first (has_member k s) i ks
      (λ here. subst (λ j. accepts (child_here j) ≡ true) (no_more i) (h k [] ks refl here))
      (accept_all (i + 1) ks (λ name bs after e here. subst (λ j. accepts (child_here j) ≡ true) (sym (one_more i (length bs))) (h name (k ∷ bs) after (ap (λ l. k ∷ l) e) here)))

  pub dependents_hold : (ks : List Text) → (list_all accepts (somes (dependents_from 0 ks s)) ≡ true) ↔ EachDependentAccepts ks s (λ i. accepts (child_here i))
  dependents_hold ks = (
    (λ h name before after e here. subst (λ j. accepts (child_here j) ≡ true) (from_none (length before)) (all_accept 0 ks h name before after e here)),
    (λ h. accept_all 0 ks (λ name before after e here. subst (λ j. accepts (child_here j) ≡ true) (sym (from_none (length before))) (h name before after e here))),
  )
    where
      from_none : (n : ℕ) → 0 + n ≡ n
      from_none n = omega arith
