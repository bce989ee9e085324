-- The keywords mean what their definitions say.
use Rattle.std.proofs.Common.{◌≡◌, ◌∙◌, ◌↔◌, ℕ, zero, suc, ◌+◌, ◌-◌, ◌<◌, ◌≤◌, ◌++◌, ◌∷◌, ◌&&◌, ◌||◌, [], All, Any, List, Bool, Option, Some, None, true, false, add-one, ap, arith, codes, inl, inr, is_some, length, map, min, not, option_map, refl, subst, sym}
use Rattle.std.proofs.Math.Nat.{eq-or-lt_of_le, le-min, min-le_left, min-le_right}
use Rattle.std.proofs.lemmas.Bool.{le-leb, leb-true}
use Rattle.std.proofs.lemmas.List.{map-append}
use Rattle.std.proofs.lemmas.List.Elements.{All-cons, All-head, All-nil, All-tail}
use Rattle.std.proofs.lemmas.List.Folds.{Any-from_list_any, list_any-from_Any}
use Rattle.std.specs.List.{list_all, list_any}
use Rattle.std.specs.Prelude.{flat_map}
use Rattle.std.specs.Str.{chars}
use Rattle.serde_json.specs.Data.{Members, Num, array, boolean, float, member, negative, no_members, null, number, object, string, unsigned}
use Rattle.serde_json.specs.Find.{as_i64, as_u64, is_float}
use Rattle.theory_definitions.specs.Instance.{Subject, Text, a_name, a_value}
use Rattle.theory_definitions.specs.Keywords.{Answers, Question, own, passed}
use Rattle.theory_definitions.specs.Matching.{Matching}
use Rattle.schema_reports.specs.ReportViews.{spoken}
use Rattle.schema_traits.specs.KeywordViews.{is_nil}
use Rattle.keyword_authoring.specs.Items.{each_from}
use Rattle.keyword_authoring.specs.Members.{at_name, has_member, is_object, members_from, names_in, only_if}
use Rattle.keyword_authoring.specs.Somes.{somes}
use Rattle.keyword_authoring.specs.Ways.{plain, unless, way_faults, way_holds}
use Rattle.standard_basics.specs.Counts.{allows_any, count_fits, member_count, subject_members, subject_string}
use Rattle.standard_basics.specs.FittingItems.{EachFitsItsOwn, EachLaterFits}
use Rattle.standard_basics.specs.FittingMembers.{EachListedFits}
use Rattle.standard_basics.specs.Meanings.{schema_at_member}
use Rattle.standard_basics.specs.Measures.{IsWithin}
use Rattle.standard_basics.specs.OwnErrors.{OneUnless, own_error, passed_on}
use Rattle.standard_basics.specs.TypeNames.{fits}
use Rattle.standard_basics.specs.ValueTypes.{HasType}
use Rattle.standard_basics.specs.Words.{missing, pattern_text, pattern_way}
use Rattle.standard_basics.specs.declared.counts.CountKind.{CountKind}
use Rattle.standard_basics.specs.declared.counts.CountKind.TheVariants.{MaxLength, MinLength, MinProperties}
use Rattle.standard_basics.specs.declared.type_names.TypeName.{TypeName}
use Rattle.standard_basics.specs.declared.type_names.TypeName.TheVariants as type
use Rattle.standard_basics.proofs.MissingNames.{missing_first, missing_later}

both : (a b : Bool) → a ≡ true → b ≡ true → (a && b) ≡ true
both true b h k = k
both false b h k = cc

first_of : (a b : Bool) → (a && b) ≡ true → a ≡ true
first_of true b h = refl
first_of false b h = cc

second_of : (a b : Bool) → (a && b) ≡ true → b ≡ true
second_of true b h = h
second_of false b h = cc

-- ---- an error unless a test holds

nil_unless : (f : Text → Text) (b : Bool) (text : Text) → is_nil (map f (unless b text)) ≡ b
nil_unless f true text = refl
nil_unless f false text = refl

pub holds_unless : (f : Text → Text) (b : Bool) (Holds : Type 0) (text : Text) → (b ≡ true) ↔ Holds → (is_nil (map f (unless b text)) ≡ true) ↔ Holds
holds_unless f b Holds text tells = ((λ h. tells.0 (sym (nil_unless f b text) ∙ h)), (λ h. nil_unless f b text ∙ tells.1 h))

pub one_unless : (f : Text → Text) (b : Bool) (Holds : Type 0) (name text : Text) → (b ≡ true) ↔ Holds
    → OneUnless Holds (own_error name (f text)) (map (λ t. own (plain name t)) (map f (unless b text)))
one_unless f true Holds name text tells = record {
  none = λ h. refl;
  one = λ refuses. absurd (refuses (tells.0 refl));
}
one_unless f false Holds name text tells = record {
  none = λ h. let wrong : false ≡ true = tells.1 h in absurd (cc wrong);
  one = λ refuses. refl;
}

-- ---- `type`

or_true : (b : Bool) → (b || true) ≡ true
or_true true = refl
or_true false = refl

whole_fits : (n : Num) → is_float n ≡ false → (is_some (as_i64 n) || is_some (as_u64 n)) ≡ true
whole_fits (unsigned n) h = or_true (is_some (as_i64 (unsigned n)))
whole_fits (negative z) h = refl
whole_fits (float x) h = cc

fits_whole : (n : Num) → (is_some (as_i64 n) || is_some (as_u64 n)) ≡ true → is_float n ≡ false
fits_whole (unsigned n) h = refl
fits_whole (negative z) h = refl
fits_whole (float x) h = cc

has_type : (t : TypeName) (s : Subject) → fits t s ≡ true → HasType t s
has_type type.Null (a_value null) h = refl
has_type type.Null s h = absurd (let q : ⊥ = cc in q)
has_type type.Boolean (a_value (boolean b)) h = (b, refl)
has_type type.Boolean s h = absurd (let q : ⊥ = cc in q)
has_type type.Integer (a_value (number n)) h = (n, refl, fits_whole n h)
has_type type.Integer s h = absurd (let q : ⊥ = cc in q)
has_type type.Number (a_value (number n)) h = (n, refl)
has_type type.Number s h = absurd (let q : ⊥ = cc in q)
has_type type.Text (a_value (string t)) h = (t, inl refl)
has_type type.Text (a_name k) h = (k, inr refl)
has_type type.Text s h = absurd (let q : ⊥ = cc in q)
has_type type.Array (a_value (array ds)) h = (ds, refl)
has_type type.Array s h = absurd (let q : ⊥ = cc in q)
has_type type.Object (a_value (object ms)) h = (ms, refl)
has_type type.Object s h = absurd (let q : ⊥ = cc in q)

fits_type : (t : TypeName) (s : Subject) → HasType t s → fits t s ≡ true
fits_type type.Null s h = ap (fits type.Null) h
fits_type type.Boolean s h = ap (fits type.Boolean) h.1
fits_type type.Integer s h = ap (fits type.Integer) h.1 ∙ whole_fits h.0 h.2
fits_type type.Number s h = ap (fits type.Number) h.1
fits_type type.Text s h = elim h.1 [
  | inl value ↦ ap (fits type.Text) value
  | inr name ↦ ap (fits type.Text) name
]
fits_type type.Array s h = ap (fits type.Array) h.1
fits_type type.Object s h = ap (fits type.Object) h.1

pub type_fits : (t : TypeName) (s : Subject) → (fits t s ≡ true) ↔ HasType t s
type_fits t s = (has_type t s, fits_type t s)

pub some_type_fits : (ts : List TypeName) (s : Subject) → (list_any (λ t. fits t s) ts ≡ true) ↔ Any (λ t. HasType t s) ts
some_type_fits ts s = (
  (λ h. let found : Any (λ t. fits t s ≡ true) ts = Any-from_list_any (λ t. fits t s) ts h in (found.0, found.1, found.2, found.3, has_type found.1 s found.4)),
  (λ h. list_any-from_Any (λ t. fits t s) ts (h.0, h.1, h.2, h.3, fits_type h.1 s h.4)),
)

-- ---- `minLength`, `maxLength`, `minProperties`

least_length : (n : ℕ) (o : Option Text) → (allows_any MinLength n (option_map (λ t. length (chars t)) o) ≡ true) ↔ ((t : Text) → o ≡ Some t → n ≤ length (chars t))
least_length n None = ((λ h t e. absurd (let q : ⊥ = cc in q)), (λ h. refl))
least_length n (Some u) = (
  (λ h t e. let same : u ≡ t = cc in subst (λ x. n ≤ length (chars x)) same (leb-true n (length (chars u)) h)),
  (λ h. le-leb n (length (chars u)) (h u refl)),
)

greatest_length : (n : ℕ) (o : Option Text) → (allows_any MaxLength n (option_map (λ t. length (chars t)) o) ≡ true) ↔ ((t : Text) → o ≡ Some t → length (chars t) ≤ n)
greatest_length n None = ((λ h t e. absurd (let q : ⊥ = cc in q)), (λ h. refl))
greatest_length n (Some u) = (
  (λ h t e. let same : u ≡ t = cc in subst (λ x. length (chars x) ≤ n) same (leb-true (length (chars u)) n h)),
  (λ h. le-leb (length (chars u)) n (h u refl)),
)

names_counted : (ms : Members) → member_count ms ≡ length (names_in ms)
names_counted no_members = refl
names_counted (member k d ms) = add-one (member_count ms) ∙ ap (λ n. suc n) (names_counted ms)

least_members : (n : ℕ) (o : Option Members) → (allows_any MinProperties n (option_map member_count o) ≡ true) ↔ ((ms : Members) → o ≡ Some ms → n ≤ length (names_in ms))
least_members n None = ((λ h t e. absurd (let q : ⊥ = cc in q)), (λ h. refl))
least_members n (Some ms) = (
  (λ h others e. let same : ms ≡ others = cc in
      subst (λ x. n ≤ length (names_in x)) same (subst (λ m. n ≤ m) (names_counted ms) (leb-true n (member_count ms) h))),
  (λ h. le-leb n (member_count ms) (subst (λ m. n ≤ m) (sym (names_counted ms)) (h ms refl))),
)

pub count_within : (kind : CountKind) (n : ℕ) (s : Subject) → (count_fits kind n s ≡ true) ↔ IsWithin kind n s
count_within MinLength n s = least_length n (subject_string s)
count_within MaxLength n s = greatest_length n (subject_string s)
count_within MinProperties n s = least_members n (subject_members s)

-- ---- `pattern`

module _ (texts : Bool) (pattern : Text) (s : Subject) (matches : Matching) where
  abbrev EachMatches : Option Text → Type 0
  EachMatches o = (t : Text) → o ≡ Some t → matches.matches pattern t ≡ true

  pub pattern_holds : (o : Option Text) (accepts : Question → Bool) → (way_holds (pattern_way texts pattern s o) matches accepts ≡ true) ↔ EachMatches o
  pattern_holds None accepts = ((λ h t e. absurd (let q : ⊥ = cc in q)), (λ h. refl))
  pattern_holds (Some u) accepts = ((λ h t e. let same : u ≡ t = cc in subst (λ x. matches.matches pattern x ≡ true) same h), (λ h. h u refl))

  one_of : (b : Bool) (Holds : Type 0) (text : Text) → (b ≡ true) ↔ Holds
      → OneUnless Holds (own_error (codes "pattern") text) (map (λ t. own (plain (codes "pattern") t)) (unless b text))
  one_of true Holds text tells = record {
    none = λ h. refl;
    one = λ refuses. absurd (refuses (tells.0 refl));
  }
  one_of false Holds text tells = record {
    none = λ h. let wrong : false ≡ true = tells.1 h in absurd (cc wrong);
    one = λ refuses. refl;
  }

  pub pattern_faults : (o : Option Text) (answers : Answers)
      → OneUnless (EachMatches o) (own_error (codes "pattern") (spoken texts (pattern_text pattern s))) (way_faults (pattern_way texts pattern s o) matches answers)
  pattern_faults None answers = record {
    none = λ h. refl;
    one = λ refuses. absurd (refuses (λ t e. absurd (let q : ⊥ = cc in q)));
  }
  pattern_faults (Some u) answers = one_of (matches.matches pattern u) (EachMatches (Some u)) (spoken texts (pattern_text pattern s)) (pattern_holds (Some u) (λ q. true))

-- ---- `required`

has_it : (a b : Bool) → (a && not b) ≡ false → a ≡ true → b ≡ true
has_it true true lacks is = refl
has_it true false lacks is = cc
has_it false b lacks is = cc

lacks_not : (a b : Bool) → (a ≡ true → b ≡ true) → (a && not b) ≡ false
lacks_not true true has = refl
lacks_not true false has = sym (has refl)
lacks_not false b has = refl

module _ (f : Text → Text) (s : Subject) where
  has_first : (name : Text) (names : List Text) (b : Bool) → (is_object s && not (has_member name s)) ≡ b
      → (is_nil (map f (missing names s)) ≡ true → is_object s ≡ true → All (λ k. has_member k s ≡ true) names)
      → is_nil (map f (missing (name ∷ names) s)) ≡ true → is_object s ≡ true → All (λ k. has_member k s ≡ true) (name ∷ names)
  has_first name names true e later h is = absurd (let q : ⊥ = cc (ap (λ ks. is_nil (map f ks)) (missing_first name names s e)) in q)
  has_first name names false e later h is =
      All-cons (λ k. has_member k s ≡ true) name names (has_it (is_object s) (has_member name s) e is)
      (later (sym (ap (λ ks. is_nil (map f ks)) (missing_later name names s e)) ∙ h) is)

  has_each : (names : List Text) → is_nil (map f (missing names s)) ≡ true → is_object s ≡ true → All (λ k. has_member k s ≡ true) names
  has_each [] h is = All-nil (λ k. has_member k s ≡ true)
  has_each (name ∷ names) h is = has_first name names (is_object s && not (has_member name s)) refl (has_each names) h is

  none_missing : (names : List Text) → (is_object s ≡ true → All (λ k. has_member k s ≡ true) names) → is_nil (map f (missing names s)) ≡ true
  none_missing [] h = refl
  none_missing (name ∷ names) h =
      ap (λ ks. is_nil (map f ks)) (missing_later name names s (lacks_not (is_object s) (has_member name s) (λ is. All-head (λ k. has_member k s ≡ true) name names (h is))))
      ∙ none_missing names (λ is. All-tail (λ k. has_member k s ≡ true) name names (h is))

  pub required_holds : (names : List Text) → (is_nil (map f (missing names s)) ≡ true) ↔ (is_object s ≡ true → All (λ k. has_member k s ≡ true) names)
  required_holds names = (has_each names, none_missing names)

own_each : (name : Text) (f : Text → Text) (ks : List Text) → map (λ t. own (plain name t)) (map f ks) ≡ map (λ k. own_error name (f k)) ks
own_each name f [] = refl
own_each name f (k ∷ ks) = ap (λ l. own_error name (f k) ∷ l) (own_each name f ks)

pub required_faults : (f : Text → Text) (names : List Text) (s : Subject)
    → map (λ t. own (plain (codes "required") t)) (map f (missing names s)) ≡ map (λ k. own_error (codes "required") (f k)) (missing names s)
required_faults f names s = own_each (codes "required") f (missing names s)

-- ---- errors that are passed on

pub faults_passed : (answers : Answers) (qs : List Question) → flat_map (λ q. map passed (answers q).errors) qs ≡ passed_on answers qs
faults_passed answers [] = refl
faults_passed answers (q ∷ qs) = ap (λ l. map passed (answers q).errors ++ l) (faults_passed answers qs)
    ∙ sym (map-append passed (answers q).errors (flat_map (λ q. (answers q).errors) qs))

-- ---- `prefixItems` and `items`

module _ (accepts : Question → Bool) (f : ℕ → Question) where
  each_all : (i n : ℕ) → list_all accepts (each_from f i n) ≡ true → (k : ℕ) → i ≤ k → k < i + n → accepts (f k) ≡ true
  each_all i zero h k from to = absurd (omega (arith, from, to))
  each_all i (suc n) h k from to = elim (eq-or-lt_of_le from) [
    | inl same ↦ subst (λ j. accepts (f j) ≡ true) same (first_of (accepts (f i)) _ h)
    | inr later ↦ each_all (i + 1) n (second_of (accepts (f i)) _ h) k (omega (arith, later)) (omega (arith, to))
  ]

  all_each : (i n : ℕ) → ((k : ℕ) → i ≤ k → k < i + n → accepts (f k) ≡ true) → list_all accepts (each_from f i n) ≡ true
  all_each i zero h = refl
  all_each i (suc n) h = both (accepts (f i)) _ (h i (omega arith) (omega arith)) (all_each (i + 1) n (λ k from to. h k (omega (arith, from)) (omega (arith, to))))

  pub own_fit : (n items : ℕ) → (list_all accepts (each_from f 0 (min n items)) ≡ true) ↔ EachFitsItsOwn n items (λ i. accepts (f i))
  own_fit n items = (
    (λ h i in_list in_items. each_all 0 (min n items) h i (omega arith) (omega (arith, le-min in_list in_items))),
    (λ h. all_each 0 (min n items) (λ k from to. h k (omega (arith, to, min-le_left n items)) (omega (arith, to, min-le_right n items)))),
  )

  pub later_fit : (before items : ℕ) → (list_all accepts (each_from f before (items - before)) ≡ true) ↔ EachLaterFits before items (λ i. accepts (f i))
  later_fit before items = (
    (λ h i from to. each_all before (items - before) h i from (omega (arith, from, to))),
    (λ h. all_each before (items - before) (λ k from to. h k from (omega (arith, from, to)))),
  )

-- ---- `properties`

module _ (accepts : Question → Bool) (s : Subject) where
  abbrev fit_from : ℕ → List Text → Bool
  fit_from i ks = list_all accepts (somes (members_from i ks s))

  abbrev FitFrom : ℕ → List Text → Type 0
  FitFrom i ks = (name : Text) (before after : List Text) → ks ≡ before ++ name ∷ after → has_member name s ≡ true → accepts (schema_at_member (i + length before) name) ≡ true

  -- The first child is evaluated if the instance has the member of its name.
  asked_first : (b : Bool) (i : ℕ) (k : Text) (ks : List Text) → has_member k s ≡ b
      → list_all accepts (somes (only_if b (schema_at_member i k) ∷ members_from (i + 1) ks s)) ≡ true → has_member k s ≡ true → accepts (schema_at_member i k) ≡ true
  asked_first true i k ks e h here = first_of (accepts (schema_at_member i k)) _ h
  asked_first false i k ks e h here = cc

  asked_later : (b : Bool) (i : ℕ) (k : Text) (ks : List Text) → list_all accepts (somes (only_if b (schema_at_member i k) ∷ members_from (i + 1) ks s)) ≡ true → fit_from (i + 1) ks ≡ true
  asked_later true i k ks h = second_of (accepts (schema_at_member i k)) _ h
  asked_later false i k ks h = h

  ask_first : (b : Bool) (i : ℕ) (k : Text) (ks : List Text) → (b ≡ true → accepts (schema_at_member i k) ≡ true) → fit_from (i + 1) ks ≡ true
      → list_all accepts (somes (only_if b (schema_at_member i k) ∷ members_from (i + 1) ks s)) ≡ true
  ask_first true i k ks first later = both (accepts (schema_at_member i k)) _ (first refl) later
  ask_first false i k ks first later = later

  no_more : (i : ℕ) → i + 0 ≡ i
  no_more i = omega arith

  one_more : (i n : ℕ) → (i + 1) + n ≡ i + suc n
  one_more i n = omega arith

  all_fit : (i : ℕ) (ks : List Text) → fit_from i ks ≡ true → FitFrom i ks
  all_fit i [] h name [] after e here = cc
  all_fit i [] h name (b ∷ bs) after e here = cc
  all_fit i (k ∷ ks) h name [] after e here =
      let same : k ≡ name = cc in
      let fit : accepts (schema_at_member i k) ≡ true = asked_first (has_member k s) i k ks refl h (ap (λ x. has_member x s) same ∙ here) in
      subst (λ x. accepts (schema_at_member (i + 0) x) ≡ true) same (subst (λ j. accepts (schema_at_member j k) ≡ true) (sym (no_more i)) fit)
  all_fit i (k ∷ ks) h name (b ∷ bs) after e here =
      let rest : ks ≡ bs ++ name ∷ after = cc in
      subst (λ j. accepts (schema_at_member j name) ≡ true) (one_more i (length bs)) (all_fit (i + 1) ks (asked_later (has_member k s) i k ks h) name bs after rest here)

  fit_all : (i : ℕ) (ks : List Text) → FitFrom i ks → fit_from i ks ≡ true
  fit_all i [] h = refl
  fit_all i (k ∷ ks) h = ask_first (has_member k s) i k ks
      (λ here. subst (λ j. accepts (schema_at_member j k) ≡ true) (no_more i) (h k [] ks refl here))
      (fit_all (i + 1) ks (λ name bs after e here. subst (λ j. accepts (schema_at_member j name) ≡ true) (sym (one_more i (length bs))) (h name (k ∷ bs) after (ap (λ l. k ∷ l) e) here)))

  from_none : (n : ℕ) → 0 + n ≡ n
  from_none n = omega arith

  pub listed_fit : (ks : List Text) → (list_all accepts (somes (members_from 0 ks s)) ≡ true) ↔ EachListedFits ks s (λ i name. accepts (schema_at_member i name))
  listed_fit ks = (
    (λ h name before after e here. subst (λ j. accepts (schema_at_member j name) ≡ true) (from_none (length before)) (all_fit 0 ks h name before after e here)),
    (λ h. fit_all 0 ks (λ name before after e here. subst (λ j. accepts (schema_at_member j name) ≡ true) (sym (from_none (length before))) (h name before after e here))),
  )

-- ---- `propertyNames`

module _ (accepts : Question → Bool) where
  each_name : (ks : List Text) → list_all accepts (map at_name ks) ≡ true → All (λ k. accepts (at_name k) ≡ true) ks
  each_name [] h = All-nil (λ k. accepts (at_name k) ≡ true)
  each_name (k ∷ ks) h = All-cons (λ k. accepts (at_name k) ≡ true) k ks (first_of (accepts (at_name k)) _ h) (each_name ks (second_of (accepts (at_name k)) _ h))

  name_each : (ks : List Text) → All (λ k. accepts (at_name k) ≡ true) ks → list_all accepts (map at_name ks) ≡ true
  name_each [] h = refl
  name_each (k ∷ ks) h = both (accepts (at_name k)) _ (All-head (λ k. accepts (at_name k) ≡ true) k ks h) (name_each ks (All-tail (λ k. accepts (at_name k) ≡ true) k ks h))

  pub names_fit : (ks : List Text) → (list_all accepts (map at_name ks) ≡ true) ↔ All (λ k. accepts (at_name k) ≡ true) ks
  names_fit ks = (each_name ks, name_each ks)
