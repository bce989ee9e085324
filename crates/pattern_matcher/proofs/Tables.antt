-- The texts in a table of patterns.
use Rattle.std.proofs.Common.{◌≡◌, ◌∙◌, ℕ, List, [], ◌∷◌, ◌++◌, None, Option, Some, Bool, Bor, arith, bytes_eq, chars, cond, false, is_some, length, not, suc, true≢false, zero, inl, inr, ap, refl, sym, true}
use Rattle.std.specs.Prelude.{IfSome, slice_get, ◌||◌, if◌then◌else◌}
use Rattle.std.specs.List.{list_any}
use Rattle.std.specs.Map.{update}
use Rattle.std.specs.Option.{MatchOption}
use Rattle.std.specs.Slice.{IsItemAt}
use Rattle.std.proofs.lemmas.Bool.{cases_Bool}
use Rattle.std.proofs.lemmas.List.{append-nil}
use Rattle.std.proofs.lemmas.List.Elements.{filter-append}
use Rattle.std.proofs.lemmas.List.Folds.{list_any-append, list_any_at}
use Rattle.std.proofs.lemmas.Map.Views.{any-filter_same}
use Rattle.std.proofs.lemmas.Option.{MatchOption-at_some, get_or_from_slice_get, none-some, slice_get_within}
use Rattle.std.proofs.lemmas.Slice.Eq.{bytes_eq-Decides}
use Rattle.theory_definitions.specs.Instance.{Text}
use Rattle.theory_definitions.specs.Matching.{engine, unfinished}
use Rattle.pattern_reader.specs.Reading.{Reading}
use Rattle.pattern_matcher.specs.PatternMatching.{TellsUnreadable, careful, is_unreadable, pattern_matcher, readable_only, reading_match, reading_of, refers, unreadable_match}
use Rattle.pattern_matcher.specs.PatternTables.{IsPlaced, distinct, has, with_text, without}
use Rattle.pattern_matcher.specs.declared.treatment.Treatment.{Treatment}
use Rattle.pattern_matcher.specs.declared.treatment.Unreadable.{Unreadable}
use Rattle.pattern_matcher.specs.declared.treatment.Unreadable.TheVariants.{LeftUnfinished, MatchesNothing}

-- texts that differ one way differ the other way
other_way : (t u : Text) → bytes_eq t u ≡ false → bytes_eq u t ≡ false
other_way t u apart = elim (cases_Bool (bytes_eq u t)) [
  | inl same ↦ absurd (true≢false (sym ((bytes_eq-Decides t u).1 (sym ((bytes_eq-Decides u t).0 same))) ∙ apart))
  | inr other ↦ other
]

-- an element of a list is among its texts
has_at : (ts : List Text) (i : ℕ) (p : Text) → slice_get ts i ≡ Some p → has p ts ≡ true
has_at ts i p is =
    let same : bytes_eq p p ≡ true = (bytes_eq-Decides p p).1 refl in
    list_any_at (bytes_eq p) ts i p (slice_get_within ts i p is) (rw (get_or_from_slice_get ts i p p is) same)

-- so exactly the texts of the list have a place
has_place : (ts : List Text) (places : Text → Option ℕ) → IsPlaced ts places → (t : Text) → is_some (places t) ≡ has t ts
has_place ts places placed t = by (places t) (placed t)
  where
    by : (o : Option ℕ) → MatchOption o (has t ts ≡ false) (λ i. slice_get ts i ≡ Some t) → is_some o ≡ has t ts
    by None lacks = sym lacks
    by (Some i) at = sym (has_at ts i t at)

-- so a text that has a place is not added
pub stays_same : (ts : List Text) (places : Text → Option ℕ) → IsPlaced ts places → (t : Text) → true ≡ is_some (places t) → ts ≡ with_text ts t
stays_same ts places placed t there =
    let among : has t ts ≡ true = sym (has_place ts places placed t) ∙ sym there in
    rw among refl

-- what is lent from the place of a text is that text
pub lent_place : (ts : List Text) (places : Text → Option ℕ) → IsPlaced ts places → (t : Text) (i : ℕ) → places t ≡ Some i
    → (read : List Text) → read ≡ ts → (r : Option (Bor Text)) → IsItemAt read i r → (is_some r ≡ has t ts) × IfSome r (λ p. p.now ≡ t)
lent_place ts places placed t i is read same r item =
    let at : slice_get ts i ≡ Some t = MatchOption-at_some (has t ts ≡ false) (λ i. slice_get ts i ≡ Some t) i is (placed t) in
    by r at (rw same at item)
  where
    by : (r : Option (Bor Text)) → slice_get ts i ≡ Some t → IsItemAt ts i r → (is_some r ≡ has t ts) × IfSome r (λ p. p.now ≡ t)
    by None there item = let within = slice_get_within ts i t there in let past = item.3 in absurd (omega arith)
    by (Some p) there item = (sym (has_at ts i t there), item.1 ∙ get_or_from_slice_get ts i t p.now there)

-- a text that is added stands at the old length, and the others stand where they stood
stays : (ts : List Text) (p t : Text) (i : ℕ) → slice_get ts i ≡ Some t → slice_get (ts ++ p ∷ []) i ≡ Some t
stays [] p t i at = absurd (none-some t at)
stays (u ∷ ts) p t zero at = at
stays (u ∷ ts) p t (suc i) at = stays ts p t i at

at_end : (ts : List Text) (p : Text) → slice_get (ts ++ p ∷ []) (length ts) ≡ Some p
at_end [] p = refl
at_end (u ∷ ts) p = at_end ts p

pub placed_more : (ts : List Text) (p : Text) (old new : Text → Option ℕ) → IsPlaced ts old
    → ((t : Text) → new t ≡ update bytes_eq old p (Some (length ts)) t) → IsPlaced (ts ++ p ∷ []) new
placed_more ts p old new placed is t = rw (is t) (by (bytes_eq p t) refl (old t) (placed t))
  where
    by : (b : Bool) → bytes_eq p t ≡ b → (o : Option ℕ) → MatchOption o (has t ts ≡ false) (λ i. slice_get ts i ≡ Some t)
        → MatchOption (cond b (Some (length ts)) o) (has t (ts ++ p ∷ []) ≡ false) (λ i. slice_get (ts ++ p ∷ []) i ≡ Some t)
    by true same o before = at_end ts p ∙ ap Some ((bytes_eq-Decides p t).0 same)
    by false apart None lacks = list_any-append (bytes_eq t) ts (p ∷ []) ∙ rw (lacks, other_way p t apart) refl
    by false apart (Some i) at = stays ts p t i at

-- a test that a text fails is passed by the other texts, or by none
others : (f : Text → Bool) (t : Text) (ts : List Text) → f t ≡ false → list_any f (without t ts) ≡ list_any f ts
others f t ts fails = any-filter_same f (λ u. not (bytes_eq t u)) true apart ts
  where
    apart : (u : Text) → f u ≡ true → not (bytes_eq t u) ≡ true
    apart u passes = elim (cases_Bool (bytes_eq t u)) [
      | inl same ↦ absurd (true≢false (sym passes ∙ (ap f (sym ((bytes_eq-Decides t u).0 same)) ∙ fails)))
      | inr other ↦ ap not other
    ]

-- so a test is passed by the distinct texts if it is passed by all
any_distinct : (f : Text → Bool) (ts : List Text) → list_any f (distinct ts) ≡ list_any f ts
any_distinct f [] = refl
any_distinct f (t ∷ ts) = elim (cases_Bool (f t)) [
  | inl passes ↦ rw passes refl
  | inr fails ↦ ap (λ b. f t || b) (others f t (distinct ts) fails ∙ any_distinct f ts)
]

-- one more text is one more distinct text, unless it is there
without_same : (t x : Text) (ts : List Text) → bytes_eq x t ≡ true → without t (with_text ts x) ≡ without t ts
without_same t x ts same = elim (cases_Bool (has x ts)) [
  | inl there ↦ rw there refl
  | inr lacks ↦ rw lacks (filter-append (λ u. not (bytes_eq t u)) ts (x ∷ []) ∙ rw ((bytes_eq-Decides t x).1 (sym ((bytes_eq-Decides x t).0 same))) (append-nil _))
]

without_other : (t x : Text) (ts : List Text) → bytes_eq x t ≡ false → without t (with_text ts x) ≡ with_text (without t ts) x
without_other t x ts apart = elim (cases_Bool (has x ts)) [
  | inl there ↦ rw (others (bytes_eq x) t ts apart, there) refl
  | inr lacks ↦ rw (others (bytes_eq x) t ts apart, lacks) (filter-append (λ u. not (bytes_eq t u)) ts (x ∷ []) ∙ rw (other_way x t apart) refl)
]

pub distinct_more : (ts : List Text) (x : Text) → distinct (ts ++ x ∷ []) ≡ with_text (distinct ts) x
distinct_more [] x = refl
distinct_more (t ∷ ts) x = ap (λ us. t ∷ without t us) (distinct_more ts x) ∙ elim (cases_Bool (bytes_eq x t)) [
  | inl same ↦ rw same (ap (λ us. t ∷ us) (without_same t x (distinct ts) same))
  | inr apart ↦ rw apart (ap (λ us. t ∷ us) (without_other t x (distinct ts) apart) ∙ headed (has x (without t (distinct ts))) (without t (distinct ts)))
]
  where
    headed : (b : Bool) (us : List Text) → t ∷ (if b then us else us ++ x ∷ []) ≡ (if b then t ∷ us else t ∷ (us ++ x ∷ []))
    headed true us = refl
    headed false us = refl

-- so they are treated as all are
pub careful_distinct : (ts : List Text) → careful (distinct ts) ≡ careful ts
careful_distinct ts = rw (any_distinct is_unreadable ts, any_distinct refers ts) refl

pub readable_only_distinct : (ts : List Text) → readable_only (distinct ts) ≡ readable_only ts
readable_only_distinct ts = rw (any_distinct refers ts) refl

-- a test that a text of the list passes is passed by the list
passed : (f : Text → Bool) (ts : List Text) (p : Text) → has p ts ≡ true → f p ≡ true → list_any f ts ≡ true
passed f [] p among passes = absurd (true≢false (sym among))
passed f (t ∷ ts) p among passes = elim (cases_Bool (bytes_eq p t)) [
  | inl same ↦ let e : f t ≡ true = ap f (sym ((bytes_eq-Decides p t).0 same)) ∙ passes in ap (λ b. b || list_any f ts) e
  | inr other ↦ either (f t) (list_any f ts) (passed f ts p (rw other at among) passes)
]
  where
    either : (a b : Bool) → b ≡ true → (a || b) ≡ true
    either true b e = refl
    either false b e = e

-- if unreadable patterns are left unfinished, those of the list are
pub careful_tells : (ts : List Text) (u : Treatment) → u ≡ careful ts → TellsUnreadable ts (pattern_matcher u)
careful_tells ts u is p s among bad =
    left u.unreadable (reading_of p) (ap (λ (v : Treatment). v.unreadable) is ∙ ap (λ b. if b then LeftUnfinished else MatchesNothing) (passed is_unreadable ts p among (ap not bad))) bad
  where
    left : (v : Unreadable) (o : Option Reading) → v ≡ LeftUnfinished → is_some o ≡ false → reading_match (record u { unreadable = v }) o (chars s) ≡ unfinished engine
    left v None e h = ap unreadable_match e
    left v (Some r) e h = absurd (true≢false h)
