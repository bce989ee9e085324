-- Names in order: which ones they are, and one more after the others.
use Rattle.std.proofs.Common.{◌≡◌, ◌∙◌, ◌+◌, ◌++◌, ◌||◌, ◌∷◌, [], Bool, Greater, Less, List, String, ap, append_assoc, cond, drop, false, map, refl, string_bytes, subst, suc, sym, true, zero, ℕ}
use Rattle.std.proofs.Math.Bool.{or-true}
use Rattle.std.proofs.lemmas.Slice.Eq.{bytes_eq-Decides}
use Rattle.std.specs.Prelude.{IfSome, None, Option, Some, bytes_eq}
use Rattle.std.specs.declared.alloc.Global.{Global}
use Rattle.std.specs.BTreeMap.{is_at}
use Rattle.std.specs.BTreeSet.{insert_key}
use Rattle.std.specs.Cmp.Lexicographic.{slice_cmp}
use Rattle.std.specs.List.{AllByRecursion, AllZip, list_any}
use Rattle.std.specs.List.Sorted.{IsStrictlySortedBy}
use Rattle.std.specs.Map.{keys_of}
use Rattle.std.specs.Ordering.{is_lt, match_ordering, nat_cmp, ordering_reverse}
use Rattle.std.specs.String.{string_cmp, string_cmp_total}
use Rattle.std.proofs.lemmas.Map.Text.{is_eq-slice_cmp}
use Rattle.serde_json.specs.View.{members_view}
use Rattle.serde_json.proofs.Views.{Entry}
use Rattle.theory_definitions.specs.Instance.{Text}
use Rattle.keyword_authoring.specs.Texts.{is_among}
use Rattle.keyword_makers.specs.Members.{names_of}
use Rattle.schema_traits.specs.Ascending.{place_from}

abbrev Strings : Type 0
Strings = List (String Global)

pub has_text : (k : Text) (keys : Strings) → list_any (is_at (λ x. slice_cmp nat_cmp k (string_bytes x))) keys ≡ is_among (map string_bytes keys) k
has_text k [] = refl
has_text k (x ∷ keys) = ap (λ b. b || list_any (is_at (λ y. slice_cmp nat_cmp k (string_bytes y))) keys) (is_eq-slice_cmp k (string_bytes x))
    ∙ ap (λ b. bytes_eq k (string_bytes x) || b) (has_text k keys)

-- ---- one more

abbrev pub AreBelow : Text → List Text → Type 0
AreBelow k ls = AllByRecursion (λ l. slice_cmp nat_cmp l k ≡ Less) ls

insert_last : (keys : Strings) (k : String Global) → AreBelow (string_bytes k) (map string_bytes keys) → map string_bytes (insert_key string_cmp keys k) ≡ map string_bytes keys ++ string_bytes k ∷ []
insert_last [] k h = refl
insert_last (x ∷ keys) k h = ap (λ o. map string_bytes (match_ordering o (k ∷ x ∷ keys) (x ∷ keys) (x ∷ insert_key string_cmp keys k))) above
    ∙ ap (λ ys. string_bytes x ∷ ys) (insert_last keys k h.1)
  where
    above : string_cmp k x ≡ Greater
    above = string_cmp_total.antisymm k x ∙ ap ordering_reverse h.0

-- The names of an object are in ascending order.
abbrev pub Ascend : List Text → Type 0
Ascend [] = Unit {0}
Ascend (k ∷ ks) = AllByRecursion (λ l. slice_cmp nat_cmp k l ≡ Less) ks × Ascend ks

above_first : (e : Entry) (es : List Entry) → AllByRecursion (λ k. string_cmp e.0 k ≡ Less) (keys_of es) → AllByRecursion (λ l. slice_cmp nat_cmp (string_bytes e.0) l ≡ Less) (names_of (members_view es))
above_first e [] h = tt
above_first e (f ∷ es) h = (h.0, above_first e es h.1)

pub names_ascend : (es : List Entry) → IsStrictlySortedBy string_cmp (keys_of es) → Ascend (names_of (members_view es))
unfolding IsStrictlySortedBy
names_ascend [] h = tt
names_ascend (e ∷ es) h = (above_first e es h.0, names_ascend es h.1)

below_middle : (l : Text) (ls : List Text) (k : Text) (more : List Text) → AllByRecursion (λ x. slice_cmp nat_cmp l x ≡ Less) (ls ++ k ∷ more) → slice_cmp nat_cmp l k ≡ Less
below_middle l [] k more h = h.0
below_middle l (x ∷ ls) k more h = below_middle l ls k more h.1

are_below : (ls : List Text) (k : Text) (more : List Text) → Ascend (ls ++ k ∷ more) → AreBelow k ls
are_below [] k more h = tt
are_below (l ∷ ls) k more h = (below_middle l ls k more h.0, are_below ls k more h.1)

pub listed_more : (keys : Strings) (k : String Global) (name : Text) (more all : List Text) → string_bytes k ≡ name → Ascend all → map string_bytes keys ++ name ∷ more ≡ all
    → map string_bytes (insert_key string_cmp keys k) ++ more ≡ all
listed_more keys k name more all is ascend h =
    ap (λ xs. xs ++ more) (insert_last keys k (subst (λ l. AreBelow l (map string_bytes keys)) (sym is) (are_below (map string_bytes keys) name more (subst Ascend (sym h) ascend))))
    ∙ (append_assoc (map string_bytes keys) (string_bytes k ∷ []) more ∙ (ap (λ l. map string_bytes keys ++ l ∷ more) is ∙ h))

-- ---- clones

pub cloned_alike : (xs ys : Strings) → AllZip (λ x y. string_bytes y ≡ string_bytes x) xs ys → map string_bytes ys ≡ map string_bytes xs
cloned_alike [] [] h = refl
cloned_alike [] (y ∷ ys) h = absurd h
cloned_alike (x ∷ xs) [] h = absurd h
cloned_alike (x ∷ xs) (y ∷ ys) h = ap (λ k. k ∷ map string_bytes ys) h.0 ∙ ap (λ ks. string_bytes x ∷ ks) (cloned_alike xs ys h.1)

abbrev pub AreAlike : Option (List Text) → Option (List Text) → Type 0
AreAlike None None = Unit {0}
AreAlike None (Some copy) = ⊥
AreAlike (Some names) None = ⊥
AreAlike (Some names) (Some copy) = copy ≡ names

-- What holds of names that may be absent holds of their clone.
pub alike_if_some : (P : List Text → Type 0) (names copy : Option (List Text)) → AreAlike names copy → IfSome names P → IfSome copy P
alike_if_some P None None h holds = tt
alike_if_some P None (Some ys) h holds = absurd h
alike_if_some P (Some xs) None h holds = absurd h
alike_if_some P (Some xs) (Some ys) h holds = subst P (sym h) holds

-- ---- names beside others

module _ (name l : Text) (names : List Text) (i p : ℕ) (later : place_from name (i + 1) names ≡ (p, true) → is_among names name ≡ true) where
  among_here : (same less : Bool) → bytes_eq l name ≡ same → cond same (i, true) (cond less (i, false) (place_from name (i + 1) names)) ≡ (p, true) → is_among (l ∷ names) name ≡ true
  among_here true less is h = ap (λ b. b || is_among names name) ((bytes_eq-Decides name l).1 (sym ((bytes_eq-Decides l name).0 is)))
  among_here false true is h = let bad : false ≡ true = ap (λ r. r.1) h in cc
  among_here false false is h = ap (λ b. bytes_eq name l || b) (later h) ∙ or-true (bytes_eq name l)

-- a name that is found is among the names
among_found : (name : Text) (i p : ℕ) (names : List Text) → place_from name i names ≡ (p, true) → is_among names name ≡ true
among_found name i p [] h = let bad : false ≡ true = ap (λ r. r.1) h in cc
among_found name i p (l ∷ names) h = among_here name l names i p (among_found name (i + 1) p names) (bytes_eq l name) (is_lt (slice_cmp nat_cmp name l)) refl h

-- a name among the later names is among the names
among_dropped : (name : Text) (i : ℕ) (names : List Text) → is_among (drop i names) name ≡ true → is_among names name ≡ true
among_dropped name zero names h = h
among_dropped name (suc i) [] h = h
among_dropped name (suc i) (l ∷ names) h = ap (λ b. bytes_eq name l || b) (among_dropped name i names h) ∙ or-true (bytes_eq name l)

-- a name that is found from an index on is among the names
pub among_from : (name : Text) (i p : ℕ) (names : List Text) → place_from name i (drop i names) ≡ (p, true) → is_among names name ≡ true
among_from name i p names h = among_dropped name i names (among_found name i p (drop i names) h)

-- ---- the names of an object's members

pub names_are : (es : List Entry) → map string_bytes (keys_of es) ≡ names_of (members_view es)
names_are [] = refl
names_are (e ∷ es) = ap (λ names. string_bytes e.0 ∷ names) (names_are es)
