-- Lists of errors that are made one by one, and facts about a result that is there.
use Rattle.std.proofs.Common.{◌≡◌, zero, suc, List, [], ◌∷◌, ◌++◌, map, refl, sym, ◌∙◌, ap, arith, IfOk, Ok, Err, Result}
use Rattle.std.specs.Prelude.{All, Option, Some, None, option_and_then}
use Rattle.serde_json.specs.Data.{Data}
use Rattle.theory_definitions.specs.Instance.{Place, Subject, a_value, after_step, subject_at, subject_from}
use Rattle.std.proofs.lemmas.List.Elements.{All-append}

pub if_ok_mono : {T E : Type 0} (r : Result T E) (P Q : T → Type 0) → ((x : T) → P x → Q x) → IfOk r P → IfOk r Q
if_ok_mono (Ok x) P Q f h = f x h
if_ok_mono (Err e) P Q f h = tt

pub if_ok_both : {T E : Type 0} (r : Result T E) (P Q Z : T → Type 0) → ((x : T) → P x → Q x → Z x) → IfOk r P → IfOk r Q → IfOk r Z
if_ok_both (Ok x) P Q Z f h k = f x h k
if_ok_both (Err e) P Q Z f h k = tt

-- one more element, made from the first of those that are left
pub made_more : {A B B' C : Type 0} (f : A → C) (g : B' → C) (h : B → B') (done now : List A) (x : A) (y : B) (left old : List B) (all : List C)
    → now ≡ done ++ x ∷ [] → old ≡ y ∷ left → f x ≡ g (h y) → map f done ++ map g (map h old) ≡ all → map f now ++ map g (map h left) ≡ all
made_more {A = A} {B = B} {C = C} f g h done now x y left old all n o e q = ap (λ xs. map f xs ++ map g (map h left)) n ∙ go done all (ap (λ ys. map f done ++ map g (map h ys)) (sym o) ∙ q)
  where
    go : (done : List A) (all : List C) → map f done ++ map g (map h (y ∷ left)) ≡ all → map f (done ++ x ∷ []) ++ map g (map h left) ≡ all
    go [] all r = ap (λ c. c ∷ map g (map h left)) e ∙ r
    go (z ∷ done) all r = ap (λ (cs : List C). f z ∷ cs) (go done (map f done ++ map g (map h (y ∷ left))) refl) ∙ r

pub all_pushed : {A : Type 0} (P : A → Type 0) (xs : List A) (x : A) → All P xs → P x → All P (xs ++ x ∷ [])
all_pushed {A = A} P xs x h k = All-append P xs (x ∷ []) h (one x k)
  where
    one : (x : A) → P x → All P (x ∷ [])
    one x k zero d l = k
    one x k (suc i) d l = absurd (omega arith)

pub all_first : {A : Type 0} (P : A → Type 0) (x : A) (xs : List A) → All P (x ∷ xs) → P x
all_first P x xs h = h 0 x (omega arith)

pub all_rest : {A : Type 0} (P : A → Type 0) (x : A) (xs : List A) → All P (x ∷ xs) → All P xs
all_rest P x xs h = λ i d l. h (suc i) d (omega arith)

-- the subject at a path that consists of two
pub from_append : (p q : Place) (x : Subject) → subject_from (p ++ q) x ≡ option_and_then (subject_from q) (subject_from p x)
from_append [] q x = refl
from_append (t ∷ p) q x = go (after_step t x) (from_append p q)
  where
    go : (o : Option Subject) → ((y : Subject) → subject_from (p ++ q) y ≡ option_and_then (subject_from q) (subject_from p y))
        → option_and_then (subject_from (p ++ q)) o ≡ option_and_then (subject_from q) (option_and_then (subject_from p) o)
    go None f = refl
    go (Some y) f = f y

pub stands_below : (root : Data) (p q r : Place) (s t : Subject) → r ≡ p ++ q → subject_at root p ≡ Some s → subject_from q s ≡ Some t → subject_at root r ≡ Some t
stands_below root p q r s t e f g = ap (subject_at root) e ∙ from_append p q (a_value root) ∙ ap (option_and_then (subject_from q)) f ∙ g

pub if_ok_always : {T E : Type 0} (r : Result T E) (P : Type 0) → P → IfOk r (λ x. P)
if_ok_always (Ok x) P h = h
if_ok_always (Err e) P h = tt
