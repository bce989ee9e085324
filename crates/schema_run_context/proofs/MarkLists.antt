-- The marks of a run, the last one first.
use Rattle.std.proofs.Common.{◌≡◌, ◌∙◌, ◌&&◌, ◌++◌, ◌∷◌, ◌||◌, Bool, List, [], ap, arith, false, if◌then◌else◌, length, not, refl, sym, true}
use Rattle.std.specs.Prelude.{None, Option, Some, option_to_list}
use Rattle.std.proofs.lemmas.List.Folds.{list_any-append}
use Rattle.std.specs.List.{list_any}
use Rattle.theory_definitions.specs.Keywords as spec
use Rattle.theory_definitions.specs.Runs.{with_mark, without_last}
use Rattle.schema_traits.specs.KeywordViews.{marked_of}
use Rattle.schema_run_context.specs.MarkViews.{last_first}
use Rattle.schema_traits.specs.declared.keyword.Marked.{Marked}

-- one that is added comes first
pub last_is_first : (ms : List Marked) (m : Marked) → last_first (ms ++ m ∷ []) ≡ marked_of m ∷ last_first ms
last_is_first [] m = refl
last_is_first (x ∷ ms) m = ap (λ l. l ++ marked_of x ∷ []) (last_is_first ms m)

-- and is the one that is taken away
pub last_taken : (ms : List Marked) (m : Marked) → without_last (last_first (ms ++ m ∷ [])) ≡ last_first ms
last_taken ms m = ap without_last (last_is_first ms m)

or_swapped : (a b : Bool) → (a || b) ≡ (b || a)
or_swapped true true = refl
or_swapped true false = refl
or_swapped false true = refl
or_swapped false false = refl

or_nothing : (a : Bool) → (a || false) ≡ a
or_nothing true = refl
or_nothing false = refl

-- the order does not matter for whether one passes
pub any_last_first : (p : spec.Marked → Bool) (ms : List Marked) → list_any p (last_first ms) ≡ list_any (λ m. p (marked_of m)) ms
any_last_first p [] = refl
any_last_first p (m ∷ ms) = list_any-append p (last_first ms) (marked_of m ∷ [])
    ∙ or_swapped (list_any p (last_first ms)) (p (marked_of m) || false)
    ∙ ap (λ b. b || list_any p (last_first ms)) (or_nothing (p (marked_of m)))
    ∙ ap (λ b. p (marked_of m) || b) (any_last_first p ms)

-- ---- edges that are alike

pub numbers_differ : (x a b : Bool) → not x ≡ true → false ≡ (x && elim a [ true ↦ b | false ↦ not b ])
numbers_differ false a b e = refl
numbers_differ true a b e = absurd (cc e)

pub guarded_alike : (x a b : Bool) → not x ≡ false → a ≡ true → b ≡ (x && elim a [ true ↦ b | false ↦ not b ])
guarded_alike true true b e g = refl
guarded_alike true false b e g = absurd (cc g)
guarded_alike false a b e g = absurd (cc e)

pub open_alike : (x a b : Bool) → not x ≡ false → a ≡ false → not b ≡ (x && elim a [ true ↦ b | false ↦ not b ])
open_alike true false b e g = refl
open_alike true true b e g = absurd (cc g)
open_alike false a b e g = absurd (cc e)

-- ---- one that is added, where it is not there yet

pub kept_there : (same : spec.Marked → spec.Marked → Bool) (i : spec.Marked) (l : List spec.Marked) → list_any (same i) l ≡ true → l ≡ with_mark same i l
kept_there same i l e = go (list_any (same i) l) e
  where
    go : (b : Bool) → b ≡ true → l ≡ (if b then l else i ∷ l)
    go true h = refl
    go false h = absurd (cc h)

pub added_new : (same : spec.Marked → spec.Marked → Bool) (i : spec.Marked) (l : List spec.Marked) → list_any (same i) l ≡ false → i ∷ l ≡ with_mark same i l
added_new same i l e = go (list_any (same i) l) e
  where
    go : (b : Bool) → b ≡ false → i ∷ l ≡ (if b then l else i ∷ l)
    go false h = refl
    go true h = absurd (cc h)

-- ---- one that is taken away

pub left_marks : (old new : List Marked) (o : Option Marked) → old ≡ new ++ option_to_list o → (o ≡ None → length new ≡ 0) → last_first new ≡ without_last (last_first old)
left_marks old new (Some m) h empty = sym (ap (λ l. without_last (last_first l)) h ∙ last_taken new m)
left_marks old [] None h empty = sym (ap (λ l. without_last (last_first l)) h)
left_marks old (m ∷ ms) None h empty = absurd (omega (arith, empty refl))
