-- Errors that are stamped in place: element by element, and not at all if there is nothing to
-- stamp.
use Rattle.std.proofs.Common.{◌≡◌, ℕ, zero, suc, ◌+◌, ◌<◌, ◌≤◌, List, [], ◌∷◌, ◌++◌, length, get_or, map, take, drop, set, refl, sym, ◌∙◌, ap, subst, arith, add-one, option_map, false, true≢false}
use Rattle.std.specs.Prelude.{Option, Some, None, is_some}
use Rattle.theory_definitions.specs.Instance.{Text}
use Rattle.theory_definitions.specs.Keywords.{Reply}
use Rattle.theory_definitions.specs.Meaning.{stamped}
use Rattle.theory_definitions.specs.Reports.{Error, Outcome}
use Rattle.theory_definitions.specs.Plan.{encoded}
use Rattle.theory_definitions.specs.Pointer.{joined}
use Rattle.schema_run_steps.specs.ReplyModes.{Stamps, reply_by}
use Rattle.schema_node_table.specs.NodeTable.{NodeEntry, keyword_absolute}

-- an element is written, and is what the function makes of it
written : {A C : Type 0} (e : A → C) (f : C → C) (xs : List A) (i : ℕ) (x y : A) → i < length xs → y ≡ get_or xs i y → e x ≡ f (e y)
    → map e (take (suc i) (set xs i x)) ++ map f (map e (drop (suc i) (set xs i x))) ≡ map e (take i xs) ++ map f (map e (drop i xs))
written e f [] i x y h is w = absurd (omega arith)
written e f (z ∷ zs) zero x y h is w = ap (λ c. c ∷ map f (map e zs)) (w ∙ ap (λ a. f (e a)) is)
written {C = C} e f (z ∷ zs) (suc i) x y h is w = ap (λ (cs : List C). e z ∷ cs) (written e f zs i x y (omega arith) is w)

pub one_written : {A C : Type 0} (e : A → C) (f : C → C) (xs : List A) (i : ℕ) (x y : A) → i < length xs → y ≡ get_or xs i y → e x ≡ f (e y)
    → map e (take (i + 1) (set xs i x)) ++ map f (map e (drop (i + 1) (set xs i x))) ≡ map e (take i xs) ++ map f (map e (drop i xs))
one_written e f xs i x y h is w = rw add-one (written e f xs i x y h is w)

-- all of them are written
pub all_written : {A C : Type 0} (e : A → C) (f : C → C) (xs : List A) (i : ℕ) → length xs ≤ i → map e (take i xs) ++ map f (map e (drop i xs)) ≡ map e xs
all_written e f [] zero h = refl
all_written e f [] (suc i) h = refl
all_written e f (z ∷ zs) zero h = absurd (omega arith)
all_written {C = C} e f (z ∷ zs) (suc i) h = ap (λ (cs : List C). e z ∷ cs) (all_written e f zs i (omega arith))

-- the elements of a list once its borrow has ended
pub written_back : {A : Type 0} (n : ℕ) (new old : List A) → length new ≡ length old → length old ≤ n → take n (new ++ drop (length new) old) ≡ new
written_back zero [] [] e l = refl
written_back (suc n) [] [] e l = refl
written_back n [] (y ∷ old) e l = absurd (omega (arith, e))
written_back n (x ∷ new) [] e l = absurd (omega (arith, e))
written_back zero (x ∷ new) (y ∷ old) e l = absurd (omega arith)
written_back {A = A} (suc n) (x ∷ new) (y ∷ old) e l = ap (λ (xs : List A). x ∷ xs) (written_back n new old (omega (arith, e)) (omega arith))

-- ---- without a location nothing is stamped

same_error : (e : Error) → stamped None e ≡ e
same_error e = ap (λ a. record e { absolute = a }) (go e.absolute)
  where
    go : {T : Type 0} (a : Option T) → elim a [ None ↦ None | Some x ↦ Some x ] ≡ a
    go None = refl
    go (Some x) = refl

same_errors : (es : List Error) → map (stamped None) es ≡ es
same_errors [] = refl
same_errors (e ∷ es) = ap (λ x. x ∷ map (stamped None) es) (same_error e) ∙ ap (λ (xs : List Error). e ∷ xs) (same_errors es)

same_outcome : (o : Outcome) → o ≡ record { verdict = o.verdict; errors = map (stamped None) o.errors; spans = o.spans }
same_outcome o = ap (λ es. record { verdict = o.verdict; errors = es; spans = o.spans }) (sym (same_errors o.errors))

pub stays_none : {T U : Type 0} (f : T → U) (o : Option T) → is_some o ≡ false → option_map f o ≡ None
stays_none f None h = refl
stays_none f (Some x) h = absurd (true≢false h)

pub stamps_nothing : {K : Type 0} (n : NodeEntry K) (name : Text) (r : Reply) → n.base ≡ None → Stamps (keyword_absolute n name) r r
stamps_nothing n name r h = λ mode o a.
    let none : keyword_absolute n name ≡ None = ap (option_map (λ base. base ++ (35 ∷ encoded (drop n.start (joined n.location name))))) h in
    a ∙ ap (reply_by mode) (subst (λ l. o ≡ record { verdict = o.verdict; errors = map (stamped l) o.errors; spans = o.spans }) (sym none) (same_outcome o))
