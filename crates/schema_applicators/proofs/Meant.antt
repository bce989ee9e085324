-- The keywords mean what the definitions of the five say.
use Rattle.std.proofs.Common.{◌≡◌, ◌∙◌, ℕ, zero, suc, ◌<◌, ◌⊎◌, ◌++◌, ◌∷◌, ◌&&◌, [], List, Bool, true, false, Option, Some, None, ap, arith, inl, inr, map, min, refl, sym}
use Rattle.std.specs.List.{list_all}
use Rattle.std.specs.Prelude.{◌↔◌, flat_map, option_map}
use Rattle.std.proofs.lemmas.List.{append-nil, map-append}
use Rattle.std.proofs.lemmas.List.Elements.{All-cons, All-head, All-nil, All-tail}
use Rattle.theory_definitions.specs.Instance.{Text}
use Rattle.theory_definitions.specs.Keywords.{Answers, Question, own, passed}
use Rattle.schema_traits.specs.KeywordViews.{is_nil, option_list}
use Rattle.keyword_authoring.specs.Items.{child_here}
use Rattle.keyword_authoring.specs.Tallies.{counted, yes_count}
use Rattle.keyword_authoring.specs.Ways.{branch, plain}
use Rattle.schema_applicators.specs.AllOf.{AllAccept, all_errors}
use Rattle.schema_applicators.specs.AnyOf.{OneAccepts}
use Rattle.schema_applicators.specs.If.{branch_accepts, branch_errors, picked}
use Rattle.schema_applicators.specs.Not.{Refuses}
use Rattle.schema_applicators.specs.OneOf.{OneAcceptsAlone}
use Rattle.schema_applicators.specs.OwnErrors.{OneUnless}
use Rattle.schema_applicators.specs.Words.{if_any, if_none, unless_one}
use Rattle.schema_applicators.proofs.Counting.{alone_counted, counted_alone, counted_some, some_counted, yes_trues}

-- ---- `allOf`

both : (a b : Bool) → a ≡ true → b ≡ true → (a && b) ≡ true
both true b h k = k
both false b h k = cc

first_of : (a b : Bool) → (a && b) ≡ true → a ≡ true
first_of true b h = refl
first_of false b h = cc

second_of : (a b : Bool) → (a && b) ≡ true → b ≡ true
second_of true b h = h
second_of false b h = cc

module _ (accepts : Question → Bool) where
  all_accept : (qs : List Question) → list_all accepts qs ≡ true → AllAccept (map accepts qs)
  all_accept [] h = All-nil _
  all_accept (q ∷ qs) h = All-cons (λ a. a ≡ true) (accepts q) (map accepts qs) (first_of (accepts q) _ h) (all_accept qs (second_of (accepts q) _ h))

  accept_all : (qs : List Question) → AllAccept (map accepts qs) → list_all accepts qs ≡ true
  accept_all [] h = refl
  accept_all (q ∷ qs) h = both (accepts q) _ (All-head (λ a. a ≡ true) (accepts q) (map accepts qs) h) (accept_all qs (All-tail (λ a. a ≡ true) (accepts q) (map accepts qs) h))

  pub all_of_holds : (qs : List Question) → (list_all accepts qs ≡ true) ↔ AllAccept (map accepts qs)
  all_of_holds qs = (all_accept qs, accept_all qs)

pub all_of_faults : (answers : Answers) (qs : List Question)
    → flat_map (λ q. map passed (answers q).errors) qs ≡ map passed (all_errors (map (λ q. (answers q).errors) qs))
all_of_faults answers [] = refl
all_of_faults answers (q ∷ qs) = ap (λ l. map passed (answers q).errors ++ l) (all_of_faults answers qs)
    ∙ sym (map-append passed (answers q).errors (all_errors (map (λ q. (answers q).errors) qs)))

-- ---- the errors by the number of schemas that accept

-- There is at most one error, which is reported unless the keyword holds.
pub own_unless : (Holds : Type 0) (name : Text) (ts : List Text) → (is_nil ts ≡ true) ↔ Holds → (ts ≡ []) ⊎ ((text : Text) × (ts ≡ text ∷ []))
    → OneUnless Holds name (map (λ x. own (plain name x)) ts)
own_unless Holds name ts tells (inl none) = record {
  none = λ h. ap (map (λ x. own (plain name x))) none;
  one = λ refuses. absurd (refuses (tells.0 (ap is_nil none)));
}
own_unless Holds name ts tells (inr some) = record {
  none = λ h. let wrong : true ≡ false = sym (tells.1 h) ∙ ap is_nil some.1 in absurd (cc wrong);
  one = λ refuses. (some.0, ap (map (λ x. own (plain name x))) some.1);
}

-- ---- `anyOf`

if_none-tells : (text : Text) (n : ℕ) → (is_nil (if_none text (min 1 n)) ≡ true) ↔ (0 < n)
if_none-tells text zero = ((λ h. cc h), (λ h. absurd (omega (arith, h))))
if_none-tells text (suc n) = let least : min 1 (suc n) ≡ 1 = omega arith in ((λ h. omega arith), (λ h. ap (λ k. is_nil (if_none text k)) least))

pub if_none-one : (text : Text) (n : ℕ) → (if_none text n ≡ []) ⊎ ((t : Text) × (if_none text n ≡ t ∷ []))
if_none-one text zero = inr (text, refl)
if_none-one text (suc n) = inl refl

pub any_of_holds : (text : Text) (accepts : Question → Bool) (qs : List Question)
    → (is_nil (if_none text (min 1 (yes_count accepts qs))) ≡ true) ↔ OneAccepts (map accepts qs)
any_of_holds text accepts qs =
    let count = yes_trues accepts qs in
    let tells = if_none-tells text (yes_count accepts qs) in
    ((λ h. let some = tells.0 h in counted_some (map accepts qs) (omega arith)), (λ h. let some = some_counted (map accepts qs) h in tells.1 (omega arith)))

-- ---- `oneOf`

unless_one-tells : (none many : Text) (n : ℕ) → (is_nil (unless_one none many (min 2 n)) ≡ true) ↔ (n ≡ 1)
unless_one-tells none many zero = ((λ h. cc h), (λ h. absurd (omega (arith, h))))
unless_one-tells none many (suc zero) = ((λ h. refl), (λ h. refl))
unless_one-tells none many (suc (suc n)) =
    let least : min 2 (suc (suc n)) ≡ 2 = omega arith in
    let told : false ≡ is_nil (unless_one none many (min 2 (suc (suc n)))) = sym (ap (λ k. is_nil (unless_one none many k)) least) in
    ((λ h. let wrong : false ≡ true = told ∙ h in absurd (cc wrong)), (λ h. absurd (omega (arith, h))))

pub unless_one-one : (none many : Text) (n : ℕ) → (unless_one none many n ≡ []) ⊎ ((t : Text) × (unless_one none many n ≡ t ∷ []))
unless_one-one none many zero = inr (none, refl)
unless_one-one none many (suc zero) = inl refl
unless_one-one none many (suc (suc n)) = inr (many, refl)

pub one_of_holds : (none many : Text) (accepts : Question → Bool) (qs : List Question)
    → (is_nil (unless_one none many (min 2 (yes_count accepts qs))) ≡ true) ↔ OneAcceptsAlone (map accepts qs)
one_of_holds none many accepts qs =
    let count = yes_trues accepts qs in
    let tells = unless_one-tells none many (yes_count accepts qs) in
    ((λ h. let one = tells.0 h in counted_alone (map accepts qs) (omega arith)), (λ h. let one = alone_counted (map accepts qs) h in tells.1 (omega arith)))

-- ---- `not`

pub if_any-one : (text : Text) (n : ℕ) → (if_any text n ≡ []) ⊎ ((t : Text) × (if_any text n ≡ t ∷ []))
if_any-one text zero = inl refl
if_any-one text (suc n) = inr (text, refl)

not_tells : (text : Text) (b : Bool) → (is_nil (if_any text (min 1 (counted b 0))) ≡ true) ↔ Refuses b
not_tells text true = ((λ h. cc h), (λ h. cc h))
not_tells text false = ((λ h. refl), (λ h. refl))

pub not_holds : (text : Text) (accepts : Question → Bool) (q : Question)
    → (is_nil (if_any text (min 1 (yes_count accepts (q ∷ [])))) ≡ true) ↔ Refuses (accepts q)
not_holds text accepts q = not_tells text (accepts q)

-- ---- `if`

module _ (accepts : Question → Bool) where
  one_asked : (o : Option ℕ) → list_all accepts (option_list (option_map child_here o)) ≡ branch_accepts (option_map (λ i. accepts (child_here i)) o)
  one_asked None = refl
  one_asked (Some i) = alone (accepts (child_here i))
    where
      alone : (b : Bool) → (b && true) ≡ b
      alone true = refl
      alone false = refl

  pub if_holds : (b : Bool) (under_then under_else : Option ℕ) → list_all accepts (branch b (option_map child_here under_then) (option_map child_here under_else))
      ≡ branch_accepts (picked b (option_map (λ i. accepts (child_here i)) under_then) (option_map (λ i. accepts (child_here i)) under_else))
  if_holds true under_then under_else = one_asked under_then
  if_holds false under_then under_else = one_asked under_else

module _ (answers : Answers) where
  one_passed : (o : Option ℕ) → flat_map (λ q. map passed (answers q).errors) (option_list (option_map child_here o))
      ≡ map passed (branch_errors (option_map (λ i. (answers (child_here i)).errors) o))
  one_passed None = refl
  one_passed (Some i) = append-nil (map passed (answers (child_here i)).errors)

  pub if_faults : (b : Bool) (under_then under_else : Option ℕ)
      → flat_map (λ q. map passed (answers q).errors) (branch b (option_map child_here under_then) (option_map child_here under_else))
      ≡ map passed (branch_errors (picked b (option_map (λ i. (answers (child_here i)).errors) under_then) (option_map (λ i. (answers (child_here i)).errors) under_else)))
  if_faults true under_then under_else = one_passed under_then
  if_faults false under_then under_else = one_passed under_else
