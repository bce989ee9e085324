-- The faults of an answer, and the first of them.
use Rattle.std.proofs.Common.{◌≡◌, ◌∙◌, Bool, List, [], ◌∷◌, map, refl, ap, subst, arith}
use Rattle.std.specs.Prelude.{Some, None, slice_get, All}
use Rattle.theory_definitions.specs.Instance.{Text}
use Rattle.theory_definitions.specs.Reports.{Error}
use Rattle.theory_definitions.specs.Meaning.{Where, fault_error}
use Rattle.theory_definitions.specs.Runs.{first_error}
use Rattle.schema_traits.specs.KeywordViews.{answer_of, fault_of}
use Rattle.schema_traits.specs.FaultViews.{faults_in}
use Rattle.schema_traits.specs.declared.keyword.Fault.{Fault}
use Rattle.schema_traits.specs.declared.keyword.Answer.{Answer}
use Rattle.schema_traits.specs.declared.keyword.Answer.TheVariants as answer

pub errors_of_faults : (texts : Bool) (a : Answer) → (answer_of texts a).errors ≡ map (fault_of texts) (faults_in a)
errors_of_faults texts (answer.Verdict b) = refl
errors_of_faults texts (answer.First None) = refl
errors_of_faults texts (answer.First (Some f)) = refl
errors_of_faults texts (answer.All fs) = refl
errors_of_faults texts (answer.Evaluation b) = refl

first_of : {A : Type 0} (F : A → Error) (fs : List A) (f : A) → Some f ≡ slice_get fs 0 → first_error (map F fs) ≡ Some (F f)
first_of F [] f h = absurd (let q : ⊥ = cc in q)
first_of F (g ∷ fs) f h = let e : g ≡ f = cc in ap (λ x. Some (F x)) e

map-map : {A B C : Type 0} (f : B → C) (g : A → B) (xs : List A) → map f (map g xs) ≡ map (λ x. f (g x)) xs
map-map f g [] = refl
map-map {C = C} f g (x ∷ xs) = ap (λ (ys : List C). f (g x) ∷ ys) (map-map f g xs)

-- the first error is made of the first fault
pub first_made : (texts : Bool) (w : Where) (name : Text) (a : Answer) (f : Fault) → Some f ≡ slice_get (faults_in a) 0
    → first_error (map (fault_error w name) (answer_of texts a).errors) ≡ Some (fault_error w name (fault_of texts f))
first_made texts w name a f h =
    ap (λ fs. first_error (map (fault_error w name) fs)) (errors_of_faults texts a)
    ∙ ap first_error (map-map (fault_error w name) (fault_of texts) (faults_in a))
    ∙ first_of (λ x. fault_error w name (fault_of texts x)) (faults_in a) f h

pub first_holds : {A : Type 0} (P : A → Type 0) (fs : List A) (f : A) → Some f ≡ slice_get fs 0 → All P fs → P f
first_holds P [] f h each = absurd (let q : ⊥ = cc in q)
first_holds P (g ∷ fs) f h each = let e : g ≡ f = cc in subst P e (each 0 g (omega arith))
