-- Only a custom vocabulary has to be declared.
use Rattle.std.proofs.Common.{◌≡◌, Bool, List, [], ◌∷◌, ◌++◌, ◌||◌, map, refl, ap}
use Rattle.std.specs.List.{list_any}
use Rattle.std.specs.Prelude.{flat_map}
use Rattle.theory_definitions.specs.Drafts.{Vocabularies, custom_vocabulary, core_vocabulary, applicator_vocabulary, unevaluated_vocabulary, validation_vocabulary, metadata_vocabulary, format_vocabulary, format_annotation_vocabulary, format_assertion_vocabulary, content_vocabulary}
use Rattle.theory_definitions.specs.VocabularySets.{custom_of}
use Rattle.theory_definitions.specs.Parts.{Parts}
use Rattle.theory_meaning.specs.Refusals.{Cause, undeclared}

module _ {S K R : Type 0} (w : Parts S K R) where
  pub of_custom : (vs : Vocabularies) → flat_map (undeclared w) vs ≡ flat_map (undeclared w) (map custom_vocabulary (custom_of vs))
  of_custom [] = refl
  of_custom (custom_vocabulary uri ∷ vs) = ap (λ (cs : List Cause). undeclared w (custom_vocabulary uri) ++ cs) (of_custom vs)
  of_custom (core_vocabulary ∷ vs) = of_custom vs
  of_custom (applicator_vocabulary ∷ vs) = of_custom vs
  of_custom (unevaluated_vocabulary ∷ vs) = of_custom vs
  of_custom (validation_vocabulary ∷ vs) = of_custom vs
  of_custom (metadata_vocabulary ∷ vs) = of_custom vs
  of_custom (format_vocabulary ∷ vs) = of_custom vs
  of_custom (format_annotation_vocabulary ∷ vs) = of_custom vs
  of_custom (format_assertion_vocabulary ∷ vs) = of_custom vs
  of_custom (content_vocabulary ∷ vs) = of_custom vs

-- a test of what is mapped
pub any_mapped : {A B : Type 0} (p : B → Bool) (f : A → B) (xs : List A) → list_any (λ x. p (f x)) xs ≡ list_any p (map f xs)
any_mapped p f [] = refl
any_mapped p f (x ∷ xs) = ap (λ b. p (f x) || b) (any_mapped p f xs)
