-- Lists of vocabularies that are the same are equal, and the lists of two sets are the same if and
-- only if their flags and URIs are.
use Rattle.std.proofs.Common.{ap, ap₂, sym, true≢false, ◌∙◌}
use Rattle.std.proofs.lemmas.Slice.Eq.{bytes_eq-Decides, slice_eq-Decides}
use Rattle.std.proofs.Math.Bool.{beq}
use Rattle.std.specs.Cmp.{booleans_Decides}
use Rattle.std.specs.Cmp.Lexicographic.{pointwise}
use Rattle.std.specs.Prelude.{Bool, Decides, List, [], bytes_eq, false, refl, true, ◌&&◌, ◌↔◌, ◌∷◌, ◌≡◌}
use Rattle.theory_definitions.specs.Instance.{Text}
use Rattle.theory_definitions.specs.Drafts.{Vocabularies, Vocabulary, applicator_vocabulary, content_vocabulary, core_vocabulary, custom_vocabulary, format_annotation_vocabulary, format_assertion_vocabulary, format_vocabulary, has_vocabulary, metadata_vocabulary, same_vocabularies, same_vocabulary, unevaluated_vocabulary, validation_vocabulary}
use Rattle.theory_definitions.specs.VocabularySets.{HoldSame, custom_of, is_rising, listed}
use Rattle.theory_definitions.proofs.Products.{both_left, both_right}
use Rattle.theory_definitions.proofs.VocabularyLists.{custom_of-listed, has_applicator, has_content, has_core, has_format, has_format_annotation, has_format_assertion, has_metadata, has_other, has_unevaluated, has_validation}
use Rattle.theory_definitions.proofs.RisingTexts.{rising_one}

vocabulary_itself : (v : Vocabulary) → same_vocabulary v v ≡ true
vocabulary_itself core_vocabulary = refl
vocabulary_itself applicator_vocabulary = refl
vocabulary_itself unevaluated_vocabulary = refl
vocabulary_itself validation_vocabulary = refl
vocabulary_itself metadata_vocabulary = refl
vocabulary_itself format_vocabulary = refl
vocabulary_itself format_annotation_vocabulary = refl
vocabulary_itself format_assertion_vocabulary = refl
vocabulary_itself content_vocabulary = refl
vocabulary_itself (custom_vocabulary t) = (bytes_eq-Decides t t).1 refl

pub vocabularies_itself : (ts : Vocabularies) → same_vocabularies ts ts ≡ true
vocabularies_itself [] = refl
vocabularies_itself (t ∷ ts) = rw (vocabulary_itself t) (vocabularies_itself ts)

abbrev VocabularyIs : Vocabulary → Vocabulary → Type 0
VocabularyIs a b = same_vocabulary a b ≡ true → a ≡ b

vocabulary_is : (a b : Vocabulary) → VocabularyIs a b
vocabulary_is core_vocabulary b = elim b as (λ b. VocabularyIs core_vocabulary b) [ core_vocabulary ↦ λ e. refl | applicator_vocabulary ↦ λ e. absurd (true≢false (sym e)) | unevaluated_vocabulary ↦ λ e. absurd (true≢false (sym e)) | validation_vocabulary ↦ λ e. absurd (true≢false (sym e)) | metadata_vocabulary ↦ λ e. absurd (true≢false (sym e)) | format_vocabulary ↦ λ e. absurd (true≢false (sym e)) | format_annotation_vocabulary ↦ λ e. absurd (true≢false (sym e)) | format_assertion_vocabulary ↦ λ e. absurd (true≢false (sym e)) | content_vocabulary ↦ λ e. absurd (true≢false (sym e)) | custom_vocabulary u ↦ λ e. absurd (true≢false (sym e)) ]
vocabulary_is applicator_vocabulary b = elim b as (λ b. VocabularyIs applicator_vocabulary b) [ core_vocabulary ↦ λ e. absurd (true≢false (sym e)) | applicator_vocabulary ↦ λ e. refl | unevaluated_vocabulary ↦ λ e. absurd (true≢false (sym e)) | validation_vocabulary ↦ λ e. absurd (true≢false (sym e)) | metadata_vocabulary ↦ λ e. absurd (true≢false (sym e)) | format_vocabulary ↦ λ e. absurd (true≢false (sym e)) | format_annotation_vocabulary ↦ λ e. absurd (true≢false (sym e)) | format_assertion_vocabulary ↦ λ e. absurd (true≢false (sym e)) | content_vocabulary ↦ λ e. absurd (true≢false (sym e)) | custom_vocabulary u ↦ λ e. absurd (true≢false (sym e)) ]
vocabulary_is unevaluated_vocabulary b = elim b as (λ b. VocabularyIs unevaluated_vocabulary b) [ core_vocabulary ↦ λ e. absurd (true≢false (sym e)) | applicator_vocabulary ↦ λ e. absurd (true≢false (sym e)) | unevaluated_vocabulary ↦ λ e. refl | validation_vocabulary ↦ λ e. absurd (true≢false (sym e)) | metadata_vocabulary ↦ λ e. absurd (true≢false (sym e)) | format_vocabulary ↦ λ e. absurd (true≢false (sym e)) | format_annotation_vocabulary ↦ λ e. absurd (true≢false (sym e)) | format_assertion_vocabulary ↦ λ e. absurd (true≢false (sym e)) | content_vocabulary ↦ λ e. absurd (true≢false (sym e)) | custom_vocabulary u ↦ λ e. absurd (true≢false (sym e)) ]
vocabulary_is validation_vocabulary b = elim b as (λ b. VocabularyIs validation_vocabulary b) [ core_vocabulary ↦ λ e. absurd (true≢false (sym e)) | applicator_vocabulary ↦ λ e. absurd (true≢false (sym e)) | unevaluated_vocabulary ↦ λ e. absurd (true≢false (sym e)) | validation_vocabulary ↦ λ e. refl | metadata_vocabulary ↦ λ e. absurd (true≢false (sym e)) | format_vocabulary ↦ λ e. absurd (true≢false (sym e)) | format_annotation_vocabulary ↦ λ e. absurd (true≢false (sym e)) | format_assertion_vocabulary ↦ λ e. absurd (true≢false (sym e)) | content_vocabulary ↦ λ e. absurd (true≢false (sym e)) | custom_vocabulary u ↦ λ e. absurd (true≢false (sym e)) ]
vocabulary_is metadata_vocabulary b = elim b as (λ b. VocabularyIs metadata_vocabulary b) [ core_vocabulary ↦ λ e. absurd (true≢false (sym e)) | applicator_vocabulary ↦ λ e. absurd (true≢false (sym e)) | unevaluated_vocabulary ↦ λ e. absurd (true≢false (sym e)) | validation_vocabulary ↦ λ e. absurd (true≢false (sym e)) | metadata_vocabulary ↦ λ e. refl | format_vocabulary ↦ λ e. absurd (true≢false (sym e)) | format_annotation_vocabulary ↦ λ e. absurd (true≢false (sym e)) | format_assertion_vocabulary ↦ λ e. absurd (true≢false (sym e)) | content_vocabulary ↦ λ e. absurd (true≢false (sym e)) | custom_vocabulary u ↦ λ e. absurd (true≢false (sym e)) ]
vocabulary_is format_vocabulary b = elim b as (λ b. VocabularyIs format_vocabulary b) [ core_vocabulary ↦ λ e. absurd (true≢false (sym e)) | applicator_vocabulary ↦ λ e. absurd (true≢false (sym e)) | unevaluated_vocabulary ↦ λ e. absurd (true≢false (sym e)) | validation_vocabulary ↦ λ e. absurd (true≢false (sym e)) | metadata_vocabulary ↦ λ e. absurd (true≢false (sym e)) | format_vocabulary ↦ λ e. refl | format_annotation_vocabulary ↦ λ e. absurd (true≢false (sym e)) | format_assertion_vocabulary ↦ λ e. absurd (true≢false (sym e)) | content_vocabulary ↦ λ e. absurd (true≢false (sym e)) | custom_vocabulary u ↦ λ e. absurd (true≢false (sym e)) ]
vocabulary_is format_annotation_vocabulary b = elim b as (λ b. VocabularyIs format_annotation_vocabulary b) [ core_vocabulary ↦ λ e. absurd (true≢false (sym e)) | applicator_vocabulary ↦ λ e. absurd (true≢false (sym e)) | unevaluated_vocabulary ↦ λ e. absurd (true≢false (sym e)) | validation_vocabulary ↦ λ e. absurd (true≢false (sym e)) | metadata_vocabulary ↦ λ e. absurd (true≢false (sym e)) | format_vocabulary ↦ λ e. absurd (true≢false (sym e)) | format_annotation_vocabulary ↦ λ e. refl | format_assertion_vocabulary ↦ λ e. absurd (true≢false (sym e)) | content_vocabulary ↦ λ e. absurd (true≢false (sym e)) | custom_vocabulary u ↦ λ e. absurd (true≢false (sym e)) ]
vocabulary_is format_assertion_vocabulary b = elim b as (λ b. VocabularyIs format_assertion_vocabulary b) [ core_vocabulary ↦ λ e. absurd (true≢false (sym e)) | applicator_vocabulary ↦ λ e. absurd (true≢false (sym e)) | unevaluated_vocabulary ↦ λ e. absurd (true≢false (sym e)) | validation_vocabulary ↦ λ e. absurd (true≢false (sym e)) | metadata_vocabulary ↦ λ e. absurd (true≢false (sym e)) | format_vocabulary ↦ λ e. absurd (true≢false (sym e)) | format_annotation_vocabulary ↦ λ e. absurd (true≢false (sym e)) | format_assertion_vocabulary ↦ λ e. refl | content_vocabulary ↦ λ e. absurd (true≢false (sym e)) | custom_vocabulary u ↦ λ e. absurd (true≢false (sym e)) ]
vocabulary_is content_vocabulary b = elim b as (λ b. VocabularyIs content_vocabulary b) [ core_vocabulary ↦ λ e. absurd (true≢false (sym e)) | applicator_vocabulary ↦ λ e. absurd (true≢false (sym e)) | unevaluated_vocabulary ↦ λ e. absurd (true≢false (sym e)) | validation_vocabulary ↦ λ e. absurd (true≢false (sym e)) | metadata_vocabulary ↦ λ e. absurd (true≢false (sym e)) | format_vocabulary ↦ λ e. absurd (true≢false (sym e)) | format_annotation_vocabulary ↦ λ e. absurd (true≢false (sym e)) | format_assertion_vocabulary ↦ λ e. absurd (true≢false (sym e)) | content_vocabulary ↦ λ e. refl | custom_vocabulary u ↦ λ e. absurd (true≢false (sym e)) ]
vocabulary_is (custom_vocabulary t) b = elim b as (λ b. VocabularyIs (custom_vocabulary t) b) [ core_vocabulary ↦ λ e. absurd (true≢false (sym e)) | applicator_vocabulary ↦ λ e. absurd (true≢false (sym e)) | unevaluated_vocabulary ↦ λ e. absurd (true≢false (sym e)) | validation_vocabulary ↦ λ e. absurd (true≢false (sym e)) | metadata_vocabulary ↦ λ e. absurd (true≢false (sym e)) | format_vocabulary ↦ λ e. absurd (true≢false (sym e)) | format_annotation_vocabulary ↦ λ e. absurd (true≢false (sym e)) | format_assertion_vocabulary ↦ λ e. absurd (true≢false (sym e)) | content_vocabulary ↦ λ e. absurd (true≢false (sym e)) | custom_vocabulary u ↦ λ e. ap custom_vocabulary ((bytes_eq-Decides t u).0 e) ]

pub vocabularies_is : (ts us : Vocabularies) → same_vocabularies ts us ≡ true → ts ≡ us
vocabularies_is [] [] e = refl
vocabularies_is (t ∷ ts) (u ∷ us) e = ap₂ (λ x xs. x ∷ xs) (vocabulary_is t u (both_left _ _ e)) (vocabularies_is ts us (both_right _ _ e))
vocabularies_is [] (u ∷ us) e = absurd (true≢false (sym e))
vocabularies_is (t ∷ ts) [] e = absurd (true≢false (sym e))

-- ---- the lists of sets

one_test : (r s : Bool) → (r ≡ true → s ≡ true) → (s ≡ true → r ≡ true) → r ≡ s
one_test true s f g = sym (f refl)
one_test false true f g = g refl
one_test false false f g = refl

flags_decide : (fs gs : List Bool) → Decides (pointwise beq fs gs) (fs ≡ gs)
flags_decide fs gs = slice_eq-Decides booleans_Decides fs gs (pointwise beq fs gs) refl

uris_decide : (us vs : List Text) → Decides (pointwise bytes_eq us vs) (us ≡ vs)
uris_decide us vs = slice_eq-Decides bytes_eq-Decides us vs (pointwise bytes_eq us vs) refl

uris_of : (fs gs : List Bool) (us vs : List Text) → listed fs us ≡ listed gs vs → us ≡ vs
uris_of fs gs us vs same = sym (custom_of-listed fs us) ∙ ap custom_of same ∙ custom_of-listed gs vs

module _ (a b d e f g h i j : Bool) (us : List Text) (a' b' d' e' f' g' h' i' j' : Bool) (vs : List Text) where
  flags_of : listed (a ∷ b ∷ d ∷ e ∷ f ∷ g ∷ h ∷ i ∷ j ∷ []) us ≡ listed (a' ∷ b' ∷ d' ∷ e' ∷ f' ∷ g' ∷ h' ∷ i' ∷ j' ∷ []) vs → (a ∷ b ∷ d ∷ e ∷ f ∷ g ∷ h ∷ i ∷ j ∷ []) ≡ (a' ∷ b' ∷ d' ∷ e' ∷ f' ∷ g' ∷ h' ∷ i' ∷ j' ∷ [])
  flags_of same = λ k. (sym (has_core a b d e f g h i j us) ∙ ap (λ (s : Vocabularies). has_vocabulary s core_vocabulary) same ∙ has_core a' b' d' e' f' g' h' i' j' vs) k ∷ (sym (has_applicator a b d e f g h i j us) ∙ ap (λ (s : Vocabularies). has_vocabulary s applicator_vocabulary) same ∙ has_applicator a' b' d' e' f' g' h' i' j' vs) k ∷ (sym (has_unevaluated a b d e f g h i j us) ∙ ap (λ (s : Vocabularies). has_vocabulary s unevaluated_vocabulary) same ∙ has_unevaluated a' b' d' e' f' g' h' i' j' vs) k ∷ (sym (has_validation a b d e f g h i j us) ∙ ap (λ (s : Vocabularies). has_vocabulary s validation_vocabulary) same ∙ has_validation a' b' d' e' f' g' h' i' j' vs) k ∷ (sym (has_metadata a b d e f g h i j us) ∙ ap (λ (s : Vocabularies). has_vocabulary s metadata_vocabulary) same ∙ has_metadata a' b' d' e' f' g' h' i' j' vs) k ∷ (sym (has_format a b d e f g h i j us) ∙ ap (λ (s : Vocabularies). has_vocabulary s format_vocabulary) same ∙ has_format a' b' d' e' f' g' h' i' j' vs) k ∷ (sym (has_format_annotation a b d e f g h i j us) ∙ ap (λ (s : Vocabularies). has_vocabulary s format_annotation_vocabulary) same ∙ has_format_annotation a' b' d' e' f' g' h' i' j' vs) k ∷ (sym (has_format_assertion a b d e f g h i j us) ∙ ap (λ (s : Vocabularies). has_vocabulary s format_assertion_vocabulary) same ∙ has_format_assertion a' b' d' e' f' g' h' i' j' vs) k ∷ (sym (has_content a b d e f g h i j us) ∙ ap (λ (s : Vocabularies). has_vocabulary s content_vocabulary) same ∙ has_content a' b' d' e' f' g' h' i' j' vs) k ∷ []

  pub same_listed : same_vocabularies (listed (a ∷ b ∷ d ∷ e ∷ f ∷ g ∷ h ∷ i ∷ j ∷ []) us) (listed (a' ∷ b' ∷ d' ∷ e' ∷ f' ∷ g' ∷ h' ∷ i' ∷ j' ∷ []) vs) ≡ (pointwise beq (a ∷ b ∷ d ∷ e ∷ f ∷ g ∷ h ∷ i ∷ j ∷ []) (a' ∷ b' ∷ d' ∷ e' ∷ f' ∷ g' ∷ h' ∷ i' ∷ j' ∷ []) && pointwise bytes_eq us vs)
  same_listed =
      let fs : List Bool = a ∷ b ∷ d ∷ e ∷ f ∷ g ∷ h ∷ i ∷ j ∷ [] in
      let gs : List Bool = a' ∷ b' ∷ d' ∷ e' ∷ f' ∷ g' ∷ h' ∷ i' ∷ j' ∷ [] in
      one_test (same_vocabularies (listed fs us) (listed gs vs)) (pointwise beq fs gs && pointwise bytes_eq us vs)
      (λ h. let same : listed fs us ≡ listed gs vs = vocabularies_is (listed fs us) (listed gs vs) h in
      rw ((flags_decide fs gs).1 (flags_of same)) ((uris_decide us vs).1 (uris_of fs gs us vs same)))
      (λ h. let flags : fs ≡ gs = (flags_decide fs gs).0 (both_left _ _ h) in
      let uris : us ≡ vs = (uris_decide us vs).0 (both_right _ _ h) in
      let equal : listed fs us ≡ listed gs vs = ap₂ listed flags uris in
      rw equal (vocabularies_itself (listed gs vs)))

  -- ---- sets that contain the same vocabularies are equal

  flags_held : HoldSame (listed (a ∷ b ∷ d ∷ e ∷ f ∷ g ∷ h ∷ i ∷ j ∷ []) us) (listed (a' ∷ b' ∷ d' ∷ e' ∷ f' ∷ g' ∷ h' ∷ i' ∷ j' ∷ []) vs) → (a ∷ b ∷ d ∷ e ∷ f ∷ g ∷ h ∷ i ∷ j ∷ []) ≡ (a' ∷ b' ∷ d' ∷ e' ∷ f' ∷ g' ∷ h' ∷ i' ∷ j' ∷ [])
  flags_held same = λ k. (sym (has_core a b d e f g h i j us) ∙ same core_vocabulary ∙ has_core a' b' d' e' f' g' h' i' j' vs) k ∷ (sym (has_applicator a b d e f g h i j us) ∙ same applicator_vocabulary ∙ has_applicator a' b' d' e' f' g' h' i' j' vs) k ∷ (sym (has_unevaluated a b d e f g h i j us) ∙ same unevaluated_vocabulary ∙ has_unevaluated a' b' d' e' f' g' h' i' j' vs) k ∷ (sym (has_validation a b d e f g h i j us) ∙ same validation_vocabulary ∙ has_validation a' b' d' e' f' g' h' i' j' vs) k ∷ (sym (has_metadata a b d e f g h i j us) ∙ same metadata_vocabulary ∙ has_metadata a' b' d' e' f' g' h' i' j' vs) k ∷ (sym (has_format a b d e f g h i j us) ∙ same format_vocabulary ∙ has_format a' b' d' e' f' g' h' i' j' vs) k ∷ (sym (has_format_annotation a b d e f g h i j us) ∙ same format_annotation_vocabulary ∙ has_format_annotation a' b' d' e' f' g' h' i' j' vs) k ∷ (sym (has_format_assertion a b d e f g h i j us) ∙ same format_assertion_vocabulary ∙ has_format_assertion a' b' d' e' f' g' h' i' j' vs) k ∷ (sym (has_content a b d e f g h i j us) ∙ same content_vocabulary ∙ has_content a' b' d' e' f' g' h' i' j' vs) k ∷ []

  pub same_sets : is_rising us ≡ true → is_rising vs ≡ true → (same_vocabularies (listed (a ∷ b ∷ d ∷ e ∷ f ∷ g ∷ h ∷ i ∷ j ∷ []) us) (listed (a' ∷ b' ∷ d' ∷ e' ∷ f' ∷ g' ∷ h' ∷ i' ∷ j' ∷ []) vs) ≡ true) ↔ HoldSame (listed (a ∷ b ∷ d ∷ e ∷ f ∷ g ∷ h ∷ i ∷ j ∷ []) us) (listed (a' ∷ b' ∷ d' ∷ e' ∷ f' ∷ g' ∷ h' ∷ i' ∷ j' ∷ []) vs)
  same_sets r s =
      let fs : List Bool = a ∷ b ∷ d ∷ e ∷ f ∷ g ∷ h ∷ i ∷ j ∷ [] in
      let gs : List Bool = a' ∷ b' ∷ d' ∷ e' ∷ f' ∷ g' ∷ h' ∷ i' ∷ j' ∷ [] in (
        λ k v. ap (λ (x : Vocabularies). has_vocabulary x v) (vocabularies_is (listed fs us) (listed gs vs) k),
        λ same.
            let uris : us ≡ vs = rising_one us vs r s (λ t. sym (has_other a b d e f g h i j us t) ∙ same (custom_vocabulary t) ∙ has_other a' b' d' e' f' g' h' i' j' vs t) in
            let equal : listed fs us ≡ listed gs vs = ap₂ listed (flags_held same) uris in
            rw equal (vocabularies_itself (listed gs vs)),
      )
