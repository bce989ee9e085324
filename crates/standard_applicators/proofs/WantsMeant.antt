-- `dependencies` means what its definition says.
use Rattle.std.proofs.Common.{◌≡◌, ◌∙◌, ◌↔◌, ◌++◌, ◌∷◌, ◌&&◌, [], List, Bool, true, false, ap, ap₂, codes, map, not, refl, sym}
use Rattle.std.proofs.lemmas.List.Elements.{All-cons, All-head, All-nil, All-tail}
use Rattle.std.specs.List.{list_all}
use Rattle.std.specs.Prelude.{flat_map}
use Rattle.theory_definitions.specs.Instance.{Subject, Text}
use Rattle.theory_definitions.specs.Keywords.{Answers, Fault, Question, own, passed}
use Rattle.schema_reports.specs.ReportViews.{spoken}
use Rattle.schema_traits.specs.KeywordViews.{is_nil}
use Rattle.keyword_authoring.specs.Items.{child_here}
use Rattle.keyword_authoring.specs.Members.{has_member}
use Rattle.keyword_authoring.specs.Somes.{somes}
use Rattle.keyword_authoring.specs.Ways.{plain}
use Rattle.standard_applicators.specs.Dependents.{dependents_from}
use Rattle.standard_applicators.specs.DependentSchemas.{EachDependentAccepts}
use Rattle.standard_applicators.specs.MetWants.{EachWantIsMet}
use Rattle.standard_applicators.specs.OwnErrors.{own_error, passed_on}
use Rattle.standard_applicators.specs.Wanting.{is_unmet, required_text, unmet}
use Rattle.standard_applicators.proofs.Meant.{dependents_hold, faults_passed}
use Rattle.standard_applicators.proofs.UnmetWants.{texts_first, texts_later, told_texts}

abbrev IsMet : Subject → Text × Text → Type 0
IsMet s want = has_member want.0 s ≡ true → has_member want.1 s ≡ true

met_if : (a b : Bool) → (a && not b) ≡ false → a ≡ true → b ≡ true
met_if true true h k = refl
met_if true false h k = cc
met_if false b h k = cc

unmet_not : (a b : Bool) → (a ≡ true → b ≡ true) → (a && not b) ≡ false
unmet_not true b h = ap not (h refl)
unmet_not false b h = refl

module _ (texts : Bool) (s : Subject) where
  -- Nothing is reported only if each want is met.
  nothing_first : (b : Bool) (want : Text × Text) (wants : List (Text × Text)) → is_unmet s want ≡ b → (is_nil (told_texts texts s wants) ≡ true → EachWantIsMet wants s)
      → is_nil (told_texts texts s (want ∷ wants)) ≡ true → EachWantIsMet (want ∷ wants) s
  nothing_first true want wants e later h = let wrong : false ≡ true = sym (ap is_nil (texts_first texts s want wants e)) ∙ h in absurd (cc wrong)
  nothing_first false want wants e later h =
      All-cons (IsMet s) want wants (met_if (has_member want.0 s) (has_member want.1 s) e) (later (sym (ap is_nil (texts_later texts s want wants e)) ∙ h))

  nothing_told : (wants : List (Text × Text)) → is_nil (told_texts texts s wants) ≡ true → EachWantIsMet wants s
  nothing_told [] h = All-nil _
  nothing_told (want ∷ wants) h = nothing_first (is_unmet s want) want wants refl (nothing_told wants) h

  told_nothing : (wants : List (Text × Text)) → EachWantIsMet wants s → is_nil (told_texts texts s wants) ≡ true
  told_nothing [] h = refl
  told_nothing (want ∷ wants) h =
      ap is_nil (texts_later texts s want wants (unmet_not (has_member want.0 s) (has_member want.1 s) (All-head (IsMet s) want wants h))) ∙ told_nothing wants (All-tail (IsMet s) want wants h)

  both_true : (a b : Bool) → (a && b) ≡ true → (a ≡ true) × (b ≡ true)
  both_true true b h = (refl, h)
  both_true false b h = cc

  true_both : (a b : Bool) → a ≡ true → b ≡ true → (a && b) ≡ true
  true_both true b h k = k
  true_both false b h k = cc

  pub wants_hold : (accepts : Question → Bool) (wants : List (Text × Text)) (names : List Text)
      → ((is_nil (told_texts texts s wants) && list_all accepts (somes (dependents_from 0 names s))) ≡ true)
      ↔ (EachWantIsMet wants s × EachDependentAccepts names s (λ i. accepts (child_here i)))
  wants_hold accepts wants names = (
    (λ h. let parts = both_true (is_nil (told_texts texts s wants)) _ h in (nothing_told wants parts.0, (dependents_hold accepts s names).0 parts.1)),
    (λ h. true_both (is_nil (told_texts texts s wants)) _ (told_nothing wants h.0) ((dependents_hold accepts s names).1 h.1)),
  )

  errors_told : (ws : List (Text × Text)) → map (λ t. own (plain (codes "dependencies") t)) (map (spoken texts) (map required_text ws))
      ≡ map (λ want. own_error (codes "dependencies") (spoken texts (required_text want))) ws
  errors_told [] = refl
  errors_told (w ∷ ws) = ap (λ fs. own_error (codes "dependencies") (spoken texts (required_text w)) ∷ fs) (errors_told ws)

  pub wants_faults : (answers : Answers) (wants : List (Text × Text)) (names : List Text)
      → map (λ t. own (plain (codes "dependencies") t)) (told_texts texts s wants) ++ flat_map (λ q. map passed (answers q).errors) (somes (dependents_from 0 names s))
      ≡ map (λ want. own_error (codes "dependencies") (spoken texts (required_text want))) (unmet wants s) ++ passed_on answers (somes (dependents_from 0 names s))
  wants_faults answers wants names = ap₂ (λ (xs ys : List Fault). xs ++ ys) (errors_told (unmet wants s)) (faults_passed answers (somes (dependents_from 0 names s)))
