-- A run of `required` for the verdict asks nothing, and says whether no name is missing.
use Rattle.std.proofs.Common.{Bool, List, [], ap, codes, false, map, not, refl, true, ◌||◌, ◌∙◌, ◌≡◌, ◌∷◌}
use Rattle.std.specs.List.{list_any}
use Rattle.theory_definitions.specs.Instance.{Subject, Text}
use Rattle.schema_reports.specs.ReportViews.{spoken}
use Rattle.schema_traits.specs.AtOnce.{EndsAtOnce}
use Rattle.schema_traits.specs.KeywordViews.{is_nil}
use Rattle.keyword_authoring.specs.Ways.{tells}
use Rattle.keyword_authoring.proofs.AtOnce.{SaysAtOnce, tells_at_once}
use Rattle.standard_basics.specs.BasicShape.{requires}
use Rattle.standard_basics.specs.Words.{missing, required_text, words}
use Rattle.standard_basics.proofs.MissingNames.{lacks_it, missing_first, missing_later}

module _ {X : Type 0} (text_of : X → Text) (texts : Bool) (s : Subject) where
  abbrev told_texts : List Text → List Text
  told_texts ks = map (λ k. spoken texts (required_text k)) ks

  none_first : (k : X) (ks : List X) (b : Bool) → lacks_it text_of s k ≡ b
      → is_nil (told_texts (missing (map text_of ks) s)) ≡ not (list_any (lacks_it text_of s) ks)
      → is_nil (told_texts (missing (map text_of (k ∷ ks)) s)) ≡ not (b || list_any (lacks_it text_of s) ks)
  none_first k ks true e later = ap (λ l. is_nil (told_texts l)) (missing_first (text_of k) (map text_of ks) s e)
  none_first k ks false e later = ap (λ l. is_nil (told_texts l)) (missing_later (text_of k) (map text_of ks) s e) ∙ later

  -- Nothing is reported if no name is missing.
  none_missing : (ks : List X) → is_nil (told_texts (missing (map text_of ks) s)) ≡ not (list_any (lacks_it text_of s) ks)
  none_missing [] = refl
  none_missing (k ∷ ks) = none_first k ks (lacks_it text_of s k) refl (none_missing ks)

  pub required_ends : (ks : List X) → EndsAtOnce (words texts) (requires (map text_of ks)) s (not (list_any (lacks_it text_of s) ks))
  required_ends ks =
      let says : SaysAtOnce (tells (codes "required") (told_texts (missing (map text_of ks) s))) (not (list_any (lacks_it text_of s) ks))
      = tells_at_once (codes "required") (told_texts (missing (map text_of ks) s)) (not (list_any (lacks_it text_of s) ks)) (none_missing ks) in
      record { asks_nothing = says.asks_nothing; says = says.says }
