-- A keyword that does not hold reports its one error.
use Rattle.std.proofs.Common.{[], Bool, false, refl, true, ◌∷◌, ◌≡◌}
use Rattle.theory_definitions.specs.Instance.{Subject, Text}
use Rattle.schema_traits.specs.KeywordViews.{is_nil}
use Rattle.keyword_authoring.specs.Ways.{unless}
use Rattle.standard_formats.specs.FormatWords.{error_text, error_texts, holds}
use Rattle.standard_formats.specs.declared.keyword.FormatKeyword.{FormatKeyword}

told_unless : (b : Bool) (t : Text) → is_nil (unless b t) ≡ false → unless b t ≡ t ∷ []
told_unless true t h = cc
told_unless false t h = refl

pub told_once : (k : FormatKeyword) (s : Subject) → is_nil (error_texts k s) ≡ false → error_texts k s ≡ error_text k s ∷ []
told_once k s h = told_unless (holds k s) (error_text k s) h
