-- One more name in quotes.
use Rattle.std.proofs.Common.{◌≡◌, ◌++◌, ◌∷◌, List, append_assoc}
use Rattle.std.specs.Prelude.{codes}
use Rattle.theory_definitions.specs.Instance.{Text}
use Rattle.standard_pattern_properties.specs.GatedKeywords.{in_quotes}

pub one_more : (text before name : Text) (rest : List Text)
    → (((text ++ before) ++ codes "'") ++ name) ++ codes "'" ++ in_quotes (codes ", ") rest ≡ text ++ in_quotes before (name ∷ rest)
one_more text before name rest = simp append_assoc
