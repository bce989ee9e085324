-- Numbered questions of which some are present, and which of them comes next from a number on.
use Rattle.std.specs.Prelude.{List, None, Option, Some, [], drop, ℕ, ◌+◌, ◌∷◌}
use Rattle.theory_definitions.specs.Keywords.{Question}

abbrev pub with_some : Option Question → List Question → List Question
with_some None qs = qs
with_some (Some q) qs = q ∷ qs

-- the questions that are present
abbrev pub somes : List (Option Question) → List Question
somes [] = []
somes (o ∷ os) = with_some o (somes os)

-- the first that is present, with its number, in a list that is numbered from i on
abbrev pub first_some : ℕ → List (Option Question) → Option (ℕ × Question)
first_some i [] = None
first_some i (None ∷ os) = first_some (i + 1) os
first_some i (Some q ∷ os) = Some (i, q)

-- the first that is present from a number on, with its number
abbrev pub some_from : ℕ → List (Option Question) → Option (ℕ × Question)
some_from i os = first_some i (drop i os)

abbrev pub question_of : Option (ℕ × Question) → Option Question
question_of None = None
question_of (Some p) = Some p.1
