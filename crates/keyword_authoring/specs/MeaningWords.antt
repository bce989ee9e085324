-- Facts about keywords that hold in every case.
use Rattle.std.specs.Prelude.{Bool}
use Rattle.theory_definitions.specs.Instance.{Subject}
use Rattle.theory_definitions.specs.Matching.{Matching}

-- a fact holds for every instance, whether texts are covered or not, and whichever texts the
-- patterns match
abbrev pub Always : (Bool → Subject → Matching → Type 0) → Type 0
Always Says = (texts : Bool) (s : Subject) (matches : Matching) → Says texts s matches
