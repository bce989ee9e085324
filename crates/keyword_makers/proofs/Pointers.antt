-- The pointer of one member.
use Rattle.std.proofs.Common.{◌≡◌, [], ◌∷◌, ◌++◌, append-nil}
use Rattle.theory_definitions.specs.Instance.{Text, to_member}
use Rattle.theory_definitions.specs.Pointer.{escaped, pointer_to}

pub pointer_one : (k : Text) → pointer_to (to_member k ∷ []) ≡ [] ++ (47 ∷ escaped k)
pointer_one k = append-nil (47 ∷ escaped k)
