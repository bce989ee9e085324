-- The pointer of a place one step below.
use Rattle.std.proofs.Common.{◌≡◌, ◌∙◌, ◌++◌, ◌∷◌, [], ap, append_assoc, append-nil, sym}
use Rattle.theory_definitions.specs.Instance.{Place, Step}
use Rattle.theory_definitions.specs.Pointer.{pointer_to, step_text}

pub pointer_below : (p : Place) (s : Step) → pointer_to (p ++ s ∷ []) ≡ pointer_to p ++ step_text s
pointer_below [] s = append-nil (step_text s)
pointer_below (t ∷ p) s = ap (λ x. step_text t ++ x) (pointer_below p s) ∙ sym (append_assoc (step_text t) (pointer_to p) (step_text s))
