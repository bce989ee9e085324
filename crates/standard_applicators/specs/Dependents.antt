-- Children at the keyword's own place: each is evaluated if the instance has the member of its
-- name. (Core 2020-12, 10.2.2.4)
use Rattle.std.proofs.Common.{refl}
use Rattle.std.specs.Prelude.{Bool, List, Option, [], false, true, ℕ, ◌+◌, ◌∷◌}
use Rattle.std.proofs.lemmas.List.Elements.{All-cons, All-nil}
use Rattle.theory_definitions.specs.Instance.{Subject, Text}
use Rattle.theory_definitions.specs.Keywords.{Question}
use Rattle.theory_definitions.specs.Laws.{IsPresent, steps_below}
use Rattle.keyword_authoring.specs.Items.{child_here}
use Rattle.keyword_authoring.specs.Members.{has_member, only_if}
use Rattle.keyword_authoring.specs.Places.{AsksPresent}
use Rattle.keyword_authoring.specs.Somes.{somes}

-- The children are numbered in the order of their names.
abbrev pub dependents_from : ℕ → List Text → Subject → List (Option Question)
dependents_from i [] s = []
dependents_from i (k ∷ ks) s = only_if (has_member k s) (child_here i) ∷ dependents_from (i + 1) ks s

here_present : (b : Bool) (i : ℕ) (s : Subject) (os : List (Option Question)) → AsksPresent s (somes os) → AsksPresent s (somes (only_if b (child_here i) ∷ os))
here_present true i s os rest = All-cons (λ q. IsPresent s (steps_below q.below)) (child_here i) (somes os) refl rest
here_present false i s os rest = rest

pub dependents_present : (i : ℕ) (ks : List Text) (s : Subject) → AsksPresent s (somes (dependents_from i ks s))
dependents_present i [] s = All-nil _
dependents_present i (k ∷ ks) s = here_present (has_member k s) i s (dependents_from (i + 1) ks s) (dependents_present (i + 1) ks s)
