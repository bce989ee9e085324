-- Walking down from a place that has a number.
use Rattle.std.proofs.Common.{◌≡◌, ◌<◌, ◌++◌, ℕ, length, ◌∷◌, [], List, sym, ◌∙◌, ap, append_assoc}
use Rattle.std.specs.Prelude.{None, Some}
use Rattle.std.proofs.lemmas.List.{append-nil}
use Rattle.theory_definitions.specs.Instance.{Place, Step}
use Rattle.schema_places.specs.Numbers.{Closed, number_of, place_at}
use Rattle.schema_places.proofs.Closing.{none_below, stands}

-- below a place that does not exist there is none
pub none_further : (p q : Place) (ps : List Place) → Closed ps → number_of p ps ≡ None → number_of (p ++ q) ps ≡ None
none_further p [] ps c e = ap (λ (x : Place). number_of x ps) (append-nil p) ∙ e
none_further p (s ∷ q) ps c e =
    ap (λ (x : Place). number_of x ps) (sym (append_assoc p (s ∷ []) q)) ∙ none_further (p ++ s ∷ []) q ps c (none_below p s ps c e)

pub step_none : (p : Place) (s : Step) (q : Place) (ps : List Place) → Closed ps → None ≡ number_of (p ++ s ∷ []) ps → None ≡ number_of (p ++ s ∷ q) ps
step_none p s q ps c e = sym (ap (λ (x : Place). number_of x ps) (sym (append_assoc p (s ∷ []) q)) ∙ none_further (p ++ s ∷ []) q ps c (sym e))

pub step_some : (p : Place) (s : Step) (q : Place) (ps : List Place) (k : ℕ) → Some k ≡ number_of (p ++ s ∷ []) ps → (k < length ps) × (number_of (place_at ps k ++ q) ps ≡ number_of (p ++ s ∷ q) ps)
step_some p s q ps k e =
    let there = stands (p ++ s ∷ []) ps k (sym e) in
    (there.0, ap (λ (x : Place). number_of (x ++ q) ps) there.1 ∙ ap (λ (x : Place). number_of x ps) (append_assoc p (s ∷ []) q))
