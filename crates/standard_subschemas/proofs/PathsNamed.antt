-- The path that segments name, step by step.
use Rattle.std.proofs.Common.{◌≡◌, ◌<◌, ◌≤◌, ◌+◌, ℕ, List, [], ◌∷◌, ◌++◌, Option, Some, None, length, drop, get_or, option_map, refl, sym}
use Rattle.std.proofs.Common.{ap, ◌∙◌, append_assoc}
use Rattle.std.proofs.lemmas.List.{drop_more, drop_all}
use Rattle.serde_json.specs.Data.{Data}
use Rattle.theory_definitions.specs.Instance.{Place, Step, Text, a_value, after_step}
use Rattle.standard_subschemas.specs.SubschemaRules.{data_of}
use Rattle.standard_subschemas.specs.DocumentPointers.{path_named, step_named}

pub longer : (path : Place) (s : Step) (o : Option Place) → option_map (λ rest. path ++ rest) (option_map (λ p. s ∷ p) o)
    ≡ option_map (λ rest. (path ++ s ∷ []) ++ rest) o
longer path s None = refl
longer path s (Some p) = ap (λ x. Some x) (sym (append_assoc path (s ∷ []) p))

-- the segment of this turn
next_named : (named : List Text) (n : ℕ) (t : Text) (d : Data) → (n < length named) × (t ≡ get_or named n t) → path_named (drop n named) d
    ≡ path_named (t ∷ drop (n + 1) named) d
next_named named n t d h = ap (λ ts. path_named ts d) (drop_more named n t h.0 ∙ ap (λ x. x ∷ drop (n + 1) named) (sym h.1))

pub names_step : (named : List Text) (n : ℕ) (t : Text) (d below : Data) (s : Step) → (n < length named) × (t ≡ get_or named n t)
    → step_named t d ≡ Some s → data_of (after_step s (a_value d)) ≡ Some below
    → path_named (drop n named) d ≡ option_map (λ p. s ∷ p) (path_named (drop (n + 1) named) below)
names_step named n t d below s h e f = next_named named n t d h ∙ rw (e, f)

pub names_no_step : (named : List Text) (n : ℕ) (t : Text) (d : Data) → (n < length named) × (t ≡ get_or named n t) → step_named t d ≡ None
    → path_named (drop n named) d ≡ None
names_no_step named n t d h e = next_named named n t d h ∙ rw e

pub names_nothing : (named : List Text) (n : ℕ) (t : Text) (d : Data) (s : Step) → (n < length named) × (t ≡ get_or named n t)
    → step_named t d ≡ Some s → data_of (after_step s (a_value d)) ≡ None
    → path_named (drop n named) d ≡ None
names_nothing named n t d s h e f = next_named named n t d h ∙ rw (e, f)

pub names_all : (named : List Text) (n : ℕ) (d : Data) → length named ≤ n → path_named (drop n named) d ≡ Some []
names_all named n d h = ap (λ ts. path_named ts d) (drop_all n named h)
