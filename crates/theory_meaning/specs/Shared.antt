-- The errors that all completions share.
use Rattle.std.specs.List.{list_all, list_any}
use Rattle.std.specs.Prelude.{Bool, List, [], false, filter, true, ◌∷◌, ◌≡◌}
use Rattle.theory_definitions.specs.Reports.{Error, same_error}
use Rattle.theory_definitions.specs.Matching.{Assumptions, Completion, all_match, completion_of}
use Rattle.theory_definitions.specs.Cover.{Sense}

module _ (v : Sense) where
  -- Every completion accepts.
  abbrev pub EachAccepts : Type 0
  EachAccepts = (c : Completion) → (v.says c).verdict ≡ true

  -- Some completion refuses.
  abbrev pub SomeRefuses : Type 0
  SomeRefuses = (c : Completion) × ((v.says c).verdict ≡ false)

  -- Every completion has an error with the same paths and the same text as this one.
  abbrev pub IsShared : Error → Type 0
  IsShared e = (c : Completion) → list_any (same_error e) (v.says c).errors ≡ true

  -- The second list contains the shared errors of the first, in the same order.
  pub data Kept : List Error → List Error → Type 0 where
    none : Kept [] []
    keep : {e : Error} {es kept : List Error} → IsShared e → Kept es kept → Kept (e ∷ es) (e ∷ kept)
    leave : {e : Error} {es kept : List Error} → ¬ (IsShared e) → Kept es kept → Kept (e ∷ es) kept

  -- The shared errors, in the order of the completion in which every unfinished match counts as
  -- matching.
  abbrev pub Shared : List Error → Type 0
  Shared kept = Kept (v.says all_match).errors kept

  -- ---- the same for the members of a cover, the last of which assumes a yes everywhere

  -- The errors of a member's completion.
  abbrev pub errors_of : Assumptions → List Error
  errors_of as' = (v.says (completion_of as')).errors

  -- Each member has the error.
  abbrev pub in_each : List Assumptions → Error → Bool
  in_each members e = list_all (λ as'. list_any (same_error e) (errors_of as')) members

  -- The errors of the last member that each member has.
  abbrev pub shared_by : List Assumptions → Assumptions → List Error
  shared_by members last = filter (in_each members) (errors_of last)
