-- What a place feeds to a hasher: for each step the number of its kind, then its name or its index.
-- Places that are the same feed the same input.
use Rattle.std.specs.Prelude.{ℕ, ◌≡◌, ◌++◌, ◌∷◌, [], List, true}
use Rattle.std.specs.Hash as fed
use Rattle.std.proofs.Common.{ap}
use Rattle.theory_definitions.specs.Instance.{Place, Step, to_member, to_item, to_name, same_place}
use Rattle.schema_reports.specs.SamePlaces.{place_equal}

abbrev pub step_input : Step → List (List ℕ)
step_input (to_member k) = fed.u8 0 ++ fed.str k
step_input (to_item n) = fed.u8 1 ++ fed.usize n
step_input (to_name k) = fed.u8 2 ++ fed.str k

abbrev pub place_input : Place → List (List ℕ)
place_input [] = []
place_input (s ∷ p) = step_input s ++ place_input p

pub same_input : (p q : Place) → same_place p q ≡ true → place_input p ≡ place_input q
same_input p q e = ap place_input (place_equal p q e)
