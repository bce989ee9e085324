-- The number of reached targets times the number of places is a sufficient depth.
use Rattle.std.proofs.Common.{◌≡◌, ℕ, ◌*◌, ◌≤◌, List, length, sym, ◌∙◌, true, arith}
use Rattle.std.specs.List.{list_any}
use Rattle.serde_json.specs.Data.{Data}
use Rattle.theory_definitions.specs.Instance.{Text, Place, same_place, places}
use Rattle.theory_definitions.specs.Parts.{Parts}
use Rattle.theory_definitions.specs.Plan.{Target, Key, Edge, same_target}
use Rattle.theory_meaning.specs.Returns.{Asked, LeadsTo, Return}
use Rattle.theory_definitions.specs.Meaning.{unfolded}
use Rattle.theory_meaning.specs.Reach.{deep_enough, targets_of}
use Rattle.theory_meaning.proofs.Questions.{Asks}
use Rattle.theory_meaning.proofs.Deep.{no_return_stable}
use Rattle.theory_meaning.proofs.Trails.{test, grid, length-grid, on_grid, tells}
use Rattle.theory_definitions.proofs.Products.{index, index_below}

module _ {S K R : Type 0} (w : Parts S K R) (instance : Data) {X : Type 0} (last : X) (node : Key S → Text → Place → (Edge S → Place → X) → X)
    (local : (k : Key S) (path : Text) (p : Place) (f g : Edge S → Place → X) → ((edge : Edge S) (q : Place) → Asks w instance k p edge q → f edge q ≡ g edge q) → node k path p f ≡ node k path p g)
    (root : Asked w instance) (none : ¬ (Return w instance root)) (keys : List (Key S))
    (at_targets : (a : Asked w instance) → LeadsTo w instance root a → list_any (same_target w a.key.target) (targets_of w keys) ≡ true)
    (at_places : (a : Asked w instance) → LeadsTo w instance root a → list_any (same_place a.place) (places instance) ≡ true)
    (one_target : (a b k : Target S) → same_target w a k ≡ true → same_target w b k ≡ true → same_target w a b ≡ true)
    (one_place : (a b p : Place) → same_place a p ≡ true → same_place b p ≡ true → same_place a b ≡ true) where
  cells : List (Target S × Place)
  cells = grid w instance root none (targets_of w keys) at_targets at_places one_target one_place

  cell_of : Asked w instance → ℕ
  cell_of a = index (test w instance root none (targets_of w keys) at_targets at_places one_target one_place a) cells

  count : length cells ≡ length (targets_of w keys) * length (places instance)
  unfolding cells
  count = length-grid w instance root none (targets_of w keys) at_targets at_places one_target one_place

  at_least : (j : ℕ) → length cells ≤ j → unfolded w instance last node j root.key root.path root.place ≡ unfolded w instance last node (length cells) root.key root.path root.place
  unfolding cells cell_of
  at_least = no_return_stable w instance last node local root none (length cells) cell_of
      (λ a l. index_below (test w instance root none (targets_of w keys) at_targets at_places one_target one_place a) cells (on_grid w instance root none (targets_of w keys) at_targets at_places one_target one_place a l))
      (tells w instance root none (targets_of w keys) at_targets at_places one_target one_place)

  -- Any two sufficient depths yield the same.
  pub enough_agree : (m n : ℕ) → deep_enough w keys instance ≤ m → deep_enough w keys instance ≤ n
      → unfolded w instance last node m root.key root.path root.place ≡ unfolded w instance last node n root.key root.path root.place
  enough_agree m n h k = let e = count in at_least m (omega arith) ∙ sym (at_least n (omega arith))
