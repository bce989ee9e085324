-- Numbers that makers reserve, each for an object and a purpose. A number is in force until its
-- maker ends, and then stands for a node with only the keyword that was made, or for a node without
-- an entry. They are counted apart from the numbers of nodes.
use Rattle.std.specs.Prelude.{Bool, List, None, Option, Some, [], false, if◌then◌else◌, map, slice_get, suc, true, zero, ℕ, ◌&&◌, ◌<◌, ◌≡◌, ◌++◌, ◌∷◌}
use Rattle.theory_definitions.specs.Instance.{Text}
use Rattle.theory_definitions.specs.Drafts.{SchemaPlace, same_schema_place}
use Rattle.theory_definitions.specs.Making.{Purpose, for_items, for_properties}
use Rattle.theory_definitions.specs.Guarded.{NodePart}
use Rattle.schema_keys.specs.Compiling.{Each}

-- what a reserved number stands for: nothing while its maker runs; then a node with only the
-- maker's keyword, or a node without an entry
pub data ReservedNode : Type 0 where
  in_force : ReservedNode
  of_its_keyword : ReservedNode
  of_no_entry : ReservedNode

-- a number that the maker of this keyword reserved for this purpose, and the place of the object
pub record Reserved : Type 0 where
  pub purpose : Purpose
  pub object : SchemaPlace
  pub keyword : Text
  pub node : ReservedNode

abbrev pub is_in_force : ReservedNode → Bool
is_in_force in_force = true
is_in_force of_its_keyword = false
is_in_force of_no_entry = false

abbrev pub same_purpose : Purpose → Purpose → Bool
same_purpose for_properties for_properties = true
same_purpose for_items for_items = true
same_purpose for_properties for_items = false
same_purpose for_items for_properties = false

-- a reservation for this purpose and this object that is in force
abbrev pub is_for : Purpose → SchemaPlace → Reserved → Bool
is_for purpose object r = same_purpose r.purpose purpose && is_in_force r.node && same_schema_place r.object object

-- no number is pending for this purpose and this object
abbrev pub NonePending : List Reserved → Purpose → SchemaPlace → Type 0
NonePending rs purpose object = (i : ℕ) (r : Reserved) → slice_get rs i ≡ Some r → is_for purpose object r ≡ false

-- the last number in force that was reserved for this purpose and this object
pub record IsPending (rs : List Reserved) (purpose : Purpose) (object : SchemaPlace) (i : ℕ) : Type 0 where
  pub reserved : Reserved
  pub at : slice_get rs i ≡ Some reserved
  pub pending : is_for purpose object reserved ≡ true
  pub last : (j : ℕ) (r : Reserved) → i < j → slice_get rs j ≡ Some r → is_for purpose object r ≡ false

-- a reservation is given up: its maker has ended
abbrev pub IsGivenUp : Reserved → Type 0
IsGivenUp r = is_in_force r.node ≡ false

-- the numbers so far stay as they are, and each that was reserved since is given up
pub record Reserves (rs rs' : List Reserved) : Type 0 where
  pub more : List Reserved
  pub added : rs' ≡ rs ++ more
  pub given_up : Each IsGivenUp more

-- a reservation that is in force gets its node; one that is given up keeps its own
abbrev pub with_node : ReservedNode → Reserved → Reserved
with_node node r = record { purpose = r.purpose; object = r.object; keyword = r.keyword; node = if is_in_force r.node then node else r.node }

-- the same for those from a number on
abbrev pub with_nodes_from : ℕ → ReservedNode → List Reserved → List Reserved
with_nodes_from n node [] = []
with_nodes_from zero node (r ∷ rs) = with_node node r ∷ with_nodes_from zero node rs
with_nodes_from (suc n) node (r ∷ rs) = r ∷ with_nodes_from n node rs

-- a reservation of this maker that is in force, or one that is given up
abbrev pub IsOwn : SchemaPlace → Text → Reserved → Type 0
IsOwn object keyword r = is_in_force r.node ≡ true → (r.object ≡ object) × (r.keyword ≡ keyword)

-- the reservations of a maker that has not ended, and of the makers below it
pub record Holds (object : SchemaPlace) (keyword : Text) (rs rs' : List Reserved) : Type 0 where
  pub more : List Reserved
  pub added : rs' ≡ rs ++ more
  pub own : Each (IsOwn object keyword) more

-- a maker has ended: its reservations stand for this node
pub record Ends (object : SchemaPlace) (keyword : Text) (node : ReservedNode) (rs rs' : List Reserved) : Type 0 where
  pub held : List Reserved
  pub own : Each (IsOwn object keyword) held
  pub filled : rs' ≡ rs ++ map (with_node node) held

-- what a maker's reservations stand for, given the keyword that it made, if any
abbrev pub node_made : {C : Type 0} → Option (NodePart C) → ReservedNode
node_made None = of_no_entry
node_made (Some x) = of_its_keyword
