-- The pointer of a path leads back to the path, in every document that has a value there. (RFC
-- 6901, sections 3 to 5)
use Rattle.std.specs.Prelude.{◌≡◌, ◌<◌, ◌^◌, [], ◌∷◌, Some}
use Rattle.serde_json.specs.Data.{Data}
use Rattle.theory_definitions.specs.Instance.{Place, Step, subject_at, to_item, to_member, to_name}
use Rattle.theory_definitions.specs.Pointer.{pointer_to}
use Rattle.standard_subschemas.specs.SubschemaRules.{data_of}
use Rattle.standard_subschemas.specs.DocumentPointers.{path_of_pointer}

-- the index of a step fits 64 bits
abbrev pub FitsWord : Step → Type 0
FitsWord (to_item n) = n < 2 ^ 64
FitsWord (to_member k) = Unit {0}
FitsWord (to_name k) = Unit {0}

-- all indexes of a path fit 64 bits
abbrev pub HasIndexes : Place → Type 0
HasIndexes [] = Unit {0}
HasIndexes (step ∷ path) = FitsWord step × HasIndexes path

abbrev pub PointersLead : Type 0
PointersLead = (document : Data) (path : Place) (value : Data) → HasIndexes path → data_of (subject_at document path) ≡ Some value
    → path_of_pointer (pointer_to path) document ≡ Some path
