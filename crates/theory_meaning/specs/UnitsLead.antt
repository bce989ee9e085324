-- Each unit of an evaluation that has an error points at a keyword and at a value, as the error
-- itself would. (Core 2020-12, 12.3)
use Rattle.std.specs.Prelude.{All, Contains, List, [], is_some, true, ℕ, ◌++◌, ◌≡◌}
use Rattle.serde_json.specs.Data.{Data}
use Rattle.theory_definitions.specs.Instance.{Place, Subject, Text, subject_at}
use Rattle.theory_definitions.specs.Pointer.{pointer_to}
use Rattle.theory_definitions.specs.Reports.{Report, Unit_, Units, a_unit, no_units, unit}
use Rattle.theory_definitions.specs.Matching.{Completion, Matching}
use Rattle.theory_definitions.specs.Keywords.{Keywords, Named, Question}
use Rattle.theory_definitions.specs.Parts.{Parts}
use Rattle.theory_definitions.specs.Plan.{Key, absolute_of}
use Rattle.theory_definitions.specs.Guarded.{Nodes, guarded_units}
use Rattle.theory_meaning.specs.Paths.{Leads}
use Rattle.theory_meaning.specs.ErrorsLead.{EachKeepsAbsorbing, MakesAbsorbing}
use Rattle.theory_meaning.specs.Numbered.{AreNumbered, IsNumber, Numbers, subject_in}

-- The property holds of a unit, and of each unit inside it.
abbrev mutual
  pub EachUnit : (Report → Type 0) → Unit_ → Type 0
  EachUnit P (unit r us) = P r × EachUnitOf P us

  pub EachUnitOf : (Report → Type 0) → Units → Type 0
  EachUnitOf P no_units = Unit {0}
  EachUnitOf P (a_unit u us) = EachUnit P u × EachUnitOf P us

-- The unit is the answer to one of these questions.
abbrev pub IsHandedOn : (Question → Unit_) → List Question → Unit_ → Type 0
IsHandedOn answers qs u = (q : Question) × Contains qs q × (u ≡ answers q)

module _ {K R : Type 0} (keywords : Keywords K R) (absorbs : K → List Text) where
  -- The units inside a keyword's own unit are answers to its questions. So are the units inside
  -- each absorbed unit, whose name is one that the keyword absorbs.
  pub record HandsUnitsOn (m : K) (s : Subject) (matches : Matching) (answers : Question → Unit_) : Type 0 where
    pub own : All (IsHandedOn answers (keywords.may_ask m s)) (keywords.units m s matches answers).children
    pub absorbed : All (λ (a : Named). Contains (absorbs m) a.name × All (IsHandedOn answers (keywords.may_ask m s)) a.children) (keywords.units m s matches answers).absorbed

  -- Each keyword does so.
  abbrev pub EachHandsUnitsOn : Type 0
  EachHandsUnitsOn = (m : K) (s : Subject) (matches : Matching) (answers : Question → Unit_) → HandsUnitsOn m s matches answers

module _ {S K R : Type 0} (w : Parts S K R) (root : Key S) (instance : Data) where
  -- The unit points at a keyword of a target to which its evaluation path leads, and at a value
  -- inside the instance. Its place in the schema is the target's location with the same rest as the
  -- evaluation path, and its absolute location is that of this place.
  pub record UnitPointsAt (r : Report) : Type 0 where
    pub key : Key S
    pub rest : Text
    pub leads : Leads w root r.evaluation_path key rest
    pub schema_path : r.schema_path ≡ key.location ++ rest
    pub place : Place
    pub present : is_some (subject_at instance place) ≡ true
    pub instance_location : r.instance_location ≡ pointer_to place
    pub absolute : r.absolute ≡ absolute_of w key r.schema_path

  -- The unit, and each unit inside it, points at a keyword and at a value if it has an error of its
  -- own.
  abbrev pub UnitsPoint : Unit_ → Type 0
  UnitsPoint u = EachUnit (λ r. ¬ (r.errors ≡ []) → UnitPointsAt r) u

-- The units of numbered nodes that have errors point at a keyword and at a value, whether questions
-- return or not, if each keyword passes on the answers to its questions.
abbrev pub NodeUnitsLead : {S K R : Type 0} → Parts S K R → (K → List Text) → Numbers S → Nodes K → Type 0
NodeUnitsLead {S} w absorbs keys nodes = EachKeepsAbsorbing w.keywords absorbs → MakesAbsorbing absorbs w.table → EachHandsUnitsOn w.keywords absorbs → AreNumbered w keys nodes
    → (instance : Data) (c : Completion) (n i : ℕ) (root : Key S) → IsNumber keys i root
    → UnitsPoint w root instance (guarded_units w.keywords w.matcher nodes (subject_in instance) c n i [] [] [])
