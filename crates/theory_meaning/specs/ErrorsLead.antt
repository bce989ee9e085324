-- Each error points at a keyword and at a value: what this means, and the statements that it is so.
-- (Core 2020-12, 12.3)
use Rattle.std.specs.Prelude.{All, Bool, Contains, List, None, Option, Some, [], is_some, true, ℕ, ◌++◌, ◌∷◌, ◌≡◌, ◌⊎◌}
use Rattle.serde_json.specs.Data.{Data, Members}
use Rattle.theory_definitions.specs.Instance.{Place, Text, subject_at}
use Rattle.theory_definitions.specs.Pointer.{joined, pointer_to}
use Rattle.theory_definitions.specs.Reports.{Error}
use Rattle.theory_definitions.specs.Drafts.{Draft, Vocabularies}
use Rattle.theory_definitions.specs.Matching.{Completion}
use Rattle.theory_definitions.specs.Making.{Table, a_keyword, followed}
use Rattle.theory_definitions.specs.Keywords.{Keywords}
use Rattle.theory_definitions.specs.Parts.{Parts}
use Rattle.theory_definitions.specs.Plan.{Edge, Key, Part, Plan, absolute_of, always, never, plan, these}
use Rattle.theory_definitions.specs.Meaning.{unfold_}
use Rattle.theory_meaning.specs.Paths.{Leads, names, part_edges}
use Rattle.theory_definitions.specs.Laws.{KeepsLaws}
use Rattle.theory_definitions.specs.Cover.{Decides, Sense, iter_errors, validate}
use Rattle.theory_meaning.specs.Headline.{Either, ErrorsSay, FirstSays, IsFailure, OneFailure}
use Rattle.theory_definitions.specs.Guarded.{Nodes, guarded_within, node_outcome, yes_outcome}
use Rattle.theory_meaning.specs.Numbered.{AreNumbered, IsNumber, Numbers, subject_in}

-- ---- what keywords and their makers must do

-- Each keyword keeps its laws, for the names that it absorbs.
abbrev pub EachKeepsAbsorbing : {K R : Type 0} → Keywords K R → (K → List Text) → Type 0
EachKeepsAbsorbing {K} keywords absorbs = (m : K) → KeepsLaws keywords m (absorbs m)

-- A maker reports the names that its keyword absorbs.
abbrev pub MakesAbsorbing : {K : Type 0} → (K → List Text) → Table K → Type 0
MakesAbsorbing {K} absorbs table = (custom : Bool) (name : Text) (whole : Members) (draft : Draft) (vocabularies : Vocabularies) (formats : Bool) (is_self : Text → Bool) (m : K) (absorbed : List Text)
    → (followed is_self (table.script custom name whole draft vocabularies formats)).ends ≡ a_keyword m absorbed → absorbed ≡ absorbs m

-- ---- where an error points

-- The first absolute location that there is, from the innermost on.
abbrev pub innermost : List (Option Text) → Option Text
innermost [] = None
innermost (o ∷ os) = elim o [ None ↦ innermost os | Some a ↦ Some a ]

module _ {S K R : Type 0} (w : Parts S K R) where
  -- The absolute location of a keyword of a target.
  abbrev pub keyword_location : Key S → Text → Option Text
  keyword_location k name = absolute_of w k (joined k.location name)

  -- The part belongs to this plan.
  abbrev pub IsPartOf : Plan K → Part K → Type 0
  IsPartOf always x = ⊥
  IsPartOf never x = ⊥
  IsPartOf (these xs) x = Contains xs x

  -- A path from the root to a target, with the absolute locations of the keywords on it, the
  -- innermost first.
  pub data Passes (root : Key S) : Text → Key S → List (Option Text) → Type 0 where
    begins : Passes root [] root []
    passes : {path : Text} {k : Key S} {locations : List (Option Text)} (x : Part K) (edge : Edge S) → Passes root path k locations
        → IsPartOf (plan w k) x → Contains (part_edges w k x.name x.form) edge → Passes root (path ++ edge.path) edge.key (keyword_location k x.name ∷ locations)

  -- The rest is the path of a keyword, or of one that it absorbs, or a path below; the location is
  -- that of the keyword that the path names. If the target is `false`, the rest is empty and the
  -- location is the target's own.
  abbrev pub EndsIn : Key S → Text → Option Text → Plan K → Type 0
  EndsIn k rest location always = ⊥
  EndsIn k rest location never = (rest ≡ []) × (location ≡ absolute_of w k k.location)
  EndsIn k rest location (these xs) = (x : Part K) × (name : Text) × (path : Place) × Contains xs x × Contains (names w x) name
      × (rest ≡ joined [] name ++ pointer_to path) × (location ≡ keyword_location k name)

  -- The error points at a keyword of a target to which its evaluation path leads, and at a value
  -- inside the instance. Its schema path is the target's location with the same rest as the
  -- evaluation path. Its absolute location is that of the innermost keyword on the path that has
  -- one.
  pub record PointsAt (root : Key S) (instance : Data) (e : Error) : Type 0 where
    pub key : Key S
    pub rest : Text
    pub leads : Leads w root e.evaluation_path key rest
    pub schema_path : e.schema_path ≡ key.location ++ rest
    pub present : is_some (subject_at instance e.place) ≡ true
    pub location : Option Text
    pub above : List (Option Text)
    pub way : Passes root leads.front key above
    pub ends : EndsIn key rest location (plan w key)
    pub absolute : e.absolute ≡ innermost (location ∷ above)

-- ---- the statements

-- Each error of the plain meaning, at any depth and under any completion, points at a keyword and
-- at a value.
abbrev pub ErrorsLead : {S K R : Type 0} → Parts S K R → (K → List Text) → Type 0
ErrorsLead {S} w absorbs = EachKeepsAbsorbing w.keywords absorbs → MakesAbsorbing absorbs w.table
    → (instance : Data) (c : Completion) (n : ℕ) (root : Key S) → All (PointsAt w root instance) (unfold_ w instance c n root [] []).errors

-- So does each error of numbered nodes, whether questions return or not.
abbrev pub NodeErrorsLead : {S K R : Type 0} → Parts S K R → (K → List Text) → Numbers S → Nodes K → Type 0
NodeErrorsLead {S} w absorbs keys nodes = EachKeepsAbsorbing w.keywords absorbs → MakesAbsorbing absorbs w.table → AreNumbered w keys nodes
    → (instance : Data) (c : Completion) (n i : ℕ) (root : Key S) → IsNumber keys i root
    → All (PointsAt w root instance) (guarded_within yes_outcome (node_outcome w.keywords w.matcher nodes (subject_in instance) c) n i [] [] []).errors

-- ---- the errors that calls return

module _ {S K R : Type 0} (w : Parts S K R) (root : Key S) (instance : Data) where
  -- Under every completion, each error of a sense points at a keyword and at a value.
  abbrev pub EachLeads : Sense → Type 0
  EachLeads v = (c : Completion) → All (PointsAt w root instance) (v.says c).errors

  -- If so, each listed error does too, or the list is the one failure.
  abbrev pub ListedLead : Type 0
  ListedLead = (v : Sense) → EachLeads v → (limit : ℕ) (errors : List Error) → ErrorsSay v limit errors
      → Either (Decides v limit iter_errors) (All (PointsAt w root instance) errors ⊎ OneFailure v limit iter_errors errors) (OneFailure v limit iter_errors errors)

  -- If so, a first error does too, or it is the failure.
  abbrev pub FirstLeads : Type 0
  FirstLeads = (v : Sense) → EachLeads v → (limit : ℕ) (e : Error) → FirstSays v limit (Some e) → Either (Decides v limit validate) (PointsAt w root instance e ⊎ IsFailure v limit validate e) (IsFailure v limit validate e)
