-- The keywords mean what their definitions say. What `allOf`, `anyOf`, `oneOf`, `not` and `if` mean
-- is said in `schema_applicators`.
use Rattle.std.specs.Prelude.{Any, Bool, List, codes, map, min, true, ℕ, ◌-◌, ◌↔◌, ◌≡◌}
use Rattle.theory_definitions.specs.Instance.{Subject, Text, to_item, to_member, to_name}
use Rattle.theory_definitions.specs.Keywords.{Answers, Question, down}
use Rattle.theory_definitions.specs.Matching.{Matching}
use Rattle.schema_reports.specs.ReportViews.{spoken}
use Rattle.keyword_authoring.specs.Items.{each_from, item_count}
use Rattle.keyword_authoring.specs.Members.{members_from, subject_names}
use Rattle.keyword_authoring.specs.Somes.{somes}
use Rattle.standard_basics.specs.BasicShape.{BasicShape, has_count, has_items, has_pattern, has_prefix_items, has_properties, has_property_names, has_type, has_types, requires}
use Rattle.standard_basics.specs.Counts.{count_name, count_text}
use Rattle.standard_basics.specs.FittingItems.{EachFitsItsOwn, EachLaterFits}
use Rattle.standard_basics.specs.FittingMembers.{EachListedFits, EachNameFits}
use Rattle.standard_basics.specs.MatchedTexts.{IsMatched}
use Rattle.standard_basics.specs.Measures.{IsWithin}
use Rattle.standard_basics.specs.OwnErrors.{OneUnless, own_error, passed_on}
use Rattle.standard_basics.specs.ValueTypes.{HasType}
use Rattle.standard_basics.specs.WantedMembers.{HasEachMember}
use Rattle.standard_basics.specs.Words.{missing, pattern_text, required_text, type_text, types_text, words}
use Rattle.standard_basics.specs.declared.counts.CountKind.{CountKind}
use Rattle.standard_basics.specs.declared.type_names.TypeName.{TypeName}

-- the question that evaluates the schema with the one number at the item with the other
abbrev pub schema_at : ℕ → ℕ → Question
schema_at i k = record { child = i; below = down (to_item k) }

-- the question that evaluates the schema with this number at the member with this name
abbrev pub schema_at_member : ℕ → Text → Question
schema_at_member i name = record { child = i; below = down (to_member name) }

-- the question that evaluates the only schema at this name
abbrev pub schema_at_name : Text → Question
schema_at_name name = record { child = 0; below = down (to_name name) }

module _ (texts : Bool) (s : Subject) (matches : Matching) where
  -- A keyword that evaluates no schema holds exactly if the fact does, and has this one error if it
  -- does not.
  pub record Tests (m : BasicShape) (Holds : Type 0) (name text : Text) : Type 0 where
    pub holds : (accepts : Question → Bool) → ((words texts).holds m s matches accepts ≡ true) ↔ Holds
    pub faults : (answers : Answers) → OneUnless Holds (own_error name (spoken texts text)) ((words texts).faults m s matches answers)

  -- A keyword that evaluates schemas holds exactly if the fact about their verdicts does, and has
  -- the errors of these schemas, in the order of the questions.
  pub record Applies (m : BasicShape) (Holds : (Question → Bool) → Type 0) (asked : List Question) : Type 0 where
    pub holds : (accepts : Question → Bool) → ((words texts).holds m s matches accepts ≡ true) ↔ Holds accepts
    pub faults : (answers : Answers) → (words texts).faults m s matches answers ≡ passed_on answers asked

  -- `type` with one name
  abbrev pub TypeMeans : Type 0
  TypeMeans = (t : TypeName) → Tests (has_type t) (HasType t s) (codes "type") (type_text t s)

  -- `type` with a list of names
  abbrev pub TypesMean : Type 0
  TypesMean = (ts : List TypeName) → Tests (has_types ts) (Any (λ t. HasType t s) ts) (codes "type") (types_text ts s)

  abbrev pub CountMeans : Type 0
  CountMeans = (kind : CountKind) (n : ℕ) → Tests (has_count kind n) (IsWithin kind n s) (count_name kind) (count_text kind n s)

  abbrev pub PatternMeans : Type 0
  PatternMeans = (pattern : Text) → Tests (has_pattern pattern) (IsMatched pattern s matches) (codes "pattern") (pattern_text pattern s)

  abbrev pub RequiredHolds : Type 0
  RequiredHolds = (names : List Text) (accepts : Question → Bool) → ((words texts).holds (requires names) s matches accepts ≡ true) ↔ HasEachMember names s

  -- one error for each name that is missing, in order
  abbrev pub RequiredFaults : Type 0
  RequiredFaults = (names : List Text) (answers : Answers)
      → (words texts).faults (requires names) s matches answers ≡ map (λ name. own_error (codes "required") (spoken texts (required_text name))) (missing names s)

  abbrev pub PropertiesMean : Type 0
  PropertiesMean = (names : List Text)
      → Applies (has_properties names) (λ accepts. EachListedFits names s (λ i name. accepts (schema_at_member i name))) (somes (members_from 0 names s))

  abbrev pub PropertyNamesMean : Type 0
  PropertyNamesMean = Applies has_property_names (λ accepts. EachNameFits s (λ name. accepts (schema_at_name name))) (map schema_at_name (subject_names s))

  abbrev pub PrefixItemsMean : Type 0
  PrefixItemsMean = (n : ℕ)
      → Applies (has_prefix_items n) (λ accepts. EachFitsItsOwn n (item_count s) (λ i. accepts (schema_at i i))) (each_from (λ i. schema_at i i) 0 (min n (item_count s)))

  abbrev pub ItemsMean : Type 0
  ItemsMean = (before : ℕ)
      → Applies (has_items before) (λ accepts. EachLaterFits before (item_count s) (λ i. accepts (schema_at 0 i))) (each_from (λ i. schema_at 0 i) before (item_count s - before))
