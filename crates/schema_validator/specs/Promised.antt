-- The promises of a build about a key, and so about every root key of the schema: for every
-- instance, the validator means the plain meaning of key and parts, if no chain of questions
-- returns; and in any case the errors of its nodes point at keywords and values of these.
use Rattle.std.specs.Prelude.{Bool, [], ℕ}
use Rattle.serde_json.specs.Data.{Data}
use Rattle.theory_definitions.specs.Matching.{Completion, Matcher}
use Rattle.theory_definitions.specs.Resolving.{Resolver}
use Rattle.theory_definitions.specs.Making.{Table}
use Rattle.theory_definitions.specs.Keywords.{Keywords}
use Rattle.theory_definitions.specs.Parts.{Parts}
use Rattle.theory_definitions.specs.Plan.{Key}
use Rattle.theory_meaning.specs.Root.{IsRoot}
use Rattle.theory_meaning.specs.Headline.{SpeaksRightly, Plainly, PlainlyWithUnits}
use Rattle.theory_meaning.specs.ErrorsLead.{EachLeads}
use Rattle.theory_meaning.specs.UnitsLead.{UnitsPoint}
use Rattle.theory_definitions.specs.Guarded.{guarded_sense, guarded_units}
use Rattle.theory_meaning.specs.Numbered.{subject_in}
use Rattle.schema_node_table.specs.NodeTable.{numbered}
use Rattle.schema_compiled.specs.Program.{HaveUnits, Program, Speaks, Means}
use Rattle.schema_validator.specs.Handed.{Options, parts_of}

-- S is the data of a state, K what is known of a keyword, R a run with its answer so far
module _ {S K R : Type 0} (resolver : Resolver S) (table : Table K) (matcher : Matcher) (words : Bool → Keywords K R) (options : Options) (key : Key S) where
  -- P of the key, for an instance and a right choice of whether its texts are covered
  abbrev pub OfKey : Data → (Bool → Parts S K R → Key S → Type 0) → Type 0
  OfKey instance P = (texts : Bool) → SpeaksRightly (parts_of resolver table matcher (words texts) options) key instance → P texts (parts_of resolver table matcher (words texts) options) key

  abbrev pub MeansKey : {C M : Type 0} → (C → K) → (K → Bool) → (M → Matcher) → Program C M → Type 0
  MeansKey shape is_whole matching p = (instance : Data)
      → OfKey instance (λ texts w root. Speaks shape words is_whole matching p instance texts × Plainly w root instance (Means shape words is_whole matching p instance texts))

  -- if no chain of questions returns, the validator has the units of the plain meaning, under every
  -- outcome of the matches
  abbrev pub HasKeysUnits : {C M : Type 0} → (C → K) → (K → Bool) → (M → Matcher) → Program C M → Type 0
  HasKeysUnits shape is_whole matching p = (instance : Data)
      → OfKey instance (λ texts w root. PlainlyWithUnits w root instance (λ v units. HaveUnits shape words is_whole matching p instance texts units))

  -- with questions of any depth and under every outcome of the matches, each error of the key's
  -- node points at a keyword of the schema that its evaluation path leads to, and at a value inside
  -- the instance
  abbrev pub PointsFromKey : {C M : Type 0} → (C → K) → (M → Matcher) → Program C M → Type 0
  PointsFromKey shape matching p = (instance : Data)
      → OfKey instance (λ texts w root. (n : ℕ) → EachLeads w root instance (guarded_sense (words texts) (matching p.matcher) (numbered shape p.nodes) (subject_in instance) n p.root))

  -- so does each unit of the key's node that has an error of its own, with the absolute location of
  -- its place in the schema
  abbrev pub UnitsPointFromKey : {C M : Type 0} → (C → K) → (M → Matcher) → Program C M → Type 0
  UnitsPointFromKey shape matching p = (instance : Data)
      → OfKey instance (λ texts w root. (n : ℕ) (c : Completion) → UnitsPoint w root instance (guarded_units (words texts) (matching p.matcher) (numbered shape p.nodes) (subject_in instance) c n p.root [] [] []))

-- the same of every root key of the schema
module _ {S K R : Type 0} (resolver : Resolver S) (table : Table K) (matcher : Matcher) (words : Bool → Keywords K R) (options : Options) (schema : Data) where
  -- P of every root key of the schema, for an instance and a right choice of whether its texts are
  -- covered
  abbrev pub OfSchema : Data → (Bool → Parts S K R → Key S → Type 0) → Type 0
  OfSchema instance P = (texts : Bool) (root : Key S) → IsRoot (parts_of resolver table matcher (words texts) options) schema root
      → SpeaksRightly (parts_of resolver table matcher (words texts) options) root instance → P texts (parts_of resolver table matcher (words texts) options) root

  abbrev pub MeansSchema : {C M : Type 0} → (C → K) → (K → Bool) → (M → Matcher) → Program C M → Type 0
  MeansSchema shape is_whole matching p = (instance : Data)
      → OfSchema instance (λ texts w root. Speaks shape words is_whole matching p instance texts × Plainly w root instance (Means shape words is_whole matching p instance texts))

  -- if no chain of questions returns, the validator has the units of the plain meaning, under every
  -- outcome of the matches
  abbrev pub HasSchemasUnits : {C M : Type 0} → (C → K) → (K → Bool) → (M → Matcher) → Program C M → Type 0
  HasSchemasUnits shape is_whole matching p = (instance : Data)
      → OfSchema instance (λ texts w root. PlainlyWithUnits w root instance (λ v units. HaveUnits shape words is_whole matching p instance texts units))

  -- with questions of any depth and under every outcome of the matches, each error of the root's
  -- node points at a keyword of the schema that its evaluation path leads to, and at a value inside
  -- the instance
  abbrev pub PointsIntoSchema : {C M : Type 0} → (C → K) → (M → Matcher) → Program C M → Type 0
  PointsIntoSchema shape matching p = (instance : Data)
      → OfSchema instance (λ texts w root. (n : ℕ) → EachLeads w root instance (guarded_sense (words texts) (matching p.matcher) (numbered shape p.nodes) (subject_in instance) n p.root))

  -- so does each unit of the root's node that has an error of its own, with the absolute location
  -- of its place in the schema
  abbrev pub UnitsPointIntoSchema : {C M : Type 0} → (C → K) → (M → Matcher) → Program C M → Type 0
  UnitsPointIntoSchema shape matching p = (instance : Data)
      → OfSchema instance (λ texts w root. (n : ℕ) (c : Completion) → UnitsPoint w root instance (guarded_units (words texts) (matching p.matcher) (numbered shape p.nodes) (subject_in instance) c n p.root [] [] []))
