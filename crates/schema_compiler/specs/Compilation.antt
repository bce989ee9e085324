-- The result of a compilation: a number for each key that the root reaches, whose node is the key's
-- plan; and what its refusal claims. The root belongs to a schema, or to a subschema that is
-- compiled by itself: then only the targets of references have to declare their vocabularies.
use Rattle.std.specs.Prelude.{All, Bool, List, Option, Some, [], flat_map, length, map, slice_get, string_bytes, ℕ, ◌≡◌, ◌≤◌, ◌⊎◌}
use Rattle.theory_definitions.specs.Instance.{Text}
use Rattle.theory_definitions.specs.Drafts.{Draft}
use Rattle.theory_definitions.specs.Resolving.{Resolver}
use Rattle.theory_definitions.specs.Matching.{Matcher}
use Rattle.theory_definitions.specs.Making.{Table}
use Rattle.theory_definitions.specs.Keywords.{Keywords}
use Rattle.theory_definitions.specs.Parts.{Parts}
use Rattle.theory_definitions.specs.Reports.{told_error}
use Rattle.theory_definitions.specs.Plan.{Key}
use Rattle.theory_meaning.specs.Reach.{Reached, ReachesMoreThan}
use Rattle.theory_meaning.specs.MapPointers.{StandsBelow}
use Rattle.theory_meaning.specs.Refusals.{Cause, Stands, keyword_refused, lookup_refuses, not_a_schema, reference_not_text, undeclared, unsupported_vocabulary}
use Rattle.schema_reports.specs.ReportViews.{owned_error_of}
use Rattle.theory_definitions.specs.Guarded.{NodePlan}
use Rattle.theory_meaning.specs.Numbered.{AreNumbered, Ranked}
use Rattle.schema_node_table.specs.NodeTable.{NodeEntry, numbered}
use Rattle.schema_compiler.specs.Finding.{FindsAll, GuardsByStanding, standing_of}
use Rattle.schema_keys.specs.Alone.{RefusesVocabularies}
use Rattle.schema_keys.specs.declared.error.BuildError.{BuildError}
use Rattle.schema_keys.specs.declared.error.BuildError.TheVariants.{KeywordRefused, Lookup, MetaSchema, MissingRoot, NodeLimit, NotASchema, OutOfMemory, ReferenceNotText, UnsupportedVocabulary}

-- all parts: those that the compiler reads, and those that it does not
abbrev pub all_parts : {S K R : Type 0} → Resolver S → Table K → Option Bool → List Text → Matcher → Keywords K R → Option Draft → Option Text → Parts S K R
all_parts resolver table formats declared matcher keywords draft base = record {
  resolver = resolver;
  table = table;
  matcher = matcher;
  keywords = keywords;
  draft = draft;
  base = base;
  formats = formats;
  declared = declared;
}

module _ {S K R : Type 0} (w : Parts S K R) where
  -- a compilation, for some notion of a cause of refusal
  pub record IsCompilationBy {C : Type 0} (stands : Cause → Type 0) (shape : C → K) (limit nested : ℕ) (root : Key S) (keys : List (Key S)) (nodes : List (NodeEntry C)) : Type 0 where
    -- the root has the first number
    pub first : slice_get keys 0 ≡ Some root
    -- keys and numbers correspond one to one, and the node at a number is the plan of its key
    pub numbers : AreNumbered w (map Some keys) (numbered shape nodes)
    -- an unguarded edge leads to a node of lower rank
    pub ranked : Ranked (numbered shape nodes) (length keys)
    -- every node has its form
    pub filled : (i : ℕ) (n : NodeEntry C) → slice_get nodes i ≡ Some n → (p : NodePlan C) × (n.plan ≡ Some p)
    pub lengths : length nodes ≡ length keys
    -- every key that is reached has a number, and the key of every number is reached
    pub whole : (k : Key S) → Reached w root k → (i : ℕ) × (slice_get keys i ≡ Some k)
    pub sound : All (Reached w root) keys
    pub within : length keys ≤ limit
    pub compiles : (cause : Cause) → ¬ (stands cause)
    -- the keys are found in the one order that the schema and the limit on nested targets
    -- determine, and their nodes get their forms accordingly
    pub order : FindsAll w nested root keys (map standing_of nodes)
    -- an edge is guarded if and only if its target was in progress when it was made, or was of an
    -- earlier round and not final
    pub guards : GuardsByStanding nodes

  -- the compilation of a schema's root, and of a subschema by itself
  abbrev pub IsCompilation : {C : Type 0} → (C → K) → ℕ → ℕ → Key S → List (Key S) → List (NodeEntry C) → Type 0
  IsCompilation shape limit nested root keys nodes = IsCompilationBy (Stands w root) shape limit nested root keys nodes

  abbrev pub IsCompilationAlone : {C : Type 0} → (C → K) → ℕ → ℕ → Key S → List (Key S) → List (NodeEntry C) → Type 0
  IsCompilationAlone shape limit nested root keys nodes = IsCompilationBy (StandsBelow w root) shape limit nested root keys nodes

  -- a refusal shows a real cause; one for the limit says that more keys are reached; `OutOfMemory`
  -- claims nothing
  abbrev pub RefusesBy : (Cause → Type 0) → ℕ → Key S → BuildError → Type 0
  RefusesBy stands limit root (NotASchema location) = stands (not_a_schema location)
  RefusesBy stands limit root (ReferenceNotText location) = stands (reference_not_text location)
  RefusesBy stands limit root (Lookup text) = stands (lookup_refuses (string_bytes text))
  RefusesBy stands limit root (KeywordRefused error) = (told : Bool) × stands (keyword_refused told (told_error told (owned_error_of error)))
  RefusesBy stands limit root (UnsupportedVocabulary uri) = stands (unsupported_vocabulary (string_bytes uri))
  RefusesBy stands limit root (MetaSchema error) = ⊥
  RefusesBy stands limit root (MissingRoot uri) = ⊥
  RefusesBy stands limit root (NodeLimit n) = (n ≡ limit) × ReachesMoreThan w limit root
  RefusesBy stands limit root OutOfMemory = Unit {0}

  -- the refusal of a schema's root, and of a subschema by itself
  abbrev pub RefusesRoot : ℕ → Key S → BuildError → Type 0
  RefusesRoot limit root e = RefusesBy (Stands w root) limit root e

  abbrev pub RefusesAlone : ℕ → Key S → BuildError → Type 0
  RefusesAlone limit root e = RefusesBy (StandsBelow w root) limit root e

  -- the first refusal of a schema's root: the first of its own vocabularies that is not declared;
  -- or, if all are declared, a refusal as a subschema by itself
  abbrev pub RefusesInOrder : ℕ → Key S → BuildError → Type 0
  RefusesInOrder limit root e = RefusesVocabularies w root e ⊎ ((flat_map (undeclared w) root.target.vocabularies ≡ []) × RefusesAlone limit root e)
