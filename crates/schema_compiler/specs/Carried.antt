-- What the compiler carries: its fixed input, and the table that it fills. And the results of its
-- functions, in terms of these two.
use Rattle.std.specs.Prelude.{Bool, List, MatchOption, Option, Some, [], false, flat_map, map, true, ℕ, ◌≡◌}
use Rattle.serde_json.specs.Data.{Data, Members, object}
use Rattle.theory_definitions.specs.Instance.{Place, Text}
use Rattle.theory_definitions.specs.Drafts.{Draft, Vocabularies}
use Rattle.theory_definitions.specs.Pointer.{joined}
use Rattle.theory_definitions.specs.Making.{Script, compile}
use Rattle.theory_definitions.specs.Resolving.{Resolver}
use Rattle.theory_definitions.specs.Parts.{Parts}
use Rattle.theory_definitions.specs.Plan.{Edge, Key, Reference, found, is_self, making, part, part_made, parts, plan, plan_of as plan_of_schema, reference_edge, reference_part, sorted, subschema, option_list, is_recursive_ref}
use Rattle.theory_meaning.specs.Reach.{Reached, asked_edges, maker_edges, members_edges, reference_edges}
use Rattle.theory_meaning.specs.Refusals.{Cause, causes, lookup_causes, maker_causes, members_causes, reference_causes, request_causes, schema_causes, undeclared}
use Rattle.theory_definitions.specs.Units.{absorbed_by, annotating, annotations_of, object_annotations}
use Rattle.theory_definitions.specs.Guarded.{NodeEdge, NodePart, NodePlan}
use Rattle.schema_node_table.specs.NodeTable.{NodeEntry}
use Rattle.schema_keys.specs.KeyViews.{key_of}
use Rattle.schema_compiler.specs.Options.{given_parts}
use Rattle.schema_keys.specs.Compiling.{StandsBelow, member_causes, member_edges, object_edges, reference_asked}
use Rattle.schema_keys.specs.Refusing.{IsRefusal, Refused}
use Rattle.schema_compiler.specs.Filling.{IsPlanned, IsTable}
use Rattle.schema_compiler.specs.Reserving.{Reserved}
use Rattle.schema_compiler.specs.Steps.{IsAnswered, IsEdgeTo, IsNumbered, MakesPart, MakesParts, MakesPlan}
use Rattle.schema_keys.specs.declared.error.BuildError.{BuildError}
use Rattle.schema_keys.specs.declared.key.SchemaKey.{SchemaKey}
use Rattle.schema_keys.specs.declared.options.CompileOptions.{CompileOptions}
use Rattle.schema_compiler.specs.declared.compiler.setup.Compiler.{Compiler}
use Rattle.schema_compiler.specs.declared.compiler.compilation.Compilation.{Compilation}

-- the input, as parts, with the shape of keywords, the limit on keys, and how many targets may nest
pub record Task (S K C : Type 0) : Type 0 where
  pub parts : Parts S K (Unit {0})
  pub shape : C → K
  pub limit : ℕ
  pub nested : ℕ

-- the keys and the nodes so far; the number that the round began with, how many targets of
-- references are open, and whether an edge was made to a number that is not final, since the
-- innermost open number was begun; and the numbers that makers reserved
pub record Table (S C : Type 0) : Type 0 where
  pub keys : List (Key S)
  pub nodes : List (NodeEntry C)
  pub round : ℕ
  pub depth : ℕ
  pub loose : Bool
  pub reserved : List Reserved

-- the input, from the meanings of the resolver, the table and the keywords
abbrev pub task_of : {R T S K C : Type 0} → (R → Resolver S) → (T → Text → Bool) → (T → Bool → Text → Members → Draft → Vocabularies → Bool → Script K) → (C → K) → R → T → CompileOptions → ℕ → Task S K C
task_of resolving owned script shape resolver table options nested = record {
  parts = given_parts (resolving resolver) (owned table) (script table) options;
  shape = shape;
  limit = options.node_limit;
  nested = nested;
}

-- the same for a compiler
abbrev pub task : {R T S K C : Type 0} → (R → Resolver S) → (T → Text → Bool) → (T → Bool → Text → Members → Draft → Vocabularies → Bool → Script K) → (C → K) → Compiler R T → Task S K C
task resolving owned script shape g = task_of resolving owned script shape g.resolver.now g.table.now g.options.now g.nested_limit

-- the table that a compilation has filled so far, from the meaning of the resolver's states
abbrev pub filled : {S P C : Type 0} → (S → P) → Compilation S C → Table P C
filled point c = record {
  keys = map (key_of point) c.keys;
  nodes = c.nodes;
  round = c.progress.round;
  depth = c.progress.depth;
  loose = c.progress.reaches_unsettled;
  reserved = c.reservations;
}

module _ {S K C : Type 0} (g : Task S K C) where
  -- the causes for the required vocabularies that are not declared
  abbrev pub lacking : Vocabularies → List Cause
  lacking vocabularies = flat_map (undeclared g.parts) vocabularies

  -- a reference leads to this key, which lacks no vocabulary; to none if it is skipped
  abbrev pub Targets : {P : Type 0} → (P → S) → Key S → Reference → Text → Option (SchemaKey P) → Type 0
  Targets point k kind text o = MatchOption o (is_self g.parts k kind text ≡ true)
      (λ t. (is_self g.parts k kind text ≡ false)
      × ((name : Text) → reference_edge g.parts k name kind text ≡ Some (record { key = key_of point t; path = joined [] name; is_reference = true; is_recursive = is_recursive_ref kind }))
      × (lacking t.vocabularies ≡ []))

  -- the names that a member's keyword absorbs, and those that the keyword of a maker absorbs
  abbrev pub member_absorbs : Key S → Members → Text → Data → List Text
  member_absorbs k ms name value = absorbed_by (part g.parts k ms name value)

  abbrev pub keyword_absorbs : Key S → Members → Bool → Text → ℕ → Bool → List Text
  keyword_absorbs k ms own name priority is_leaf = absorbed_by (part_made g.parts name priority is_leaf (making g.parts k ms own name))

  -- why no target is found, or why it is refused, for any name and any keys
  abbrev pub RefusesTarget : Key S → Reference → Text → BuildError → Type 0
  RefusesTarget k kind text e = (name : Text) (keys : List (Key S)) → Refused g.parts g.limit (option_list (reference_asked g.parts k name kind text)) (lookup_causes g.parts (found g.parts k kind text)) keys e

module _ {S K C : Type 0} (g : Task S K C) (t : Table S C) where
  -- the key's node may be filled with this plan
  abbrev pub PlannedAs : Key S → NodePlan C → Type 0
  PlannedAs = IsPlanned g.parts g.shape t.keys

  -- the keys and nodes so far are as the parts require
  abbrev pub IsWell : Type 0
  IsWell = IsTable g.parts g.shape g.limit t.keys t.nodes

  -- ---- reasons for a refusal

  -- why a key gets no number
  abbrev pub RefusesKey : Key S → BuildError → Type 0
  RefusesKey k = IsRefusal g.limit t.keys (Reached g.parts k) (StandsBelow g.parts k)

  -- why a step is refused that requests these edges and has these causes
  abbrev pub Refuses : List (Edge S) → List Cause → BuildError → Type 0
  Refuses es cs = Refused g.parts g.limit es cs t.keys

  -- why a key gets no plan
  abbrev pub RefusesNode : Key S → BuildError → Type 0
  RefusesNode k = Refuses (asked_edges g.parts k) (causes g.parts k)

  -- why an object with these members gets no plan
  abbrev pub RefusesObject : Key S → Members → BuildError → Type 0
  RefusesObject k ms = Refuses (object_edges g.parts k ms) (schema_causes g.parts k (object ms))

  -- why no keywords are made of these members
  abbrev pub RefusesMembers : Key S → Members → BuildError → Type 0
  RefusesMembers k ms = Refuses (members_edges g.parts k ms ms) (members_causes g.parts k ms ms)

  -- why no keyword is made of one member
  abbrev pub RefusesMember : Key S → Members → Text → Data → BuildError → Type 0
  RefusesMember k ms name value = Refuses (member_edges g.parts k ms name value) (member_causes g.parts k ms name value)

  -- why a maker makes no keyword
  abbrev pub RefusesMaker : Key S → Members → Bool → Text → BuildError → Type 0
  RefusesMaker k ms own name = Refuses (maker_edges g.parts k name (making g.parts k ms own name)) (maker_causes g.parts k (making g.parts k ms own name))

  -- why there is no edge to the subschema at a path
  abbrev pub RefusesChild : Key S → Place → BuildError → Type 0
  RefusesChild k path = Refuses (option_list (subschema g.parts k path)) (request_causes g.parts k (compile path))

  -- why there is no edge to a reference's target
  abbrev pub RefusesEdge : Key S → Text → Reference → Text → BuildError → Type 0
  RefusesEdge k name kind text = Refuses (option_list (reference_asked g.parts k name kind text)) (lookup_causes g.parts (found g.parts k kind text))

  -- why there is no reference keyword
  abbrev pub RefusesReference : Key S → Text → Reference → Data → BuildError → Type 0
  RefusesReference k name kind value = Refuses (reference_edges g.parts k name kind value) (reference_causes g.parts k name kind value)

  -- ---- what is made

  module _ (t' : Table S C) (k : Key S) where
    -- the key has this number
    abbrev pub Numbers : ℕ → Type 0
    Numbers = IsNumbered g.parts g.shape g.limit t.keys t'.keys t.nodes t'.nodes k

    -- this edge leads to the key's number
    abbrev pub LeadsToKey : Text → NodeEdge → Type 0
    LeadsToKey = IsEdgeTo g.parts g.shape g.limit t.keys t'.keys t.nodes t'.nodes k

    -- this is the key's plan, with its annotations
    abbrev pub PlansNode : NodePlan C → Option Data → Type 0
    PlansNode p annotations = MakesPlan g.parts g.shape g.limit t.keys t'.keys t.nodes t'.nodes (asked_edges g.parts k) (causes g.parts k) k p (plan g.parts k) annotations (annotations_of g.parts k)

    -- this is the plan of the key's object with these members, with its annotations
    abbrev pub PlansObject : Members → NodePlan C → Option Data → Type 0
    PlansObject ms p annotations = MakesPlan g.parts g.shape g.limit t.keys t'.keys t.nodes t'.nodes (object_edges g.parts k ms) (schema_causes g.parts k (object ms)) k p (plan_of_schema g.parts k (object ms)) annotations (object_annotations g.parts k ms)

    -- these are the keywords of the members, and those that become annotations
    abbrev pub MakesMembers : Members → List (NodePart C) → Members → Type 0
    MakesMembers ms xs left = MakesParts g.parts g.shape g.limit t.keys t'.keys t.nodes t'.nodes (members_edges g.parts k ms ms) (members_causes g.parts k ms ms) k xs (sorted (parts g.parts k ms ms)) left (annotating g.parts k ms)

    -- this is the keyword of one member, if it is one
    abbrev pub MakesMember : Members → Text → Data → Option (NodePart C) → Type 0
    MakesMember ms name value o = MakesPart g.parts g.shape g.limit t.keys t'.keys t.nodes t'.nodes (member_edges g.parts k ms name value) (member_causes g.parts k ms name value) k o (part g.parts k ms name value)

    -- this is the keyword that a maker makes, if it makes one
    abbrev pub MakesKeyword : Members → Bool → Text → ℕ → Bool → Option (NodePart C) → Type 0
    MakesKeyword ms own name priority is_leaf o = MakesPart g.parts g.shape g.limit t.keys t'.keys t.nodes t'.nodes (maker_edges g.parts k name (making g.parts k ms own name)) (maker_causes g.parts k (making g.parts k ms own name)) k o (part_made g.parts name priority is_leaf (making g.parts k ms own name))

    -- this edge leads to the subschema at a path
    abbrev pub AnswersChild : Place → NodeEdge → Type 0
    AnswersChild path e = IsAnswered g.parts g.shape g.limit t.keys t'.keys t.nodes t'.nodes (subschema g.parts k path) (request_causes g.parts k (compile path)) (Some e)

    -- this edge leads to a reference's target; `None` if it is skipped
    abbrev pub AnswersReference : Text → Reference → Text → Option NodeEdge → Type 0
    AnswersReference name kind text o = IsAnswered g.parts g.shape g.limit t.keys t'.keys t.nodes t'.nodes (reference_asked g.parts k name kind text) (lookup_causes g.parts (found g.parts k kind text)) o

    -- this is the reference keyword, if it is not skipped
    abbrev pub MakesReference : Text → ℕ → Reference → Data → Option (NodePart C) → Type 0
    MakesReference name priority kind value o = MakesPart g.parts g.shape g.limit t.keys t'.keys t.nodes t'.nodes (reference_edges g.parts k name kind value) (reference_causes g.parts k name kind value) k o (reference_part g.parts k name priority kind value)
