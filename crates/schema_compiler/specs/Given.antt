-- The input of a compiler in one value, from the ghost members of its resolver, its table and its
-- keywords.
use Rattle.std.specs.Prelude.{Option, [], flat_map, map, string_bytes, ℕ, ◌≡◌}
use Rattle.theory_definitions.specs.Instance.{Text}
use Rattle.theory_definitions.specs.Drafts.{Draft}
use Rattle.theory_definitions.specs.Matching.{Matcher}
use Rattle.theory_definitions.specs.Keywords.{Answer, Keywords}
use Rattle.theory_definitions.specs.Parts.{Parts}
use Rattle.theory_definitions.specs.Plan.{Key}
use Rattle.theory_meaning.specs.Refusals.{undeclared}
use Rattle.schema_traits.specs.declared.keyword.Validate.{Ghosts as KeywordMembers}
use Rattle.schema_traits.specs.declared.resolver.Resolver.{Ghosts as ResolverMembers}
use Rattle.schema_traits.specs.declared.table.KeywordTable.{Ghosts as TableMembers}
use Rattle.schema_keys.specs.Builtins.{builtin}
use Rattle.schema_keys.specs.KeyViews.{key_of}
use Rattle.schema_keys.specs.declared.error.BuildError.{BuildError}
use Rattle.schema_keys.specs.declared.key.SchemaKey.{SchemaKey}
use Rattle.schema_keys.specs.declared.options.CompileOptions.{CompileOptions}
use Rattle.schema_compiler.specs.Carried.{Task, task, task_of}
use Rattle.schema_compiler.specs.Compilation.{IsCompilation, IsCompilationAlone, all_parts}
use Rattle.schema_compiler.specs.declared.compiler.compilation.Compilation.{Compilation}
use Rattle.schema_compiler.specs.declared.compiler.setup.Compiler.{Compiler}

-- the task, and the meaning of the resolver's states
pub record Given (P S K C : Type 0) : Type 0 where
  pub task : Task S K C
  pub point : P → S

-- the input, from the values themselves
abbrev pub given_of : {A P S T C Maker Run K : Type 0} → ResolverMembers A P S → TableMembers T C Maker Run K → KeywordMembers C Run K → A → T → CompileOptions → ℕ → Given P S K C
given_of r t k resolver table options nested = record {
  task = task_of r.resolving t.owned t.script k.shape resolver table options nested;
  point = r.point;
}

-- the same, from a compiler that holds them
abbrev pub given_by : {A P S T C Maker Run K : Type 0} → ResolverMembers A P S → TableMembers T C Maker Run K → KeywordMembers C Run K → Compiler A T → Given P S K C
given_by r t k compiler = record { task = task r.resolving t.owned t.script k.shape compiler; point = r.point }

module _ {A P S T C Maker Run K : Type 0} (r : ResolverMembers A P S) (t : TableMembers T C Maker Run K) (k : KeywordMembers C Run K) (resolver : A) (table : T) (options : CompileOptions) where
  -- a property holds of the given parts, whatever the parts are that are not read: the matcher, the
  -- runs of keywords, and the draft and the base of the options
  abbrev pub InAllParts : (Parts S K (Run × Answer) → Type 0) → Type 0
  InAllParts Holds = (matcher : Matcher) (keywords : Keywords K (Run × Answer)) (draft : Option Draft) (base : Option Text) →
      Holds (all_parts (r.resolving resolver) (record { owns = t.owned table; builtin = builtin; script = t.script table }) options.formats (map string_bytes options.declared.items) matcher keywords draft base)

  -- in all these parts, the vocabularies of a root are declared
  abbrev pub DeclaresAll : SchemaKey P → Type 0
  DeclaresAll root = InAllParts (λ w. flat_map (undeclared w) root.vocabularies ≡ [])

  -- in all these parts, a root is refused with an error of which this holds
  abbrev pub RefusedAs : (Parts S K (Run × Answer) → ℕ → Key S → BuildError → Type 0) → SchemaKey P → BuildError → Type 0
  RefusedAs Says root e = InAllParts (λ w. Says w options.node_limit (key_of r.point root) e)

  -- in all these parts, this is the compilation of a schema's root, or of a subschema by itself
  abbrev pub CompilesAll : ℕ → SchemaKey P → Compilation P C → Type 0
  CompilesAll nested root m = InAllParts (λ w. IsCompilation w k.shape options.node_limit nested (key_of r.point root) (map (key_of r.point) m.keys) m.nodes)

  abbrev pub CompilesSub : ℕ → SchemaKey P → Compilation P C → Type 0
  CompilesSub nested root m = InAllParts (λ w. IsCompilationAlone w k.shape options.node_limit nested (key_of r.point root) (map (key_of r.point) m.keys) m.nodes)
