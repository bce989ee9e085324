-- The result of the compiler for a subschema by itself, in terms of the standard's table.
use Rattle.std.proofs.Common.{◌≡◌, ◌≤◌, ◌∙◌, ℕ, Bool, List, ap, arith, length, refl, subst, sym}
use Rattle.std.specs.Prelude.{Ok, Option}
use Rattle.serde_json.specs.Data.{Data, Members}
use Rattle.theory_definitions.specs.Instance.{Text}
use Rattle.theory_definitions.specs.Drafts.{Draft, Vocabularies}
use Rattle.theory_definitions.specs.Matching.{Matcher}
use Rattle.theory_definitions.specs.Resolving.{Resolver}
use Rattle.theory_definitions.specs.Making.{Builtin, Script, Table}
use Rattle.theory_definitions.specs.Keywords.{Keywords}
use Rattle.schema_drafts.specs.KeywordTable.{builtin_in}
use Rattle.theory_meaning.specs.MapPointers.{StandsBelow}
use Rattle.theory_definitions.specs.Parts.{Parts}
use Rattle.theory_definitions.specs.Plan.{Key}
use Rattle.theory_meaning.specs.Refusals.{Cause}
use Rattle.schema_node_table.specs.NodeTable.{NodeEntry}
use Rattle.schema_keys.specs.Builtins.{builtin}
use Rattle.schema_compiler.specs.Compilation.{IsCompilationAlone, RefusesAlone, all_parts}
use Rattle.schema_keys.specs.Compiling.{no_keywords, no_matcher}
use Rattle.schema_keys.specs.declared.error.BuildError.{BuildError}
use Rattle.schema_validator.specs.Compiled.{IsCompiled, IsWhole}
use Rattle.schema_validator.specs.Handed.{Options, parts_of, table_of}
use Rattle.schema_compiled.specs.Program.{Program}
use Rattle.schema_validator.specs.ProgramOf.{IsProgramFrom}
use Rattle.schema_validator.specs.Roots.{IsRootKey, root_parts}
use Rattle.schema_validator.proofs.Compilations.{compiled_in, compiled_too, whole_in, whole_too}

-- the compiler's table of built-in keywords is the standard's
builtin_is : builtin ≡ builtin_in
unfolding builtin
builtin_is = refl

module _ {S K R : Type 0} (resolver : Resolver S) (owns : Text → Bool) (script : Bool → Text → Members → Draft → Vocabularies → Bool → Script K) (matcher : Matcher) (keywords : Keywords K R) (options : Options) where
  abbrev over : (Draft → Vocabularies → Text → Option Builtin) → Parts S K R
  over row = parts_of resolver (table_of owns row script) matcher keywords options

  abbrev given : Parts S K R
  given = all_parts resolver (record { owns = owns; builtin = builtin; script = script }) options.formats options.declared matcher keywords options.draft options.base

  pub alone_in : {C : Type 0} (shape : C → K) (limit nested : ℕ) (key : Key S) (keys : List (Key S)) (nodes : List (NodeEntry C)) → IsCompilationAlone given shape limit nested key keys nodes
      → (cause : Cause) → ¬ (StandsBelow (over builtin_in) key cause)
  alone_in shape limit nested key keys nodes c = subst (λ row. (cause : Cause) → ¬ (StandsBelow (over row) key cause)) builtin_is c.compiles

  pub refuses_alone_in : (limit : ℕ) (key : Key S) (e : BuildError) → RefusesAlone given limit key e → RefusesAlone (over builtin_in) limit key e
  refuses_alone_in limit key e h = subst (λ row. RefusesAlone (over row) limit key e) builtin_is h

  abbrev table : Table K
  table = table_of owns builtin_in script

  abbrev free : Parts S K (Unit {0})
  free = parts_of resolver table no_matcher no_keywords options

  module _ {C : Type 0} (shape : C → K) (limit nested : ℕ) (key : Key S) (keys : List (Key S)) (nodes : List (NodeEntry C)) (done : IsCompilationAlone given shape limit nested key keys nodes) where
    -- the nodes are compiled from the key, whatever matcher and words go with the parts
    pub compiled_alone : IsCompiled free shape key nodes 0
    compiled_alone = compiled_too resolver table matcher no_matcher keywords no_keywords options shape key nodes 0 (compiled_in resolver owns script matcher keywords options shape limit nested key keys nodes done)

    pub within_alone : length nodes ≤ limit
    within_alone = let lengths = done.lengths in let within = done.within in omega arith

    -- and so is a validator that is made of them, in the draft of the schema's root
    pub program_alone : {M : Type 0} (schema : Data) (root : Key S) → IsRootKey (root_parts resolver options) schema root → (matching : M → Matcher) (p : Program C M)
        → (p.nodes ≡ nodes) × (p.root ≡ 0) × (p.draft ≡ root.target.draft) → matching p.matcher ≡ matcher → p.runs ≡ options.runs → p.work ≡ options.work → p.depth ≡ options.depth → IsProgramFrom resolver table matcher options nested schema shape matching key p
    program_alone schema root is_root matching p made same runs work depth =
        let whole = whole_too resolver table matcher no_matcher keywords no_keywords options shape nested key nodes 0 (whole_in resolver owns script matcher keywords options shape limit nested key keys nodes done) in
        record {
          compiled = subst (λ number. IsWhole free shape nested key p.nodes number) (sym made.1) (subst (λ ns. IsWhole free shape nested key ns 0) (sym made.0) whole);
          drafted = is_root.drafted ∙ ap Ok (sym (ap (λ (k : Key S). k.target.draft) is_root.is_key)) ∙ ap Ok (sym made.2);
          matcher_is = same;
          runs_are = runs;
          work_is = work;
          depth_is = depth;
        }
