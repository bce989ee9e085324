-- A validator that is compiled from a key. Its nodes correspond one to one to the keys that this
-- key reaches, found in the one order that the schema and the limit on nested targets determine,
-- and its edges are guarded by that order. Its draft is the root's, its matcher answers as the one
-- of the parts, and the limits of its calls are those of the options. The key is the schema's
-- root's, or that of a subschema by itself.
use Rattle.std.specs.Prelude.{◌≡◌, Ok, ℕ}
use Rattle.serde_json.specs.Data.{Data}
use Rattle.theory_definitions.specs.Matching.{Matcher}
use Rattle.theory_definitions.specs.Resolving.{Resolver}
use Rattle.theory_definitions.specs.Making.{Table}
use Rattle.theory_definitions.specs.Plan.{Key}
use Rattle.theory_meaning.specs.Refusals.{Compiles}
use Rattle.theory_meaning.specs.Root.{root_draft}
use Rattle.schema_compiled.specs.Program.{Program}
use Rattle.schema_validator.specs.Compiled.{IsWhole}
use Rattle.schema_keys.specs.Compiling.{no_keywords, no_matcher}
use Rattle.schema_validator.specs.Handed.{Options, parts_of}
use Rattle.schema_validator.specs.Roots.{IsRootKey}

module _ {S K C M : Type 0} (resolver : Resolver S) (table : Table K) (matcher : Matcher) (options : Options) (nested : ℕ) (schema : Data) (shape : C → K) (matching : M → Matcher) where
  -- it is compiled from this key
  pub record IsProgramFrom (key : Key S) (p : Program C M) : Type 0 where
    pub compiled : IsWhole (parts_of resolver table no_matcher no_keywords options) shape nested key p.nodes p.root
    pub drafted : root_draft (parts_of resolver table no_matcher no_keywords options) schema ≡ Ok p.draft
    pub matcher_is : matching p.matcher ≡ matcher
    pub runs_are : p.runs ≡ options.runs
    pub work_is : p.work ≡ options.work
    pub depth_is : p.depth ≡ options.depth

  -- it is compiled from the root's key, for which there is no cause of refusal
  pub record IsProgramOf (p : Program C M) : Type 0 where
    pub root : Key S
    pub is_root : IsRootKey (parts_of resolver table no_matcher no_keywords options) schema root
    pub compiles : Compiles (parts_of resolver table no_matcher no_keywords options) root
    pub compiled : IsWhole (parts_of resolver table no_matcher no_keywords options) shape nested root p.nodes p.root
    pub drafted : root_draft (parts_of resolver table no_matcher no_keywords options) schema ≡ Ok p.draft
    pub matcher_is : matching p.matcher ≡ matcher
    pub runs_are : p.runs ≡ options.runs
    pub work_is : p.work ≡ options.work
    pub depth_is : p.depth ≡ options.depth
