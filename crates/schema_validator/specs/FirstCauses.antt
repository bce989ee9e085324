-- Which of several causes a refusal names. The draft and the base of the root come first; then the
-- check by the meta validators, if it is on, and in it the first document that is not accepted;
-- then the vocabularies that the root requires, and of them the first that is not declared; and
-- last what is compiled, with the limit on keys. So each cause is named only if nothing before it
-- is refused. Lack of memory says nothing.
use Rattle.std.specs.Prelude.{Bool, Some, [], flat_map, true, ◌≡◌}
use Rattle.serde_json.specs.Data.{Data}
use Rattle.theory_definitions.specs.Instance.{Place}
use Rattle.theory_definitions.specs.Parts.{Parts}
use Rattle.theory_definitions.specs.Plan.{Key}
use Rattle.theory_meaning.specs.MapPointers.{entry_key}
use Rattle.theory_meaning.specs.Refusals.{undeclared}
use Rattle.schema_keys.specs.Alone.{RefusesVocabularies}
use Rattle.schema_keys.specs.Compiling.{In}
use Rattle.schema_keys.specs.declared.error.BuildError.{BuildError}
use Rattle.schema_keys.specs.Checking.{AcceptsSchema, MetaChecks, RefusesSchema}
use Rattle.schema_compiler.specs.Compilation.{RefusesAlone}
use Rattle.schema_keys.specs.DocumentSchemas.{schemas_in}
use Rattle.schema_validator.specs.Handed.{Handed, Options, parts_of}
use Rattle.schema_validator.specs.Mapped.{RefusesLimit}
use Rattle.schema_validator.specs.Roots.{IsRootKey, RefusesKey}

module _ {S K R : Type 0} (w : Parts S K R) (schema : Data) (refuses : MetaChecks) (checks : Bool) (compiling : Key S → BuildError → Type 0) (e : BuildError) where
  -- if the check is on, each document of the schema is accepted
  abbrev pub IsChecked : Key S → Type 0
  IsChecked root = checks ≡ true → AcceptsSchema w.resolver refuses root.target.draft root.target.place

  -- what the error names, and that nothing before it is refused
  pub data NamesFirstCause : Type 0 where
    names_root : RefusesKey w schema e → NamesFirstCause
    names_document : (root : Key S) → IsRootKey w schema root → checks ≡ true → RefusesSchema w.resolver refuses root.target.draft root.target.place e → NamesFirstCause
    names_vocabulary : (root : Key S) → IsRootKey w schema root → IsChecked root → RefusesVocabularies w root e → NamesFirstCause
    names_compiled : (root : Key S) → IsRootKey w schema root → IsChecked root → flat_map (undeclared w) root.target.vocabularies ≡ [] → compiling root e → NamesFirstCause

-- an object or boolean of the root's document reaches more keys than the limit, by itself
pub record IsPastLimit {S K R : Type 0} (w : Parts S K R) (options : Options) (root : Key S) (e : BuildError) : Type 0 where
  pub document : Data
  pub path : Place
  pub key : Key S
  pub stands : w.resolver.value root.target.place ≡ Some document
  pub inside : In (schemas_in [] document) path
  pub is_key : entry_key w root path ≡ Some key
  pub passes : RefusesLimit w options key e

-- the parts, what the meta validators refuse, the options, and the schema
module _ {S K R C M : Type 0} (h : Handed S K R C M) (refuses : MetaChecks) (options : Options) (schema : Data) (e : BuildError) where
  abbrev parts : Bool → Parts S K R
  parts texts = parts_of h.resolver h.table h.matcher (h.words texts) options

  -- the refusal of a build: it checks if the options ask for it, and compiles what the root reaches
  abbrev pub FirstOfBuild : Type 0
  FirstOfBuild = (texts : Bool) → NamesFirstCause (parts texts) schema refuses options.checks (RefusesAlone (parts texts) options.limit) e

  -- the refusal of a map: it checks whatever the options say, and leaves out what does not compile
  abbrev pub FirstOfMap : Type 0
  FirstOfMap = (texts : Bool) → NamesFirstCause (parts texts) schema refuses true (IsPastLimit (parts texts) options) e
