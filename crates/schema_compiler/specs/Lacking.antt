-- The required vocabularies that are not declared, and the targets of references. A target may
-- require only declared vocabularies.
use Rattle.std.specs.Prelude.{IfSome, List, MatchOption, Option, String, [], map, string_bytes, ◌≡◌}
use Rattle.std.specs.declared.alloc.Global.{Global}
use Rattle.theory_definitions.specs.Instance.{Text}
use Rattle.theory_definitions.specs.Drafts.{Vocabularies, custom_vocabulary}
use Rattle.schema_traits.specs.declared.keyword.Validate.{Ghosts as KeywordMembers}
use Rattle.schema_traits.specs.declared.resolver.Resolver.{Ghosts as ResolverMembers}
use Rattle.schema_traits.specs.declared.table.KeywordTable.{Ghosts as TableMembers}
use Rattle.schema_keys.specs.Alone.{NamesFirst}
use Rattle.schema_keys.specs.KeyViews.{key_of, kind_of}
use Rattle.schema_keys.specs.Refusing.{Names}
use Rattle.schema_keys.specs.declared.error.BuildError.{BuildError}
use Rattle.schema_keys.specs.declared.key.SchemaKey.{SchemaKey}
use Rattle.schema_keys.specs.declared.references.ReferenceKind.{ReferenceKind}
use Rattle.schema_compiler.specs.Carried.{RefusesTarget, Targets, lacking}
use Rattle.schema_compiler.specs.Given.{Given, given_by}
use Rattle.schema_compiler.specs.declared.compiler.setup.Compiler.{Compiler}

-- the custom vocabularies with these URIs
abbrev pub custom_vocabularies : List (String Global) → Vocabularies
custom_vocabularies uris = map custom_vocabulary (map string_bytes uris)

module _ {A P S T C Maker Run K : Type 0} (r : ResolverMembers A P S) (t : TableMembers T C Maker Run K) (k : KeywordMembers C Run K) (compiler : Compiler A T) where
  -- the input of the compiler
  abbrev pub g : Given P S K C
  g = given_by r t k compiler

  -- each of these vocabularies that is required is declared
  abbrev pub LacksNone : Vocabularies → Type 0
  LacksNone vocabularies = lacking g.task vocabularies ≡ []

  -- the refusal names one that is required and not declared
  abbrev pub NamesLacking : Vocabularies → BuildError → Type 0
  NamesLacking vocabularies = Names (lacking g.task vocabularies)

  -- the refusal names the first of them
  abbrev pub NamesFirstLacking : Vocabularies → BuildError → Type 0
  NamesFirstLacking vocabularies = NamesFirst (lacking g.task vocabularies)

  -- each vocabulary that the target of a reference requires is declared, if there is a target
  abbrev pub TargetLacksNone : Option (SchemaKey P) → Type 0
  TargetLacksNone target = IfSome target (λ x. LacksNone x.vocabularies)

  -- there is a target, and the refusal names one that it requires and that is not declared
  abbrev pub NamesLackingTarget : Option (SchemaKey P) → BuildError → Type 0
  NamesLackingTarget target e = MatchOption target ⊥ (λ x. NamesLacking x.vocabularies e)

  -- a reference of the key's schema leads to this target, whose required vocabularies are declared;
  -- `None` if the reference is skipped
  abbrev pub IsTarget : SchemaKey P → ReferenceKind → Text → Option (SchemaKey P) → Type 0
  IsTarget key kind text o = Targets g.task g.point (key_of g.point key) (kind_of kind) text o

  -- the refusal says why the reference has no such target
  abbrev pub TargetRefused : SchemaKey P → ReferenceKind → Text → BuildError → Type 0
  TargetRefused key kind text e = RefusesTarget g.task (key_of g.point key) (kind_of kind) text e
