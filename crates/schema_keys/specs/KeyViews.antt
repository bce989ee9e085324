-- The code's keys and kinds of references, as the definitions have them.
use Rattle.std.specs.Prelude.{List, MatchOption, Option, Some, slice_get, ℕ, ◌≡◌, ◌≢◌}
use Rattle.theory_definitions.specs.Plan as plan
use Rattle.schema_drafts.specs.KeywordViews.{draft_of}
use Rattle.schema_traits.specs.ResolverViews.{place_of}
use Rattle.schema_keys.specs.declared.key.SchemaKey.{SchemaKey}
use Rattle.schema_keys.specs.declared.references.ReferenceKind.{ReferenceKind}
use Rattle.schema_keys.specs.declared.references.ReferenceKind.TheVariants as kind

abbrev pub key_of : {S P : Type 0} → (S → P) → SchemaKey S → plan.Key P
key_of point k = record {
  target = record { place = place_of k.place; state = point k.state; draft = draft_of k.draft; vocabularies = k.vocabularies };
  location = k.location;
  base = k.resource_base;
  start = k.resource_start;
}

abbrev pub kind_of : ReferenceKind → plan.Reference
kind_of kind.Ref = plan.to_ref
kind_of kind.Dynamic = plan.to_dynamic
kind_of kind.Recursive = plan.to_recursive

-- the number of a key among these; `None` if it has none
abbrev pub IsNumberOf : {S : Type 0} → List (plan.Key S) → plan.Key S → Option ℕ → Type 0
IsNumberOf keys k o = MatchOption o ((i : ℕ) → slice_get keys i ≢ Some k) (λ n. slice_get keys n ≡ Some k)
