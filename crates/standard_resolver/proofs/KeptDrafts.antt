-- If no draft is named inside a value, no subschema below it is read in another draft.
use Rattle.std.proofs.Common.{◌≡◌, ◌∙◌, ◌∷◌, List, None, Option, Some, [], ap, false, refl, subst, sym, true≢false, zero, suc, ℕ}
use Rattle.std.specs.List.{AllByRecursion}
use Rattle.std.specs.Prelude.{codes, is_some, unwrap_or}
use Rattle.serde_json.specs.Data.{Data, null}
use Rattle.theory_definitions.specs.Drafts as spec
use Rattle.theory_definitions.specs.Instance.{Text}
use Rattle.theory_definitions.specs.Resolving.{Resolver}
use Rattle.schema_traits.specs.ResolverViews.{IsInside, KeepsDraft, StandsBelow, SubschemasStandBelow}
use Rattle.standard_subschemas.specs.SubschemaRules.{text_member}
use Rattle.standard_subschemas.specs.SubschemaRules as narrow
use Rattle.standard_subschemas.specs.declared.rules.Rule.{Rule}
use Rattle.standard_subschemas.specs.declared.rules.Rule.TheVariants.{Narrow, Standard}
use Rattle.standard_resolver.specs.Dialects.{Reading, detected, dialect_by, dialect_named}
use Rattle.standard_subschemas.specs.NamedDrafts.{names_draft_inside}
use Rattle.standard_subschemas.proofs.UnnamedInside.{IsUnnamed, unnamed_below}

none_there : (o : Option Text) → is_some o ≡ false → o ≡ None
none_there None none = refl
none_there (Some t) none = absurd (true≢false none)

module _ {S : Type 0} (r : Resolver S) (inside : IsInside r) (below : SubschemasStandBelow r) (detects : (d : spec.Draft) (v : Data) → text_member (codes "$schema") v ≡ None → r.detect d v ≡ d) where
  pub keeps : (n : ℕ) (d : spec.Draft) (p : spec.SchemaPlace) → names_draft_inside (unwrap_or (r.value p) null) ≡ false → KeepsDraft r n d p
  keeps zero d p none = tt
  keeps (suc n) d p none = each (λ q unnamed. keeps n d q unnamed) (r.subresources_of d p) (below d p)
    where
      one : ((q : spec.SchemaPlace) → names_draft_inside (unwrap_or (r.value q) null) ≡ false → KeepsDraft r n d q) → (q : spec.SchemaPlace) → StandsBelow r p q → (r.detect d (unwrap_or (r.value q) null) ≡ d) × KeepsDraft r n d q
      one further q (step, path, there, is, stands) =
          let around = inside p (step ∷ path) there (subst (λ (x : spec.SchemaPlace). r.value x ≡ Some there) is stands) in
          let unnamed : IsUnnamed there = unnamed_below around.0 (ap (λ (o : Option Data). names_draft_inside (unwrap_or o null)) (sym around.1) ∙ none) step path there around.2 in
          let read : unwrap_or (r.value q) null ≡ there = ap (λ (o : Option Data). unwrap_or o null) stands in
          (ap (r.detect d) read ∙ detects d there (none_there (text_member (codes "$schema") there) unnamed.0), further q (ap names_draft_inside read ∙ unnamed.1))

      each : ((q : spec.SchemaPlace) → names_draft_inside (unwrap_or (r.value q) null) ≡ false → KeepsDraft r n d q) → (qs : List spec.SchemaPlace) → AllByRecursion (StandsBelow r p) qs → AllByRecursion (λ q. (r.detect d (unwrap_or (r.value q) null) ≡ d) × KeepsDraft r n d q) qs
      each further [] stand = tt
      each further (q ∷ qs) stand = (one further q stand.0, each further qs stand.1)

-- a value without `$schema` has the draft around it
pub undetected : (reading : Reading) (d : spec.Draft) (v : Data) → text_member (codes "$schema") v ≡ None → detected reading d v ≡ d
undetected reading d v none = go reading.rule where
  go : (rule : Rule) → (dialect_by rule reading (record { draft = d; named = None }) v).draft ≡ d
  go Narrow = ap (narrow.named_or d) none
  go Standard = ap (λ (o : Option Text). (dialect_named reading (record { draft = d; named = None }) v o).draft) none
