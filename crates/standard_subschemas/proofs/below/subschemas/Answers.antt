use Rattle.std.proofs.Common.{Global, Vec, ◌≡◌, ◌∙◌, ap, map}
use Rattle.std.proofs.lemmas.Result.{IfOk-weaker}
use Rattle.serde_json.specs.View.{view}
use Rattle.theory_definitions.specs.Drafts.{at_path}
use Rattle.schema_traits.specs.declared.schema_place.SchemaPlace.{SchemaPlace}
use Rattle.schema_traits.specs.ResolverViews.{place_of}
use Rattle.schema_drafts.specs.KeywordViews.{draft_of}
use Rattle.standard_subschemas.specs.SubschemaRules.{subschemas}
use Rattle.standard_subschemas.specs.FoundViews.{path_of}
use Rattle.standard_subschemas.proofs.Finding.{paths_found}
use Rattle.standard_subschemas.proofs.below.subschemas.Goals as goal

pub returns : goal.returns
returns c =
    let schema = view c.args.schema.now in
    let below = subschemas c.args.rule (draft_of c.args.draft) schema in
    let at = at_path (place_of c.args.place.now) in
    let paths : map path_of c.as_slice.result.now ≡ below = ap (map path_of) c.as_slice.ensures.value
    ∙ paths_found schema c.in_ok-found.found.items below c.in_ok-found.ensures.found in
    record {
      places = IfOk-weaker c.places_found.result (λ (places : Vec SchemaPlace Global). map place_of places.items
          ≡ map at (map path_of c.as_slice.result.now))
          (λ (places : Vec SchemaPlace Global). map place_of places.items ≡ map at below) (λ places is. is ∙ ap (map at) paths)
          c.places_found.ensures.places;
    }
