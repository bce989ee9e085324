use Rattle.std.proofs.Common.{subst, ◌≡◌}
use Rattle.std.specs.Prelude.{option_and_then, option_map, string_bytes}
use Rattle.serde_json.specs.View.{view}
use Rattle.schema_drafts.specs.KeywordViews.{draft_of}
use Rattle.schema_traits.specs.Showing.{Shows}
use Rattle.standard_resolver.specs.Dialects.{draft_said, schema_of}
use Rattle.standard_subschemas.specs.DocumentUris as uris
use Rattle.standard_subschemas.specs.SubschemaRules.{identifier, without_fragment}
use Rattle.standard_subschemas.specs.declared.rules.Rule.TheVariants.{Standard}
use Rattle.jsonschema.proofs.supplied.own_uri.Goals as goal

pub returns : goal.returns
returns c =
    let d = c.args.document.now in
    let v = view d.value.now in
    let around : c.without_fragment-around.result.now ≡ without_fragment (string_bytes d.uri) = cc in
    record {
      own = subst (λ u. Shows (option_map string_bytes) c.uri_of.result (option_and_then (uris.own_uri Standard u) (identifier (draft_said (draft_of c.args.default) (schema_of v)) v))) around
          (subst (λ x. Shows (option_map string_bytes) c.uri_of.result (option_and_then (uris.own_uri Standard c.without_fragment-around.result.now) (identifier x v)))
          c.draft_said-draft.ensures.draft c.uri_of.ensures.uri);
    }
