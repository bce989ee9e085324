use Rattle.std.proofs.Common.{ap}
use Rattle.serde_json.specs.View.{view}
use Rattle.jsonschema.proofs.Builds.{built_of, refused_of}
use Rattle.jsonschema.specs.Sources.{IsResolverOf, SchemaSources}
use Rattle.jsonschema.proofs.building.build_of.Goals as goal

pub returns-in-Ok-clause-built : goal.returns-in-Ok-clause-built
returns-in-Ok-clause-built g c =
    let e = c.in_ok-resolver.ensures in
    let is : IsResolverOf c.args.sources c.in_ok-resolver.resolver = record {
      rule = e.rule;
      uri = e.uri;
      document = e.document;
      others = e.others;
      root_draft = e.root_draft;
      default_draft = e.draft;
      drafts = e.drafts;
      listed = e.listed;
      custom = e.custom;
    } in
    let same = ap (λ (s : SchemaSources). view s.schema) c.sources.view_is in
    built_of _ _ _ (g.V.MetaValidators.checked c.args.metas.now) c.args.options c.args.sources
    _ _ _ _ is c.in_ok-matcher.ensures.matcher c.in_ok-options.ensures.options same c.in-Ok.validator c.in-Ok.ensures.built

pub returns-in-Err-clause-refused : goal.returns-in-Err-clause-refused
returns-in-Err-clause-refused g c =
    let e = c.in_ok-resolver.ensures in
    let is : IsResolverOf c.args.sources c.in_ok-resolver.resolver = record {
      rule = e.rule;
      uri = e.uri;
      document = e.document;
      others = e.others;
      root_draft = e.root_draft;
      default_draft = e.draft;
      drafts = e.drafts;
      listed = e.listed;
      custom = e.custom;
    } in
    let same = ap (λ (s : SchemaSources). view s.schema) c.sources.view_is in
    refused_of _ _ _ (g.V.MetaValidators.checked c.args.metas.now) c.args.options c.args.sources
    _ _ _ _ is c.in_ok-matcher.ensures.matcher c.in_ok-options.ensures.options same c.in-Err.refused c.in-Err.ensures.refused
