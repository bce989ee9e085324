use Rattle.std.proofs.Common.{Bor, ◌∙◌, Option, ap, option_map, sym}
use Rattle.std.specs.Prelude.{unwrap_or}
use Rattle.serde_json.specs.Data.{Data, null}
use Rattle.serde_json.specs.View.{view}
use Rattle.serde_json.specs.declared.value.Value.{Value}
use Rattle.schema_traits.specs.ResolverViews.{place_of}
use Rattle.schema_drafts.specs.KeywordViews.{draft_of}
use Rattle.standard_subschemas.specs.NamedDrafts.{names_draft_inside}
use Rattle.standard_resolver.specs.ResolverAnswers.{document_resolving, reading_in}
use Rattle.standard_resolver.specs.ResolverLaws.{values_stand_inside}
use Rattle.standard_resolver.specs.SubschemaLaws.{subschemas_stand_below}
use Rattle.standard_resolver.proofs.KeptDrafts.{keeps, undetected}
use Rattle.standard_resolver.proofs.resolver.DocumentResolverResolver.may_change_draft.Goals as goal

pub returns-in-Some : goal.returns-in-Some
returns-in-Some c = record {
  keeps = λ read is n.
      let r = document_resolving c.args.self.now in
      let p = place_of c.args._place.now in
      let there = sym read ∙ ap (option_map (λ (b : Bor Value). view b.now)) c.in-Some.is in
      keeps r (values_stand_inside c.args.self.now) (subschemas_stand_below c.args.self.now) (undetected (reading_in c.args.self.now)) n (draft_of c.args._draft) p
      (ap (λ (o : Option Data). names_draft_inside (unwrap_or o null)) there ∙ sym c.names_draft_inside.ensures.names ∙ is);
}

pub returns-in-None : goal.returns-in-None
returns-in-None c = record {
  keeps = λ read is n.
      let r = document_resolving c.args.self.now in
      let p = place_of c.args._place.now in
      let none = sym read ∙ ap (option_map (λ (b : Bor Value). view b.now)) c.in-None.is in
      keeps r (values_stand_inside c.args.self.now) (subschemas_stand_below c.args.self.now) (undetected (reading_in c.args.self.now)) n (draft_of c.args._draft) p
      (ap (λ (o : Option Data). names_draft_inside (unwrap_or o null)) none);
}
