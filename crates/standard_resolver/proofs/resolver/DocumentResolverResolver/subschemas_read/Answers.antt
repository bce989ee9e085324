use Rattle.std.proofs.Common.{Bor, ◌≡◌, ◌∙◌, List, Option, Some, ap, map, option_map, subst, sym}
use Rattle.std.specs.Prelude.{IfOk}
use Rattle.serde_json.specs.Data.{Data}
use Rattle.serde_json.specs.View.{view}
use Rattle.serde_json.specs.declared.value.Value.{Value}
use Rattle.theory_definitions.specs.Drafts.{at_path}
use Rattle.schema_traits.specs.ResolverViews.{Placed, place_of, placed_in, placed_of}
use Rattle.schema_drafts.specs.KeywordViews.{draft_of}
use Rattle.standard_subschemas.specs.declared.rules.Rule.{Rule}
use Rattle.standard_subschemas.specs.SubschemaRules.{subschemas, subschemas_of}
use Rattle.standard_subschemas.specs.FoundSchemas.{found_at}
use Rattle.standard_subschemas.specs.FoundViews.{placed_at}
use Rattle.standard_resolver.specs.ResolverAnswers.{document_resolving}
use Rattle.standard_resolver.specs.ResolverDocuments.{HeldDocuments, documents_of, value_in}
use Rattle.standard_resolver.specs.SubschemaLaws.{found_there}
use Rattle.standard_resolver.proofs.resolver.DocumentResolverResolver.subschemas_read.Goals as goal

pub returns-in-Some : goal.returns-in-Some
returns-in-Some c = record {
  subschemas = λ read.
      let r = c.args.self.now in
      let p = place_of c.args.place.now in
      let v : Data = view c.in-Some.schema.now in
      let there : value_in (documents_of r) p ≡ Some v = sym read ∙ ap (option_map (λ (b : Bor Value). view b.now)) c.in-Some.is in
      let draft = draft_of c.args.draft in
      let same = ap (λ (rule : Rule). map (placed_at p) (map (found_at v) (subschemas rule draft v)))
      (ap (λ (b : HeldDocuments). b.rule) c.self.view_is) ∙ found_there r p draft v there
      ∙ ap (λ (o : Option Data). map (placed_in (document_resolving r)) (map (at_path p) (subschemas_of r.rule draft o))) (sym there) in
      subst (λ (qs : List Placed). IfOk c.subschemas_placed.result (λ ps. map placed_of ps.items ≡ qs)) same
      c.subschemas_placed.ensures.placed;
}
