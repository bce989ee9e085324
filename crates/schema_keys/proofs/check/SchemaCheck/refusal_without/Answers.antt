use Rattle.std.proofs.Common.{◌≡◌, ◌∙◌, [], List, ap, false, map, subst, sym}
use Rattle.std.specs.Prelude.{IfOk, MatchOption, None}
use Rattle.serde_json.specs.Data.{Data}
use Rattle.serde_json.specs.View.{view}
use Rattle.theory_meaning.specs.Documents.{Cut, masked}
use Rattle.schema_drafts.specs.KeywordViews.{draft_of}
use Rattle.schema_traits.specs.ResolverViews.{place_of}
use Rattle.schema_keys.specs.Compiling.{resolving_parts}
use Rattle.schema_keys.specs.Checking.{IsErrorBelow}
use Rattle.schema_keys.specs.CutViews.{cut_of}
use Rattle.schema_keys.proofs.MaskedDocuments.{blanked_nowhere}
use Rattle.schema_keys.proofs.CheckedDocuments.{no_cuts}
use Rattle.schema_keys.proofs.check.SchemaCheck.refusal_without.Goals as goal

pub returns-then-is_empty : goal.returns-then-is_empty
returns-then-is_empty g c =
    let w = resolving_parts (g.R.Resolver.resolving c.args.self.now.resolver.now) in
    let refuses = g.V.MetaValidators.checked c.args.self.now.metas.now in
    let p = place_of c.args.place.now in
    let d = view c.args.schema.now in
    let same : masked w (map cut_of c.args.cuts.now) p d ≡ d = ap (λ (qs : List Cut). masked w qs p d) (no_cuts c.is_empty.result c.args.cuts.now c.is_empty.ensures c.if-is_empty.true) ∙ blanked_nowhere w p d in
    record {
      refusal = subst (λ (v : Data). IfOk c.refusal.result (λ o. MatchOption o (refuses false (draft_of c.args.draft) v ≡ None) (IsErrorBelow refuses [] (draft_of c.args.draft) v))) (sym same) c.refusal.ensures.refusal;
    }
