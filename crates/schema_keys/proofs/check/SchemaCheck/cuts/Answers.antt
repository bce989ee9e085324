use Rattle.std.proofs.Common.{◌∙◌, ap, map, suc, sym}
use Rattle.serde_json.specs.Data.{depth}
use Rattle.theory_definitions.specs.Plan.{schema_at}
use Rattle.schema_drafts.specs.KeywordViews.{draft_of}
use Rattle.schema_traits.specs.ResolverViews.{place_of}
use Rattle.schema_keys.specs.Compiling.{resolving_parts}
use Rattle.schema_keys.specs.CutViews.{cut_of}
use Rattle.schema_keys.proofs.CheckedDocuments.{none_cut}
use Rattle.schema_keys.proofs.check.SchemaCheck.cuts.Goals as goal

pub returns-then-not-may_change_draft : goal.returns-then-not-may_change_draft
returns-then-not-may_change_draft g c =
    let r = g.R.Resolver.resolving c.args.self.now.resolver.now in
    let p = place_of c.args.place.now in
    let n = suc (depth (schema_at (resolving_parts r) p)) in
    let kept = c.may_change_draft.ensures.keeps c.value-schema.ensures.value c.if-not-may_change_draft.true n in
    record { cuts = ap (map cut_of) c.new-cuts.ensures.items ∙ sym (none_cut r n (draft_of c.args.draft) p kept) }
