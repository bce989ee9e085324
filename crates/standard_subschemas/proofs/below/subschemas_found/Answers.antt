use Rattle.std.proofs.Common.{◌∙◌, ap, map, sym}
use Rattle.serde_json.specs.Data.{Data, object}
use Rattle.serde_json.specs.View.{members_view, view}
use Rattle.serde_json.specs.declared.value.Value.{Value}
use Rattle.serde_json.proofs.Views.{view-Object}
use Rattle.schema_drafts.specs.KeywordViews.{draft_of}
use Rattle.standard_subschemas.specs.SubschemaRules.{subschemas}
use Rattle.standard_subschemas.specs.FoundSchemas.{found_at}
use Rattle.standard_subschemas.specs.FoundViews.{found_of}
use Rattle.standard_subschemas.proofs.NoneNamed.{none_named}
use Rattle.standard_subschemas.proofs.below.subschemas_found.Goals as goal

pub returns-else-any_names_schemas : goal.returns-else-any_names_schemas
returns-else-any_names_schemas c =
    let members = members_view c.in-Object.members.entries in
    record {
      found = ap (map found_of) c.new.ensures.items
          ∙ ap (map (found_at (object members)))
          (sym (none_named c.args.rule (draft_of c.args.draft) members (sym c.any_names_schemas.ensures.any
          ∙ c.if-any_names_schemas.false)))
          ∙ ap (λ (d : Data). map (found_at d) (subschemas c.args.rule (draft_of c.args.draft) d)) (sym (view-Object c.in-Object.members))
          ∙ ap (λ (v : Value). map (found_at (view v)) (subschemas c.args.rule (draft_of c.args.draft) (view v))) (sym c.in-Object.is);
    }
