use Rattle.std.proofs.Common.{◌∙◌, ap, sym}
use Rattle.serde_json.specs.View.{view}
use Rattle.serde_json.specs.declared.value.Value.{Value}
use Rattle.serde_json.proofs.Views.{view-Object}
use Rattle.theory_meaning.specs.Documents.{passes_unseen}
use Rattle.schema_keys.specs.Compiling.{resolving_parts}
use Rattle.schema_keys.proofs.MaskedDocuments.{unseen_object}
use Rattle.schema_keys.proofs.check.SchemaCheck.passes_unseen.Goals as goal

pub returns-in-Object : goal.returns-in-Object
returns-in-Object g c =
    let w = resolving_parts (g.R.Resolver.resolving c.args.self.now.resolver.now) in
    let members = c.in-Object.members in
    record {
      unseen = unseen_object w members.entries c.is_empty.result c.is_empty.ensures.0 c.is_empty.ensures.1
          ∙ ap (passes_unseen w) (sym (view-Object members)) ∙ ap (λ (v : Value). passes_unseen w (view v)) (sym c.in-Object.is);
    }
