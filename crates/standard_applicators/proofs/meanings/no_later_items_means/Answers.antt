use Rattle.std.proofs.Common.{codes, nat_le, sym, ◌∙◌}
use Rattle.std.proofs.lemmas.Bool.{le-leb, leb-true}
use Rattle.schema_reports.specs.ReportViews.{spoken}
use Rattle.keyword_authoring.specs.Items.{item_count}
use Rattle.standard_applicators.specs.Unexpected.{error_text}
use Rattle.standard_applicators.proofs.Meant.{nil_unless, one_unless}
use Rattle.standard_applicators.proofs.meanings.no_later_items_means.Goals as goal

pub returns-clause-holds : goal.returns-clause-holds
returns-clause-holds c = λ texts s matches k accepts.
    let tells = nil_unless (spoken texts) (nat_le (item_count s) k.before) (error_text k s) in
    ((λ h. leb-true (item_count s) k.before (sym tells ∙ h)), (λ h. tells ∙ le-leb (item_count s) k.before h))

pub returns-clause-faults : goal.returns-clause-faults
returns-clause-faults c = λ texts s matches k answers.
    one_unless (spoken texts) (nat_le (item_count s) k.before) _ (codes "additionalItems") (error_text k s) (leb-true (item_count s) k.before, le-leb (item_count s) k.before)
