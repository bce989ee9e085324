use Rattle.std.proofs.Common.{◌∙◌, ap, sym, true}
use Rattle.serde_json.specs.Written.{compact_text}
use Rattle.schema_reports.specs.UnitLevels.{unit_valid}
use Rattle.standard_outputs.specs.Basic.{flag_object}
use Rattle.standard_outputs.proofs.Flags.{flag_accepted, flag_refused}
use Rattle.standard_outputs.proofs.basic_units.flag_text.Goals as goal

pub returns-then-root : goal.returns-then-root
returns-then-root c = record { text = flag_accepted ∙ ap (λ b. compact_text (flag_object b)) (sym (unit_valid true c.args.root.now ∙ c.if-root.true)) }

pub returns-else-root : goal.returns-else-root
returns-else-root c = record { text = flag_refused ∙ ap (λ b. compact_text (flag_object b)) (sym (unit_valid true c.args.root.now ∙ c.if-root.false)) }
