use Rattle.std.proofs.Common.{◌∙◌, ap, string_bytes}
use Rattle.schema_run_steps.specs.EntryUnits.{absorbed_of}
use Rattle.schema_reports.specs.EvaluationResults.{gives_of, named_of}
use Rattle.theory_definitions.specs.Instance.{Text}
use Rattle.theory_definitions.specs.Keywords.{Named}
use Rattle.theory_definitions.specs.Reports.{Unit_}
use Rattle.theory_definitions.specs.Units.{keyword_unit}
use Rattle.schema_run_steps.specs.NodeUnits.{named_gives}
use Rattle.schema_node_table.specs.NodeViews.{node_of}
use Rattle.schema_run_steps.specs.Askings.{asking, where_asked}
use Rattle.schema_traits.proofs.Replies.{made_more}
use Rattle.schema_run_steps.proofs.units.absorbed_units.Goals as goal

pub loop-one-preserved : goal.loop-one-preserved
loop-one-preserved g c =
    let f : Named → Text × Unit_ = λ a. (a.name, keyword_unit (where_asked (node_of c.args.node.now) (asking c.args.question.now)) a) in
    record {
      so_far = λ texts. made_more (absorbed_of texts) f (named_of texts)
          c.loop-one.units.items _ (record { keyword = c.in-Some.one.keyword; unit = c.in_ok-unit.unit }) c.in-Some.one _ _ _ c.in_ok-push.ensures.items c.in-Some.ensures.steps.0 (λ i. (string_bytes c.in-Some.one.keyword, (c.in_ok-unit.ensures.unit texts ∙ ap (λ name. keyword_unit (where_asked (node_of c.args.node.now) (asking c.args.question.now)) (named_gives name (gives_of texts c.in-Some.one.result))) c.as_str.ensures.value) i)) (c.loop-one.invariant.so_far texts);
      stays = c.in_ok-unit.ensures.stays ∙ c.loop-one.invariant.stays;
    }
