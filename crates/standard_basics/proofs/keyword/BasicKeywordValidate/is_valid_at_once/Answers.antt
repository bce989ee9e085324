use Rattle.std.proofs.Common.{◌≡◌, map, not, rules, string_bytes, subst, sym}
use Rattle.std.specs.List.{list_any}
use Rattle.schema_reports.specs.InstanceViews.{subject_of}
use Rattle.schema_traits.specs.AtOnce.{EndsAtOnce}
use Rattle.standard_basics.specs.BasicShape.{requires}
use Rattle.standard_basics.specs.Shapes.{shape_of}
use Rattle.standard_basics.specs.Words.{words}
use Rattle.standard_basics.specs.declared.keyword.BasicKeyword.TheVariants as keyword
use Rattle.standard_basics.proofs.AtOnce.{required_ends}
use Rattle.standard_basics.proofs.MissingNames.{lacks_it}
use Rattle.standard_basics.proofs.keyword.BasicKeywordValidate.is_valid_at_once.Goals as goal

pub returns-in-Required : goal.returns-in-Required
returns-in-Required c = record {
  at_once = λ texts tells.
      let is : c.args.self.now ≡ keyword.Required c.in-Required.names = search rules in
      let lacks : list_any (lacks_it string_bytes (subject_of c.args.instance)) c.in-Required.names.items ≡ c.lacks_one.result = search rules in
      subst (λ k. EndsAtOnce (words texts) (shape_of k) (subject_of c.args.instance) (not c.lacks_one.result)) (sym is)
      (subst (λ b. EndsAtOnce (words texts) (requires (map string_bytes c.in-Required.names.items)) (subject_of c.args.instance) (not b)) lacks
      (required_ends string_bytes texts (subject_of c.args.instance) c.in-Required.names.items));
}
