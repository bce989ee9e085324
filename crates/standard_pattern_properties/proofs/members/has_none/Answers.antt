use Rattle.std.proofs.Common.{◌∙◌, ap, option_map, sym}
use Rattle.serde_json.specs.View.{members_view}
use Rattle.schema_traits.specs.KeywordViews.{is_nil}
use Rattle.keyword_authoring.specs.Members.{names_of_any}
use Rattle.standard_pattern_properties.proofs.AtOnce.{empty_names}
use Rattle.standard_pattern_properties.proofs.members.has_none.Goals as goal

pub returns-in-Some : goal.returns-in-Some
returns-in-Some c = record {
  none = empty_names c.in-Some.members.now.entries c.is_empty.result c.is_empty.ensures
      ∙ ap is_nil (ap (λ o. names_of_any (option_map (λ m. members_view m.now.entries) o)) (sym c.in-Some.is) ∙ c.members_of.ensures.names);
}
