-- The shape of a keyword: what is known of it apart from its representation.
use Rattle.std.specs.Prelude.{map, string_bytes}
use Rattle.serde_json.specs.View.{view}
use Rattle.serde_json.specs.Written.{compact_text, has_float}
use Rattle.schema_applicators.specs.ApplicatorShape.{has_all_of, has_any_of, has_if, has_not, has_one_of}
use Rattle.standard_basics.specs.BasicShape.{BasicShape, applies, has_count, has_items, has_pattern, has_prefix_items, has_properties, has_property_names, has_type, has_types, requires}
use Rattle.standard_basics.specs.declared.keyword.BasicKeyword.{BasicKeyword}
use Rattle.standard_basics.specs.declared.keyword.BasicKeyword.TheVariants as keyword

abbrev pub shape_of : BasicKeyword → BasicShape
shape_of (keyword.Type name) = has_type name
shape_of (keyword.Types names) = has_types names.items
shape_of (keyword.Required names) = requires (map string_bytes names.items)
shape_of (keyword.Properties names) = has_properties names
shape_of (keyword.Count kind limit) = has_count kind limit
shape_of (keyword.Pattern pattern) = has_pattern (string_bytes pattern)
shape_of (keyword.AllOf count) = applies (has_all_of count)
shape_of (keyword.PrefixItems count) = has_prefix_items count
shape_of (keyword.Items before) = has_items before
shape_of (keyword.AnyOf count) = applies (has_any_of count)
shape_of (keyword.OneOf count) = applies (has_one_of count)
shape_of (keyword.If accepted refused) = applies (has_if accepted refused)
shape_of keyword.PropertyNames = has_property_names
shape_of (keyword.Not schema) = applies (has_not (compact_text (view schema)) (has_float (view schema)))
