-- The shape of a keyword: what is known of it apart from its representation.
use Rattle.serde_json.specs.View.{view}
use Rattle.serde_json.specs.Written.{compact_text, has_float}
use Rattle.schema_applicators.specs.ApplicatorShape.{ApplicatorShape, has_all_of, has_any_of, has_if, has_not, has_one_of}
use Rattle.schema_applicators.specs.declared.applicator.Applicator.{Applicator}
use Rattle.schema_applicators.specs.declared.applicator.Applicator.TheVariants as keyword

abbrev pub shape_of : Applicator → ApplicatorShape
shape_of (keyword.AllOf count) = has_all_of count
shape_of (keyword.AnyOf count) = has_any_of count
shape_of (keyword.OneOf count) = has_one_of count
shape_of (keyword.Not schema) = has_not (compact_text (view schema)) (has_float (view schema))
shape_of (keyword.If accepted refused) = has_if accepted refused
