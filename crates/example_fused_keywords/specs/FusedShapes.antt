-- The shape of a keyword of the code.
use Rattle.standard_basics.specs.Shapes.{shape_of}
use Rattle.example_fused_keywords.specs.FusedShape.{FusedShape, of_array, of_bench}
use Rattle.example_fused_keywords.specs.declared.keyword.FusedKeyword.{FusedKeyword}
use Rattle.example_fused_keywords.specs.declared.keyword.FusedKeyword.TheVariants as keyword

abbrev pub fused_shape : FusedKeyword → FusedShape
fused_shape (keyword.Bench k) = of_bench (shape_of k)
fused_shape (keyword.Array k) = of_array k
