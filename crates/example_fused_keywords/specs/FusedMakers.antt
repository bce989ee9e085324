-- The code's makers, in terms of the definitions.
use Rattle.schema_traits.specs.MakerViews.{Waiting, begun, ended, waits}
use Rattle.keyword_makers.specs.MakerViews.{waiting_of}
use Rattle.example_fused_keywords.specs.FusedScripts.{asks_fused, ends_fused}
use Rattle.example_fused_keywords.specs.FusedShape.{FusedShape}
use Rattle.example_fused_keywords.specs.FusedShapes.{fused_shape}
use Rattle.example_fused_keywords.specs.declared.array.ArrayKeyword.TheVariants.{ArrayShape}
use Rattle.example_fused_keywords.specs.declared.table.FusedMaker.{FusedMaker}
use Rattle.example_fused_keywords.specs.declared.table.FusedMaker.TheVariants as maker

abbrev pub fused_waiting : FusedMaker → Waiting FusedShape
fused_waiting (maker.Plain m) = waiting_of fused_shape m
fused_waiting (maker.AsksItems before least) = begun (asks_fused (ArrayShape before least))
fused_waiting (maker.HasItems before least) = waits 0 (ends_fused (ArrayShape before least)) (ends_fused (ArrayShape before least))
fused_waiting maker.Over = ended
