-- What is known of a keyword apart from its representation.
use Rattle.std.specs.Prelude.{Bool, List, [], true}
use Rattle.theory_definitions.specs.Instance.{Text}
use Rattle.standard_basics.specs.BasicShape.{BasicShape, is_whole}
use Rattle.standard_basics.specs.BasicShape as bench
use Rattle.example_fused_keywords.specs.Openings.{absorbs}
use Rattle.example_fused_keywords.specs.declared.array.ArrayKeyword.{ArrayKeyword}

pub data FusedShape : Type 0 where
  of_bench : BasicShape → FusedShape
  of_array : ArrayKeyword → FusedShape

-- the names of the keywords that it absorbs
abbrev pub absorbed_by : FusedShape → List Text
absorbed_by (of_bench m) = []
absorbed_by (of_array k) = absorbs k

-- whether none of its texts holds a fraction of the schema
abbrev pub is_free : FusedShape → Bool
is_free (of_bench m) = is_whole m
is_free (of_array k) = true

-- whether it declares that it is monotone
abbrev pub says_monotone : FusedShape → Bool
says_monotone (of_bench m) = bench.says_monotone m
says_monotone (of_array k) = true
