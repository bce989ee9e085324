-- The shape of an assertion as the engine sees it: the keyword itself.
use Rattle.keyword_authoring.specs.declared.leaves.Telling.{Telling}
use Rattle.standard_assertions.specs.Assertions.{Shape}

abbrev pub shape_of : Telling Shape → Shape
shape_of k = k.keyword
