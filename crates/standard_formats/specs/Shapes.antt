-- The shape of a keyword as the engine sees it: the keyword itself.
use Rattle.keyword_authoring.specs.declared.leaves.Telling.{Telling}
use Rattle.standard_formats.specs.declared.keyword.FormatKeyword.{FormatKeyword}

abbrev pub shape_of : Telling FormatKeyword → FormatKeyword
shape_of k = k.keyword
