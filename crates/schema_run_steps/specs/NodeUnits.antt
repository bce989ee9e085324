-- The result of a keyword's evaluation, with the keyword's name.
use Rattle.theory_definitions.specs.Instance.{Text}
use Rattle.theory_definitions.specs.Keywords.{Gives, Named}

abbrev pub named_gives : Text → Gives → Named
named_gives name g = record { name = name; valid = g.valid; children = g.children; annotations = g.annotations; errors = g.errors }
