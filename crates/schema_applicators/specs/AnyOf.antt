-- `anyOf` accepts an instance if at least one of its schemas accepts it (Core 2020-12, 10.2.1.2).
use Rattle.std.specs.Prelude.{Bool, Contains, List, true}

abbrev pub OneAccepts : List Bool → Type 0
OneAccepts verdicts = Contains verdicts true
