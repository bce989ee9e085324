use Rattle.std.proofs.Common.{◌≡◌, ◌++◌, [], drop, map, string_bytes}
use denote.Text.{Utf8}
use denote.Shadow.{shadow}
use Rattle.standard_pattern_properties.specs.GatedKeywords.{in_quotes}
use Rattle.standard_pattern_properties.proofs.telling.push_quoted.Given as goal

abbrev pub invariant-loop-name : goal.invariant-loop-name
invariant-loop-name l = shadow (Utf8 l.before)
    × (string_bytes l.text ++ in_quotes l.before (map string_bytes (drop l.name-index l.names))
    ≡ string_bytes l.initial.text ++ in_quotes [] (map string_bytes l.names))
