use Rattle.std.proofs.Common.{◌≡◌, ◌++◌, drop, string_bytes}
use Rattle.standard_basics.specs.Words.{more_names}
use Rattle.standard_basics.proofs.types.push_more.Given as goal

abbrev pub invariant-loop-name : goal.invariant-loop-name
invariant-loop-name l = string_bytes l.initial.text ++ more_names l.names ≡ string_bytes l.text ++ more_names (drop l.name-index l.names)
