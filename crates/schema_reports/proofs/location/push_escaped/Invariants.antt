use Rattle.std.proofs.Common.{◌≡◌, ◌++◌, length, drop, string_bytes}
use Rattle.std.specs.Str.{chars}
use lib.Utf8.{encodes}
use Rattle.theory_definitions.specs.Pointer.{escaped}
use Rattle.schema_reports.proofs.location.push_escaped.Given as goal

abbrev pub invariant-loop-c : goal.invariant-loop-c
invariant-loop-c l = string_bytes l.text ++ escaped (encodes (drop (length l.yielded) (chars l.name))) ≡ string_bytes l.initial.text ++ escaped l.name
