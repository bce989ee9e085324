use Rattle.std.proofs.Common.{◌≡◌, drop, true}
use Rattle.json.specs.Print.{escape}
use Rattle.schema_reports.proofs.shared_location.is_plain.Given as goal

-- if the remaining bytes need no escapes, then neither does the whole text
abbrev pub invariant-loop-byte : goal.invariant-loop-byte
invariant-loop-byte l = l.plain ≡ true → escape (drop l.byte-index l.text) ≡ drop l.byte-index l.text → escape l.text ≡ l.text
