use Rattle.std.proofs.Common.{◌≡◌, ◌∙◌, [], ap, arith, drop, get_or, sym}
use Rattle.std.proofs.lemmas.Bool.{and_parts}
use Rattle.std.proofs.lemmas.List.{drop_all, drop_more}
use Rattle.json.specs.Print.{escape}
use Rattle.schema_reports.proofs.PlainBytes.{plain_turn}
use Rattle.schema_reports.proofs.shared_location.is_plain.Goals as goal

pub loop-byte-init : goal.loop-byte-init
loop-byte-init c = λ _ h. h

pub loop-byte-preserved : goal.loop-byte-preserved
loop-byte-preserved c =
    let i = c.loop-byte.byte-index in
    let xs = c.args.text.now in
    λ both. plain_turn xs i (get_or xs i 0) (drop_more xs i 0 (omega arith)) (c.is_plain_byte-plain.ensures.plain (and_parts c.loop-byte.plain _ both).1)
    (c.loop-byte.invariant (and_parts c.loop-byte.plain _ both).0)

pub returns : goal.returns
returns c =
    let l = c.loop-byte in
    let none : drop l.byte-index c.args.text.now ≡ [] = drop_all l.byte-index c.args.text.now (omega arith) in
    record { plain = λ yes. l.invariant yes (ap escape none ∙ sym none) }
