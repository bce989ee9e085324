use Rattle.std.proofs.Common.{sym, ◌∙◌}
use Rattle.std.specs.List.{list_any}
use Rattle.std.specs.Prelude.{bytes_eq, drop, false, length, map, string_bytes, true, ◌+◌, ◌<◌, ◌||◌, ◌≡◌}
use Rattle.schema_drafts.proofs.AnyLeft.{any_left}
use Rattle.schema_drafts.proofs.keywords.vocabularies.contains_text.Goals as goal

pub returns-then-eq : goal.returns-then-eq
returns-then-eq c =
    let within : c.loop-other.other-index < length c.args.texts.now = c.loop-other-test.true in
    let left : list_any (bytes_eq (string_bytes c.args.text.now)) (map string_bytes (drop c.loop-other.other-index c.args.texts.now))
    ≡ (bytes_eq (string_bytes c.args.text.now) (string_bytes c.other-item.result) || list_any (bytes_eq (string_bytes c.args.text.now)) (map string_bytes (drop (c.loop-other.other-index + 1) c.args.texts.now)))
    = any_left string_bytes (bytes_eq (string_bytes c.args.text.now)) c.args.texts.now c.loop-other.other-index c.other-item.result within c.other-item.is in
    let same : bytes_eq c.as_str.result.now c.as_str-in-loop-other.result.now ≡ true = sym c.eq.ensures ∙ c.if-eq.true in
    let same' : bytes_eq (string_bytes c.args.text.now) (string_bytes c.other-item.result) ≡ true = rw (← c.as_str.ensures.value, ← c.as_str-in-loop-other.ensures.value) same in
    record { found = sym (sym c.loop-other.invariant ∙ left ∙ rw same') }

pub loop-other-preserved : goal.loop-other-preserved
loop-other-preserved c =
    let within : c.loop-other.other-index < length c.args.texts.now = c.loop-other-test.true in
    let left : list_any (bytes_eq (string_bytes c.args.text.now)) (map string_bytes (drop c.loop-other.other-index c.args.texts.now))
    ≡ (bytes_eq (string_bytes c.args.text.now) (string_bytes c.other-item.result) || list_any (bytes_eq (string_bytes c.args.text.now)) (map string_bytes (drop (c.loop-other.other-index + 1) c.args.texts.now)))
    = any_left string_bytes (bytes_eq (string_bytes c.args.text.now)) c.args.texts.now c.loop-other.other-index c.other-item.result within c.other-item.is in
    let other : bytes_eq c.as_str.result.now c.as_str-in-loop-other.result.now ≡ false = sym c.eq.ensures ∙ c.if-eq.false in
    let other' : bytes_eq (string_bytes c.args.text.now) (string_bytes c.other-item.result) ≡ false = rw (← c.as_str.ensures.value, ← c.as_str-in-loop-other.ensures.value) other in
    sym (rw other' at left) ∙ c.loop-other.invariant
