use Rattle.std.proofs.Common.{◌≡◌, ◌+◌, ◌++◌, length, drop, sym, ap, ◌∙◌, arith, string_bytes, append_assoc, append-nil}
use Rattle.std.proofs.lemmas.Iterator.{YieldsList-from_chars}
use Rattle.std.proofs.lemmas.List.{length_push}
use Rattle.std.proofs.lemmas.Iterator.Consumers.{YieldsList-turn, YieldsList-end}
use Rattle.std.specs.Str.{chars}
use lib.Utf8.{encode, encodes}
use Rattle.theory_definitions.specs.Pointer.{escaped}
use Rattle.schema_reports.proofs.Escaped.{escaped_left, escaped_end, spelled}
use Rattle.schema_reports.proofs.location.push_escaped.Goals as goal

pub loop-c-init : goal.loop-c-init
loop-c-init c = ap (λ xs. string_bytes c.args.text.now ++ escaped xs) (spelled c.args.name.now c.utf8.name)

pub loop-c-preserved : goal.loop-c-preserved
loop-c-preserved c =
    let cs = chars c.args.name.now in
    let n = length c.loop-c.yielded in
    let t = YieldsList-turn (YieldsList-from_chars c.args.name.now c.utf8.name cc) c.loop-c.yielded _ c.loop-c.yielded_by _ _ c.in-Some.c c.in-Some.is c.next.ensures.steps in
    let e = escaped_left cs n c.in-Some.c t in
    let more = length_push c.loop-c.yielded c.in-Some.c in
    let written : string_bytes c.push_escaped_char.new.text ≡ string_bytes c.loop-c.text ++ escaped (encode c.in-Some.c) = c.in_ok-push_escaped_char.ensures.escaped in
    ap (λ k. string_bytes c.push_escaped_char.new.text ++ escaped (encodes (drop k cs))) more
    ∙ ap (λ (r : _). r ++ escaped (encodes (drop (n + 1) cs))) written
    ∙ append_assoc (string_bytes c.loop-c.text) _ _
    ∙ ap (λ r. string_bytes c.loop-c.text ++ r) (sym e)
    ∙ c.loop-c.invariant

pub returns : goal.returns
returns c =
    let t = YieldsList-end (YieldsList-from_chars c.args.name.now c.utf8.name cc) c.loop-c.yielded _ c.loop-c.yielded_by _ _ c.in-None.is c.next.ensures.steps in
    let e = escaped_end (chars c.args.name.now) (length c.loop-c.yielded) (omega (arith, t.1)) in
    record { escaped = sym (append-nil _) ∙ ap (λ r. string_bytes c.loop-c.text ++ r) (sym e) ∙ c.loop-c.invariant }
