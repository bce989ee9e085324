use Rattle.std.proofs.Common.{ap, append_assoc, codes, string_bytes, ◌++◌, ◌∙◌}
use Rattle.standard_formats.proofs.keyword.push_no_format.Goals as goal

pub returns : goal.returns
returns c =
    let front = codes " is not a \"" in
    let mark = codes "\"" in
    record {
      pushed = c.in_ok-push_str-3.ensures.bytes
          ∙ ap (λ x. x ++ mark) (c.in_ok-push_str-2.ensures.bytes ∙ ap (λ x. x ++ c.args.name.now) c.in_ok-push_str.ensures.bytes)
          ∙ append_assoc (string_bytes c.args.text.now ++ front) c.args.name.now mark
          ∙ append_assoc (string_bytes c.args.text.now) front (c.args.name.now ++ mark);
    }
