use Rattle.std.proofs.Common.{◌++◌, ◌∙◌, ap₂, codes, string_bytes}
use Rattle.std.proofs.lemmas.Result.{IfOk-equal}
use Rattle.json.specs.Print.{quoted}
use Rattle.schema_output.proofs.Pushes.{behind, pushed_whole}
use Rattle.schema_output.proofs.text.push_error.Goals as goal

pub returns : goal.returns
returns c =
    let o0 = string_bytes c.args.out.now in
    let o1 = string_bytes c.push_str.new.self in
    let o2 = string_bytes c.push_quoted.new.out in
    let o3 = string_bytes c.push_str-2.new.self in
    let o4 = string_bytes c.push_quoted-2.new.out in
    let name = quoted c.as_str.result.now in
    let text = quoted c.as_str-2.result.now in
    let last = codes "}," in
    record {
      error = IfOk-equal c.push_str-3.result _ (o4 ++ last) _ (pushed_whole c.push_str-3.result _ o4 last c.push_str-3.ensures.bytes)
          (behind o3 o4 text c.in_ok-push_quoted-2.ensures.quoted last
          ∙ behind o2 o3 (codes ":") c.in_ok-push_str-2.ensures.bytes (text ++ last)
          ∙ behind o1 o2 name c.in_ok-push_quoted.ensures.quoted (codes ":" ++ (text ++ last))
          ∙ behind o0 o1 (codes "\"errors\":{") c.in_ok-push_str.ensures.bytes (name ++ (codes ":" ++ (text ++ last)))
          ∙ ap₂ (λ n t. o0 ++ (codes "\"errors\":{" ++ (quoted n ++ (codes ":" ++ (quoted t ++ last))))) c.as_str.ensures.value c.as_str-2.ensures.value);
    }
