use Rattle.std.proofs.Common.{◌++◌, ◌∙◌, ap, codes, string_bytes}
use Rattle.std.proofs.lemmas.Result.{IfOk-equal}
use Rattle.schema_output.proofs.Pushes.{behind, pushed_whole}
use Rattle.schema_output.proofs.text.push_plain_places.Goals as goal

pub returns : goal.returns
returns c =
    let o0 = string_bytes c.args.out.now in
    let o1 = string_bytes c.push_str.new.self in
    let o2 = string_bytes c.push_str-2.new.self in
    let o3 = string_bytes c.push_str-3.new.self in
    let o4 = string_bytes c.push_str-4.new.self in
    let o5 = string_bytes c.push_str-5.new.self in
    let o6 = string_bytes c.push_str-6.new.self in
    let path = c.args.path.now in
    let place = c.args.place.now in
    let schema = c.args.schema.now in
    let at_evaluation = codes "\"evaluationPath\":\"" in
    let at_instance = codes "\",\"instanceLocation\":\"" in
    let at_schema = codes "\",\"schemaLocation\":\"" in
    let last = c.ending_text.result.now in
    record {
      places = IfOk-equal c.push_str-7.result _ (o6 ++ last) _ (pushed_whole c.push_str-7.result _ o6 last c.push_str-7.ensures.bytes)
          (behind o5 o6 schema c.in_ok-push_str-6.ensures.bytes last
          ∙ behind o4 o5 at_schema c.in_ok-push_str-5.ensures.bytes (schema ++ last)
          ∙ behind o3 o4 place c.in_ok-push_str-4.ensures.bytes (at_schema ++ (schema ++ last))
          ∙ behind o2 o3 at_instance c.in_ok-push_str-3.ensures.bytes (place ++ (at_schema ++ (schema ++ last)))
          ∙ behind o1 o2 path c.in_ok-push_str-2.ensures.bytes (at_instance ++ (place ++ (at_schema ++ (schema ++ last))))
          ∙ behind o0 o1 at_evaluation c.in_ok-push_str.ensures.bytes (path ++ (at_instance ++ (place ++ (at_schema ++ (schema ++ last)))))
          ∙ ap (λ v. o0 ++ (at_evaluation ++ (path ++ (at_instance ++ (place ++ (at_schema ++ (schema ++ v))))))) c.ending_text.ensures.text);
    }
