use Rattle.std.proofs.Common.{◌≡◌, ◌++◌, ◌∙◌, ap, ap₂, codes, string_bytes, subst, sym}
use Rattle.std.proofs.lemmas.Result.{IfOk-equal}
use Rattle.json.specs.Print.{escape, quoted}
use Rattle.theory_definitions.specs.Instance.{Text}
use Rattle.schema_output.specs.Texts.{plain_places_text, valid_text}
use Rattle.schema_output.proofs.PlainPlaces.{plain_places}
use Rattle.schema_output.proofs.Pushes.{behind, pushed_whole}
use Rattle.schema_output.proofs.text.push_places.Goals as goal

abbrev at_evaluation : Text
at_evaluation = codes "\"evaluationPath\":"

abbrev at_instance : Text
at_instance = codes ",\"instanceLocation\":"

abbrev at_schema : Text
at_schema = codes ",\"schemaLocation\":"

pub returns-then-is_plain_schema : goal.returns-then-is_plain_schema
returns-then-is_plain_schema c =
    let o0 = string_bytes c.args.out.now in
    let path = c.as_str-path.result.now in
    let place = c.as_str-place.result.now in
    let schema = c.schema_location-schema.result.now in
    let valid = c.args.report.now.valid in
    let first : escape path ≡ path = subst (λ (t : Text). escape t ≡ t) (sym c.as_str-path.ensures.text) (c.is_plain.ensures.plain c.if-is_plain.true) in
    let second : escape place ≡ place = subst (λ (t : Text). escape t ≡ t) (sym c.as_str-place.ensures.text) (c.is_plain-then-is_plain.ensures.plain c.if-is_plain-2.true) in
    let third : escape schema ≡ schema = subst (λ (t : Text). escape t ≡ t) (sym c.schema_location-schema.ensures.location) (c.is_plain_schema.ensures.plain c.if-is_plain_schema.true) in
    record {
      places = IfOk-equal c.push_plain_places.result _ (o0 ++ plain_places_text path place schema valid) _ c.push_plain_places.ensures.places
          (ap (λ x. o0 ++ x) (plain_places path place schema valid first second third)
          ∙ ap₂ (λ p i. o0 ++ (at_evaluation ++ (quoted p ++ (at_instance ++ (quoted i ++ (at_schema ++ (quoted schema ++ valid_text valid))))))) c.as_str-path.ensures.text c.as_str-place.ensures.text
          ∙ ap (λ s. o0 ++ (at_evaluation ++ (quoted c.args.report.now.evaluation_path ++ (at_instance ++ (quoted c.args.report.now.instance_location ++ (at_schema ++ (quoted s ++ valid_text valid)))))))
          c.schema_location-schema.ensures.location);
    }

pub returns : goal.returns
returns c =
    let o0 = string_bytes c.args.out.now in
    let o1 = string_bytes c.push_str.new.self in
    let o2 = string_bytes c.push_quoted.new.out in
    let o3 = string_bytes c.push_str-2.new.self in
    let o4 = string_bytes c.push_quoted-2.new.out in
    let o5 = string_bytes c.push_str-3.new.self in
    let o6 = string_bytes c.push_quoted-3.new.out in
    let path = quoted c.as_str-path.result.now in
    let instance = quoted c.as_str-place.result.now in
    let schema = quoted c.schema_location-schema.result.now in
    let last = c.valid_text.result.now in
    record {
      places = IfOk-equal c.push_str-4.result _ (o6 ++ last) _ (pushed_whole c.push_str-4.result _ o6 last c.push_str-4.ensures.bytes)
          (behind o5 o6 schema c.in_ok-push_quoted-3.ensures.quoted last
          ∙ behind o4 o5 at_schema c.in_ok-push_str-3.ensures.bytes (schema ++ last)
          ∙ behind o3 o4 instance c.in_ok-push_quoted-2.ensures.quoted (at_schema ++ (schema ++ last))
          ∙ behind o2 o3 at_instance c.in_ok-push_str-2.ensures.bytes (instance ++ (at_schema ++ (schema ++ last)))
          ∙ behind o1 o2 path c.in_ok-push_quoted.ensures.quoted (at_instance ++ (instance ++ (at_schema ++ (schema ++ last))))
          ∙ behind o0 o1 at_evaluation c.in_ok-push_str.ensures.bytes (path ++ (at_instance ++ (instance ++ (at_schema ++ (schema ++ last)))))
          ∙ ap₂ (λ p i. o0 ++ (at_evaluation ++ (quoted p ++ (at_instance ++ (quoted i ++ (at_schema ++ (schema ++ last))))))) c.as_str-path.ensures.text c.as_str-place.ensures.text
          ∙ ap₂ (λ s v. o0 ++ (at_evaluation ++ (quoted c.args.report.now.evaluation_path ++ (at_instance ++ (quoted c.args.report.now.instance_location ++ (at_schema ++ (quoted s ++ v)))))))
          c.schema_location-schema.ensures.location c.valid_text.ensures.text);
    }
