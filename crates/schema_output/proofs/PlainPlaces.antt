-- A text that is escaped to itself needs no escapes between quotes.
use Rattle.std.proofs.Common.{◌≡◌, ◌++◌, ◌∷◌, ◌∙◌, [], Bool, ap, append_assoc, codes, sym}
use Rattle.json.specs.Print.{escape, quoted}
use Rattle.theory_definitions.specs.Instance.{Text}
use Rattle.schema_output.specs.Texts.{plain_places_text, valid_text}

-- a text and the quote behind it, before more
bare : (t more : Text) → escape t ≡ t → t ++ 34 ∷ more ≡ (escape t ++ 34 ∷ []) ++ more
bare t more e = sym (append_assoc t (34 ∷ []) more) ∙ ap (λ u. (u ++ 34 ∷ []) ++ more) (sym e)

pub plain_places : (path place schema : Text) (valid : Bool) → escape path ≡ path → escape place ≡ place → escape schema ≡ schema
    → plain_places_text path place schema valid
    ≡ codes "\"evaluationPath\":" ++ (quoted path ++ (codes ",\"instanceLocation\":" ++ (quoted place ++ (codes ",\"schemaLocation\":" ++ (quoted schema ++ valid_text valid)))))
plain_places path place schema valid first second third =
    ap (λ x. codes "\"evaluationPath\":\"" ++ (path ++ (codes "\",\"instanceLocation\":\"" ++ (place ++ (codes "\",\"schemaLocation\":\"" ++ x))))) (bare schema (valid_text valid) third)
    ∙ ap (λ x. codes "\"evaluationPath\":\"" ++ (path ++ (codes "\",\"instanceLocation\":\"" ++ x))) (bare place (codes ",\"schemaLocation\":" ++ (quoted schema ++ valid_text valid)) second)
    ∙ ap (λ x. codes "\"evaluationPath\":\"" ++ x) (bare path (codes ",\"instanceLocation\":" ++ (quoted place ++ (codes ",\"schemaLocation\":" ++ (quoted schema ++ valid_text valid)))) first)
