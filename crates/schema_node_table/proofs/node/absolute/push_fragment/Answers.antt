use Rattle.std.proofs.Common.{◌++◌, ◌∷◌, [], ℕ, List, append_assoc, ap, ap₂, drop, string_bytes, ◌∙◌}
use Rattle.std.proofs.lemmas.Result.{IfOk-weaker}
use Rattle.theory_definitions.specs.Plan.{encoded}
use Rattle.schema_node_table.proofs.node.absolute.push_fragment.Goals as goal

pub returns : goal.returns
unfolding lib.Utf8.encode
returns c =
    let from = c.bytes_from.ensures.dropped ∙ ap (drop c.args.start) c.as_bytes.ensures.value in
    record { added = IfOk-weaker c.push_encoded.result _ _ (λ x h. h ∙ ap₂ (λ (a b : List ℕ). a ++ b) c.in_ok-push.ensures.bytes (ap encoded from) ∙ append_assoc (string_bytes c.args.text.now) (35 ∷ []) (encoded (drop c.args.start c.args.pointer.now))) c.push_encoded.ensures.encoded }
