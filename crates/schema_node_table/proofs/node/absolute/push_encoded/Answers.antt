use Rattle.std.proofs.Common.{◌++◌, ◌<◌, ℕ, List, ap, arith, string_bytes, ◌∙◌}
use Rattle.std.proofs.lemmas.List.Elements.{All-from_get_or}
use Rattle.std.proofs.lemmas.Result.{IfOk-weaker}
use Rattle.schema_node_table.proofs.Escaping.{encoded_is}
use Rattle.schema_node_table.proofs.node.absolute.push_encoded.Goals as goal

pub returns : goal.returns
returns c =
    let bytes = c.args.bytes.now in
    let small = All-from_get_or (λ (b : ℕ). b < 256) bytes 0 (λ i within. omega (arith, c.type_inv.bytes i)) in
    let text = c.percent_encode.ensures.text ∙ encoded_is bytes small in
    record { encoded = IfOk-weaker c.append_to.result _ _ (λ x h. h ∙ ap (λ (b : List ℕ). string_bytes c.args.text.now ++ b) text) c.append_to.ensures.ok }
