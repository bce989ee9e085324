use Rattle.std.proofs.Common.{◌∙◌, sym, ap}
use Rattle.standard_subschemas.specs.DocumentPointers.{is_index}
use Rattle.standard_subschemas.proofs.Indexes.{index_parsed}
use Rattle.standard_subschemas.proofs.pointers.index_named.Goals as goal

pub returns-then-is_index : goal.returns-then-is_index
returns-then-is_index c =
    let given = ap is_index (sym c.as_bytes.ensures.value) ∙ sym c.is_index.ensures.index ∙ c.if-is_index.true in
    record { index = c.ok.ensures.value ∙ index_parsed c.args.segment.now c.parse.result c.parse.ensures.value.0 given }
