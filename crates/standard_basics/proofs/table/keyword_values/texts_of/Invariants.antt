use Rattle.std.proofs.Common.{◌≡◌, ◌++◌, drop, map, string_bytes, option_map}
use Rattle.serde_json.specs.View.{items_view}
use Rattle.standard_basics.specs.Makers.{texts_of}
use Rattle.standard_basics.proofs.table.keyword_values.texts_of.Given as goal

abbrev pub invariant-loop-value : goal.invariant-loop-value
invariant-loop-value l = texts_of (items_view l.values) ≡ option_map (λ ts. map string_bytes l.texts.items ++ ts) (texts_of (items_view (drop l.value-index l.values)))
