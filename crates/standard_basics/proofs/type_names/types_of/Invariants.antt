use Rattle.std.proofs.Common.{◌≡◌, ◌++◌, drop, option_map}
use Rattle.serde_json.specs.View.{items_view}
use Rattle.standard_basics.specs.TypeNames.{types_of}
use Rattle.standard_basics.proofs.type_names.types_of.Given as goal

abbrev pub invariant-loop-value : goal.invariant-loop-value
invariant-loop-value l = types_of (items_view l.values) ≡ option_map (λ ts. l.names.items ++ ts) (types_of (items_view (drop l.value-index l.values)))
