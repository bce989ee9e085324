use Rattle.std.proofs.Common.{◌≡◌, ◌++◌, false, length, string_bytes}
use Rattle.serde_json.specs.View.{items_view}
use Rattle.serde_json.specs.Written.{items_have_float}
use Rattle.standard_assertions.specs.Constants.{more_values}
use Rattle.standard_assertions.proofs.constants.push_more.Given as goal

abbrev pub invariant-loop-first : goal.invariant-loop-first
invariant-loop-first l = items_have_float (items_view l.values) ≡ false
    → (items_have_float (items_view l.rest) ≡ false)
    × (string_bytes l.initial.text ++ more_values (items_view l.values) ≡ string_bytes l.text ++ more_values (items_view l.rest))

abbrev pub decreases-loop-first : goal.decreases-loop-first
decreases-loop-first l = length l.rest
