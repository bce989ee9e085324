use Rattle.std.proofs.Common.{Some, ap, length, map, arith, ◌<◌, ℕ}
use Rattle.std.specs.Option.{option_and_then}
use Rattle.serde_json.specs.Data.{Data}
use Rattle.theory_definitions.specs.Instance.{a_value}
use Rattle.schema_traits.specs.AskedAtOnce.{child_at}
use Rattle.schema_traits.proofs.Steps.{item_there, more_numbers}
use Rattle.schema_traits.proofs.asked.counted.next_listed.Goals as goal

pub returns : goal.returns
returns c =
    let k = c.args.next.now in
    let items = c.args.items.now in
    let before : k < c.args.end = omega arith in
    let within : k < length items = omega (arith, c.requires.within) in
    record { asks = (ap (map (λ (n : ℕ). child_at n n)) (more_numbers k c.args.end before), ap (λ o. option_and_then (λ (d : Data). Some (a_value d)) o) (item_there k items c.index-items-place.result within c.index-items-place.is)) }
