use Rattle.std.proofs.Common.{of_calls, rules}
use Rattle.std.proofs.lemmas.Fn.{always_returns_same}
use Rattle.schema_places.specs.RowViews.{text_at}
use Rattle.schema_places.proofs.Searching.{absent, compared, present}
use Rattle.schema_places.proofs.rows.number_by_halves.Goals as goal

-- the closure compares the name in a row with the one that is sought
pub returns-in-Ok : goal.returns-in-Ok
returns-in-Ok c =
    let names = text_at c.args.rows.now in
    let found = c.in-Ok.ensures.position (compared names c.args.name.now) (always_returns_same _ _ _ (λ a r f called. search (rules, of_calls))) in
    record { number = present names c.args.name.now c.args.numbers.now c.in-Ok.index 0 c.requires.rising c.in-Ok.ensures.bound (found _) }

pub returns-in-Err : goal.returns-in-Err
returns-in-Err c =
    let names = text_at c.args.rows.now in
    let found = c.in-Err.ensures.position (compared names c.args.name.now) (always_returns_same _ _ _ (λ a r f called. search (rules, of_calls))) in
    record { number = absent names c.args.name.now c.args.numbers.now c.in-Err.field-0 c.requires.rising c.in-Err.ensures.bound found }
