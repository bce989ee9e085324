use Rattle.serde_json.specs.View.{view}
use Rattle.schema_places.proofs.Ascending.{places_ascend}
use Rattle.schema_places.proofs.Names.{names_apart}
use Rattle.schema_places.proofs.Numbers.{stands_at}
use Rattle.schema_places.proofs.Standing.{stands_there}
use Rattle.schema_places.proofs.places.Places.number.Goals as goal

pub returns-clause-there : goal.returns-clause-there
returns-clause-there c = λ p. stands_there p (view c.args.value.now) (names_apart (view c.args.value.now) c.in_ok-table.ensures.ascend)

pub returns-clause-ascend : goal.returns-clause-ascend
returns-clause-ascend c = places_ascend (view c.args.value.now) c.in_ok-table.ensures.ascend

pub returns-clause-own : goal.returns-clause-own
returns-clause-own c = λ n l. stands_at (view c.args.value.now) n (names_apart (view c.args.value.now) c.in_ok-table.ensures.ascend) l
