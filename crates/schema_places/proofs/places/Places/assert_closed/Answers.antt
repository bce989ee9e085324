use Rattle.schema_places.proofs.LaidOut.{closed}
use Rattle.schema_places.proofs.places.Places.assert_closed.Goals as goal

pub returns : goal.returns
returns c = record { closed = closed c.self.inside.root.now c.args.self.now c.self.view_is }
