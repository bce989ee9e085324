use Rattle.std.proofs.Common.{◌∙◌, sym}
use Rattle.schema_places.proofs.LaidOut.{ascends, closed, count, found_given}
use Rattle.schema_places.proofs.places.Places.len.Goals as goal

pub returns-clause-count : goal.returns-clause-count
returns-clause-count c =
    c.len.ensures.count ∙ count c.self.inside.root.now c.self.inside.table c.args.self.now c.self.invariant c.self.view_is

pub returns-clause-own : goal.returns-clause-own
returns-clause-own c = λ k l. sym (found_given c.self.inside.root.now c.args.self.now c.self.inside.table k c.self.invariant c.self.view_is l)

pub returns-clause-ascend : goal.returns-clause-ascend
returns-clause-ascend c = ascends c.self.inside.root.now c.self.inside.table c.args.self.now c.self.invariant c.self.view_is

pub returns-clause-closed : goal.returns-clause-closed
returns-clause-closed c = closed c.self.inside.root.now c.args.self.now c.self.view_is
