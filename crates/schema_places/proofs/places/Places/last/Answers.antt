use Rattle.std.proofs.Common.{◌∙◌, ◌<◌, ◌≤◌, ◌&&◌, ℕ, ap, arith, length, subst, sym}
use Rattle.std.specs.Prelude.{nat_le}
use Rattle.schema_places.proofs.LaidOut.{count, row_last}
use Rattle.schema_places.proofs.places.Places.last.Goals as goal

pub last-requires : goal.last-requires
last-requires c = record { known = omega (arith, count c.self.inside.root.now c.self.inside.table c.args.self.now c.self.invariant c.self.view_is) }

pub returns-clause-from : goal.returns-clause-from
returns-clause-from c =
    let row = row_last c.self.inside.root.now c.self.inside.table c.args.self.now c.args.place c.self.invariant c.self.view_is c.requires.known in
    subst (λ (n : ℕ). c.args.place ≤ n) (sym c.last.ensures.last) row.0

pub returns-clause-known : goal.returns-clause-known
returns-clause-known c =
    let row = row_last c.self.inside.root.now c.self.inside.table c.args.self.now c.args.place c.self.invariant c.self.view_is c.requires.known in
    subst (λ (n : ℕ). n < length c.args.self.now) (sym c.last.ensures.last) row.1

pub returns-clause-under : goal.returns-clause-under
returns-clause-under c =
    let row = row_last c.self.inside.root.now c.self.inside.table c.args.self.now c.args.place c.self.invariant c.self.view_is c.requires.known in
    λ k l. row.2 k l ∙ sym (ap (λ (n : ℕ). nat_le c.args.place k && nat_le k n) c.last.ensures.last)
