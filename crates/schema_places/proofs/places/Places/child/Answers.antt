use Rattle.std.proofs.Common.{◌∙◌, arith}
use Rattle.schema_reports.specs.InstanceViews.{step_of}
use Rattle.schema_places.proofs.LaidOut.{count, row_leads, row_rises}
use Rattle.schema_places.proofs.places.Places.child.Goals as goal

pub child-requires : goal.child-requires
child-requires c = record {
  known = omega (arith, count c.self.inside.root.now c.self.inside.table c.args.self.now c.self.invariant c.self.view_is);
  rising = row_rises c.self.inside.root.now c.self.inside.table c.args.place c.self.invariant;
}

pub returns : goal.returns
returns c =
    record {
      child = c.child.ensures.child
          ∙ row_leads c.self.inside.root.now c.self.inside.table c.args.self.now c.args.place (step_of c.args.step) c.self.invariant c.self.view_is c.requires.known;
    }
