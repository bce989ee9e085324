use Rattle.std.proofs.Common.{◌≡◌, sym, arith, length, map}
use Rattle.std.proofs.lemmas.List.{length-map}
use Rattle.schema_reports.specs.InstanceViews.{step_of}
use Rattle.schema_reports.proofs.Places.{differ_in_length}
use Rattle.schema_reports.proofs.instance.same_steps.Goals as goal

pub returns-then-a-b : goal.returns-then-a-b
returns-then-a-b c =
    let a = c.args.a.now in
    let b = c.args.b.now in
    record { same = sym (differ_in_length (map step_of a) (map step_of b) (λ e. let h : length a ≡ length b = simp length-map at e in c.if-a-b.true (omega arith))) }
