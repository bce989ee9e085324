use Rattle.std.proofs.Common.{◌≡◌, sym, arith, length, map}
use Rattle.std.proofs.lemmas.List.{length-map}
use Rattle.schema_traits.specs.SchemaViews.{schema_step_of}
use Rattle.schema_traits.proofs.SchemaPaths.{longer_differs}
use Rattle.schema_traits.proofs.schema_place.same_schema_steps.Goals as goal

pub returns-then-a-b : goal.returns-then-a-b
returns-then-a-b c =
    let a = c.args.a.now in
    let b = c.args.b.now in
    record { same = sym (longer_differs (map schema_step_of a) (map schema_step_of b) (λ e. let h : length a ≡ length b = simp length-map at e in c.if-a-b.true (omega arith))) }
