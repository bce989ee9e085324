use Rattle.schema_compiler.proofs.compiler.setup.Compiler.compile_ref.Goals as goal

pub returns : goal.returns
returns g c = rw (c.head_of-head.ensures.name, c.head_of-head.ensures.priority) at c.reference_by.ensures
