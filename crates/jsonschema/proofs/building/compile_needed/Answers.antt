use Rattle.jsonschema.proofs.Handing.{done_told}
use Rattle.jsonschema.proofs.building.compile_needed.Goals as goal

pub returns-in-Some-clause-needed : goal.returns-in-Some-clause-needed
returns-in-Some-clause-needed c = rw c.in-Some.is (done_told c.compile.result c.told_of_metas.result _ c.told_of_metas.ensures.same c.compile.ensures.compiled)

pub returns-in-None-clause-needed : goal.returns-in-None-clause-needed
returns-in-None-clause-needed c = rw c.in-None.is
    (done_told c.compile_each.result c.told_of_metas-in-None.result _ c.told_of_metas-in-None.ensures.same c.compile_each.ensures.compiled)
