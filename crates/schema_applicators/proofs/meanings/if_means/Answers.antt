use Rattle.schema_applicators.specs.Meanings.{schema, verdict_in}
use Rattle.schema_applicators.proofs.Meant.{if_faults, if_holds}
use Rattle.schema_applicators.proofs.meanings.if_means.Goals as goal

pub returns-clause-holds : goal.returns-clause-holds
returns-clause-holds c = λ texts s matches under_then under_else accepts. if_holds accepts (accepts (schema 0)) under_then under_else

pub returns-clause-faults : goal.returns-clause-faults
returns-clause-faults c = λ texts s matches under_then under_else answers. if_faults answers (verdict_in answers (schema 0)) under_then under_else
