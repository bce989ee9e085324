use Rattle.jsonschema.proofs.calls.validator_for.Goals as goal

pub returns-clause-built : goal.returns-clause-built
returns-clause-built c = rw c.options.ensures.none at c.build.ensures.built

pub returns-clause-refused : goal.returns-clause-refused
returns-clause-refused c = rw c.options.ensures.none at c.build.ensures.refused
