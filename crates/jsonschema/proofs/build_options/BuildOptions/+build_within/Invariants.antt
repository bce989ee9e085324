use Rattle.jsonschema.proofs.build_options.BuildOptions.+build_within.Given as goal

abbrev pub decreases-build_within : goal.decreases-build_within
decreases-build_within l = l.follows
