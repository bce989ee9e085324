use Rattle.standard_resolver.proofs.dialects.Reading.+draft_within.Given as goal

abbrev pub decreases-draft_within : goal.decreases-draft_within
decreases-draft_within l = l.follows
