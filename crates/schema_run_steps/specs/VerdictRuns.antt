-- The replies that the turns of a run for its verdict get.
use Rattle.std.specs.Prelude.{Bool, None, Option, Some}
use Rattle.theory_definitions.specs.Keywords.{Reply, no_reply, truth}

-- no reply, or a verdict
abbrev pub told_reply : Option Bool → Reply
told_reply None = no_reply
told_reply (Some b) = truth b
