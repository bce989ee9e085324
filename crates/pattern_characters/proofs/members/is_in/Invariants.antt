use Rattle.std.proofs.Common.{◌≡◌, drop}
use Rattle.pattern_trees.specs.Sets.{in_set}
use Rattle.pattern_characters.proofs.members.is_in.Given as goal

abbrev pub invariant-loop-span : goal.invariant-loop-span
invariant-loop-span l = in_set l.fn.spans l.c ≡ in_set (drop l.span-index l.spans) l.c
