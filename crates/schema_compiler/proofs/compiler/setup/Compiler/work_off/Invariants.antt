use Rattle.std.proofs.Common.{◌-◌}
use Rattle.schema_keys.specs.KeyViews.{key_of}
use Rattle.schema_compiler.specs.Carried.{filled, task}
use Rattle.schema_compiler.specs.Working.{IsAtNumber}
use Rattle.schema_compiler.proofs.compiler.setup.Compiler.work_off.Given as goal

-- the list is worked off up to the next number
abbrev pub invariant-loop-next : goal.invariant-loop-next
invariant-loop-next g l = IsAtNumber (task g.R.Resolver.resolving g.T.KeywordTable.owned g.T.KeywordTable.script g.K.Validate.shape l.self) (key_of g.R.Resolver.point l.root.value) (filled g.R.Resolver.point l.compiled) l.next

abbrev pub decreases-loop-next : goal.decreases-loop-next
decreases-loop-next g l = l.self.options.now.node_limit - l.next
