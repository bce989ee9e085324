use Rattle.std.proofs.Common.{rules}
use Rattle.unfinished_search.proofs.RunUses.{once_used}
use Rattle.unfinished_search.proofs.search.run_from.Goals as goal

pub returns-clause-used : goal.returns-clause-used
returns-clause-used g c = once_used (goal.F-step g) c.args.run.now c.run.new.self c.in_ok-start.start c.run.result (search rules)
