use Rattle.std.proofs.Common.{arith, ◌≡◌, ◌∙◌, ap, cond, nat_eq, true, sym}
use Rattle.std.proofs.lemmas.Grind.{common_steps}
use Rattle.std.specs.HashMap.{get}
use Rattle.std.specs.Prelude.{None, Some, is_some}
use Rattle.unfinished_matches.proofs.HashIndexed.{indexed_again, indexed_more}
use Rattle.unfinished_matches.proofs.positions.add_position.Goals as goal

pub returns-in_ok-insert-clause-added : goal.returns-in_ok-insert-clause-added
returns-in_ok-insert-clause-added c =
    let e1 = c.get.ensures.value in let e2 = c.is_none.ensures in let e3 = c.if-is_none.ensures in let e4 = c.if-is_none.true in
    let new : get nat_eq c.args.positions.now c.args.hash ≡ None = grind (arith, common_steps) in
    λ hashes is len. indexed_more hashes (get nat_eq c.args.positions.now) (get nat_eq c.insert.new.self) c.args.hash is new
    (λ q. c.in_ok-insert.ensures.updates.0 q ∙ ap (λ n. cond (nat_eq c.args.hash q) (Some n) (get nat_eq c.args.positions.now q)) (sym len))

pub returns-else-is_none-clause-added : goal.returns-else-is_none-clause-added
returns-else-is_none-clause-added c =
    let e1 = c.get.ensures.value in let e2 = c.is_none.ensures in let e3 = c.if-is_none.ensures in let e4 = c.if-is_none.false in
    let has : is_some (get nat_eq c.args.positions.now c.args.hash) ≡ true = grind (arith, common_steps) in
    λ hashes is len. indexed_again hashes (get nat_eq c.args.positions.now) c.args.hash is has
