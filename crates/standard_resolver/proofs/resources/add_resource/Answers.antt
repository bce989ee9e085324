use Rattle.std.proofs.Common.{arith, true, ◌≡◌}
use Rattle.std.specs.Prelude.{is_some}
use Rattle.std.specs.HashMap.{get_by_text}
use Rattle.std.proofs.lemmas.Grind.{common_steps}
use Rattle.standard_resolver.specs.DocumentResourceViews.{resource_of}
use Rattle.standard_resolver.proofs.MetaNumbers.{relisted}
use Rattle.standard_resolver.proofs.resources.add_resource.Goals as goal

pub returns-else-is_none : goal.returns-else-is_none
returns-else-is_none c =
    let old = c.args.gathered.now in
    let t = c.as_str.result.now in
    let e1 = c.get.ensures.value in let e2 = c.is_none.ensures in let e3 = c.if-is_none.ensures in let e4 = c.if-is_none.false in
    let has : is_some (get_by_text old.numbers t) ≡ true = grind (arith, common_steps) in
    record { added = relisted (resource_of c.args.resource) old t c.as_str.ensures.value has }
