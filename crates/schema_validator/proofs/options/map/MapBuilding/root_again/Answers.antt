use Rattle.std.proofs.Common.{refl}
use Rattle.schema_keys.proofs.SameKeys.{one_key}
use Rattle.schema_validator.proofs.options.map.MapBuilding.root_again.Goals as goal

pub returns-clause-key : goal.returns-clause-key
returns-clause-key g c =
    let state = g.met.S.Resolver.cloned c.args.self.now.root.now.state c.in_ok-clone-2.field-0 c.in_ok-clone-2.ensures.cases in
    one_key _ _ c.in_ok-clone.ensures.cases state refl c.in_ok-clone-3.ensures.cases c.in_ok-clone-4.ensures.cases c.in_ok-clone-5.ensures.cases refl
