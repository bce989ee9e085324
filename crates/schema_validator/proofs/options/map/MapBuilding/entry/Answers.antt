use Rattle.std.proofs.Common.{inr}
use Rattle.std.proofs.lemmas.Result.{MatchResult-weaker}
use Rattle.schema_keys.specs.KeyViews.{key_of}
use Rattle.schema_validator.proofs.options.map.MapBuilding.entry.Goals as goal

pub returns : goal.returns
returns g c =
    MatchResult-weaker c.compiled.result c.compiled.ensures (λ v is. (key_of g.S.Resolver.point c.in_ok-key.key, λ texts. c.in_ok-key.ensures.key, is))
    (λ e refused texts. inr (key_of g.S.Resolver.point c.in_ok-key.key, c.in_ok-key.ensures.key, refused texts))
