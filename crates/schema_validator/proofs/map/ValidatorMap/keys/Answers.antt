use Rattle.std.proofs.Common.{◌∙◌, ap, map, subst}
use Rattle.std.specs.Prelude.{string_bytes}
use Rattle.std.specs.Map.{keys_of}
use Rattle.schema_validator.specs.MapViews.{EachOnce}
use Rattle.schema_validator.proofs.MapEntries.{each_once, same_keys}
use Rattle.schema_validator.proofs.map.ValidatorMap.keys.Goals as goal

pub returns-clause-keys : goal.returns-clause-keys
returns-clause-keys g c = ap (map string_bytes) c.keys.ensures.rest ∙ same_keys c.self.inside.entries.entries ∙ ap (λ es. keys_of es) c.self.view_is

pub returns-clause-once : goal.returns-clause-once
returns-clause-once g c = subst (λ es. EachOnce es) c.self.view_is (each_once c.self.inside.entries.entries c.keys.ensures.ordered)
