use Rattle.std.proofs.Common.{take}
use Rattle.serde_json.specs.View.{view}
use Rattle.schema_keys.specs.KeyViews.{key_of}
use Rattle.schema_validator.specs.Entries.{HoldsPlaces}
use Rattle.schema_validator.specs.Handed.{handed}
use Rattle.schema_validator.proofs.options.map.MapBuilding.map_of.Given as goal

abbrev pub invariant-loop-path : goal.invariant-loop-path
invariant-loop-path g l =
    HoldsPlaces (handed g.S.Resolver g.T.KeywordTable g.K.Validate g.M.Matcher l.self.resolver.now l.self.table.now l.self.matcher.now) l.self.options.now (view l.self.schema.now) (key_of g.S.Resolver.point l.self.root.now)
    (take l.path-index l.paths) l.map
