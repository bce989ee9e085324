use Rattle.std.proofs.Common.{◌≡◌, ◌∙◌, ◌+◌, ◌++◌, ◌∷◌, [], List, ap, subst, sym, take}
use Rattle.std.proofs.lemmas.List.{take_more}
use Rattle.std.proofs.lemmas.Result.{err_from_is_err_and}
use Rattle.serde_json.specs.View.{view}
use Rattle.theory_definitions.specs.Instance.{Place}
use Rattle.schema_keys.specs.KeyViews.{key_of}
use Rattle.schema_keys.proofs.Lists.{in_of}
use Rattle.schema_validator.specs.Entries.{HoldsPlaces}
use Rattle.schema_validator.specs.Handed.{handed}
use Rattle.schema_validator.specs.MapViews.{Entries}
use Rattle.schema_compiled.specs.Program.{Program}
use Rattle.schema_validator.proofs.HeldPlaces.{holds_more, holds_none}
use Rattle.schema_validator.proofs.options.map.MapBuilding.map_of.Goals as goal

pub loop-path-init : goal.loop-path-init
loop-path-init g c =
    let self = c.args.self.now in
    let h = handed g.S.Resolver g.T.KeywordTable g.K.Validate g.M.Matcher self.resolver.now self.table.now self.matcher.now in
    let schema = view self.schema.now in
    let root = key_of g.S.Resolver.point self.root.now in
    subst (λ (es : Entries (Program g.row.K.Denot g.row.M.Denot)). HoldsPlaces h self.options.now schema root [] es) (sym c.new-map.ensures.empty) (holds_none h self.options.now schema root)

pub loop-path-preserved : goal.loop-path-preserved
loop-path-preserved g c =
    let self = c.args.self.now in
    let h = handed g.S.Resolver g.T.KeywordTable g.K.Validate g.M.Matcher self.resolver.now self.table.now self.matcher.now in
    let schema = view self.schema.now in
    let root = key_of g.S.Resolver.point self.root.now in
    let paths = c.args.paths.now in
    let k = c.loop-path.path-index in
    let path : Place = c.path-item.result in
    let one_more : take (k + 1) paths ≡ take k paths ++ path ∷ [] = take_more paths k path c.loop-path-test.true ∙ ap (λ (p : Place). take k paths ++ p ∷ []) (sym c.path-item.is) in
    subst (λ (ps : List Place). HoldsPlaces h self.options.now schema root ps c.put.new.map) (sym one_more)
    (holds_more h self.options.now schema root (take k paths) path c.loop-path.map c.put.new.map c.loop-path.invariant c.in_ok-put.ensures)

pub returns-in_err-put-clause-refused : goal.returns-in_err-put-clause-refused
returns-in_err-put-clause-refused g c =
    let p = err_from_is_err_and c.from_residual.result c.from_residual.ensures.1 in
    let paths = c.args.paths.now in
    let path : Place = c.path-item.result in
    rw (p.1, p.2) (path, in_of paths path (c.loop-path.path-index, c.loop-path-test.true, sym c.path-item.is), c.in_err-put.ensures)
