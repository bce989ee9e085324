use Rattle.std.proofs.Common.{Bool, true, List, map, sym, subst, length, ◌≤◌, ◌∙◌, ap, arith}
use Rattle.std.specs.Prelude.{option_map, string_bytes}
use Rattle.std.proofs.lemmas.Option.{slice_get_within}
use Rattle.std.proofs.lemmas.Result.{err_from_is_err_and}
use Rattle.serde_json.specs.View.{view}
use Rattle.theory_meaning.specs.ErrorsLead.{EachKeepsAbsorbing}
use Rattle.schema_drafts.specs.KeywordTable.{builtin_in}
use Rattle.schema_drafts.specs.KeywordViews.{draft_of}
use Rattle.theory_definitions.specs.Laws.{EachKeeps}
use Rattle.theory_meaning.proofs.TurnsGiveRuns.{keeps_of_turns}
use Rattle.schema_node_table.specs.NodeTable.{NodeEntry}
use Rattle.schema_keys.specs.Builtins.{builtin}
use Rattle.schema_compiler.specs.Compilation.{IsCompilationAlone, RefusesAlone, all_parts}
use Rattle.schema_keys.specs.KeyViews.{key_of}
use Rattle.schema_validator.specs.Handed.{Options, handed, table_of}
use Rattle.schema_validator.proofs.CompiledAlone.{alone_in, compiled_alone, program_alone, refuses_alone_in, within_alone}
use Rattle.schema_validator.proofs.Greatest.{accepts_as_key}
use Rattle.schema_validator.proofs.Pointing.{points_from_key, units_point_from_key}
use Rattle.schema_compiled.proofs.Solved.{solves_made}
use Rattle.schema_validator.proofs.options.map.MapBuilding.compiled.Goals as goal

pub of_compiled_within-requires : goal.of_compiled_within-requires
of_compiled_within-requires g c =
    let inside = c.options.inside in
    let done = c.in_ok-compiled.ensures.compiled (g.M.Matcher.matching c.args.self.now.matcher.now) (g.K.Validate.words true) (option_map draft_of inside.draft) (option_map string_bytes inside.base) in
    let same = done.lengths in
    let within = slice_get_within _ 0 _ done.first in
    record { inside = omega arith; limit = omega arith }

pub returns-in_err-compiled : goal.returns-in_err-compiled
returns-in_err-compiled g c =
    let self = c.args.self.now in
    let r = g.S.Resolver.resolving self.resolver.now in
    let owns = g.T.KeywordTable.owned self.table.now in
    let script = g.T.KeywordTable.script self.table.now in
    let m = g.M.Matcher.matching self.matcher.now in
    let words = g.K.Validate.words in
    let inside = c.options.inside in
    let options = self.options.now in
    let key = key_of g.S.Resolver.point c.args.key in
    let p = err_from_is_err_and c.from_residual.result c.from_residual.ensures.1 in
    rw (p.1, p.2) (λ texts. refuses_alone_in r owns script m (words texts) options options.limit key c.in_err-compiled.field-0.0
    (subst (λ (o : Options). RefusesAlone (all_parts r (record { owns = owns; builtin = builtin; script = script }) o.formats o.declared m (words texts) o.draft o.base) o.limit key c.in_err-compiled.field-0.0) c.options.view_is
    (c.in_err-compiled.ensures.refused m (words texts) (option_map draft_of inside.draft) (option_map string_bytes inside.base))))

pub returns : goal.returns
returns g c =
    let self = c.args.self.now in
    let r = g.S.Resolver.resolving self.resolver.now in
    let owns = g.T.KeywordTable.owned self.table.now in
    let script = g.T.KeywordTable.script self.table.now in
    let m = g.M.Matcher.matching self.matcher.now in
    let k = g.K.Validate in
    let inside = c.options.inside in
    let options = self.options.now in
    let schema = view self.schema.now in
    let v = key_of g.S.Resolver.point in
    let key = v c.args.key in
    let keys = map v c.in_ok-compiled.compiled.keys in
    let nodes = c.in_ok-compiled.compiled.nodes in
    let done : (texts : Bool) → IsCompilationAlone (all_parts r (record { owns = owns; builtin = builtin; script = script }) options.formats options.declared m (k.words texts) options.draft options.base) k.shape options.limit options.nested key keys nodes =
    λ texts. subst (λ (o : Options). IsCompilationAlone (all_parts r (record { owns = owns; builtin = builtin; script = script }) o.formats o.declared m (k.words texts) o.draft o.base) k.shape o.limit o.nested key keys nodes) c.options.view_is
    (c.in_ok-compiled.ensures.compiled m (k.words texts) (option_map draft_of inside.draft) (option_map string_bytes inside.base)) in
    let compiled = compiled_alone r owns script m (k.words true) options k.shape options.limit options.nested key keys nodes (done true) in
    let within = within_alone r owns script m (k.words true) options k.shape options.limit options.nested key keys nodes (done true) in
    let made = c.in_ok-validator.ensures.made in
    let program = program_alone r owns script m (k.words true) options k.shape options.limit options.nested key keys nodes (done true)
    schema (v self.root.now) c.requires.root g.M.Matcher.matching c.in_ok-validator.validator made c.in_ok-validator.ensures.matcher (c.in_ok-validator.ensures.runs ∙ ap (λ (o : Options). o.runs) c.options.view_is) (c.in_ok-validator.ensures.work ∙ ap (λ (o : Options). o.work) c.options.view_is) (c.in_ok-validator.ensures.depth ∙ ap (λ (o : Options). o.depth) c.options.view_is) in
    let h = handed g.S.Resolver g.T.KeywordTable k g.M.Matcher self.resolver.now self.table.now self.matcher.now in
    let keeps : (texts : Bool) → EachKeeps (k.words texts) = λ texts s. (k.absorbed s, keeps_of_turns (k.words texts) s (k.absorbed s) (k.remaining s) (k.can_be texts s) (k.ends texts s) (k.fits texts s) (g.met.K.Validate.turn_laws texts s) (g.met.K.Validate.function_laws texts s)) in
    let each : (texts : Bool) → EachKeepsAbsorbing (k.words texts) k.absorbed =
    λ texts s. keeps_of_turns (k.words texts) s (k.absorbed s) (k.remaining s) (k.can_be texts s) (k.ends texts s) (k.fits texts s) (g.met.K.Validate.turn_laws texts s) (g.met.K.Validate.function_laws texts s) in
    record {
      means = c.in_ok-validator.ensures.means options key compiled;
      units = c.in_ok-validator.ensures.units options key compiled;
      points = points_from_key r (table_of owns builtin_in script) m k.words options schema k.shape g.M.Matcher.matching c.in_ok-validator.validator k.absorbed k.is_whole each (g.met.T.KeywordTable.right self.table.now) key program;
      units_point = units_point_from_key r (table_of owns builtin_in script) m k.words options schema k.shape g.M.Matcher.matching c.in_ok-validator.validator k.absorbed k.is_whole each (g.met.T.KeywordTable.right self.table.now) g.met.K.Validate.hands_units_on key program;
      greatest = accepts_as_key h keeps (g.met.S.Resolver.same self.resolver.now) options schema c.in_ok-validator.validator key program;
      solver = solves_made nodes c.in_ok-finder.finder c.in_ok-validator.validator made.0 c.in_ok-validator.ensures.solver c.in_ok-finder.ensures.made c.in_ok-finder.ensures.follows;
      program = program;
      finishing = c.in_ok-validator.ensures.finishing;
      within = subst (λ (ns : List (NodeEntry g.row.K.Denot)). length ns ≤ options.limit) (sym made.0) within;
      compiles = λ texts. alone_in r owns script m (k.words texts) options k.shape options.limit options.nested key keys nodes (done texts);
    }
