use Rattle.std.proofs.Common.{Bool, true, map, sym, ◌∙◌, ap, subst, inl, inr, arith}
use Rattle.std.specs.Prelude.{Ok, option_map, string_bytes}
use Rattle.std.proofs.lemmas.Option.{slice_get_within}
use Rattle.std.proofs.lemmas.Result.{err_from_is_err_and}
use Rattle.serde_json.specs.View.{view}
use Rattle.schema_drafts.specs.KeywordViews.{draft_of}
use Rattle.theory_definitions.specs.Plan.{Key}
use Rattle.theory_definitions.specs.Laws.{EachKeeps}
use Rattle.schema_keys.specs.Builtins.{builtin}
use Rattle.schema_keys.specs.Checking.{AcceptsSchema}
use Rattle.schema_keys.specs.Compiling.{no_table, no_keywords, no_matcher}
use Rattle.schema_keys.specs.KeyViews.{key_of}
use Rattle.schema_compiler.specs.Compilation.{IsCompilation, RefusesInOrder, RefusesRoot, all_parts}
use Rattle.schema_validator.specs.BuildResults.{IsRefused}
use Rattle.schema_validator.specs.Called.{IsCompiledFrom}
use Rattle.schema_validator.specs.Compiled.{IsWhole}
use Rattle.schema_validator.specs.Handed.{Options, handed, parts_of}
use Rattle.schema_validator.specs.Roots.{root_parts}
use Rattle.schema_validator.proofs.Compilations.{compiled_from_roots, compiles_in, in_order_in, reach_in, refuses_in, whole_in, whole_too}
use Rattle.theory_meaning.specs.ErrorsLead.{EachKeepsAbsorbing}
use Rattle.theory_meaning.proofs.TurnsGiveRuns.{keeps_of_turns}
use Rattle.schema_validator.proofs.Greatest.{accepts_as_schema}
use Rattle.schema_validator.proofs.Pointing.{points_into, units_point_into}
use Rattle.schema_compiled.proofs.Solved.{solves_made}
use Rattle.schema_validator.proofs.OtherParts.{compiles_too}
use Rattle.schema_validator.proofs.RootKeys.{one_root_key, root_key_too, root_too}
use Rattle.schema_validator.proofs.FirstCauses.{compiled_first, document_first}
use Rattle.schema_validator.proofs.options.ValidationOptions.build_nested.Goals as goal

pub of_compiled_within-requires : goal.of_compiled_within-requires
of_compiled_within-requires g c =
    let inside = c.self.inside in
    let done = c.in_ok-compiled.ensures.compiled (g.M.Matcher.matching c.args.matcher.now) (g.K.Validate.words true) (option_map draft_of inside.draft) (option_map string_bytes inside.base) in
    let same = done.lengths in
    let within = slice_get_within _ 0 _ done.first in
    record { inside = omega arith; limit = omega arith }

pub returns-clause-built : goal.returns-clause-built
returns-clause-built g c =
    let h = handed g.S.Resolver g.T.KeywordTable g.K.Validate g.M.Matcher c.args.resolver.now c.args.table.now c.args.matcher.now in
    let k = g.K.Validate in
    let owns = g.T.KeywordTable.owned c.args.table.now in
    let script = g.T.KeywordTable.script c.args.table.now in
    let inside = c.self.inside in
    let options = c.args.self.now in
    let nested = c.args.nested in
    let schema = view c.args.schema.now in
    let v = key_of g.S.Resolver.point in
    let key = v c.in_ok-root.root in
    let is_key = c.in_ok-root.ensures.key in
    let keys = map v c.in_ok-compiled.compiled.keys in
    let nodes = c.in_ok-compiled.compiled.nodes in
    let validator = c.in_ok-validator.validator in
    let made = c.in_ok-validator.ensures in
    let done = λ (texts : Bool). subst (λ (o : Options). IsCompilation (all_parts h.resolver (record { owns = owns; builtin = builtin; script = script }) o.formats o.declared h.matcher (k.words texts) o.draft o.base) k.shape o.limit nested key keys nodes) c.self.view_is
    (c.in_ok-compiled.ensures.compiled h.matcher (k.words texts) (option_map draft_of inside.draft) (option_map string_bytes inside.base)) in
    let program : IsCompiledFrom h options schema nested validator = record {
      root = key;
      is_root = root_key_too h.resolver no_table h.table no_matcher no_matcher no_keywords no_keywords options schema key is_key;
      compiles = compiles_too h.resolver h.table h.matcher no_matcher (k.words true) no_keywords options key (compiles_in h.resolver owns script h.matcher (k.words true) options k.shape options.limit nested key keys nodes (done true));
      compiled = subst (λ number. IsWhole (parts_of h.resolver h.table no_matcher no_keywords options) k.shape nested key validator.nodes number) (sym made.made.1)
          (subst (λ ns. IsWhole (parts_of h.resolver h.table no_matcher no_keywords options) k.shape nested key ns 0) (sym made.made.0)
          (whole_too h.resolver h.table h.matcher no_matcher (k.words true) no_keywords options k.shape nested key nodes 0 (whole_in h.resolver owns script h.matcher (k.words true) options k.shape options.limit nested key keys nodes (done true))));
      drafted = c.in_ok-root.ensures.drafted ∙ ap Ok (sym made.made.2);
      matcher_is = made.matcher;
      runs_are = made.runs ∙ ap (λ (o : Options). o.runs) c.self.view_is;
      work_is = made.work ∙ ap (λ (o : Options). o.work) c.self.view_is;
      depth_is = made.depth ∙ ap (λ (o : Options). o.depth) c.self.view_is;
    } in
    let keeps : (texts : Bool) → EachKeepsAbsorbing (k.words texts) k.absorbed = λ texts s. keeps_of_turns (k.words texts) s (k.absorbed s) (k.remaining s) (k.can_be texts s) (k.ends texts s) (k.fits texts s) (g.met.K.Validate.turn_laws texts s) (g.met.K.Validate.function_laws texts s) in
    let each_keeps : (texts : Bool) → EachKeeps (k.words texts) = λ texts s. (k.absorbed s, keeps texts s) in
    let right = g.met.T.KeywordTable.right c.args.table.now in
    record {
      means = λ instance texts root is_root speaks. made.means options root (compiled_from_roots h.resolver owns script h.matcher (k.words true) options schema k.shape options.limit nested key keys nodes (done true) is_key root
          (root_too h.resolver h.table h.table h.matcher no_matcher (k.words texts) no_keywords options schema root is_root)) instance texts speaks;
      units = λ instance texts root is_root speaks. made.units options root (compiled_from_roots h.resolver owns script h.matcher (k.words true) options schema k.shape options.limit nested key keys nodes (done true) is_key root
          (root_too h.resolver h.table h.table h.matcher no_matcher (k.words texts) no_keywords options schema root is_root)) instance texts speaks;
      points = points_into h.resolver h.table h.matcher k.words options schema k.shape g.M.Matcher.matching validator k.absorbed k.is_whole keeps right program;
      units_point = units_point_into h.resolver h.table h.matcher k.words options schema k.shape g.M.Matcher.matching validator k.absorbed k.is_whole keeps right g.met.K.Validate.hands_units_on program;
      greatest = accepts_as_schema h each_keeps (g.met.S.Resolver.same c.args.resolver.now) options schema validator program;
      program = program;
      finishing = made.finishing;
      solver = solves_made nodes c.in_ok-finder.finder validator made.made.0 made.solver c.in_ok-finder.ensures.made c.in_ok-finder.ensures.follows;
      builds = λ texts.
          let is_root = root_key_too h.resolver no_table h.table no_matcher h.matcher no_keywords (k.words texts) options schema key is_key in
          record {
            root = key;
            is_root = is_root;
            alone = λ other other_is. one_root_key (parts_of h.resolver h.table h.matcher (k.words texts) options) schema other key other_is is_root;
            compiles = compiles_in h.resolver owns script h.matcher (k.words texts) options k.shape options.limit nested key keys nodes (done texts);
            keys = keys;
            reach = reach_in h.resolver owns script h.matcher (k.words texts) options (g.met.S.Resolver.same c.args.resolver.now) k.shape options.limit nested key keys nodes (done texts);
            within = (done texts).within;
          };
      passed = λ on root is_root.
          let same = one_root_key (root_parts h.resolver options) schema key root is_key is_root in
          subst (λ (k : Key _). AcceptsSchema h.resolver (g.V.MetaValidators.checked c.args.metas.now) k.target.draft k.target.place) same (c.in_ok-check.ensures.accepted on);
    }

pub returns-in_err-check-clause-refused : goal.returns-in_err-check-clause-refused
returns-in_err-check-clause-refused g c =
    let h = handed g.S.Resolver g.T.KeywordTable g.K.Validate g.M.Matcher c.args.resolver.now c.args.table.now c.args.matcher.now in
    let refuses = g.V.MetaValidators.checked c.args.metas.now in
    let options = c.args.self.now in
    let schema = view c.args.schema.now in
    let key = key_of g.S.Resolver.point c.in_ok-root.root in
    let e = c.in_err-check.field-0.0 in
    let fails = c.in_err-check.ensures.refused in
    let p = err_from_is_err_and c.from_residual-in_err-check.result c.from_residual-in_err-check.ensures.1 in
    let why : IsRefused h refuses options schema e = record {
      refused = inr (fails.0, (key, c.in_ok-root.ensures.key, fails.1));
      first = document_first h refuses options schema key c.in_ok-root.ensures.key e fails.0 fails.1;
    } in
    rw (p.1, p.2) why

pub returns-in_err-compiled-clause-refused : goal.returns-in_err-compiled-clause-refused
returns-in_err-compiled-clause-refused g c =
    let h = handed g.S.Resolver g.T.KeywordTable g.K.Validate g.M.Matcher c.args.resolver.now c.args.table.now c.args.matcher.now in
    let owns = g.T.KeywordTable.owned c.args.table.now in
    let script = g.T.KeywordTable.script c.args.table.now in
    let inside = c.self.inside in
    let options = c.args.self.now in
    let schema = view c.args.schema.now in
    let key = key_of g.S.Resolver.point c.in_ok-root.root in
    let is_key = c.in_ok-root.ensures.key in
    let e = c.in_err-compiled.field-0.0 in
    let said = c.in_err-compiled.ensures in
    let p = err_from_is_err_and c.from_residual-in_err-compiled.result c.from_residual-in_err-compiled.ensures.1 in
    let refuses = g.V.MetaValidators.checked c.args.metas.now in
    let why : IsRefused h refuses options schema e = record {
      refused = inl (λ texts. inr (
        key,
        root_key_too h.resolver no_table h.table no_matcher h.matcher no_keywords (h.words texts) options schema key is_key,
        refuses_in h.resolver owns script h.matcher (h.words texts) options options.limit key e
            (subst (λ (o : Options). RefusesRoot (all_parts h.resolver (record { owns = owns; builtin = builtin; script = script }) o.formats o.declared h.matcher (h.words texts) o.draft o.base) o.limit key e) c.self.view_is
            (said.refused h.matcher (h.words texts) (option_map draft_of inside.draft) (option_map string_bytes inside.base))),
      ));
      first = compiled_first h refuses options schema key is_key e c.in_ok-check.ensures.accepted
          (λ texts. in_order_in h.resolver owns script h.matcher (h.words texts) options options.limit key e
          (subst (λ (o : Options). RefusesInOrder (all_parts h.resolver (record { owns = owns; builtin = builtin; script = script }) o.formats o.declared h.matcher (h.words texts) o.draft o.base) o.limit key e) c.self.view_is
          (said.first h.matcher (h.words texts) (option_map draft_of inside.draft) (option_map string_bytes inside.base))));
    } in
    rw (p.1, p.2) why
