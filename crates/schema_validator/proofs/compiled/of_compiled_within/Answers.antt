use Rattle.std.proofs.Common.{sym, ◌∙◌, ap, subst, length}
use Rattle.theory_definitions.specs.Laws.{EachKeeps}
use Rattle.theory_meaning.specs.Headline.{Plainly, PlainlyWithUnits}
use Rattle.schema_drafts.specs.KeywordTable.{builtin_in}
use Rattle.theory_meaning.specs.Means as means
use Rattle.theory_meaning.proofs.TurnsGiveRuns.{keeps_of_turns}
use Rattle.schema_node_table.specs.NodeTable.{numbered}
use Rattle.theory_meaning.specs.Fractions.{AreWhole}
use Rattle.schema_compiled.specs.Program.{HaveUnits, Program, Means}
use Rattle.schema_validator.specs.Handed.{table_of, parts_of}
use Rattle.schema_validator.proofs.Built.{whole_from, means_from, units_from}
use Rattle.schema_validator.proofs.compiled.of_compiled_within.Goals as goal

pub returns-clause-made : goal.returns-clause-made
returns-clause-made g c =
    let made = c.of_nodes_within.ensures.made in
    (ap (λ (p : Program g.row.K.Denot g.row.M.Denot). p.nodes) made, ap (λ (p : Program g.row.K.Denot g.row.M.Denot). p.root) made, ap (λ (p : Program g.row.K.Denot g.row.M.Denot). p.draft) made)

pub returns-clause-solver : goal.returns-clause-solver
returns-clause-solver g c = ap (λ (p : Program g.row.K.Denot g.row.M.Denot). p.followed) c.of_nodes_within.ensures.made

pub returns-clause-means : goal.returns-clause-means
returns-clause-means g c = λ options root compiled instance texts speaks.
    let k = g.K.Validate in
    let r = g.S.Resolver.resolving c.args.resolver.now in
    let table = table_of (g.T.KeywordTable.owned c.args.table.now) builtin_in (g.T.KeywordTable.script c.args.table.now) in
    let keywords = k.words texts in
    let matcher = g.M.Matcher.matching c.args.matcher.now in
    let each : EachKeeps keywords = λ m. (k.absorbed m, keeps_of_turns keywords m (k.absorbed m) (k.remaining m) (k.can_be texts m) (k.ends texts m) (k.fits texts m) (g.met.K.Validate.turn_laws texts m) (g.met.K.Validate.function_laws texts m)) in
    let inside = g.met.S.Resolver.inside c.args.resolver.now in
    let same = g.met.S.Resolver.same c.args.resolver.now in
    let scripts = g.met.T.KeywordTable.right c.args.table.now in
    let nodes = c.args.nodes in
    let number = c.args.root.0 in
    let whole = whole_from r table options matcher keywords k.absorbed k.is_whole inside same scripts each k.shape nodes number root compiled instance speaks in
    let meant = means_from r table options matcher keywords k.absorbed k.is_whole inside same scripts each k.shape nodes number root compiled instance in
    let equal = (g.met.M.Matcher.cloned c.args.matcher.now c.in_ok-matcher.matcher c.in_ok-matcher.ensures.cases).0 in
    let made = c.of_nodes_within.ensures.made in
    let told = g.met.K.Validate.speaks texts in
    let w = parts_of r table matcher keywords options in (
      λ t. ((speaks (told ∙ t)).0, subst (λ (p : Program g.row.K.Denot g.row.M.Denot). AreWhole k.is_whole (numbered k.shape p.nodes) (length p.nodes)) (sym made) (whole (told ∙ t))),
      subst (λ (p : Program g.row.K.Denot g.row.M.Denot). Plainly w root instance (Means k.shape k.words k.is_whole g.M.Matcher.matching p instance texts)) (sym made)
          (subst (λ m. Plainly w root instance (means.Means keywords m (numbered k.shape nodes) number instance)) (sym equal) meant),
    )

pub returns-clause-units : goal.returns-clause-units
returns-clause-units g c = λ options root compiled instance texts speaks.
    let k = g.K.Validate in
    let r = g.S.Resolver.resolving c.args.resolver.now in
    let table = table_of (g.T.KeywordTable.owned c.args.table.now) builtin_in (g.T.KeywordTable.script c.args.table.now) in
    let keywords = k.words texts in
    let matcher = g.M.Matcher.matching c.args.matcher.now in
    let each : EachKeeps keywords = λ m. (k.absorbed m, keeps_of_turns keywords m (k.absorbed m) (k.remaining m) (k.can_be texts m) (k.ends texts m) (k.fits texts m) (g.met.K.Validate.turn_laws texts m) (g.met.K.Validate.function_laws texts m)) in
    let inside = g.met.S.Resolver.inside c.args.resolver.now in
    let same = g.met.S.Resolver.same c.args.resolver.now in
    let scripts = g.met.T.KeywordTable.right c.args.table.now in
    let nodes = c.args.nodes in
    let number = c.args.root.0 in
    let had = units_from r table options matcher keywords k.absorbed k.is_whole inside same scripts each k.shape nodes number root compiled instance in
    let equal = (g.met.M.Matcher.cloned c.args.matcher.now c.in_ok-matcher.matcher c.in_ok-matcher.ensures.cases).0 in
    let w = parts_of r table matcher keywords options in
    subst (λ (p : Program g.row.K.Denot g.row.M.Denot). PlainlyWithUnits w root instance (λ v units. HaveUnits k.shape k.words k.is_whole g.M.Matcher.matching p instance texts units)) (sym c.of_nodes_within.ensures.made)
    (subst (λ m. PlainlyWithUnits w root instance (λ v units. means.HaveUnits keywords m (numbered k.shape nodes) number instance units)) (sym equal) had)

pub returns-clause-matcher : goal.returns-clause-matcher
returns-clause-matcher g c = ap (λ (p : Program g.row.K.Denot g.row.M.Denot). g.M.Matcher.matching p.matcher) c.of_nodes_within.ensures.made ∙ (g.met.M.Matcher.cloned c.args.matcher.now c.in_ok-matcher.matcher c.in_ok-matcher.ensures.cases).0

pub returns-clause-finishing : goal.returns-clause-finishing
returns-clause-finishing g c = ap (λ (p : Program g.row.K.Denot g.row.M.Denot). g.M.Matcher.finishing p.matcher) c.of_nodes_within.ensures.made ∙ (g.met.M.Matcher.cloned c.args.matcher.now c.in_ok-matcher.matcher c.in_ok-matcher.ensures.cases).1
