use Rattle.std.proofs.Common.{refl, ap, ◌∙◌}
use Rattle.std.specs.Prelude.{not, option_map}
use Rattle.std.proofs.lemmas.Option.{slice_get-map}
use Rattle.std.proofs.lemmas.Result.{err_from_is_err_and}
use Rattle.theory_meaning.specs.Reach.{asked_edges}
use Rattle.schema_node_table.specs.NodeViews.{plan_of}
use Rattle.schema_keys.specs.Compiling.{ReachedFrom}
use Rattle.schema_keys.specs.KeyViews.{key_of}
use Rattle.schema_compiler.specs.Carried.{Table, filled, task}
use Rattle.schema_compiler.proofs.Tables.{begun_table, finished_table}
use Rattle.schema_compiler.proofs.UnderWay.{begun_way}
use Rattle.schema_compiler.proofs.Working.{at_rounds_end, each_stands, key_stays, round_fills, round_refused}
use Rattle.schema_compiler.proofs.compiler.setup.Compiler.compile_waiting.Goals as goal

pub plan_node-requires : goal.plan_node-requires
plan_node-requires g c =
    let s = task g.R.Resolver.resolving g.T.KeywordTable.owned g.T.KeywordTable.script g.K.Validate.shape c.args.self.now in
    let old = filled g.R.Resolver.point c.args.compiled.now in
    let begun : Table _ _ = record { keys = old.keys; nodes = c.begin.new.self; round = c.at_round-compiled.result.round; depth = c.at_round-compiled.result.depth; loose = c.at_round-compiled.result.reaches_unsettled; reserved = old.reserved } in
    record {
      table = begun_table s.parts s.shape s.limit old.keys old.nodes c.begin.new.self c.args.number c.args.number c.requires.at.table c.requires.waits c.begin.ensures.begun;
      under_way = begun_way s old begun c.args.number (each_stands s (key_of g.R.Resolver.point c.args.root.now.value) old c.args.number c.requires.at) c.requires.at.under_way (λ j n q at is. c.requires.at.rounds j q n at is)
          c.requires.waits c.begin.ensures.begun c.at_round-compiled.ensures.round c.at_round-compiled.ensures.depth;
      reading = tt;
    }

pub returns-in_err-planned : goal.returns-in_err-planned
returns-in_err-planned g c =
    let v = key_of g.R.Resolver.point in
    let s = task g.R.Resolver.resolving g.T.KeywordTable.owned g.T.KeywordTable.script g.K.Validate.shape c.args.self.now in
    let old = filled g.R.Resolver.point c.args.compiled.now in
    let p = err_from_is_err_and c.from_residual-in_err-planned.result c.from_residual-in_err-planned.ensures.1 in
    let at = slice_get-map v c.args.compiled.now.keys c.args.number ∙ ap (option_map v) c.in_ok-key.ensures.key in
    rw (p.1, p.2) (round_refused s (v c.args.root.now.value) old (v c.in_ok-key.key.value) c.args.number _ c.requires.at at (rw c.deref.ensures at c.in_err-planned.ensures))

pub fill-requires : goal.fill-requires
fill-requires g c =
    let s = task g.R.Resolver.resolving g.T.KeywordTable.owned g.T.KeywordTable.script g.K.Validate.shape c.args.self.now in
    let old = filled g.R.Resolver.point c.args.compiled.now in
    let begun : Table _ _ = record { keys = old.keys; nodes = c.begin.new.self; round = c.at_round-compiled.result.round; depth = c.at_round-compiled.result.depth; loose = c.at_round-compiled.result.reaches_unsettled; reserved = old.reserved } in
    let found = filled g.R.Resolver.point c.plan_node.new.compiled in
    record { ready = round_fills s (key_of g.R.Resolver.point c.args.root.now.value) old begun found c.args.number _ (plan_of c.in_ok-planned.planned.form) c.requires.waits c.begin.ensures.begun c.at_round-compiled.ensures.round c.in_ok-planned.ensures.1 }

pub returns : goal.returns
returns g c =
    let v = key_of g.R.Resolver.point in
    let s = task g.R.Resolver.resolving g.T.KeywordTable.owned g.T.KeywordTable.script g.K.Validate.shape c.args.self.now in
    let old = filled g.R.Resolver.point c.args.compiled.now in
    let root = v c.args.root.now.value in
    let k = v c.in_ok-key.key.value in
    let begun : Table _ _ = record { keys = old.keys; nodes = c.begin.new.self; round = c.at_round-compiled.result.round; depth = c.at_round-compiled.result.depth; loose = c.at_round-compiled.result.reaches_unsettled; reserved = old.reserved } in
    let found = filled g.R.Resolver.point c.plan_node.new.compiled in
    let new : Table _ _ = record { keys = found.keys; nodes = c.fill.new.self; round = found.round; depth = found.depth; loose = found.loose; reserved = found.reserved } in
    let m = rw c.deref.ensures at c.in_ok-planned.ensures.0 in
    let o = rw c.deref.ensures at c.in_ok-planned.ensures.1 in
    let p = plan_of c.in_ok-planned.planned.form in
    let annotations = c.in_ok-planned.planned.annotations in
    let settled = not found.loose in
    let at = slice_get-map v c.args.compiled.now.keys c.args.number ∙ ap (option_map v) c.in_ok-key.ensures.key in
    let at-found = key_stays s root begun found k c.args.number (ReachedFrom s.parts (asked_edges s.parts k)) at m.step.grown in
    at_rounds_end s root old begun found new k c.args.number annotations p c.requires.at at c.requires.waits c.begin.ensures.begun refl c.at_round-compiled.ensures.round c.at_round-compiled.ensures.depth c.at_round-compiled.ensures.settled refl refl
    o m.step.grown
    (finished_table s.parts s.shape s.limit found.keys found.nodes c.fill.new.self c.args.number k settled annotations p m.step.table at-found c.fill.ensures.filled (record { plans = m.plan; settled = m.step.settled; clean = m.step.clean }) m.annotated)
    c.fill.ensures.filled refl refl refl refl
