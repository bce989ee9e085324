use Rattle.std.proofs.Common.{◌≡◌, ◌≤◌, ◌&&◌, Bool, List, [], arith, length, subst, suc, sym, true}
use Rattle.std.proofs.lemmas.Option.{IfSome_then}
use Rattle.std.specs.Prelude.{IfOk, IfSome, OnErr, Option, false, is_some}
use Rattle.serde_json.specs.View.{view}
use Rattle.theory_definitions.specs.Laws.{EachKeeps}
use Rattle.theory_meaning.specs.Numbered.{left, subject_in}
use Rattle.theory_meaning.proofs.TurnsGiveRuns.{keeps_of_turns}
use Rattle.schema_node_table.specs.NodeTable.{numbered}
use Rattle.schema_run_context.proofs.Matches.{nothing_twice}
use Rattle.schema_traits.proofs.Replies.{if_ok_mono}
use Rattle.schema_traits.specs.MatcherViews.{FinishesEach}
use Rattle.schema_solver.specs.Asked.{solver_over}
use Rattle.schema_solver.specs.Solving.{BeginsFew, LimitWithinBound, SaysAsNodes}
use Rattle.schema_solver.specs.Finding.{IsFoundAt}
use Rattle.schema_solver.specs.Saying.{EachSays}
use Rattle.schema_solver.specs.declared.eligible.SolvedVerdict.{SolvedVerdict}
use Rattle.schema_compiled.specs.Program.{Program}
use Rattle.schema_compiled.proofs.ErrorSearches.{verdict_at_once}
use Rattle.schema_compiled.proofs.Searches.{finishes_of}
use Rattle.schema_compiled.proofs.Solved.{if_ok_some_both, solved_decides}
use Rattle.schema_compiled.proofs.compiled_schema.CompiledSchema.solved.Goals as goal

pub verdict-requires-clause-finishes : goal.verdict-requires-clause-finishes
verdict-requires-clause-finishes g c = subst (λ (p : Program g.row.K.Denot g.row.M.Denot). c.args.finishes ≡ true → FinishesEach (g.M.Matcher.matching p.matcher)) (sym c.self.view_is) c.requires.finishes

pub returns-clause-exactly : goal.returns-clause-exactly
returns-clause-exactly g c =
    subst (λ (p : Program g.row.K.Denot g.row.M.Denot). EachSays g.K.Validate.says_monotone (numbered g.K.Validate.shape p.nodes) (length p.nodes) → IfOk c.verdict.result (λ (found : Option SolvedVerdict). is_some found ≡ (is_some p.followed && c.args.finishes))) c.self.view_is c.verdict.ensures.exactly

pub returns-clause-only : goal.returns-clause-only
returns-clause-only g c =
    subst (λ (p : Program g.row.K.Denot g.row.M.Denot). IfOk c.verdict.result (λ (found : Option SolvedVerdict). is_some found ≡ true → (is_some p.followed && c.args.finishes) ≡ true)) c.self.view_is c.verdict.ensures.only

pub returns-clause-finishes : goal.returns-clause-finishes
returns-clause-finishes g c =
    subst (λ (p : Program g.row.K.Denot g.row.M.Denot). IfOk c.verdict.result (λ (found : Option SolvedVerdict). IfSome found (λ _. FinishesEach (g.M.Matcher.matching p.matcher)))) c.self.view_is c.verdict.ensures.finishes

pub returns-clause-says : goal.returns-clause-says
returns-clause-says g c = if_ok_mono c.verdict.result _ _ (λ found says.
    let w = g.K.Validate in
    let d = view c.args.instance.now in
    IfSome_then found says (λ v said. solved_decides w.shape w.words w.is_whole g.M.Matcher.matching c.args.self.now [] d v.valid
    (subst (λ (p : Program g.row.K.Denot g.row.M.Denot). SaysAsNodes (solver_over w.words w.is_whole w.shape p.nodes [] (g.M.Matcher.matching p.matcher)) d p.root v.valid) c.self.view_is said)))
    c.verdict.ensures.says

pub returns-clause-depth : goal.returns-clause-depth
returns-clause-depth g c =
    let w = g.K.Validate in
    let p = c.args.self.now in
    let d = view c.args.instance.now in
    let nodes = numbered w.shape p.nodes in
    let deep = left nodes (length p.nodes) p.root (subject_in d []) [] in
    let one = subst (λ (p : Program g.row.K.Denot g.row.M.Denot). 1 ≤ p.runs) c.self.view_is c.self.invariant.1 in
    let finishes : FinishesEach (g.M.Matcher.matching c.self.inside.matcher) → FinishesEach (g.M.Matcher.matching p.matcher) =
    subst (λ (p : Program g.row.K.Denot g.row.M.Denot). FinishesEach (g.M.Matcher.matching c.self.inside.matcher) → FinishesEach (g.M.Matcher.matching p.matcher)) c.self.view_is (λ h. h) in
    if_ok_some_both c.verdict.result _ _ _ (λ (v : SolvedVerdict) none_left says texts speaks.
    let each : EachKeeps (w.words texts) = λ m. (w.absorbed m, keeps_of_turns (w.words texts) m (w.absorbed m) (w.remaining m) (w.can_be texts m) (w.ends texts m) (w.fits texts m) (g.met.K.Validate.turn_laws texts m) (g.met.K.Validate.function_laws texts m)) in
    (suc deep, λ n more. verdict_at_once (w.words texts) each (g.M.Matcher.matching p.matcher) nodes d p.root n p.runs one (finishes_of (g.M.Matcher.matching p.matcher) (finishes none_left)) v.valid (says texts speaks nothing_twice n (omega (arith, more)))))
    c.verdict.ensures.finishes (returns-clause-says g c)

pub returns-clause-rests : goal.returns-clause-rests
returns-clause-rests g c =
    let w = g.K.Validate in
    subst (λ (p : Program g.row.K.Denot g.row.M.Denot). IfOk c.verdict.result (λ (found : Option SolvedVerdict). IfSome found (λ (v : SolvedVerdict). IfSome p.followed (λ (followed : List Bool).
    IsFoundAt (solver_over w.words w.is_whole w.shape p.nodes followed (g.M.Matcher.matching p.matcher)) c.args.instance.now p.root v)))) c.self.view_is c.verdict.ensures.rests

pub returns-clause-few : goal.returns-clause-few
returns-clause-few g c =
    let w = g.K.Validate in
    subst (λ (p : Program g.row.K.Denot g.row.M.Denot). IfOk c.verdict.result (λ (found : Option SolvedVerdict). IfSome found (λ (v : SolvedVerdict). IfSome p.followed (λ (followed : List Bool).
    BeginsFew (solver_over w.words w.is_whole w.shape p.nodes followed (g.M.Matcher.matching p.matcher)) c.args.instance.now v.context.begun)))) c.self.view_is c.verdict.ensures.few

pub returns-clause-late : goal.returns-clause-late
returns-clause-late g c =
    let w = g.K.Validate in
    let before = c.args.work.now in
    let after = c.verdict.new.work in
    subst (λ (p : Program g.row.K.Denot g.row.M.Denot). OnErr c.verdict.result (before.stopped ≡ false → after.stopped ≡ true → IfSome p.followed (λ (followed : List Bool).
    LimitWithinBound (solver_over w.words w.is_whole w.shape p.nodes followed (g.M.Matcher.matching p.matcher)) c.args.instance.now before.left))) c.self.view_is c.verdict.ensures.late
