use Rattle.std.proofs.Common.{◌+◌, ◌≡◌, ◌∙◌, ℕ, Bool, ap, length, subst, sym, true, false}
use Rattle.std.proofs.Math.Bool.{and-true}
use Rattle.std.proofs.lemmas.Option.{IfSome_then}
use Rattle.std.specs.Prelude.{Err, IfSome, is_some}
use Rattle.serde_json.specs.View.{view}
use Rattle.theory_definitions.specs.Laws.{EachKeeps}
use Rattle.theory_meaning.proofs.TurnsGiveRuns.{keeps_of_turns}
use Rattle.schema_node_table.specs.NodeTable.{numbered}
use Rattle.schema_traits.specs.MatcherViews.{FinishesEach}
use Rattle.schema_solver.specs.Saying.{EachSays}
use Rattle.schema_solver.specs.declared.eligible.SolvedVerdict.{SolvedVerdict}
use Rattle.schema_compiled.specs.Asked.{DecidesFromSomeDepth}
use Rattle.schema_compiled.specs.Program.{Program}
use Rattle.schema_run_context.specs.Works.{Budget}
use Rattle.schema_compiled.specs.Solved.{BeganFew, IsCountedIn, RestsOnContext, StopsLate}
use Rattle.schema_validator.proofs.Budgets.{kept_charged, stopped_charged}
use Rattle.schema_validator.proofs.Greatest.{decides_accepted}
use Rattle.schema_compiled.proofs.Solved.{enough_decide}
use Rattle.schema_validator.proofs.validator.Validator.solve_within.Goals as goal

pub solved-requires : goal.solved-requires
solved-requires g c = record { finishes = λ _. subst (λ (p : Program g.row.K.Denot g.row.M.Denot). FinishesEach (g.M.Matcher.matching p.matcher)) (sym c.self.view_is) c.requires.finishes }

pub returns-in-Ok-clause-exactly : goal.returns-in-Ok-clause-exactly
returns-in-Ok-clause-exactly g c =
    subst (λ (p : Program g.row.K.Denot g.row.M.Denot). EachSays g.K.Validate.says_monotone (numbered g.K.Validate.shape p.nodes) (length p.nodes) → is_some c.in-Ok.found ≡ is_some p.followed) c.self.view_is
    (λ each. c.in-Ok.ensures.exactly each ∙ and-true (is_some c.self.inside.schema.followed))

pub returns-in-Ok-clause-only : goal.returns-in-Ok-clause-only
returns-in-Ok-clause-only g c =
    subst (λ (p : Program g.row.K.Denot g.row.M.Denot). is_some c.in-Ok.found ≡ true → is_some p.followed ≡ true) c.self.view_is
    (λ is. sym (and-true (is_some c.self.inside.schema.followed)) ∙ c.in-Ok.ensures.only is)

pub returns-in-Ok-clause-depth : goal.returns-in-Ok-clause-depth
returns-in-Ok-clause-depth g c =
    subst (λ (p : Program g.row.K.Denot g.row.M.Denot). IfSome c.in-Ok.found (λ (v : SolvedVerdict). DecidesFromSomeDepth g.K.Validate g.M.Matcher p (view c.args.instance.now) v.valid)) c.self.view_is c.in-Ok.ensures.depth

pub returns-in-Ok-clause-rests : goal.returns-in-Ok-clause-rests
returns-in-Ok-clause-rests g c =
    subst (λ (p : Program g.row.K.Denot g.row.M.Denot). IfSome c.in-Ok.found (RestsOnContext g.K.Validate g.M.Matcher p c.args.instance.now)) c.self.view_is c.in-Ok.ensures.rests

pub returns-in-Ok-clause-few : goal.returns-in-Ok-clause-few
returns-in-Ok-clause-few g c =
    subst (λ (p : Program g.row.K.Denot g.row.M.Denot). IfSome c.in-Ok.found (BeganFew g.K.Validate g.M.Matcher p c.args.instance.now)) c.self.view_is c.in-Ok.ensures.few

pub returns-in-Ok-clause-greatest : goal.returns-in-Ok-clause-greatest
returns-in-Ok-clause-greatest g c =
    let k = g.K.Validate in
    let keeps : (texts : Bool) → EachKeeps (k.words texts) = λ texts s. (k.absorbed s, keeps_of_turns (k.words texts) s (k.absorbed s) (k.remaining s) (k.can_be texts s) (k.ends texts s) (k.fits texts s) (g.met.K.Validate.turn_laws texts s) (g.met.K.Validate.function_laws texts s)) in
    IfSome_then c.in-Ok.found (returns-in-Ok-clause-depth g c) (λ v said. decides_accepted k g.M.Matcher keeps c.args.self.now c.assert_ranked.ensures.ranked c.assert_ranked.ensures.inside (view c.args.instance.now) v.valid said)

pub returns-in-Ok-clause-counted : goal.returns-in-Ok-clause-counted
returns-in-Ok-clause-counted g c =
    let counted = subst (λ (w : Budget). IfSome c.in-Ok.found (λ (v : SolvedVerdict). IsCountedIn v w c.solved.new.work)) c.copy_for_call-copy.ensures.copied c.in-Ok.ensures.counted in
    IfSome_then c.in-Ok.found counted (λ (v : SolvedVerdict) counted limited.
    ap (λ (k : ℕ). v.context.begun + k) (kept_charged _ _ _ _ c.copy_for_call-copy.ensures.copied c.charge.ensures c.in-Ok.ensures.works limited) ∙ counted limited)

late : goal.returns-in-Err-clause-late
late g c =
    let stops = subst (λ (p : Program g.row.K.Denot g.row.M.Denot). c.copy_for_call-copy.result.stopped ≡ false → c.solved.new.work.stopped ≡ true → StopsLate g.K.Validate g.M.Matcher p c.args.instance.now c.copy_for_call-copy.result.left) c.self.view_is c.in-Err.ensures.late in
    let here = subst (λ (w : Budget). w.stopped ≡ false → c.solved.new.work.stopped ≡ true → StopsLate g.K.Validate g.M.Matcher c.args.self.now c.args.instance.now w.left) c.copy_for_call-copy.ensures.copied stops in
    stopped_charged _ _ _ _ c.copy_for_call-copy.ensures.copied c.charge_failure.ensures.charged (StopsLate g.K.Validate g.M.Matcher c.args.self.now c.args.instance.now c.args.work.now.left) here

pub returns-in-Err-clause-late : goal.returns-in-Err-clause-late
returns-in-Err-clause-late g c = late g c

pub returns-in-Err-clause-decides : goal.returns-in-Err-clause-decides
returns-in-Err-clause-decides g c = λ enough. enough_decide {T = ℕ} {E = ℕ} g.K.Validate g.M.Matcher c.args.self.now c.args.instance.now c.args.work.now.left (Err 0) c.args.work.now.stopped c.charge_failure.new.work.stopped (late g c) enough
