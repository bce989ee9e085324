use Rattle.std.proofs.Common.{◌∙◌, ◌≡◌, ◌≤◌, suc, [], ℕ, ap, false, sym, subst, arith, length, true}
use Rattle.std.specs.Prelude.{Err}
use Rattle.serde_json.specs.View.{view}
use Rattle.theory_definitions.specs.Laws.{EachKeeps}
use Rattle.theory_definitions.specs.Unfinished.{Remembered}
use Rattle.theory_meaning.specs.Numbered.{left, subject_in}
use Rattle.theory_meaning.proofs.TurnsGiveRuns.{keeps_of_turns}
use Rattle.schema_node_table.specs.NodeTable.{numbered}
use Rattle.schema_run_context.proofs.Matches.{nothing_twice}
use Rattle.schema_traits.specs.MatcherViews.{FinishesEach}
use Rattle.schema_solver.specs.declared.eligible.SolvedVerdict.{SolvedVerdict}
use Rattle.schema_compiled.specs.Answers.{SaysVerdict}
use Rattle.schema_compiled.specs.Asked.{DecidesFromSomeDepth}
use Rattle.schema_compiled.specs.Solved.{IsDecidedWithin}
use Rattle.schema_compiled.specs.Program.{Program}
use Rattle.schema_compiled.proofs.ErrorSearches.{errors_at_once, first_at_once}
use Rattle.schema_compiled.proofs.Solved.{enough_decide, gives_a_verdict, of_some, on_err}
use Rattle.schema_compiled.proofs.Searches.{finishes_of}
use Rattle.theory_runs.proofs.Spending.{asks_spends, spends_on}
use Rattle.schema_compiled.proofs.compiled_schema.CompiledSchema.accepts_at_once.Goals as goal

pub returns-in-Some-clause-first : goal.returns-in-Some-clause-first
returns-in-Some-clause-first g c = λ yes texts speaks.
    let w = g.K.Validate in
    let p = c.args.self.now in
    let d = view c.args.instance.now in
    let nodes = numbered w.shape p.nodes in
    let deep = left nodes (length p.nodes) p.root (subject_in d []) [] in
    let each : EachKeeps (w.words texts) = λ m. (w.absorbed m, keeps_of_turns (w.words texts) m (w.absorbed m) (w.remaining m) (w.can_be texts m) (w.ends texts m) (w.fits texts m) (g.met.K.Validate.turn_laws texts m) (g.met.K.Validate.function_laws texts m)) in
    let one = subst (λ (p : Program g.row.K.Denot g.row.M.Denot). 1 ≤ p.runs) c.self.view_is c.self.invariant.1 in
    let says = of_some _ c.in-Some.solved (λ (v : SolvedVerdict). SaysVerdict w.shape w.words w.is_whole g.M.Matcher.matching p d [] v.valid) c.in-Some.is c.in_ok-solved.ensures.says in
    let none_left = of_some _ c.in-Some.solved (λ _. FinishesEach (g.M.Matcher.matching p.matcher)) c.in-Some.is c.in_ok-solved.ensures.finishes in
    let finishes = finishes_of (g.M.Matcher.matching p.matcher) none_left in (
      suc deep,
      λ n more. first_at_once (w.words texts) each (g.M.Matcher.matching p.matcher) nodes d p.root n p.runs one finishes texts (sym yes ∙ says texts speaks nothing_twice n (omega (arith, more))),
    )

pub returns-in-Some-clause-errors : goal.returns-in-Some-clause-errors
returns-in-Some-clause-errors g c = λ yes texts speaks.
    let w = g.K.Validate in
    let p = c.args.self.now in
    let d = view c.args.instance.now in
    let nodes = numbered w.shape p.nodes in
    let deep = left nodes (length p.nodes) p.root (subject_in d []) [] in
    let each : EachKeeps (w.words texts) = λ m. (w.absorbed m, keeps_of_turns (w.words texts) m (w.absorbed m) (w.remaining m) (w.can_be texts m) (w.ends texts m) (w.fits texts m) (g.met.K.Validate.turn_laws texts m) (g.met.K.Validate.function_laws texts m)) in
    let one = subst (λ (p : Program g.row.K.Denot g.row.M.Denot). 1 ≤ p.runs) c.self.view_is c.self.invariant.1 in
    let says = of_some _ c.in-Some.solved (λ (v : SolvedVerdict). SaysVerdict w.shape w.words w.is_whole g.M.Matcher.matching p d [] v.valid) c.in-Some.is c.in_ok-solved.ensures.says in
    let none_left = of_some _ c.in-Some.solved (λ _. FinishesEach (g.M.Matcher.matching p.matcher)) c.in-Some.is c.in_ok-solved.ensures.finishes in
    let finishes = finishes_of (g.M.Matcher.matching p.matcher) none_left in (
      suc deep,
      λ n more. errors_at_once (w.words texts) each (g.M.Matcher.matching p.matcher) nodes d p.root n p.runs one finishes texts (sym yes ∙ says texts speaks nothing_twice n (omega (arith, more))),
    )

pub returns-then-finishes-clause-first : goal.returns-then-finishes-clause-first
returns-then-finishes-clause-first g c = λ accepts texts speaks.
    let w = g.K.Validate in
    let p = c.args.self.now in
    let d = view c.args.instance.now in
    let nodes = numbered w.shape p.nodes in
    let deep = left nodes (length p.nodes) p.root (subject_in d []) [] in
    let each : EachKeeps (w.words texts) = λ m. (w.absorbed m, keeps_of_turns (w.words texts) m (w.absorbed m) (w.remaining m) (w.can_be texts m) (w.ends texts m) (w.fits texts m) (g.met.K.Validate.turn_laws texts m) (g.met.K.Validate.function_laws texts m)) in
    let says = subst (λ (r : Remembered). SaysVerdict w.shape w.words w.is_whole g.M.Matcher.matching p d r.assumptions c.in_ok-met.accepts) c.new.ensures.starts c.in_ok-met.ensures.says in
    let none_left = subst (λ (p : Program g.row.K.Denot g.row.M.Denot). FinishesEach (g.M.Matcher.matching p.matcher)) c.self.view_is (c.finishes.ensures.finishes c.if-finishes.true) in
    let finishes = finishes_of (g.M.Matcher.matching p.matcher) none_left in (
      suc deep,
      λ n more. first_at_once (w.words texts) each (g.M.Matcher.matching p.matcher) nodes d p.root n p.runs c.in_ok-met.ensures.makes_one finishes texts (sym accepts ∙ says texts speaks nothing_twice n (omega (arith, more))),
    )

pub returns-then-finishes-clause-errors : goal.returns-then-finishes-clause-errors
returns-then-finishes-clause-errors g c = λ accepts texts speaks.
    let w = g.K.Validate in
    let p = c.args.self.now in
    let d = view c.args.instance.now in
    let nodes = numbered w.shape p.nodes in
    let deep = left nodes (length p.nodes) p.root (subject_in d []) [] in
    let each : EachKeeps (w.words texts) = λ m. (w.absorbed m, keeps_of_turns (w.words texts) m (w.absorbed m) (w.remaining m) (w.can_be texts m) (w.ends texts m) (w.fits texts m) (g.met.K.Validate.turn_laws texts m) (g.met.K.Validate.function_laws texts m)) in
    let says = subst (λ (r : Remembered). SaysVerdict w.shape w.words w.is_whole g.M.Matcher.matching p d r.assumptions c.in_ok-met.accepts) c.new.ensures.starts c.in_ok-met.ensures.says in
    let none_left = subst (λ (p : Program g.row.K.Denot g.row.M.Denot). FinishesEach (g.M.Matcher.matching p.matcher)) c.self.view_is (c.finishes.ensures.finishes c.if-finishes.true) in
    let finishes = finishes_of (g.M.Matcher.matching p.matcher) none_left in (
      suc deep,
      λ n more. errors_at_once (w.words texts) each (g.M.Matcher.matching p.matcher) nodes d p.root n p.runs c.in_ok-met.ensures.makes_one finishes texts (sym accepts ∙ says texts speaks nothing_twice n (omega (arith, more))),
    )

pub returns-then-finishes-clause-works : goal.returns-then-finishes-clause-works
returns-then-finishes-clause-works g c = spends_on _ _ _ c.in_ok-solved.ensures.works (asks_spends _ _ c.in_ok-met.ensures.works)

pub returns-in-Some-clause-finishes : goal.returns-in-Some-clause-finishes
returns-in-Some-clause-finishes g c = λ yes.
    let p = c.args.self.now in (
      of_some _ c.in-Some.solved (λ _. FinishesEach (g.M.Matcher.matching p.matcher)) c.in-Some.is c.in_ok-solved.ensures.finishes,
      subst (λ (p : Program g.row.K.Denot g.row.M.Denot). 1 ≤ p.runs) c.self.view_is c.self.invariant.1,
    )

pub returns-then-finishes-clause-finishes : goal.returns-then-finishes-clause-finishes
returns-then-finishes-clause-finishes g c = λ yes. (
  subst (λ (p : Program g.row.K.Denot g.row.M.Denot). FinishesEach (g.M.Matcher.matching p.matcher)) c.self.view_is (c.finishes.ensures.finishes c.if-finishes.true),
  c.in_ok-met.ensures.makes_one,
)

pub returns-in_err-solved-clause-decides : goal.returns-in_err-solved-clause-decides
returns-in_err-solved-clause-decides g c = λ decided.
    on_err _ (enough_decide {T = ℕ} {E = ℕ} g.K.Validate g.M.Matcher c.args.self.now c.args.instance.now c.args.work.now.left (Err 0) c.args.work.now.stopped c.solved.new.work.stopped c.in_err-solved.ensures.late decided.enough)

pub returns-in-Some-clause-verdict : goal.returns-in-Some-clause-verdict
returns-in-Some-clause-verdict g c = λ decided.
    of_some _ c.in-Some.solved (λ (v : SolvedVerdict). DecidesFromSomeDepth g.K.Validate g.M.Matcher c.args.self.now (view c.args.instance.now) v.valid) c.in-Some.is c.in_ok-solved.ensures.depth

pub returns-in_err-met-clause-decides : goal.returns-in_err-met-clause-decides
returns-in_err-met-clause-decides g c = λ decided.
    absurd (gives_a_verdict g.K.Validate g.M.Matcher c.args.self.now c.args.instance.now _ true _ (sym c.if-finishes.true ∙ c.finishes.ensures.says ∙ ap (λ (v : Program g.row.K.Denot g.row.M.Denot). g.M.Matcher.finishing v.matcher) c.self.view_is) c.in_ok-solved.ensures.exactly (λ x. c.in_default.not-Some x) decided)

pub returns-then-finishes-clause-verdict : goal.returns-then-finishes-clause-verdict
returns-then-finishes-clause-verdict g c = λ decided.
    absurd (gives_a_verdict g.K.Validate g.M.Matcher c.args.self.now c.args.instance.now _ true _ (sym c.if-finishes.true ∙ c.finishes.ensures.says ∙ ap (λ (v : Program g.row.K.Denot g.row.M.Denot). g.M.Matcher.finishing v.matcher) c.self.view_is) c.in_ok-solved.ensures.exactly (λ x. c.in_default.not-Some x) decided)

pub returns-clause-verdict : goal.returns-clause-verdict
returns-clause-verdict g c = λ (decided : IsDecidedWithin g.K.Validate g.M.Matcher c.args.self.now c.args.instance.now c.args.work.now.left).
    let says : g.M.Matcher.finishing c.args.self.now.matcher ≡ false = sym (ap (λ (v : Program g.row.K.Denot g.row.M.Denot). g.M.Matcher.finishing v.matcher) c.self.view_is) ∙ sym c.finishes.ensures.says ∙ c.if-finishes.false in
    let finishes = decided.finishing in
    absurd (let wrong : ⊥ = cc (says, finishes) in wrong)
