use Rattle.std.proofs.Common.{rules, ◌≡◌, ◌∙◌, ◌≤◌, ℕ, Bool, suc, [], refl, sym, ap, subst, arith, length}
use Rattle.std.specs.Prelude.{Err}
use Rattle.serde_json.specs.View.{view}
use Rattle.serde_json.specs.declared.value.Value.{Value}
use Rattle.theory_definitions.specs.Cover.{is_valid}
use Rattle.theory_definitions.specs.Keywords.{for_verdict}
use Rattle.theory_definitions.specs.Laws.{EachKeeps}
use Rattle.theory_meaning.specs.Numbered.{left, subject_in}
use Rattle.theory_definitions.specs.Unfinished.{Remembered, starting}
use Rattle.theory_meaning.proofs.TurnsGiveRuns.{keeps_of_turns}
use Rattle.schema_node_table.specs.NodeTable.{numbered}
use Rattle.schema_run_context.specs.Works.{Asks}
use Rattle.schema_run_context.proofs.Matches.{nothing_twice}
use Rattle.schema_traits.proofs.Replies.{if_ok_mono}
use Rattle.schema_traits.specs.MatcherViews.{FinishesEach}
use Rattle.theory_runs.proofs.Spending.{asks_spends, spends_on}
use Rattle.schema_solver.specs.declared.eligible.SolvedVerdict.{SolvedVerdict}
use Rattle.schema_compiled.specs.Answers.{MeetsMatches, SaysVerdict}
use Rattle.schema_compiled.specs.Asked.{DecidesFromSomeDepth}
use Rattle.schema_compiled.specs.Program.{Program}
use Rattle.schema_compiled.specs.Taken.{TakesByRuns}
use Rattle.schema_compiled.proofs.Solved.{enough_decide, gives_a_verdict, of_some, on_err}
use Rattle.schema_compiled.proofs.Taken.{takes_after, takes_finished, takes_first}
use Rattle.schema_compiled.proofs.VerdictsSearched.{is_searched}
use Rattle.schema_compiled.proofs.Searches.{finishes_of, none_of, verdict_first}
use Rattle.schema_compiled.proofs.compiled_schema.CompiledSchema.valid_under_each.Goals as goal

pub returns-in-Some : goal.returns-in-Some
returns-in-Some g c =
    let w = g.K.Validate in
    let p = c.args.self.now in
    record {
      depth = of_some _ c.in-Some.solved (λ (v : SolvedVerdict). DecidesFromSomeDepth w g.M.Matcher p (view c.args.instance.now) v.valid) c.in-Some.is c.in_ok-solved.ensures.depth;
      works =
          let one = subst (λ (p : Program g.row.K.Denot g.row.M.Denot). 1 ≤ p.runs) c.self.view_is c.self.invariant.1 in
          let none_left = of_some _ c.in-Some.solved (λ _. FinishesEach (g.M.Matcher.matching p.matcher)) c.in-Some.is c.in_ok-solved.ensures.finishes in
          takes_finished w g.M.Matcher p (view c.args.instance.now) is_valid _ _ one (finishes_of (g.M.Matcher.matching p.matcher) none_left) c.in_ok-solved.ensures.works;
      decides = λ decided. tt;
    }

pub returns-in_err-solved-clause-decides : goal.returns-in_err-solved-clause-decides
returns-in_err-solved-clause-decides g c = λ decided.
    on_err _ (enough_decide {T = ℕ} {E = ℕ} g.K.Validate g.M.Matcher c.args.self.now c.args.instance.now c.args.work.now.left (Err 0) c.args.work.now.stopped c.solved.new.work.stopped c.in_err-solved.ensures.late decided.enough)

pub returns-in_err-first-clause-decides : goal.returns-in_err-first-clause-decides
returns-in_err-first-clause-decides g c = λ decided.
    absurd (gives_a_verdict g.K.Validate g.M.Matcher c.args.self.now c.args.instance.now _ c.finishes.result _ (c.finishes.ensures.says ∙ ap (λ (v : Program g.row.K.Denot g.row.M.Denot). g.M.Matcher.finishing v.matcher) c.self.view_is) c.in_ok-solved.ensures.exactly (λ x. c.in_default.not-Some x) decided)

pub returns-then-not-met_unassumed : goal.returns-then-not-met_unassumed
returns-then-not-met_unassumed g c =
    let w = g.K.Validate in
    let p = c.args.self.now in
    let d = view c.args.instance.now in
    let nodes = numbered w.shape p.nodes in
    let deep = left nodes (length p.nodes) p.root (subject_in d []) [] in
    let says = subst (λ (r : Remembered). SaysVerdict w.shape w.words w.is_whole g.M.Matcher.matching p d r.assumptions c.in_ok-first.first.1) c.new.ensures.starts c.in_ok-first.ensures.says in
    let meets = subst (λ (r : Remembered). MeetsMatches w.shape w.words w.is_whole g.M.Matcher.matching p d for_verdict r c.in_ok-first.first.0) c.new.ensures.starts c.in_ok-first.ensures.meets in
    let none = none_of c.in_ok-first.first.0.unassumed (sym c.met_unassumed.ensures.met ∙ c.if-not-met_unassumed.true) in
    record {
      depth = λ texts speaks.
          let each : EachKeeps (w.words texts) = λ m. (w.absorbed m, keeps_of_turns (w.words texts) m (w.absorbed m) (w.remaining m) (w.can_be texts m) (w.ends texts m) (w.fits texts m) (g.met.K.Validate.turn_laws texts m) (g.met.K.Validate.function_laws texts m)) in
          (suc deep, λ n more. verdict_first (w.words texts) each (g.M.Matcher.matching p.matcher) nodes d p.root n p.runs c.in_ok-first.ensures.makes_one c.in_ok-first.first.1 c.in_ok-first.first.0 (says texts speaks nothing_twice n (omega (arith, more))) (meets texts speaks nothing_twice n (omega (arith, more))) none);
      works = takes_first w g.M.Matcher p d is_valid _ _ c.in_ok-first.first.0 c.in_ok-first.ensures.makes_one meets none (spends_on _ _ _ c.in_ok-solved.ensures.works (asks_spends _ _ c.in_ok-first.ensures.works));
      decides = λ decided. tt;
    }

pub returns : goal.returns
returns g c =
    let w = g.K.Validate in
    let p = c.args.self.now in
    let d = view c.args.instance.now in
    let name = c.validity_under_each-arg-1.given in
    let each : (texts : Bool) → EachKeeps (w.words texts) = λ texts m. (w.absorbed m, keeps_of_turns (w.words texts) m (w.absorbed m) (w.remaining m) (w.can_be texts m) (w.ends texts m) (w.fits texts m) (g.met.K.Validate.turn_laws texts m) (g.met.K.Validate.function_laws texts m)) in
    let meets = subst (λ (r : Remembered). MeetsMatches w.shape w.words w.is_whole g.M.Matcher.matching p d for_verdict r c.in_ok-first.first.0) c.new.ensures.starts c.in_ok-first.ensures.meets in
    let same : c.self.inside.run_limit ≡ p.runs = ap (λ (v : Program g.row.K.Denot g.row.M.Denot). v.runs) c.self.view_is in
    let none : c.in_ok-first.first.0.assumptions ≡ [] = c.in_ok-first.ensures.assumes ∙ ap (λ (r : Remembered). r.assumptions) c.new.ensures.starts in
    let searched = is_searched w g.M.Matcher p d each _ _ (λ z. (z.0.now ≡ p) × (z.2.now ≡ c.args.instance.now) × (z.3.ghost_name ≡ name)) (refl, refl, refl)
    (λ z given r b end has step.
    let self : end.0 ≡ z.0 = search rules in
    let instance : end.2 ≡ z.2 = search rules in
    let named : end.3.ghost_name ≡ z.3.ghost_name = search rules in
    (ap (λ b. b.now) self ∙ has.0, ap (λ b. b.now) instance ∙ has.1, named ∙ has.2))
    (λ z. z.3.now)
    (λ z given r b end step.
    let asks : Asks z.3.now end.3.now = search rules in
    asks)
    c.in_ok-first.first.0 none meets
    (λ z as' r b end has step.
    let fact : SaysVerdict w.shape w.words w.is_whole g.M.Matcher.matching z.0.now (view z.2.now) as' b = search rules in
    let met : MeetsMatches w.shape w.words w.is_whole g.M.Matcher.matching z.0.now (view z.2.now) for_verdict (starting as') r = search rules in (
      subst (λ q. SaysVerdict w.shape w.words w.is_whole g.M.Matcher.matching q d as' b) has.0 (subst (λ (v : Value). SaysVerdict w.shape w.words w.is_whole g.M.Matcher.matching z.0.now (view v) as' b) has.1 fact),
      subst (λ q. MeetsMatches w.shape w.words w.is_whole g.M.Matcher.matching q d for_verdict (starting as') r) has.0 (subst (λ (v : Value). MeetsMatches w.shape w.words w.is_whole g.M.Matcher.matching z.0.now (view v) for_verdict (starting as') r) has.1 met),
    ))
    c.validity_under_each.result c.validity_under_each.new.run _ same c.validity_under_each.ensures.says c.validity_under_each.ensures.makes c.validity_under_each.ensures.reaches in
    record {
      depth = if_ok_mono c.validity_under_each.result _ _ (λ b h. h.decides) searched;
      works = if_ok_mono c.validity_under_each.result _ _ (λ b h.
          takes_after w g.M.Matcher p d is_valid _ _ _ (spends_on _ _ _ c.in_ok-solved.ensures.works (asks_spends _ _ c.in_ok-first.ensures.works))
          (subst (TakesByRuns w g.M.Matcher p d is_valid c.verdict.new.work) (sym (c.work-1.given.1 (sym h.has.2))) h.takes)) searched;
      decides = λ decided. absurd (gives_a_verdict w g.M.Matcher p c.args.instance.now _ c.finishes.result _ (c.finishes.ensures.says ∙ ap (λ (v : Program g.row.K.Denot g.row.M.Denot). g.M.Matcher.finishing v.matcher) c.self.view_is) c.in_ok-solved.ensures.exactly (λ x. c.in_default.not-Some x) decided);
    }
