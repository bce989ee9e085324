use Rattle.std.proofs.Common.{◌≡◌, ◌∙◌, Bool, [], ap, arith, inl, inr, length, refl, subst, sym}
use Rattle.std.specs.Prelude.{is_some}
use Rattle.serde_json.specs.View.{view}
use Rattle.theory_definitions.specs.Instance.{a_value}
use Rattle.theory_fixed_points.specs.NodesSay.{KeepsUntold}
use Rattle.theory_meaning.proofs.TurnsGiveRuns.{keeps_of_turns}
use Rattle.schema_node_table.proofs.RankedTable.{ranked_table}
use Rattle.schema_run_steps.specs.EvaluationPlaces.{steps_to}
use Rattle.theory_fixed_points.specs.Stages.{Tells}
use Rattle.schema_solver.specs.Asked.{solver_of}
use Rattle.schema_solver_state.specs.Contexts.{Solver, found_of, solver_places}
use Rattle.schema_solver_state.specs.Answering.{fresh}
use Rattle.schema_solver.specs.Solving.{Goes, InEach, IsLate, MaySolve, StaysWithin}
use Rattle.schema_solver.proofs.Going.{end_few, end_holds, end_rests, end_says, end_sound, end_within, fresh_may, root_late, root_within}
use Rattle.schema_solver.proofs.Stopping.{depth_is_no_limit}
use Rattle.schema_solver.proofs.Telling.{solved_at}
use Rattle.schema_solver.proofs.solve.solve_root.Goals as goal

pub solve_node-requires : goal.solve_node-requires
solve_node-requires g c =
    let set = solver_of g.K.Validate.words g.K.Validate.is_whole g.K.Validate.shape g.M.Matcher.matching c.args.engine.now in
    let v = c.args.instance.now in
    let ranked = ranked_table g.K.Validate.shape c.args.engine.now.nodes.now c.assert_ordered.ensures.ordered.0 c.assert_ordered.ensures.ordered.1 in
    let begins : c.args.context.now ≡ fresh v = c.requires.fresh in
    let place : steps_to c.given-place.result ≡ [] = c.given-place.ensures.same ∙ c.root-root.ensures.root in
    let s = a_value (view v) in
    record {
      can_ask = record {
        may = subst (λ p. MaySolve set c.args.context.now s p c.args.node.0) (sym place) (subst (λ z. MaySolve set z s [] c.args.node.0) (sym begins) (fresh_may set v c.args.node.0 c.requires.known ranked c.requires.finishes));
        carries = c.given-place.ensures.carries (solver_places c.args.context.now);
        deep = λ _. let none = ap (λ (z : Solver). length z.in_progress) begins in omega (arith, none);
        stands = tt;
      };
      room = c.has_room.ensures.room c.if-not-has_room.false;
    }

pub returns-in-Ok : goal.returns-in-Ok
returns-in-Ok g c =
    let set = solver_of g.K.Validate.words g.K.Validate.is_whole g.K.Validate.shape g.M.Matcher.matching c.args.engine.now in
    let v = c.args.instance.now in
    let i = c.args.node.0 in
    let ranked = ranked_table g.K.Validate.shape c.args.engine.now.nodes.now c.assert_ordered.ensures.ordered.0 c.assert_ordered.ensures.ordered.1 in
    let begins : c.args.context.now ≡ fresh v = c.requires.fresh in
    let place : steps_to c.given-place.result ≡ [] = c.given-place.ensures.same ∙ c.root-root.ensures.root in
    let laws : (texts : Bool) → KeepsUntold (g.K.Validate.words texts) = λ texts. record { laws = λ m. (g.K.Validate.absorbed m, keeps_of_turns (g.K.Validate.words texts) m (g.K.Validate.absorbed m) (g.K.Validate.remaining m) (g.K.Validate.can_be texts m) (g.K.Validate.ends texts m) (g.K.Validate.fits texts m) (g.met.K.Validate.turn_laws texts m) (g.met.K.Validate.function_laws texts m)); never = g.met.K.Validate.never_told texts } in
    let new = c.solve_node.new.context in
    let said = c.in-Ok.said in
    let solved = solved_at set g.K.Validate.says_monotone (steps_to c.given-place.result) c.args.context.now new _ _ _ c.solve_node.ensures (sym c.in-Ok.ensures.same) in
    let went : Goes set [] (fresh v) new = subst (λ p. Goes set p (fresh v) new) place (subst (λ z. Goes set (steps_to c.given-place.result) z new) begins solved.goes) in
    let tells : InEach set (view new.root) (λ texts w. Tells w (found_of new) i [] said.valid said.leans) = subst (λ p. InEach set (view new.root) (λ texts w. Tells w (found_of new) i p said.valid said.leans)) place solved.says in
    record {
      exactly = λ each. refl;
      says = rw c.valid.ensures.valid (end_says set laws ranked v i c.requires.known new went said.valid said.leans tells);
      root = went.root;
      idle = went.in_progress;
      holds = end_holds set laws ranked v i c.requires.known new went;
      sound = end_sound set laws ranked v i c.requires.known new went;
      rests = rw c.valid.ensures.valid (end_rests set laws ranked v i c.requires.known new went said.valid said.leans tells);
      few = end_few set laws ranked v i c.requires.known new went;
      within = end_within set laws ranked v i c.requires.known new went;
      stops = tt;
      limited = tt;
      late = tt;
    }

pub returns-in-Leans : goal.returns-in-Leans
returns-in-Leans g c =
    let set = solver_of g.K.Validate.words g.K.Validate.is_whole g.K.Validate.shape g.M.Matcher.matching c.args.engine.now in
    let v = c.args.instance.now in
    let begins : c.args.context.now ≡ fresh v = c.requires.fresh in
    let new = c.solve_node.new.context in
    let stops = (solved_at set g.K.Validate.says_monotone _ c.args.context.now new _ _ _ c.solve_node.ensures (sym c.in-Err.ensures.same)).stops in
    record {
      exactly = λ each. absurd (stops.reason each c.in-Leans.is);
      says = tt;
      root = tt;
      idle = tt;
      holds = tt;
      sound = tt;
      rests = tt;
      few = tt;
      within = root_within set v new (subst (λ z. StaysWithin set z new) begins stops.within);
      stops = tt;
      limited = tt;
      late = tt;
    }

pub returns-in-Limit : goal.returns-in-Limit
returns-in-Limit g c =
    let set = solver_of g.K.Validate.words g.K.Validate.is_whole g.K.Validate.shape g.M.Matcher.matching c.args.engine.now in
    let v = c.args.instance.now in
    let begins : c.args.context.now ≡ fresh v = c.requires.fresh in
    let stops = (solved_at set g.K.Validate.says_monotone _ c.args.context.now c.solve_node.new.context _ _ _ c.solve_node.ensures (sym c.in-Err.ensures.same)).stops in
    let late : IsLate set (fresh v) = subst (IsLate set) begins (stops.late c.in-Limit.is) in
    record {
      exactly = λ each. tt;
      says = tt;
      root = tt;
      idle = tt;
      holds = tt;
      sound = tt;
      rests = tt;
      few = tt;
      within = tt;
      stops = inr (inl refl);
      limited = λ is. ap is_some late.limit;
      late = λ is. root_late set v late;
    }

pub returns-then-not-has_room : goal.returns-then-not-has_room
returns-then-not-has_room g c = record {
  exactly = λ each. tt;
  says = tt;
  root = tt;
  idle = tt;
  holds = tt;
  sound = tt;
  rests = tt;
  few = tt;
  within = tt;
  stops = inr (inr refl);
  limited = λ is. absurd (depth_is_no_limit is);
  late = λ is. absurd (depth_is_no_limit is);
}

pub returns : goal.returns
returns g c = record {
  exactly = λ each. tt;
  says = tt;
  root = tt;
  idle = tt;
  holds = tt;
  sound = tt;
  rests = tt;
  few = tt;
  within = tt;
  stops = inr (inr refl);
  limited = λ is. absurd (depth_is_no_limit is);
  late = λ is. absurd (depth_is_no_limit is);
}
