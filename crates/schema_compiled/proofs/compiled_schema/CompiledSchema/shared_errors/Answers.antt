use Rattle.std.proofs.Common.{rules, ◌≡◌, ◌∙◌, ◌≤◌, Bool, false, refl, sym, ap, subst}
use Rattle.serde_json.specs.View.{view}
use Rattle.theory_definitions.specs.Laws.{EachKeeps}
use Rattle.theory_meaning.proofs.TurnsGiveRuns.{keeps_of_turns}
use Rattle.schema_node_table.specs.NodeTable.{numbered}
use Rattle.schema_run_context.specs.Works.{Asks}
use Rattle.schema_compiled.proofs.Searches.{reached_has}
use Rattle.schema_compiled.specs.Program.{Program}
use Rattle.schema_compiled.specs.Taken.{TakesByRuns}
use Rattle.schema_compiled.proofs.SharedErrors.{both_on, shared_of, shared_takes, told_of}
use Rattle.schema_compiled.proofs.compiled_schema.CompiledSchema.shared_errors.Goals as goal

pub returns : goal.returns
returns g c =
    let w = g.K.Validate in
    let each : (texts : Bool) → EachKeeps (w.words texts) = λ texts m. (w.absorbed m, keeps_of_turns (w.words texts) m (w.absorbed m) (w.remaining m) (w.can_be texts m) (w.ends texts m) (w.fits texts m) (g.met.K.Validate.turn_laws texts m) (g.met.K.Validate.function_laws texts m)) in
    let first = c.args.first.0 in
    let same : c.self.inside.run_limit ≡ c.args.self.now.runs = ap (λ (p : Program g.row.K.Denot g.row.M.Denot). p.runs) c.self.view_is in
    let found = c.in_ok-shared.ensures in
    let d = view c.args.instance.now in
    record {
      shares = shared_of w g.M.Matcher c.args.self.now d (subst (λ most. 1 ≤ most) same c.self.invariant.1) each _ _ (λ z. (z.0.now ≡ c.args.self.now) × (z.2.now ≡ c.args.instance.now)) (refl, refl)
          (λ z given r es end has step.
          let self : end.0 ≡ z.0 = search rules in
          let instance : end.2 ≡ z.2 = search rules in
          both_on (ap (λ b. b.now) self) (ap (λ b. b.now) instance) has)
          first c.requires.none c.requires.met
          (λ z as' r es end has step. told_of w g.M.Matcher z.0.now c.args.self.now z.2.now c.args.instance.now as' r es.items (search rules) (search rules) (search rules) has)
          c.in_ok-shared.shared _ same found.errors found.first found.verdict found.gives;
      works = λ call later began.
          let name = c.errors_under_each-arg-1.given in
          let before = c.args.work.now in
          let named : c.errors_under_each.new.run.3.ghost_name ≡ name = reached_has (w.words false) (each false) (g.M.Matcher.matching c.args.self.now.matcher) (numbered w.shape c.args.self.now.nodes) d c.args.self.now.root 0 _ _ (λ z. z.3.ghost_name ≡ name) refl
          (λ z given r es end has step.
          let same : end.3.ghost_name ≡ z.3.ghost_name = search rules in
          same ∙ has) c.errors_under_each.new.run found.reaches in
          subst (TakesByRuns w g.M.Matcher c.args.self.now d call before) (sym (c.work-1.given.1 (sym named)))
          (shared_takes w g.M.Matcher c.args.self.now d (subst (λ most. 1 ≤ most) same c.self.invariant.1) each _ _ (λ z. (z.0.now ≡ c.args.self.now) × (z.2.now ≡ c.args.instance.now)) (refl, refl)
          (λ z given r es end has step.
          let self : end.0 ≡ z.0 = search rules in
          let instance : end.2 ≡ z.2 = search rules in
          both_on (ap (λ b. b.now) self) (ap (λ b. b.now) instance) has)
          first c.requires.none
          (λ z as' r es end has step. told_of w g.M.Matcher z.0.now c.args.self.now z.2.now c.args.instance.now as' r es.items (search rules) (search rules) (search rules) has)
          (λ z. z.3.now)
          (λ z given r es end step.
          let asks : Asks z.3.now end.3.now = search rules in
          asks) c.errors_under_each.new.run found.reaches _ same found.makes call later began);
    }
