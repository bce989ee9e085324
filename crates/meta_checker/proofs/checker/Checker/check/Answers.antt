use Rattle.std.proofs.Common.{◌≡◌, ◌∙◌, Bool, ap, subst}
use Rattle.std.specs.Prelude.{option_map}
use Rattle.serde_json.specs.View.{view}
use Rattle.theory_definitions.specs.Laws.{EachKeeps}
use Rattle.theory_meaning.proofs.TurnsGiveRuns.{keeps_of_turns}
use Rattle.schema_reports.specs.ReportViews.{error_of}
use Rattle.schema_compiled.specs.Answers.{refusal_of}
use Rattle.schema_compiled.specs.Program.{Program}
use Rattle.meta_checker.specs.Checks.{first_by}
use Rattle.meta_checker.proofs.FirstChecked.{first_checked, unstopped}
use Rattle.meta_checker.proofs.checker.Checker.check.Goals as goal

pub returns-clause-checked : goal.returns-clause-checked
returns-clause-checked g c = λ texts whole.
    let w = g.K.Validate in
    let d = view c.args.instance.now in
    let each : (t : Bool) → EachKeeps (w.words t) = λ t m. (w.absorbed m, keeps_of_turns (w.words t) m (w.absorbed m) (w.remaining m) (w.can_be t m) (w.ends t m) (w.fits t m) (g.met.K.Validate.turn_laws t m) (g.met.K.Validate.function_laws t m)) in
    subst (λ (p : Program g.row.K.Denot g.row.M.Denot). option_map (error_of texts) c.error_in.result ≡ first_by w g.M.Matcher p texts d) c.self.view_is
    (ap (option_map (error_of texts)) c.error_in.ensures.error
    ∙ first_checked w g.M.Matcher c.self.inside.validator c.self.invariant each d (refusal_of c.in_ok-refusal.refusal)
    (unstopped w g.M.Matcher c.self.inside.validator c.self.invariant _ _ c.in_ok-refusal.ensures.depth) texts whole)
