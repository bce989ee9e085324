-- A call stops at a limit, or answers as without one; and what is said of its failure.
use Rattle.std.proofs.Common.{◌≡◌, ◌∙◌, ◌∷◌, ℕ, Bool, List, [], ap, inl, inr, map, refl, subst, sym, true}
use Rattle.std.specs.Prelude.{None, Option, Some}
use Rattle.serde_json.specs.Data.{Data}
use Rattle.theory_definitions.specs.Instance.{subject_at}
use Rattle.theory_definitions.specs.Reports.{Error}
use Rattle.schema_reports.specs.ReportViews.{BorrowsItsPlace, error_of}
use Rattle.schema_reports.specs.UnitViews.{unit_of}
use Rattle.schema_reports.specs.declared.evaluation.EvaluationNode.{EvaluationNode}
use Rattle.schema_reports.specs.declared.reports.ValidationError.{ValidationError}
use Rattle.schema_output.specs.ErrorUnits.{errors_unit}
use Rattle.schema_compiled.specs.declared.stopping.CallLimit.{CallLimit}
use Rattle.schema_compiled.specs.declared.stopping.CallLimit.TheVariants.{Depth, Steps}
use Rattle.schema_compiled.specs.Stopped.{GivesLimit, IsOneOf, OnlyTellsLimit, TellsLimit, UnlessStopped}

pub unless : (work depth : Option ℕ) (stopped : CallLimit → Type 0) (fact : Type 0) → fact → UnlessStopped work depth stopped fact
unless None None stopped fact h = h
unless (Some steps) None stopped fact h = inl h
unless None (Some most) stopped fact h = inl h
unless (Some steps) (Some most) stopped fact h = inl h

pub stops : (work depth : Option ℕ) (limit : CallLimit) (stopped : CallLimit → Type 0) (fact : Type 0) → IsOneOf work depth limit → stopped limit → UnlessStopped work depth stopped fact
stops work None (Steps limit) stopped fact is h = subst (λ (z : Option ℕ). UnlessStopped z None stopped fact) (sym is) (inr h)
stops work (Some most) (Steps limit) stopped fact is h = subst (λ (z : Option ℕ). UnlessStopped z (Some most) stopped fact) (sym is) (inr (inl h))
stops None depth (Depth limit) stopped fact is h = subst (λ (z : Option ℕ). UnlessStopped None z stopped fact) (sym is) (inr h)
stops (Some steps) depth (Depth limit) stopped fact is h = subst (λ (z : Option ℕ). UnlessStopped (Some steps) z stopped fact) (sym is) (inr (inr h))

-- the failure borrows the whole instance
pub tells_borrows : (root : Data) (limit : CallLimit) (e : ValidationError) → TellsLimit root limit e → BorrowsItsPlace root e
tells_borrows root limit e told = ap (subject_at root) (ap (λ (x : Error). x.place) told.is) ∙ ap Some (sym told.at_root)

-- units that are made of it alone
pub gives_limit : (root : Data) (limit : CallLimit) (u : EvaluationNode) (es : List ValidationError) → OnlyTellsLimit root es limit → ((texts : Bool) → unit_of texts u ≡ errors_unit (map (error_of texts) es)) → GivesLimit u limit
gives_limit root limit u es told made =
    made true ∙ ap (λ (xs : List ValidationError). errors_unit (map (error_of true) xs)) told.1 ∙ ap (λ (x : Error). errors_unit (x ∷ [])) told.2.is
