-- The answer of a run of the root's node: at every great enough depth, the one of its guarded
-- meaning, by the mode.
use Rattle.std.specs.Prelude.{◌≡◌, ℕ, ◌<◌, [], Bool, List, length, map, option_map, Option, Some, None, Result, Ok, Err}
use Rattle.serde_json.specs.Data.{Data}
use Rattle.theory_definitions.specs.Matching.{Assumptions, Extends, Matcher, completion_of}
use Rattle.theory_definitions.specs.Keywords.{Keywords}
use Rattle.theory_definitions.specs.Keywords as wanted
use Rattle.theory_definitions.specs.Runs.{Run, first_error, reply_in}
use Rattle.theory_definitions.specs.Unfinished.{Remembered}
use Rattle.schema_run_context.specs.Matches.{MeetsEach}
use Rattle.theory_definitions.specs.Guarded.{guarded_within, guarded_node, yes_run}
use Rattle.theory_meaning.specs.Numbered.{left, subject_in}
use Rattle.schema_reports.specs.ReportViews.{error_of}
use Rattle.schema_reports.specs.UnitViews.{unit_of}
use Rattle.schema_reports.specs.declared.evaluation.EvaluationNode.{EvaluationNode}
use Rattle.schema_reports.specs.declared.reports.ValidationError.{ValidationError}
use Rattle.schema_traits.specs.KeywordViews.{mode_of, reply_of}
use Rattle.schema_node_table.specs.NodeTable.{numbered}
use Rattle.schema_traits.specs.declared.keyword.Mode.{Mode}
use Rattle.schema_traits.specs.declared.keyword.Reply.{Reply}
use Rattle.schema_compiled.specs.Program.{Program, Speaks}

module _ {K S R M : Type 0} (shape : K → S) (words : Bool → Keywords S R) (is_whole : S → Bool) (matching : M → Matcher) (p : Program K M) (instance : Data) where
  -- the run of the root's node under assumptions, with questions of a depth
  abbrev pub run_under : Bool → Assumptions → ℕ → Run
  run_under texts as' n = guarded_within (yes_run (numbered shape p.nodes)) (guarded_node (words texts) (matching p.matcher) (numbered shape p.nodes) (subject_in instance) as') n p.root [] [] []

  -- a fact about the run under assumptions that assume no match twice, at every great enough depth
  abbrev pub OfRun : Assumptions → (Bool → Run → Type 0) → Type 0
  OfRun as' fact = (texts : Bool) → Speaks shape words is_whole matching p instance texts → Extends (completion_of as') as' → (n : ℕ) → left (numbered shape p.nodes) (length p.nodes) p.root (subject_in instance []) [] < n → fact texts (run_under texts as' n)

  abbrev pub SaysReply : Mode → Assumptions → Reply → Type 0
  SaysReply mode as' r = OfRun as' (λ texts run. reply_of texts r ≡ reply_in (mode_of mode) run)

  abbrev pub SaysVerdict : Assumptions → Bool → Type 0
  SaysVerdict as' b = OfRun as' (λ texts run. b ≡ (run.outcome tt).verdict)

  abbrev pub SaysErrors : Assumptions → List ValidationError → Type 0
  SaysErrors as' es = OfRun as' (λ texts run. map (error_of texts) es ≡ (run.outcome tt).errors)

  abbrev pub SaysFirst : Assumptions → Option ValidationError → Type 0
  SaysFirst as' o = OfRun as' (λ texts run. option_map (error_of texts) o ≡ first_error (run.outcome tt).errors)

  abbrev pub SaysUnit : Assumptions → EvaluationNode → Type 0
  SaysUnit as' u = OfRun as' (λ texts run. unit_of texts u ≡ run.units tt)

  -- what the run remembers of the matches that it met
  abbrev pub MeetsMatches : wanted.Mode → Remembered → Remembered → Type 0
  MeetsMatches mode old new = OfRun old.assumptions (λ texts run. MeetsEach (matching p.matcher) old (run.met mode) new)

-- the error of a refusal
abbrev pub refusal_of : Result (Unit {0}) ValidationError → Option ValidationError
refusal_of (Ok t) = None
refusal_of (Err e) = Some e
