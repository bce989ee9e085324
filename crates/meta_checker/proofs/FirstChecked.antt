-- The first error that a checker's validator reports of an instance is the one that its nodes
-- report first.
use Rattle.std.proofs.Common.{◌≡◌, ◌∙◌, ℕ, Bool, true, false, refl, subst, sym}
use Rattle.std.specs.Prelude.{None, Option, Some, is_some, length, option_map}
use Rattle.serde_json.specs.Data.{Data}
use Rattle.serde_json.specs.Written.{has_float}
use Rattle.theory_definitions.specs.Cover.{Sense}
use Rattle.theory_definitions.specs.Laws.{EachKeeps}
use Rattle.schema_reports.specs.ReportViews.{error_of}
use Rattle.schema_reports.specs.declared.reports.ValidationError.{ValidationError}
use Rattle.schema_traits.specs.declared.keyword.Validate.{Ghosts as KeywordMembers}
use Rattle.schema_traits.specs.declared.matcher.Matcher.{Ghosts as MatcherMembers}
use Rattle.schema_node_table.specs.NodeTable.{numbered}
use Rattle.schema_compiled.specs.Asked.{FirstFromSomeDepth}
use Rattle.schema_compiled.specs.Program.{Program}
use Rattle.schema_compiled.specs.Stopped.{UnlessStopped}
use Rattle.schema_compiled.specs.declared.stopping.CallLimit.{CallLimit}
use Rattle.schema_compiled.specs.Spoken.{FirstAnswered}
use Rattle.schema_compiled.proofs.Searches.{finishes_of}
use Rattle.meta_checker.specs.FirstErrors.{FirstAlone}
use Rattle.meta_checker.proofs.Told.{first_is_told}
use Rattle.meta_checker.specs.Checks.{Checks, first_by}

-- if no unfinished match is met, the answer is the one of the sentence, with texts covered or not
alone : (v : Sense) (most : _) (texts : Bool) (o : Option ValidationError) → FirstAnswered v most texts o → FirstAlone v most (option_map (error_of texts) o)
alone v most true o says = λ none. says
alone v most false o says = λ none. says.alone none

-- a limit that a validator reports is its own; here there is none
none_of : (limit : Option ℕ) → is_some limit ≡ false → limit ≡ None
none_of None absent = refl
none_of (Some n) absent = cc

pub unlimited_of : {limit : Option ℕ} (told : Option ℕ) → told ≡ limit → is_some told ≡ false → limit ≡ None
unlimited_of told is absent = sym is ∙ none_of told absent

module _ {C Run K M : Type 0} (keywords : KeywordMembers C Run K) (matchers : MatcherMembers M) (p : Program C M) where
  pub first_checked : Checks keywords matchers p → ((texts : Bool) → EachKeeps (keywords.words texts)) → (instance : Data) (o : Option ValidationError)
      → FirstFromSomeDepth keywords matchers p instance o → (texts : Bool) → (texts ≡ true → has_float instance ≡ false)
      → option_map (error_of texts) o ≡ first_by keywords matchers p texts instance
  first_checked checks each instance o from texts whole =
      let (deep, says) = from texts (λ is. (whole is, checks.whole)) in
      first_is_told (keywords.words texts) (each texts) (matchers.matching p.matcher) (finishes_of (matchers.matching p.matcher) checks.finishes)
      (numbered keywords.shape p.nodes) (length p.nodes) checks.ranked instance p.root checks.inside p.runs checks.some (option_map (error_of texts) o)
      (deep, λ n more. alone _ p.runs texts o (says n more))

  -- a call of the validator stops at no limit
  pub unstopped : Checks keywords matchers p → (stopped : CallLimit → Type 0) (fact : Type 0) → UnlessStopped p.work p.depth stopped fact → fact
  unstopped checks stopped fact said = subst (λ (o : Option ℕ). UnlessStopped None o stopped fact) checks.shallow (subst (λ (o : Option ℕ). UnlessStopped o p.depth stopped fact) checks.unlimited said)
