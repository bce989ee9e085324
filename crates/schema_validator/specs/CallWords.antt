-- The parts of a validator, and the answers of its calls: if they may stop at one of its limits, and
-- if they use its solver.
use Rattle.std.specs.Prelude.{All, Bool, IfSome, List, Option, Result, false, is_some, true, ℕ, ◌≡◌}
use Rattle.serde_json.specs.Data.{Data}
use Rattle.serde_json.specs.View.{view}
use Rattle.serde_json.specs.declared.value.Value.{Value}
use Rattle.theory_definitions.specs.Drafts.{Draft}
use Rattle.schema_reports.specs.ReportViews.{BorrowsItsPlace}
use Rattle.schema_reports.specs.declared.evaluation.EvaluationNode.{EvaluationNode}
use Rattle.schema_reports.specs.declared.reports.ValidationError.{ValidationError}
use Rattle.schema_traits.specs.declared.keyword.Validate.{Ghosts as KeywordMembers}
use Rattle.schema_traits.specs.declared.matcher.Matcher.{Ghosts as MatcherMembers}
use Rattle.schema_node_table.specs.NodeTable.{NodeEntry}
use Rattle.schema_solver.specs.declared.eligible.SolvedVerdict.{SolvedVerdict}
use Rattle.schema_compiled.specs.Answers.{refusal_of}
use Rattle.schema_compiled.specs.Program.{Program}
use Rattle.schema_compiled.specs.Stopped.{FirstTellsLimit, GivesLimit, OnlyTellsLimit, UnlessStopped}
use Rattle.schema_validator.specs.Greatest.{NodesAreMonotone}

-- ---- what a validator is made of

-- it has these nodes, and the root has this number and this draft
abbrev pub IsMadeOf : {C M : Type 0} → List (NodeEntry C) → ℕ → Draft → Program C M → Type 0
IsMadeOf nodes root draft p = (p.nodes ≡ nodes) × (p.root ≡ root) × (p.draft ≡ draft)

-- each keyword of its nodes is monotone, whether texts are covered or not
abbrev pub AllAreMonotone : {C Run K M : Type 0} → KeywordMembers C Run K → Program C M → Type 0
AllAreMonotone k p = (texts : Bool) → NodesAreMonotone k.shape k.words p texts

-- ---- an answer of which a word of a call says something, as those of `Asked` and `Greatest`

module _ {C Run K M : Type 0} (k : KeywordMembers C Run K) (m : MatcherMembers M) (p : Program C M) (instance : Value) where
  -- this holds of the verdict; or the call stopped at a limit of the validator, and the verdict is
  -- `false`
  abbrev pub IsSoOrNo : (KeywordMembers C Run K → MatcherMembers M → Program C M → Data → Bool → Type 0) → Bool → Type 0
  IsSoOrNo fact valid = UnlessStopped p.work p.depth (λ limit. valid ≡ false) (fact k m p (view instance) valid)

  -- this holds of the first error, or of none
  abbrev pub FirstIsSo : (KeywordMembers C Run K → MatcherMembers M → Program C M → Data → Option ValidationError → Type 0)
      → Result (Unit {0}) ValidationError → Type 0
  FirstIsSo fact r = fact k m p (view instance) (refusal_of r)

  -- this holds of the first error; or the call stopped at that limit, and the error reports the
  -- limit
  abbrev pub FirstIsSoOrTells : (KeywordMembers C Run K → MatcherMembers M → Program C M → Data → Option ValidationError → Type 0)
      → Result (Unit {0}) ValidationError → Type 0
  FirstIsSoOrTells fact r = UnlessStopped p.work p.depth (FirstTellsLimit (view instance) (refusal_of r)) (fact k m p (view instance) (refusal_of r))

  -- this holds of the errors; or the call stopped there, and the only error reports the limit
  abbrev pub AreSoOrTell : (KeywordMembers C Run K → MatcherMembers M → Program C M → Data → List ValidationError → Type 0)
      → List ValidationError → Type 0
  AreSoOrTell fact es = UnlessStopped p.work p.depth (OnlyTellsLimit (view instance) es) (fact k m p (view instance) es)

  -- this holds of the units; or the call stopped there, and they are made of the error that reports
  -- the limit
  abbrev pub AreSoOrGiveLimit : (KeywordMembers C Run K → MatcherMembers M → Program C M → Data → EvaluationNode → Type 0)
      → EvaluationNode → Type 0
  AreSoOrGiveLimit fact u = UnlessStopped p.work p.depth (GivesLimit u) (fact k m p (view instance) u)

-- ---- what errors borrow

-- the first error, if there is one, borrows the value at its place in the instance
abbrev pub FirstBorrows : Value → Result (Unit {0}) ValidationError → Type 0
FirstBorrows instance r = IfSome (refusal_of r) (BorrowsItsPlace (view instance))

-- so does each error
abbrev pub EachBorrows : Value → List ValidationError → Type 0
EachBorrows instance es = All (BorrowsItsPlace (view instance)) es

-- ---- what a solver finds, or nothing

-- if there is a verdict, this holds of it
abbrev pub FindsVerdict : (Bool → Type 0) → Option SolvedVerdict → Type 0
FindsVerdict Holds found = IfSome found (λ v. Holds v.valid)

-- if there is a verdict with a context, this holds of them
abbrev pub FindsWith : (SolvedVerdict → Type 0) → Option SolvedVerdict → Type 0
FindsWith Holds found = IfSome found Holds

-- there is a verdict exactly if the validator has a solver
abbrev pub FindsBySolver : {C M : Type 0} → Program C M → Option SolvedVerdict → Type 0
FindsBySolver p found = is_some found ≡ is_some p.followed

-- there is a verdict only if it has one
abbrev pub FindsOnlyBySolver : {C M : Type 0} → Program C M → Option SolvedVerdict → Type 0
FindsOnlyBySolver p found = is_some found ≡ true → is_some p.followed ≡ true
