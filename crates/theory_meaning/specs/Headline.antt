-- What each of the four calls answers. The error of `validate` is the first shared error in the
-- order of the completion in which every match counts as matching. It is not defined as the head of
-- the list of shared errors, because `validate` never computes that list.
use Rattle.std.specs.Prelude.{Bool, Contains, List, None, Option, Some, [], codes, false, true, unwrap_or, ℕ, ◌++◌, ◌↔◌, ◌∷◌, ◌≡◌, ◌≤◌}
use Rattle.serde_json.specs.Data.{Data}
use Rattle.serde_json.specs.Written.{has_float}
use Rattle.theory_definitions.specs.Instance.{Place, Subject, Text}
use Rattle.theory_definitions.specs.Pointer.{shown_place}
use Rattle.theory_definitions.specs.Reports.{Error, Unit_, report_of}
use Rattle.theory_definitions.specs.Matching.{Assumptions, Completion, Match, Matcher, all_match, engine, finished, limit, unfinished}
use Rattle.theory_definitions.specs.Keywords.{Keywords}
use Rattle.theory_definitions.specs.Parts.{Parts}
use Rattle.theory_definitions.specs.Plan.{Key, schema_of}
use Rattle.theory_meaning.specs.Returns.{Asked, Return}
use Rattle.theory_definitions.specs.Units.{plain_units}
use Rattle.theory_definitions.specs.Runs.{Met, Site}
use Rattle.theory_definitions.specs.Cover.{Call, Decides, Sense, branch_at, evaluate, is_valid, iter_errors, plain, validate}
use Rattle.theory_meaning.specs.RunOrder.{IsMade}
use Rattle.theory_meaning.specs.Shared.{EachAccepts, IsShared, Shared, SomeRefuses}
use Rattle.theory_meaning.specs.Reach.{IsReach, Reached, deep_enough}
use Rattle.theory_definitions.specs.Guarded.{Nodes, guarded_sense}

-- One fact if a call decides, and another one if it does not.
abbrev pub Either : Type 0 → Type 0 → Type 0 → Type 0
Either decides P Q = (decides → P) × (¬ decides → Q)

-- The text of the error of an unfinished match.
abbrev pub reason_text : Text → Match → Text
reason_text pattern (unfinished (limit text)) = text
reason_text pattern (unfinished engine) = codes "Regex engine failed to evaluate pattern '" ++ (pattern ++ codes "'")
reason_text pattern (finished b) = []

-- A failure is reported at the value that the pointer of its site's place leads to.
abbrev pub shown_at : Text × Place → Text × Place
shown_at at = (at.0, shown_place at.1)

-- The pattern that a failure shows: that of its site, or else that of the first site, or else the
-- compiled pattern.
abbrev pub shown_pattern : Site → Met → Text
shown_pattern site first = unwrap_or site.pattern (unwrap_or first.site.pattern first.pair.pattern)

module _ (v : Sense) where
  -- The error reports the first unfinished match of the first run of a call that makes at most
  -- `most` runs. Its location is a site at which one of these runs met that match, and its keyword
  -- is `pattern`.
  pub record IsFailure (most : ℕ) (call : Call) (e : Error) : Type 0 where
    pub first : Met
    pub is_first : branch_at v call [] ≡ Some first
    pub run : Assumptions
    pub is_made : IsMade v most call run
    pub met : Met
    pub meets : Contains (v.meets call run) met
    pub same : met.pair ≡ first.pair
    pub text : e.text ≡ reason_text (shown_pattern met.site first) (v.is_match first.pair.pattern first.pair.subject)
    pub schema : e.schema_path ≡ met.site.schema_path
    pub located : (e.evaluation_path, e.place) ≡ shown_at (unwrap_or met.site.located (met.site.schema_path, []))
    pub nowhere : e.absolute ≡ None
    pub named : e.name ≡ codes "pattern"

  -- The list is the shared errors. If there are none, it is empty if every completion accepts, and
  -- it is one failure if some completion refuses.
  abbrev pub IsListed : ℕ → Call → List Error → List Error → Type 0
  IsListed most call (f ∷ shared) es = es ≡ f ∷ shared
  IsListed most call [] [] = EachAccepts v
  IsListed most call [] (e ∷ es) = SomeRefuses v × IsFailure most call e × (es ≡ [])

  -- The list is the right one for the errors that all completions share.
  abbrev pub Lists : ℕ → Call → List Error → Type 0
  Lists most call es = (shared : List Error) × Shared v shared × IsListed most call shared es

  -- The list is one failure.
  abbrev pub OneFailure : ℕ → Call → List Error → Type 0
  OneFailure most call es = (e : Error) × IsFailure most call e × (es ≡ e ∷ [])

  -- The verdict of a call that makes at most `most` runs. If the call decides, it is yes if and
  -- only if every completion accepts; if it does not, it is no.
  abbrev pub VerdictSays : ℕ → Call → Bool → Type 0
  VerdictSays most call valid = Either (Decides v most call) ((valid ≡ true) ↔ EachAccepts v) (valid ≡ false)

  -- The errors of a call whose further runs collect all errors. If the call decides, they are the
  -- shared errors or one failure; if it does not, they are one failure.
  abbrev pub ErrorsOf : ℕ → Call → List Error → Type 0
  ErrorsOf most call errors = Either (Decides v most call) (Lists most call errors) (OneFailure most call errors)

  -- The errors of `iter_errors`.
  abbrev pub ErrorsSay : ℕ → List Error → Type 0
  ErrorsSay most = ErrorsOf most iter_errors

  -- The first shared error of a list, in the order of the list, if there is one.
  pub data FirstShared : List Error → Option Error → Type 0 where
    none : FirstShared [] None
    here : {e : Error} {es : List Error} → IsShared v e → FirstShared (e ∷ es) (Some e)
    later : {e : Error} {es : List Error} {o : Option Error} → ¬ (IsShared v e) → FirstShared es o → FirstShared (e ∷ es) o

  -- The first error is the shared one. If there is none, it is a failure if some completion
  -- refuses, and there is no error if every completion accepts.
  abbrev pub IsFirst : ℕ → Option Error → Option Error → Type 0
  IsFirst most (Some e) first = first ≡ Some e
  IsFirst most None None = EachAccepts v
  IsFirst most None (Some e) = SomeRefuses v × IsFailure most validate e

  -- The error of `validate`: the first of the errors that `iter_errors` may return, except that a
  -- failure is one of `validate` itself.
  abbrev pub FirstSays : ℕ → Option Error → Type 0
  FirstSays most first = Either (Decides v most validate) ((o : Option Error) × FirstShared (v.says all_match).errors o × IsFirst most o first) ((e : Error) × IsFailure most validate e × (first ≡ Some e))

module _ {S K R : Type 0} (w : Parts S K R) (root : Key S) (instance : Data) where
  -- Texts are covered only if neither the instance nor a schema that is reached contains a
  -- fraction.
  abbrev pub SpeaksRightly : Type 0
  SpeaksRightly = w.keywords.texts ≡ true → (has_float instance ≡ false) × ((k : Key S) → Reached w root k → has_float (schema_of w k) ≡ false)

  -- The question of the root's key at the root of the instance.
  abbrev pub at_root : Asked w instance
  at_root = record { key = root; path = []; place = [] }

  -- A fact about the plain meaning. If no question returns, it holds with references followed to
  -- any sufficient depth.
  abbrev pub Plainly : (Sense → Type 0) → Type 0
  Plainly fact = ¬ (Return w instance at_root) → (keys : List (Key S)) → IsReach w root keys → (n : ℕ) → deep_enough w keys instance ≤ n → fact (plain w instance n root)

  -- The same for a fact about the plain meaning and its units under each completion.
  abbrev pub PlainlyWithUnits : (Sense → (Completion → Unit_) → Type 0) → Type 0
  PlainlyWithUnits fact = ¬ (Return w instance at_root) → (keys : List (Key S)) → IsReach w root keys → (n : ℕ) → deep_enough w keys instance ≤ n
      → fact (plain w instance n root) (λ c. plain_units w instance c n root [] [])

  -- The answer of `is_valid`, which makes at most `most` runs. The contracts of the four calls cite
  -- this and the next three definitions.
  abbrev pub IsValidAnswer : ℕ → Bool → Type 0
  IsValidAnswer most valid = Plainly (λ v. VerdictSays v most is_valid valid)

  -- The answer of `validate`.
  abbrev pub ValidateAnswer : ℕ → Option Error → Type 0
  ValidateAnswer most first = Plainly (λ v. FirstSays v most first)

  -- The answer of `iter_errors`.
  abbrev pub IterErrorsAnswer : ℕ → List Error → Type 0
  IterErrorsAnswer most errors = Plainly (λ v. ErrorsSay v most errors)

  -- The answer of `evaluate`.
  abbrev pub EvaluateAnswer : ℕ → Unit_ → Type 0
  EvaluateAnswer most u = Plainly (λ v. VerdictSays v most evaluate (report_of u).valid)

-- A fact about numbered nodes, which holds from some depth on, whether questions return or not.
abbrev pub Guardedly : {K R : Type 0} → Keywords K R → Matcher → Nodes K → (Place → Subject) → ℕ → (Sense → Type 0) → Type 0
Guardedly keywords matcher nodes subject_of root fact = (deep : ℕ) × ((n : ℕ) → deep ≤ n → fact (guarded_sense keywords matcher nodes subject_of n root))
