-- The errors that all results of a search share.
use Rattle.std.specs.List.{list_all, list_any}
use Rattle.std.specs.Prelude.{Bool, List, None, Option, Some, [], false, filter, true, unwrap_or, ◌++◌, ◌∷◌, ◌≡◌}
use Rattle.serde_json.specs.Data.{Data}
use Rattle.theory_definitions.specs.Instance.{a_value, subject_at}
use Rattle.schema_reports.specs.InstanceViews.{subject_of}
use Rattle.theory_definitions.specs.Reports.{same_error}
use Rattle.schema_reports.specs.ReportViews.{error_of}
use Rattle.theory_meaning.specs.Searched.{failure_error}
use Rattle.theory_definitions.specs.Unfinished.{Failure}
use Rattle.schema_reports.specs.declared.reports.ValidationError.{ValidationError}

-- the two errors have the same instance path, schema path, evaluation path and text
abbrev pub same_key : ValidationError → ValidationError → Bool
same_key a b = same_error (error_of true a) (error_of true b)

-- whether one of the errors has the same key as this one
abbrev pub has_key : List ValidationError → ValidationError → Bool
has_key es e = list_any (same_key e) es

-- whether each of the lists has an error with the same key as this one
abbrev pub in_each_of : List (List ValidationError) → ValidationError → Bool
in_each_of others e = list_all (λ es. has_key es e) others

-- the errors of the last result whose key is in each of the others, in its order
abbrev pub shared_among : List (List ValidationError) → List ValidationError → List ValidationError
shared_among others last = filter (in_each_of others) last

abbrev pub is_empty : List ValidationError → Bool
is_empty [] = true
is_empty (e ∷ es) = false

-- the failure as the only error, whose instance is the one at its place, or the root if there is
-- none
pub record OneError (root : Data) (f : Failure) (es : List ValidationError) : Type 0 where
  pub error : ValidationError
  pub alone : es ≡ error ∷ []
  pub is : error_of true error ≡ failure_error f
  pub instance : subject_of error.instance ≡ unwrap_or (subject_at root error.place) (a_value root)

-- the shared errors, or none if there is no shared error although some result has one
abbrev pub or_none : List ValidationError → Bool → Option (List ValidationError)
or_none (e ∷ es) empty = Some (e ∷ es)
or_none [] true = Some []
or_none [] false = None

-- the answer for one or more results, by the last of them and the others
abbrev pub OfSome : List (List ValidationError) → Option (List ValidationError) → Type 0
OfSome results answer =
    (others : List (List ValidationError)) × (last : List ValidationError) × (results ≡ others ++ last ∷ [])
    × (answer ≡ or_none (shared_among others last) (list_all is_empty (others ++ last ∷ [])))

-- the errors that the results share; without results there are none
abbrev pub IsSharedBy : List (List ValidationError) → Option (List ValidationError) → Type 0
IsSharedBy [] answer = answer ≡ Some []
IsSharedBy (r ∷ rs) answer = OfSome (r ∷ rs) answer

-- the answer lists the errors that are given, or the failure alone if `None` is given
abbrev pub OrFailure : Data → Failure → Option (List ValidationError) → List ValidationError → Type 0
OrFailure root f (Some es) answer = answer ≡ es
OrFailure root f None answer = OneError root f answer

-- the shared errors, or the failure if there is no shared error although some result has one
abbrev pub AreShared : Data → Failure → List (List ValidationError) → List ValidationError → Type 0
AreShared root f results answer = (o : Option (List ValidationError)) × IsSharedBy results o × OrFailure root f o answer
