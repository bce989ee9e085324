-- Faults that are passed on with the places that they borrow.
use Rattle.std.proofs.Common.{List, [], ◌∷◌, ◌++◌, map, All}
use Rattle.std.proofs.lemmas.List.Elements.{All-append, All-cons, All-map, All-nil, All-push}
use Rattle.serde_json.specs.Data.{Data}
use Rattle.schema_reports.specs.ReportViews.{BorrowsItsPlace}
use Rattle.schema_reports.specs.declared.reports.ValidationError.{ValidationError}
use Rattle.schema_traits.specs.FaultViews.{PassesBorrowed}
use Rattle.schema_traits.specs.declared.keyword.Fault.{Fault}
use Rattle.schema_traits.specs.declared.keyword.Fault.TheVariants.{Passed}
use Rattle.keyword_authoring.specs.FaultLists.{first_kept}

pub pushed_borrowed : (root : Data) (fs : List Fault) (f : Fault) → All (PassesBorrowed root) fs → PassesBorrowed root f → All (PassesBorrowed root) (fs ++ f ∷ [])
pushed_borrowed root fs f h p = All-push (PassesBorrowed root) fs f h p

pub kept_borrowed : (root : Data) (fs : List Fault) (f : Fault) → All (PassesBorrowed root) fs → PassesBorrowed root f → All (PassesBorrowed root) (first_kept fs f)
kept_borrowed root [] f h p = All-cons (PassesBorrowed root) f [] p (All-nil (PassesBorrowed root))
kept_borrowed root (g ∷ gs) f h p = h

pub passed_borrowed : (root : Data) (fs : List Fault) (es : List ValidationError) → All (PassesBorrowed root) fs → All (BorrowsItsPlace root) es → All (PassesBorrowed root) (fs ++ map Passed es)
passed_borrowed root fs es h p = All-append (PassesBorrowed root) fs (map Passed es) h (All-map (PassesBorrowed root) Passed es p)
