-- What becomes of the places that errors borrow.
use Rattle.std.specs.Prelude.{All, List}
use Rattle.serde_json.specs.Data.{Data}
use Rattle.schema_traits.specs.FaultViews.{PassesBorrowed}
use Rattle.schema_traits.specs.declared.keyword.Fault.{Fault}

-- each error that is passed on borrows its place
abbrev pub BorrowsAll : List Fault → Type 0
BorrowsAll faults = (root : Data) → All (PassesBorrowed root) faults

-- each error after the call borrows its place, if each before it does
abbrev pub KeepsAll : List Fault → List Fault → Type 0
KeepsAll old new = (root : Data) → All (PassesBorrowed root) old → All (PassesBorrowed root) new
