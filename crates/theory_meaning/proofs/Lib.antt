pub mod Questions
pub mod Reading
pub mod Falls
pub mod Local
pub mod RunsRead
pub mod Settles
pub mod NodeRuns
mod Stable
mod Trails
mod Depths
pub mod AtPlaces
pub mod Reaching
pub mod Inside
pub mod Simulates
pub mod SameOutcome
pub mod SameRun
pub mod Headlines
mod Deep
mod Counted
pub mod PlainRuns
pub mod DepthsAgree
pub mod TurnsGiveRuns
pub mod CoversApart
pub mod TakenApart
mod SameTurns
mod SameSpans
pub mod Alike
mod Steps
mod KeysAlike
pub mod PlanMet
mod Plans
mod Senses
pub mod Sentences
mod SpansRead
mod Valid
mod Runs
pub mod PlainSense
pub mod GuardedSense
pub mod CoverCounts
pub mod RunOrder
pub mod SensesMeant
mod PlanForms
pub mod Makings
pub mod WholeNumbers
pub mod ErrorsLead
pub mod NodeErrorsLead
pub mod UnitsLead
pub mod ShownPlaces
pub mod ListedLead
pub mod WorkedRows
pub mod FusedRows
pub mod RowsNumbered
pub mod SitesInside
pub mod SamePaths
pub mod MetAgain
pub mod PairsDecide
pub mod Finishing
pub mod Untold
