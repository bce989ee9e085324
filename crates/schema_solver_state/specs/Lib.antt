pub mod Contexts
pub mod ContextViews
pub mod Saying
pub mod Answering
pub mod AtNumbers
pub mod Lending
pub mod SolverPairs
pub mod Following
