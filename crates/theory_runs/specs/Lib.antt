pub mod Remembering
pub mod NodeMeets
pub mod RightVerdicts
pub mod RunStates
pub mod Visits
pub mod UnitStates
pub mod VerdictTurns
pub mod Answered
