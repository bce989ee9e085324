pub mod AtOnce
pub mod TakenTurns
