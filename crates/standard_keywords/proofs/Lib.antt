pub mod AtOnce
mod Treated
