pub mod FirstChecked
pub mod Programs
pub mod Told
mod Tables
