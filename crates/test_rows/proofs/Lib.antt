pub mod Lists
mod Taken
