mod Counting
mod Meant
