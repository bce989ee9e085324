mod Flags
mod Slashes
mod Hashes
mod Nodes
