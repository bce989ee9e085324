mod Adding
mod Following
mod Listing
mod Returning
