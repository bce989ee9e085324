mod PlainPlaces
mod Pushes
mod Printing
mod Opened
mod Following
mod Shorts
