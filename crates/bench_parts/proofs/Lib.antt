pub mod TextsWithin
pub mod BelowPlaces
pub mod MetaFaults
pub mod NoFaults
