pub mod BenchMatching
pub mod BenchMeta
pub mod MetaPlaces
pub mod FaultWords
