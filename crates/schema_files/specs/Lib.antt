pub mod FileUris
pub mod Gathering
pub mod GatheringViews
pub mod ReferenceViews
pub mod References
