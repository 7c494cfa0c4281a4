pub mod Deletion
pub mod Genus
pub mod Live
pub mod Part
pub mod Renumbering
