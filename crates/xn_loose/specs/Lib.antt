pub mod Routes
pub mod Inserting
pub mod Renaming
pub mod Shortest
pub mod Parts
