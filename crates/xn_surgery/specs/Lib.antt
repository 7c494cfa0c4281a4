pub mod Contraction
pub mod Corners
pub mod Insertion
pub mod Overlay
pub mod Resolution
pub mod Smoothing
pub mod Splitting
pub mod Subdivision
