pub mod Crossed
pub mod LaidAgain
pub mod Loosened
pub mod Tangle
pub mod Tidied
pub mod Turning
pub mod Untangling
pub mod Untouched
