pub mod Branching
pub mod Choice
pub mod Ones
pub mod Rounds
pub mod Search
pub mod Solved
