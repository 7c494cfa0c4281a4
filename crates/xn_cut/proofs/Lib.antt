mod Answered
mod Kept
mod Named
