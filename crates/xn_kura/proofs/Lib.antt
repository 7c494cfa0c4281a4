mod Bound
mod Branches
mod Choice
mod CrossingFree
mod Degrees
mod Distinct
mod Excludes
mod Faces
mod Found
mod Landmarks
mod LoneComponents
mod MarkedPaths
mod Marking
pub mod Pairs
mod Path
mod Proposals
pub mod Stages
mod Tally
mod Tracing
pub mod Turned
mod Turns
mod UsedPaths
mod Walking
mod Whole
