mod Crossers
mod Crossless
mod Formed
mod Shown
mod Trees
