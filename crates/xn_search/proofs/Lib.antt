mod Answered
mod Asked
mod Crossless
mod Opened
mod Pushed
mod Searching
