mod Counted
mod Lists
mod Planned
mod Shown
mod Standing
