mod Counting
mod Inverse
mod Positions
mod Renumbering
mod Rising
mod Sorting
