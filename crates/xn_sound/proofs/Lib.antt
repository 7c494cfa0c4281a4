mod Accepted
mod Leaves
mod Rows
mod Same
mod Trees
