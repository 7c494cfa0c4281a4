mod Edges
mod Limited
