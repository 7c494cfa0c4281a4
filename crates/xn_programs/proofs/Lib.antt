mod Grown
mod Naming
mod Parts
