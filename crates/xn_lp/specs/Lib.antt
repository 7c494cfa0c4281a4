pub mod Box
pub mod Program
pub mod Whole
pub mod Laws
