pub mod Apart
pub mod Come
pub mod Said
pub mod Taking
pub mod TextLines
