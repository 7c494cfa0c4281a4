pub mod Calls
pub mod Causes
pub mod Input
pub mod MemInput
pub mod MemSink
pub mod Shelf
pub mod Sink
