mod Children
mod Examples
mod Given
mod Listed
mod States
mod Stands
