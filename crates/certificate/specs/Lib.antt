pub mod Admits
pub mod Arrays
pub mod Falls
pub mod Outcomes
pub mod Parts
pub mod Stored
