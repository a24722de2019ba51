pub mod Digit
pub mod Line
pub mod Outcomes
pub mod Store
