-- Laws that belong to no one function, and theorems.
pub mod Bytes
pub mod Floats
pub mod Bodies
pub mod Held
pub mod Putting
pub mod Tables
pub mod Records
pub mod Done
pub mod Whole
pub mod Turning
pub mod Ends
pub mod Back
