pub mod Table
pub mod Cases
pub mod Brief
pub mod Worked
pub mod Script
