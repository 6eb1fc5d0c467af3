pub mod Runs
pub mod States
pub mod StateLaws
pub mod Cut
