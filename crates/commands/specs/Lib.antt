pub mod Commands
pub mod CommandLaws
pub mod Brings
pub mod AfterR
pub mod Examples
