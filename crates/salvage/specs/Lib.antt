-- What a salvage keeps, skips, answers and writes (Salvage), and the laws of it.
pub mod Salvage
pub mod Statements
