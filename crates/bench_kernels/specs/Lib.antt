pub mod Sample
pub mod Replays
