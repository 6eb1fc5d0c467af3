pub mod Differences
pub mod Listing
pub mod Ranged
pub mod RecordKinds
