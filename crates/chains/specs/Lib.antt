pub mod Scans
pub mod Bits
pub mod Search
pub mod Chains
pub mod ChainLaws
