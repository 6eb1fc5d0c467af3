-- What the proofs of the functions share.
pub mod FirstWord
pub mod Counted
pub mod Written
pub mod Room
pub mod ScanLaws
pub mod SalvageLaws
pub mod Tiling
