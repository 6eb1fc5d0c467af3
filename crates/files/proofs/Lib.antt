-- What the proofs of the functions share.
pub mod Loops
pub mod Tests
pub mod Ways
pub mod Trailers
pub mod FileLaws
pub mod ForceLaws
pub mod InForce
