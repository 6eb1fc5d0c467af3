-- Weight matrices: the rules on the six weights, and what a matrix by the rules gives.
pub mod Rules
pub mod Ranges
pub mod Positive
pub mod Determinants
pub mod Quotients
pub mod Inverse
