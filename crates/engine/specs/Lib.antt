-- What the engine promises, and demand 1 over all calls in the language.
pub mod Proposals
pub mod Demand1
pub mod Demand1Holds
