-- The check of lent bytes and its answer as a C call gives it (LentChecks), a proposal to lent bytes (Offers), a check distance (LentDistances), and their laws (CheckLaws, DistanceLaws).
pub mod LentChecks
pub mod CheckLaws
pub mod Offers
pub mod LentDistances
pub mod DistanceLaws
