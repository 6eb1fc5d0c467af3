-- What a reader must believe: N and u as document 01 has them, and what the contracts ask. Blank, Exchange and Same also define what contracts cite.
pub mod Formulas
pub mod ByRules
-- Laws of N and u, for the crates above.
pub mod WholeMatrices
pub mod Symmetry
pub mod Acting
pub mod Beyond
pub mod Columns
pub mod ShareSizes
pub mod Sizes
pub mod Entries
pub mod Blank
pub mod Exchange
pub mod Same
-- The code's view: equations that know no station, and that what they add is the record's share.
pub mod Equations
pub mod EquationSizes
pub mod ShareTerms
pub mod Shares
pub mod FirstPlaces
pub mod AtMarks
