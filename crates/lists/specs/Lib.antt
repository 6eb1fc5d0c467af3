-- Lists of anything, and tests over them: what is generic in the loops of every other crate.
-- A test of every number below n, and of a row of tests
pub mod All
-- Arrays filled and compared
pub mod Filling
pub mod Same
-- Sizes of a written list's entries, and a number that code stores and reads again
pub mod Sizes
pub mod Stored
pub mod Pasted
