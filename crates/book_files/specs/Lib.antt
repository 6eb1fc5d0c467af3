-- A book written as a file (Writing), a file entered into a book (Entering), their laws, and the two one after the other (RoundTrip).
pub mod Writing
pub mod WritingLaws
pub mod Entering
pub mod EnteringLaws
pub mod Carried
pub mod RoundTrip
