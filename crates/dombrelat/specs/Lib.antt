-- What the C calls answer and leave (Calls, CheckCalls, Proposal, Reading, FileCalls, SalvageCall), the three demands over bytes (Demand1, Demand2, Demand3), demand 3 of runs with files entered
-- among them (FileRuns), a book's file entered on a new book (FileRoundTrip), what a salvage leaves (SalvageFound), an edit with its undo (EditUndo), a record with antenna heights and the same taken to the marks (AtMarks), and
-- their laws. The layout of a book's bytes is in crate layout.
pub mod Calls
pub mod CheckCalls
pub mod Proposal
pub mod Reading
pub mod FileCalls
pub mod SalvageCall
pub mod Demand1
pub mod Demand1Holds
pub mod Demand2
pub mod Demand2Holds
pub mod Demand3
pub mod Demand3Holds
pub mod FileCallLaws
pub mod FileRuns
pub mod FileRoundTrip
pub mod SalvageFound
pub mod EditUndo
pub mod AtMarks
pub mod ReadingLaws
pub mod DistanceLaws
