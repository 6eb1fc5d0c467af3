-- Check distances: the definitions (Distances), the tables that the code works on (Coordinates), laws of the values, numbers and answers (DistanceLaws), that the coordinates are the sheet's
-- words (SheetWords), and that a distance taped from the other end gets the same answer (Reversed).
pub mod Distances
pub mod Coordinates
pub mod DistanceLaws
pub mod SheetWords
pub mod Reversed
