-- Laws that the proofs of several functions cite.
mod Parts
mod Whole
mod Shares
