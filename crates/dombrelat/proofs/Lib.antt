-- Laws that the proofs of several functions cite.
mod Answers
mod Filings
mod Lent
mod Offered
mod Openings
mod Readings
mod Salvages
