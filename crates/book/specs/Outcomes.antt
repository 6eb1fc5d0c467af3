-- An opening's answer as the outcome that the definitions give it. Assumes nothing.
use Rattle.std.specs.Prelude.{[], Result, Ok, Err}
use Rattle.network.specs.Stations.{network_of}
use Rattle.book.specs.declared.Book.{Book}
use Rattle.book.specs.declared.Refusal.{Refusal}
use Rattle.book.specs.Outcome.{Outcome}
use Rattle.book.specs.Refusals.{refusal_no}
use Rattle.book.specs.Book.{opened_book}

-- "A refused opening makes no book": the definitions have the book of no stations there, which is not sound
abbrev pub opened_as : Result Book Refusal → Outcome
opened_as (Ok b) = record { refusal = 0; book = b }
opened_as (Err r) = record { refusal = refusal_no r; book = opened_book (network_of []) }
