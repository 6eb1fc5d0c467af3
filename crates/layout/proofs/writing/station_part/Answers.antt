-- `station_part` gives a station's words, or 0. Assumes nothing.
use borrow.Author.Tests.{lt-ltb, le-ltb}
use Rattle.layout.proofs.writing.station_part.Goals as goal

pub returns-then-k-count : goal.returns-then-k-count
returns-then-k-count c = rw (lt-ltb _ _ c.if-k-count.true) c.station_words.ensures

pub returns : goal.returns
returns c = rw (le-ltb _ _ c.if-k-count.false)
