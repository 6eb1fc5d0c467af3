-- `record_in` reads the record at a place. Assumes nothing.
use mathlib.Core.Path.{sym, ◌∙◌}
use Rattle.book.specs.PlaceLaws.{record_beyond}
use Rattle.layout.specs.Bytes.{words_of, book_of}
use Rattle.layout.specs.BookWords.{record_in_lem}
use Rattle.layout.specs.CodecLaws.{read_sized}
use Rattle.layout.proofs.reading.record_in.Goals as goal

pub returns-then-p-lt-PLACES : goal.returns-then-p-lt-PLACES
returns-then-p-lt-PLACES c = c.entry_in.ensures ∙ sym (record_in_lem (words_of c.args.s.now) c.args.p c.if-p-lt-PLACES.true)

pub returns : goal.returns
returns c = sym (record_beyond (book_of c.args.s.now).places c.args.p (read_sized c.args.s.now).places c.if-p-lt-PLACES.false)
