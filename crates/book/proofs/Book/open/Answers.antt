-- Where the list opens, the book is sound (`opening_done`). Assumes nothing.
use Rattle.std.proofs.Common.{sym, ap, ◌∙◌}
use Rattle.book.specs.Book.{opened_book}
use Rattle.book.proofs.Done.{opening_done}
use Rattle.book.proofs.Book.open.Goals as goal

pub returns-clause-sound : goal.returns-clause-sound
returns-clause-sound c = (opening_done c.args.list.now _ (sym c.opens.ensures ∙ c.if-not-opens.false) (c.blank.ensures ∙ ap opened_book c.network_of.ensures)).1
