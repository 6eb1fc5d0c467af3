-- The bytes that the book writes hold it, so the answer on them is the answer on the book.
use mathlib.Core.Path.{ap, ◌∙◌}
use mathlib.Core.Bool.{true}
use Rattle.book.specs.declared.Book.{Book}
use Rattle.checks.specs.Checks.{checked}
use Rattle.checks.proofs.check.Goals as goal

pub check_in-requires : goal.check_in-requires
check_in-requires c = c.book_bytes-s.ensures.0

pub returns : goal.returns
returns c = c.check_in.ensures ∙ ap (λ (b : Book). checked b c.args.x.now c.args.m.now true) c.book_bytes-s.ensures.1
