-- The bytes that the book writes hold it, so the answer on them is the answer on the book.
use mathlib.Core.Path.{ap, ◌∙◌}
use Rattle.book.specs.declared.Book.{Book}
use Rattle.distances.specs.Distances.{agreement}
use Rattle.distances.proofs.answer.check_distance.Goals as goal

pub check_distance_in-requires : goal.check_distance_in-requires
check_distance_in-requires c = c.book_bytes-s.ensures.0

pub returns : goal.returns
returns c =
    let a = c.args in
    c.check_distance_in.ensures ∙ ap (λ (b : Book). agreement b a.x.now a.m.now a.d) c.book_bytes-s.ensures.1
