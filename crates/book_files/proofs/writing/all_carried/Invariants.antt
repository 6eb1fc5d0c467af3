-- The loop tests each place in turn; those passed are carried. Assumes nothing.
use mathlib.Core.Path.{◌≡◌}
use mathlib.Core.Bool.{true}
use Rattle.lists.specs.All.{all_below}
use Rattle.network.specs.Records.{record_at}
use Rattle.layout.specs.Bytes.{book_of}
use Rattle.book_files.specs.Writing.{carried}
use Rattle.book_files.proofs.writing.all_carried.Given as goal

abbrev pub invariant-loop-p : goal.invariant-loop-p
invariant-loop-p l = (all_below l.p (λ q. carried (record_at (book_of l.book).places q)) ≡ true)
