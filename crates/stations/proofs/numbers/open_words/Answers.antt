-- At most 32 stations are read (`read_most`), so the part lent is inside the array, and `Book::open` ensures the rest. Assumes nothing.
use Rattle.std.proofs.Common.{◌≤◌, ◌*◌, length, sym, arith}
use lib.Seq.{length-take-le}
use Rattle.stations.specs.FlatLaws.{read_most}
use Rattle.stations.proofs.numbers.open_words.Goals as goal

pub overflow_mul-m : goal.overflow_mul-m
overflow_mul-m c = omega (arith, read_most c.args.n)

pub slice_bounds-w-end : goal.slice_bounds-w-end
slice_bounds-w-end c = omega (arith, read_most c.args.n)

pub slice_bounds-open-end : goal.slice_bounds-open-end
slice_bounds-open-end c = let room : c.read_count-m.result * 4 ≤ length c.args.w = omega (arith, read_most c.args.n) in sym (length-take-le (c.read_count-m.result * 4) c.args.w room)

pub returns : goal.returns
returns c = rw c.read_count-m.ensures at c.open.ensures
