-- "A lent list of 1 to 32 stations": how much of one is read. Its flat words are network's `flat`. Assumes nothing.
use Rattle.std.specs.Prelude.{ℕ, cond, leb}

-- how many stations of n the reader takes: a list of more than 32 does not open, whatever it holds
unfoldable pub read_count : ℕ → ℕ
read_count n = cond (leb n 32) n 0
