-- A chunk of the input: what taking it leaves and prints. Assumes nothing.
use Rattle.std.specs.Prelude.{ℕ, ◌≤◌, ◌≡◌, List, ◌++◌, length, take, drop, ℤ}
use Rattle.book.specs.declared.Book.{Book}
use Rattle.layout.specs.Layout.{book_bytes}
use Rattle.text.specs.Lines as lines
use Rattle.text.specs.Lines.{KeptLine, came, holds}
use Rattle.commands.specs.Commands.{most_corrections, most_entries, longest_line}
use Rattle.input_lines.specs.Runs.{Run, list_room, start, run_after, says_all}
use Rattle.input_lines.specs.States.{run_of, Ready}
use Rattle.adjustment.specs.declared.Taken.{Taken}

-- ════ a chunk taken, with the run r₀ and what was held of a line, k₀, before it: the lines that end in it are obeyed, what they print is the
-- front of `after`, up to p, and the rest of it is as before. Free is only what no later call looks at: the bytes beyond the book, the line buffer beyond the bytes that are held, and the lists of stations, corrections
-- and matrix entries beyond what the state counts
pub record Takes (r₀ : Run) (k₀ : KeptLine) (chunk before : List ℕ) (r : Run) (k : KeptLine) (p : ℕ) (after : List ℕ) : Type 0 where
  pub run : r ≡ run_after r₀ (came longest_line k₀ chunk).ended
  pub going : k ≡ (came longest_line k₀ chunk).going
  pub printed : take p after ≡ says_all r₀ (came longest_line k₀ chunk).ended
  pub beyond : drop p after ≡ drop p before

-- the same in the middle of the chunk, at `at`: what is ahead from here is what was ahead from its start
pub record Ahead (r₀ : Run) (k₀ : KeptLine) (chunk before : List ℕ) (r : Run) (k : KeptLine) (at p : ℕ) (after : List ℕ) : Type 0 where
  pub run : run_after r (came longest_line k (drop at chunk)).ended ≡ run_after r₀ (came longest_line k₀ chunk).ended
  pub going : (came longest_line k (drop at chunk)).going ≡ (came longest_line k₀ chunk).going
  pub printed : take p after ++ says_all r (came longest_line k (drop at chunk)).ended ≡ says_all r₀ (came longest_line k₀ chunk).ended
  pub beyond : drop p after ≡ drop p before

-- a run before its first byte, whatever the lent bytes, the lists and the line buffer hold: there is no book before the opening
pub record Begun (t : Taken) : Type 0 where
  pub run : (b : Book) (list x m : List ℤ) → run_of t.state b list x m ≡ start
  pub blank : (line : List ℕ) → holds line t.len t.over ≡ lines.nothing_held
  pub ready : (bytes : List ℕ) (list x m : List ℤ) → book_bytes ≤ length bytes → list_room ≤ length list → most_corrections ≤ length x → most_entries ≤ length m → Ready t.state bytes list x m
  pub lines : t.state.lines ≡ 0
  pub short : t.len ≡ 0
  pub silent : t.printed ≡ 0
