-- How the program ends. What read gave and what write was handed no contract can name: the contract of `turn` speaks of them as the contents of the buffers that the two calls are lent, and
-- here they stand as lists that exist, of which the latest are in those buffers. Assumes nothing.
--   ChunksTaken   night_print, Whole   chunks taken one after the other, and what they print
--   Concludes   night_print, Closing    what the end of the input prints
--   Prints   night_print, Print   document 01's print of a text
use Rattle.std.specs.Prelude.{ℕ, ◌*◌, ◌≡◌, Bool, false, List, [], ◌∷◌, ◌++◌, Option, is_none, unwrap_or, take}
use Rattle.text.specs.Lines.{KeptLine, nothing_held, concat}
use Rattle.printing.specs.Rooms.{line_room}
use Rattle.input_lines.specs.Runs.{ended, Run, start}
use Rattle.adjustment.specs.Chunks.{Takes}
use Rattle.night_print.specs.Closing.{Concludes}
use Rattle.night_print.specs.Steps.{is_ended}
use Rattle.night_print.specs.Print.{Prints}
use Rattle.night_print.specs.Whole.{ChunksTaken}
use Rattle.adjust.specs.declared.Finish.{Finish}
use Rattle.adjust.specs.declared.Finish.TheVariants.{Printed, Refused, Unread, Unwritten}

-- ════ the most bytes that a read gives, and room for what their lines print, or for the end
abbrev pub chunk_room : ℕ
chunk_room = 768

abbrev pub out_room : ℕ
out_room = line_room * chunk_room

-- ════ what a read answers: none where it failed, or how many bytes it put at the front of the chunk, 0 at the end of the input
abbrev pub read_failed : Option ℕ → Bool
read_failed answer = is_none answer

abbrev pub read_gave : Option ℕ → List ℕ → List ℕ
read_gave answer chunk = take (unwrap_or answer 0) chunk

-- ════ how the program ends, with what it leaves in its buffers `chunk` and `out`
-- in each case there are chunks ss, taken one after the other, whose lines print t: a chunk is what a turn found in its buffer, and t what the turns left at the front of `out`
pub data ProgramEnds : Finish → List ℕ → List ℕ → Type 0 where
  -- the input has ended: the front of `out` is what the end prints after them, and with t it is the print of their text
  ends-printed :
      {ss : List (List ℕ)} {t before chunk out : List ℕ} {r : Run} {k : KeptLine} {n : ℕ} →
      ChunksTaken start nothing_held ss t r k →
      is_ended r.phase ≡ false →
      Concludes r k before n out →
      Prints (concat ss) (t ++ take n out) →
      ProgramEnds Printed chunk out
  -- the opening was refused at a line of one chunk more, the front of `chunk`: the front of `out` is what its lines print, and with t it is the print of their text, whatever would have come after it
  ends_refused :
      {ss : List (List ℕ)} {t before chunk out : List ℕ} {r r₁ : Run} {k k₁ : KeptLine} {n : ℕ} (answer : Option ℕ) →
      ChunksTaken start nothing_held ss t r k →
      is_ended r.phase ≡ false →
      Takes r k (read_gave answer chunk) before r₁ k₁ n out →
      r₁.phase ≡ ended →
      ((rest : List (List ℕ)) → Prints (concat ((ss ++ (read_gave answer chunk ∷ [])) ++ rest)) (t ++ take n out)) →
      ProgramEnds Refused chunk out
  -- the next read failed: nothing is printed after t, no end and no sheet
  ends_unread : {ss : List (List ℕ)} {t chunk out : List ℕ} {r : Run} {k : KeptLine} → ChunksTaken start nothing_held ss t r k → ProgramEnds Unread chunk out
  -- the output took no more
  ends_unwritten : {ss : List (List ℕ)} {t chunk out : List ℕ} {r : Run} {k : KeptLine} → ChunksTaken start nothing_held ss t r k → ProgramEnds Unwritten chunk out
