-- The loop has written the lines of the places passed, and `word` is where the words of the next start (`record_start`). Assumes nothing.
use Prim.Native.Nat.{◌≤◌, ◌+◌, ◌*◌}
use mathlib.Core.Path.{◌≡◌}
use lib.ListN.{length}
use Rattle.network.specs.Places.{places_in}
use Rattle.text.specs.Writing.{Written}
use Rattle.printing.specs.Rooms.{baseline_room}
use Rattle.printing.specs.SheetText.{record_texts, record_start}
use Rattle.printing.proofs.sheet_text.write_records.Given as goal

abbrev pub invariant-loop-p : goal.invariant-loop-p
invariant-loop-p l = (length l.out ≡ length l.initial.out) × (l.next ≤ l.at + l.p * baseline_room) × (l.word ≡ record_start l.o (places_in l.places) l.p)
    × Written l.initial.out l.at (record_texts l.w l.o (places_in l.places) l.p) l.next l.out
