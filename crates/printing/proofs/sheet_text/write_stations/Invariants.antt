-- The loop has written the lines of the stations passed (`stations-more`). Assumes nothing.
use Rattle.text.specs.Writing.{Written}
use Rattle.printing.specs.SheetText.{station_texts}
use lib.ListN.{length}
use Prim.Native.Nat.{◌≤◌, ◌+◌, ◌*◌}
use mathlib.Core.Path.{◌≡◌}
use Rattle.printing.proofs.sheet_text.write_stations.Given as goal

abbrev pub invariant-loop-i : goal.invariant-loop-i
invariant-loop-i l = (length l.out ≡ length l.initial.out) × (l.p ≤ l.at + l.i * 154) × Written l.initial.out l.at (station_texts l.w l.i) l.p l.out
