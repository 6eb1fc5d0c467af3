-- The last arm of a `match` on a command: what it asks is none of the arms before. Assumes nothing.
use Prim.Native.Nat.{ℕ}
use mathlib.Core.Path.{◌≡◌, refl}
use mathlib.Core.List.{List}
use lib.IntN.{ℤ}
use Rattle.network.specs.declared.Station.{Station as StationOf}
use Rattle.book.specs.declared.Book.{Book}
use Rattle.book.specs.declared.Call.{Call as CallOf}
use Rattle.commands.specs.declared.Command.{Command}
use Rattle.commands.specs.declared.Command.TheVariants.{Station, Call, Corrections, Matrix, Unreadable}
use Rattle.input_lines.specs.Runs.{words_after, unedited, edits, refused_says, command_says}

-- no station
pub words_other : (l : List ℤ) (c : Command) → ((s : StationOf) → c ≡ Station s → ⊥) → l ≡ words_after l c
unfolding words_after
words_other l (Station s) h = absurd (h s refl)
words_other l (Call c) h = refl
words_other l (Corrections n) h = refl
words_other l (Matrix n) h = refl
words_other l Unreadable h = refl

-- no edit
pub edits_other : (b : Book) (c : Command) → ((e : CallOf) → c ≡ Call e → ⊥) → unedited b ≡ edits b c
unfolding edits
edits_other b (Station s) h = refl
edits_other b (Call c) h = absurd (h c refl)
edits_other b (Corrections n) h = refl
edits_other b (Matrix n) h = refl
edits_other b Unreadable h = refl

-- not unreadable
pub says_other : (k number : ℕ) (c : Command) → (c ≡ Unreadable → ⊥) → refused_says k number ≡ command_says k number c
unfolding command_says
says_other k number (Station s) h = refl
says_other k number (Call c) h = refl
says_other k number (Corrections n) h = refl
says_other k number (Matrix n) h = refl
says_other k number Unreadable h = absurd (h refl)
