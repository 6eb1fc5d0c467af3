-- A row by the number of its first word, and what the code has shown of its answer. Assumes nothing.
use Prim.Native.Nat.{ℕ, zero, suc}
use mathlib.Core.Path.{◌≡◌, refl, ap, ◌∙◌}
use mathlib.Core.Bool.{true}
use lib.IntN.{ℤ, pos, negsuc}
use Rattle.std.specs.Prelude.{Some, None}
use Rattle.network.specs.declared.Record.{Record}
use Rattle.book.specs.declared.Book.{Book}
use Rattle.book.specs.Outcome.{Outcome}
use Rattle.book.specs.declared.Call.{Call}
use Rattle.book.specs.Book.{outcome, sound}
use Rattle.book.specs.Rows.{row_next, row_says, row_of}
use Rattle.book.specs.Replay.{Answers}

pub same_row : (k k' : ℕ) (p p' : ℤ) (r r' : Record) → k ≡ k' → p ≡ p' → r ≡ r' → row_of k p r ≡ row_of k' p' r'
same_row k k' p p' r r' e f g = cc

-- a number that the code has told from the three
pub other_row : (k : ℕ) (p : ℤ) (r : Record) → (k ≡ 0 → ⊥) → (k ≡ 1 → ⊥) → (k ≡ 2 → ⊥) → None ≡ row_of k p r
unfolding row_of
other_row zero p r x y z = absurd (x refl)
other_row (suc zero) p r x y z = absurd (y refl)
other_row (suc (suc zero)) p r x y z = absurd (z refl)
other_row (suc (suc (suc k))) p r x y z = refl

-- ════ the answer
pub call_answered : (b : Book) (c : Call) (n : ℕ) (a : ℤ) (left : Book) → record { refusal = n; book = left } ≡ outcome b c → sound left ≡ true → a ≡ pos n → Answers b (Some c) a left
unfolding row_says row_next
call_answered b c n a left e w q =
    record { says = q ∙ ap (λ (x : Outcome). pos x.refusal) e; leaves = ap (λ (x : Outcome). x.book) e; sound = w }

pub nameless_answered : (b : Book) → sound b ≡ true → Answers b None (negsuc 0) b
unfolding row_says row_next
nameless_answered b w = record { says = refl; leaves = refl; sound = w }
