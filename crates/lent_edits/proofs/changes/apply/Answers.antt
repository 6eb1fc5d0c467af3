-- `apply` makes the call that it is given; what the call leaves holds a book by the law of each call. Assumes nothing.
use Prim.Native.Nat.{ℕ}
use mathlib.Core.Path.{◌≡◌, sym, ap, ◌∙◌}
use mathlib.Core.Bool.{true}
use mathlib.Core.List.{List}
use mir.Syntax.{w64}
use mir.Facts.{to_z-of_z}
use Rattle.book.specs.declared.Call.{Call}
use Rattle.book.specs.declared.Call.TheVariants.{Edit}
use Rattle.book.specs.Book.{book_says, outcome}
use Rattle.layout.specs.Bytes.{book_of, bytes_fit}
use Rattle.lent_edits.specs.LentEdits.{bytes_left, Applies}
use Rattle.lent_edits.specs.LeavesBook.{call_applies}
use borrow.Author.Rules.{rules}
use Rattle.lent_edits.proofs.changes.apply.Goals as goal

-- the call that was told apart is the one that was given
applied : (s : List ℕ) (x y : Call) (n : ℕ) (t : List ℕ) → bytes_fit s ≡ true → x ≡ y → (n ≡ book_says (book_of s) x) × (t ≡ bytes_left s (outcome (book_of s) x)) → Applies s y n t
applied s x y n t fit e p =
    call_applies s y n t fit (p.0 ∙ ap (book_says (book_of s)) e) (p.1 ∙ ap (λ (c : Call). bytes_left s (outcome (book_of s) c)) e)

pub returns-in-Edit : goal.returns-in-Edit
returns-in-Edit c =
    let e = (λ i. Edit (to_z-of_z {w = w64} {z = c.in-Edit.place} (search rules) i) c.in-Edit.change) ∙ sym c.in-Edit.is in
    applied c.args.s.now _ c.args.call _ _ c.requires e c.change_place.ensures

pub returns-in-Undo : goal.returns-in-Undo
returns-in-Undo c = applied c.args.s.now _ c.args.call _ _ c.requires (sym c.in-Undo.is) c.undo.ensures
