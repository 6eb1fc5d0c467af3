-- Lent bytes: refused with 25 or called through, and a call named in two ways. Assumes nothing.
use Prim.Native.Nat.{ℕ}
use mathlib.Core.Path.{◌≡◌, sym, ap, ◌∙◌}
use mathlib.Core.Bool.{Bool, true, false, cond}
use mathlib.Core.List.{List}
use lib.IntN.{ℤ}
use Rattle.book.specs.declared.Book.{Book}
use Rattle.book.specs.Outcome.{Outcome}
use Rattle.book.specs.declared.Call.{Call}
use Rattle.layout.specs.Bytes.{book_of, bytes_fit}
use Rattle.dombrelat.specs.Calls.{refused_with, answered_with, through, edit_call}

-- ════ a call through the book
module _ (s : List ℕ) (f : Book → Outcome) where
  pub through_unfit : bytes_fit s ≡ false → refused_with 25 s ≡ through s f
  unfolding through
  through_unfit e = sym (ap (λ (t : Bool). cond t (answered_with s (f (book_of s))) (refused_with 25 s)) e)

  pub through-fit : (b : Book) (e : Outcome) → bytes_fit s ≡ true → b ≡ book_of s → e ≡ f b → answered_with s e ≡ through s f
  unfolding through
  through-fit b e p q r = ap (answered_with s) (r ∙ ap f q) ∙ sym (ap (λ (t : Bool). cond t (answered_with s (f (book_of s))) (refused_with 25 s)) p)

-- a call named in two ways
pub answers_as : (s : List ℕ) (x y : Call) → x ≡ y → (r : ℤ) (t : List ℕ) → (r ≡ (edit_call s x).answer) × (t ≡ (edit_call s x).bytes) → (r ≡ (edit_call s y).answer) × (t ≡ (edit_call s y).bytes)
answers_as s x y q r t p = (p.0 ∙ ap (λ (c : Call). (edit_call s c).answer) q, p.1 ∙ ap (λ (c : Call). (edit_call s c).bytes) q)
