-- `dombrelat_open` tests the lengths, and opens on the words of the list: each answer is a case of `opens`. Assumes nothing.
use Prim.Native.Nat.{ℕ, ◌/◌, ◌-◌, ◌≤◌}
use native.Mathlib.Nat.{sub-zero}
use native.Mathlib.Omega.{arith}
use mathlib.Core.List.{List}
use lib.IntN.{ℤ, pos}
use lib.ListN.{length, take, replicate}
use Rattle.std.proofs.lemmas.List.{length-replicate}
use lib.Seq.{length-take-le}
use mathlib.Core.Path.{◌≡◌, refl, ap, ◌∙◌}
use mir.Syntax.{w64}
use mir.Facts.{to_z-of_z}
use Rattle.words.specs.Runs.{words_at}
use Rattle.book.specs.Book.{opening}
use Rattle.dombrelat.specs.Calls.{Returned, answered_with}
use Rattle.dombrelat.proofs.Openings.{opens_short, opens_odd, opens_many, opens_done}
use borrow.Author.Rules.{sfits_of}
use Rattle.dombrelat.proofs.opening.dombrelat_open.Goals as goal

pub returns-then-book-lt-BOOK_BYTES : goal.returns-then-book-lt-BOOK_BYTES
returns-then-book-lt-BOOK_BYTES c =
    let e = opens_short c.args.list.now c.args.book.now c.if-book-lt-BOOK_BYTES.true in
    record { value = ap (λ (r : Returned). r.answer) e; book_after = ap (λ (r : Returned). r.bytes) e }

pub returns-then-list-ne0 : goal.returns-then-list-ne0
returns-then-list-ne0 c =
    let e = opens_odd c.args.list.now c.args.book.now c.if-book-lt-BOOK_BYTES.false c.if-list-ne0.true in
    record { value = ap (λ (r : Returned). r.answer) e; book_after = ap (λ (r : Returned). r.bytes) e }

pub returns-then-list-gt-LIST_BYTES : goal.returns-then-list-gt-LIST_BYTES
returns-then-list-gt-LIST_BYTES c =
    let e = opens_many c.args.list.now c.args.book.now c.if-book-lt-BOOK_BYTES.false c.if-list-ne0.false c.if-list-gt-LIST_BYTES.true in
    record { value = ap (λ (r : Returned). r.answer) e; book_after = ap (λ (r : Returned). r.bytes) e }

pub returns : goal.returns
returns c =
    let l = c.args.list.now in
    let b = c.args.book.now in
    let p = c.open_list in
    let w : List ℤ = replicate 128 (pos 0) in
    let room : length l / 8 - 0 ≤ length w = omega (arith, length-replicate 128 (pos 0), c.if-list-gt-LIST_BYTES.false) in
    let n : length (take (length l / 8 - 0) w) ≡ length l / 8 = length-take-le (length l / 8 - 0) w room ∙ sub-zero (length l / 8) in
    let e = ap (λ (c : ℕ). answered_with b (opening (words_at l 0 c))) n ∙ opens_done l b c.if-book-lt-BOOK_BYTES.false c.if-list-ne0.false _ refl in
    record { value = to_z-of_z {w = w64} {z = p.result} (sfits_of p.type_inv) ∙ p.ensures.0 ∙ ap (λ (r : Returned). r.answer) e; book_after = p.ensures.1 ∙ ap (λ (r : Returned). r.bytes) e }
