-- The loop's invariant: the book is that after the first k rows, and the first k answers are those to them.
use Prim.Native.Nat.{ℕ, ◌<◌, ◌≤◌}
use mathlib.Core.Path.{◌≡◌, refl, ap, ◌∙◌, subst}
use native.Mathlib.Omega.{arith}
use borrow.Author.Rules.{rules}
use mir.Syntax.{w64}
use mir.Facts.{to_z-of_z}
use lib.IntN.{pos}
use lib.ListN.{length}
use Rattle.lists.specs.Filling.{Mapped, starts, goes_on}
use Rattle.book.specs.Run.{final, answers, final_zero, length-answers}
use Rattle.book.specs.Book.{book_says, book_next}
use Rattle.book.specs.Rows.{rows_in, row_next, row_says}
use Rattle.book.specs.ReplayLaws.{turn-says, turn-next, length-rows, all_rows, filled, unfilled}
use Rattle.book.proofs.rows.run.Invariants.{said}
use Rattle.book.proofs.rows.run.Goals as goal

pub loop-k-init : goal.loop-k-init
loop-k-init c = (starts (pos 0) _ _ _ refl, final_zero (row_next book_next) c.args.book.now (rows_in c.args.calls.now c.args.n), c.requires.0)

pub row_in-row-requires : goal.row_in-row-requires
row_in-row-requires c = omega arith

pub answer-requires : goal.answer-requires
answer-requires c = c.loop-k.invariant.2

pub loop-k-preserved : goal.loop-k-preserved
loop-k-preserved c =
    let r = c.row_in-row in
    let a = c.answer in
    let w = c.args.calls.now in
    let n = c.args.n in
    let h : c.loop-k.k < n = omega arith in
    let long : n ≤ length c.args.answers.now = c.requires.2 in (
      goes_on (pos 0) _ (said c.args.book.now w n) c.args.answers.now c.loop-k.answers c.loop-k.k _ (omega arith) c.loop-k.invariant.0
          (to_z-of_z {w = w64} {z = a.result} (search rules)
          ∙ a.ensures.says
          ∙ ap (row_says book_says c.loop-k.book) r.ensures
          ∙ turn-says (row_next book_next) (row_says book_says) c.args.book.now w n c.loop-k.k h c.loop-k.book c.loop-k.invariant.1),
      a.ensures.leaves
          ∙ ap (row_next book_next c.loop-k.book) r.ensures
          ∙ turn-next (row_next book_next) (row_says book_says) c.args.book.now w n c.loop-k.k h c.loop-k.book c.loop-k.invariant.1,
      a.ensures.sound,
    )

pub returns : goal.returns
returns c =
    let w = c.args.calls.now in
    let n = c.args.n in
    let all : c.loop-k.k ≡ n = omega arith in
    let p : Mapped (pos 0) (length c.args.answers.now) (said c.args.book.now w n) c.args.answers.now c.loop-k.answers n =
    subst (λ (k : ℕ). Mapped (pos 0) (length c.args.answers.now) (said c.args.book.now w n) c.args.answers.now c.loop-k.answers k) all c.loop-k.invariant.0 in
    record {
      left = c.loop-k.invariant.1 ∙ ap (final (row_next book_next) c.args.book.now) (all_rows w n c.loop-k.k (omega arith));
      answered =
          filled _ _ _ _ (answers (row_next book_next) (row_says book_says) c.args.book.now (rows_in w n)) n c.requires.2 p
          (length-answers (row_next book_next) (row_says book_says) c.args.book.now (rows_in w n) ∙ length-rows w n) (λ i h. refl);
      beyond = unfilled _ _ _ _ n refl p;
    }
