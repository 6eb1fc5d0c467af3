-- The loop's invariant: the book is that after the first i rows, and the first i answers are those to them.
use Prim.Native.Nat.{ℕ, ◌<◌, ◌≤◌}
use mathlib.Core.Path.{◌≡◌, refl, sym, ap, ap₂, ◌∙◌, subst}
use mathlib.Core.Bool.{true}
use mathlib.Core.List.{◌++◌}
use native.Mathlib.Omega.{arith}
use borrow.Author.Rules.{rules}
use mir.Syntax.{w64}
use mir.Facts.{to_z-of_z}
use lib.IntN.{pos}
use lib.ListN.{length, drop, length-map, take-append-drop}
use lib.Seq.{take_all}
use Rattle.std.specs.Prelude.{Some}
use Rattle.lists.specs.Filling.{Mapped, starts, goes_on}
use Rattle.book.specs.Outcome.{Outcome}
use Rattle.book.specs.Refusals.{answer_no}
use Rattle.book.specs.Run.{final_zero, answers, length-answers}
use Rattle.book.specs.Book.{outcome, book_next, book_says, sound}
use Rattle.book.specs.Rows.{row_next, row_says}
use Rattle.book.specs.ReplayLaws.{filled, unfilled}
use Rattle.cases.specs.Script.{call_at, rows_named}
use Rattle.cases.proofs.Calls.{row_at, after, said, turn-says, turn-next}
use Rattle.cases.proofs.make_calls.Goals as goal

pub loop-i-init : goal.loop-i-init
loop-i-init c = (starts (pos 0) _ _ _ refl, final_zero (row_next book_next) c.args.book.now (rows_named c.args.numbers.now), c.requires.0)

pub apply-answer-requires : goal.apply-answer-requires
apply-answer-requires c = c.loop-i.invariant.2

pub loop-i-preserved : goal.loop-i-preserved
loop-i-preserved c =
    let numbers = c.args.numbers.now in
    let rows = rows_named numbers in
    let b = c.args.book.now in
    let i = c.loop-i.i in
    let a = c.apply-answer in
    let w = c.call_word in
    let e : Outcome = record { refusal = answer_no a.result; book = a.new.self } in
    let h : i < length numbers = omega arith in
    let long : length rows ≡ length numbers = length-map numbers (λ n. Some (call_at n)) in
    let inside : i < length rows = omega arith in
    let row = row_at numbers i h ∙ ap Some (sym c.call_at.ensures) in
    let room : length numbers ≤ length c.args.answers.now = c.requires.1 in
    let both : (e ≡ outcome c.loop-i.book c.call_at.result) × (sound e.book ≡ true) = (a.ensures.outcome, a.ensures.sound) in (
      goes_on (pos 0) _ (said b rows) c.args.answers.now c.loop-i.answers i _ (omega arith) c.loop-i.invariant.0
          (to_z-of_z {w = w64} {z = w.result} (search rules)
          ∙ w.ensures
          ∙ turn-says b rows i inside c.call_at.result row c.loop-i.book c.loop-i.invariant.1 e both),
      turn-next b rows i inside c.call_at.result row c.loop-i.book c.loop-i.invariant.1 e both,
      a.ensures.sound,
    )

pub returns : goal.returns
returns c =
    let numbers = c.args.numbers.now in
    let rows = rows_named numbers in
    let b = c.args.book.now in
    let n = length numbers in
    let long : length rows ≡ n = length-map numbers (λ k. Some (call_at k)) in
    let all : c.loop-i.i ≡ n = omega arith in
    let p : Mapped (pos 0) (length c.args.answers.now) (said b rows) c.args.answers.now c.loop-i.answers n =
    subst (λ (k : ℕ). Mapped (pos 0) (length c.args.answers.now) (said b rows) c.args.answers.now c.loop-i.answers k) all c.loop-i.invariant.0 in
    record {
      answered =
          sym (take-append-drop n c.loop-i.answers)
          ∙ ap₂ ◌++◌
          (filled _ _ _ _ (answers (row_next book_next) (row_says book_says) b rows) n c.requires.1 p (length-answers (row_next book_next) (row_says book_says) b rows ∙ long) (λ i h. refl))
          (unfilled _ _ _ _ n refl p ∙ ap (λ (k : ℕ). drop k c.args.answers.now) (sym long));
      left = c.loop-i.invariant.1 ∙ ap (after b) (take_all c.loop-i.i rows (omega arith));
      sound = c.loop-i.invariant.2;
    }
