-- `add_pairs` adds the terms of N of one end to the words of bytes. The loop's invariant: those of the pairs passed are added. Assumes nothing.
use Prim.Native.Nat.{ℕ, ◌+◌}
use mathlib.Core.Path.{◌≡◌, refl, sym, ap, ap₂, ◌∙◌}
use native.Mathlib.Nat.{le_trans}
use native.Mathlib.Omega.{arith}
use lib.Dec.{lit≤}
use lib.IntN.{ℤ, ◌+ℤ◌, ◌*ℤ◌}
use Rattle.integers.specs.Code.{fit, code_bounds}
use Rattle.integers.specs.Sums.{sum-+1, sum_zero, δ}
use Rattle.integers.specs.Tables.{plus}
use Rattle.words.specs.Runs.{put_words}
use Rattle.words.specs.Words.{Bytes}
use Rattle.lists.specs.Stored.{back, kept}
use Rattle.normals.specs.declared.ShareTerm.{ShareTerm}
use Rattle.normals.specs.declared.Equation.{Equation}
use Rattle.normals.specs.Equations.{ends_of}
use Rattle.normals.specs.ShareTerms.{pairs_from, pairs_size}
use Rattle.layout.specs.Layout.{matrix_start, book_length}
use Rattle.layout.specs.Bytes.{words_of}
use Rattle.layout.proofs.Shares.{Small, pair_small, amount_stored, amount_small, none_added, in_range_lem, one_added}
use Rattle.layout.proofs.patching.add_pairs.Goals as goal

pub loop-f-init : goal.loop-f-init
loop-f-init c =
    let bytes : Bytes c.args.s.now = λ i. let h = c.slice_known-1.given i in omega arith in
    (refl, none_added _ _ _ bytes (λ k. sum_zero _))

pub overflow_add-k : goal.overflow_add-k
overflow_add-k c =
    let lent : Equation = ends_of c.args.at.now c.args.coef.now c.args.weight.now in
    let small : Small c.pair_term-t.result = rw c.pair_term-t.ensures (pair_small lent c.requires.2 c.args.e c.loop-f.f) in
    let h = small in omega arith

pub overflow_mul-v : goal.overflow_mul-v
overflow_mul-v c =
    let lent : Equation = ends_of c.args.at.now c.args.coef.now c.args.weight.now in
    let small : Small c.pair_term-t.result = rw c.pair_term-t.ensures (pair_small lent c.requires.2 c.args.e c.loop-f.f) in
    let u = c.requires.3 in
    let h = small in
    fit (search code_bounds depth 8) tt

pub add_to_word-requires : goal.add_to_word-requires
add_to_word-requires c =
    let lent : Equation = ends_of c.args.at.now c.args.coef.now c.args.weight.now in
    let small : Small c.pair_term-t.result = rw c.pair_term-t.ensures (pair_small lent c.requires.2 c.args.e c.loop-f.f) in
    let l = c.loop-f in
    let room = c.requires.0 in
    let long = l.invariant.0 in
    let h = small in (
      omega arith,
      omega arith,
      in_range_lem _ room _ (kept c.args.sign c.requires.3 tt) c.requires.4 _ (λ k. le_trans (pairs_size matrix_start lent c.requires.2 _ _ k l.auto.f-end) (lit≤ tt)) l.s l.invariant.1 _,
      amount_small c.args.sign c.pair_term-t.result.amount c.requires.3 h.amount,
    )

pub loop-f-preserved : goal.loop-f-preserved
loop-f-preserved c =
    let lent : Equation = ends_of c.args.at.now c.args.coef.now c.args.weight.now in
    let small : Small c.pair_term-t.result = rw c.pair_term-t.ensures (pair_small lent c.requires.2 c.args.e c.loop-f.f) in
    let l = c.loop-f in
    let h = small in
    let sign = c.args.sign in (
      c.add_to_word.auto.s ∙ l.invariant.0,
      one_added _ c.requires.0 _ (kept sign c.requires.3 tt) c.requires.4 _ (λ k. le_trans (pairs_size matrix_start lent c.requires.2 _ _ k l.auto.f-end) (lit≤ tt)) l.s l.invariant.1 (pairs_from matrix_start lent c.args.e (l.f + 1)) _ _ _ c.pair_term-t.result.amount (omega arith)
          (amount_stored sign c.pair_term-t.result.amount c.requires.3 h.amount)
          (λ k. sum-+1 l.f _ ∙ ap (λ (x : ShareTerm). pairs_from matrix_start lent c.args.e l.f k +ℤ x.amount *ℤ δ (matrix_start + x.entry) k) (sym c.pair_term-t.ensures))
          c.add_to_word.ensures,
    )

pub returns : goal.returns
returns c =
    let lent : Equation = ends_of c.args.at.now c.args.coef.now c.args.weight.now in
    let l = c.loop-f in
    let all : l.f ≡ 6 = omega arith in
    l.invariant.1
    ∙ ap₂ (λ (z : ℤ) (m : ℕ). put_words c.args.s.now 0 (plus book_length (words_of c.args.s.now) z (pairs_from matrix_start lent c.args.e m))) (back c.args.sign c.requires.3 tt) all
