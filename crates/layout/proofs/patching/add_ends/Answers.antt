-- `add_ends` adds the terms of u to the words of bytes. The loop's invariant: those of the ends passed are added. Assumes nothing.
use Prim.Native.Nat.{ℕ, ◌+◌}
use mathlib.Core.Path.{◌≡◌, refl, sym, ap, ap₂, ◌∙◌}
use native.Mathlib.Nat.{le_trans}
use native.Mathlib.Omega.{arith}
use lib.Dec.{lit≤}
use lib.IntN.{ℤ, ◌+ℤ◌, ◌*ℤ◌}
use Rattle.integers.specs.Code.{fit, code_bounds}
use Rattle.integers.specs.Sums.{sum-+1, sum_zero, δ}
use Rattle.integers.specs.Tables.{plus}
use Rattle.words.specs.Runs.{put_words}
use Rattle.words.specs.Words.{Bytes}
use Rattle.lists.specs.Stored.{back, kept}
use Rattle.normals.specs.declared.ShareTerm.{ShareTerm}
use Rattle.normals.specs.ShareTerms.{ends_from, ends_size}
use Rattle.layout.specs.Layout.{matrix_start, book_length}
use Rattle.layout.specs.Bytes.{words_of}
use Rattle.layout.proofs.Shares.{Small, end_small, amount_stored, amount_small, none_added, in_range_lem, one_added}
use Rattle.layout.proofs.patching.add_ends.Goals as goal

pub loop-e-init : goal.loop-e-init
loop-e-init c =
    let bytes : Bytes c.args.s.now = λ i. let h = c.slice_known-1.given i in omega arith in
    (refl, none_added _ _ _ bytes (λ k. sum_zero _))

pub overflow_add-k : goal.overflow_add-k
overflow_add-k c =
    let small : Small c.end_term-t.result = rw c.end_term-t.ensures (end_small c.args.equation c.requires.1 c.loop-e.e) in
    let h = small in omega arith

pub overflow_mul-v : goal.overflow_mul-v
overflow_mul-v c =
    let small : Small c.end_term-t.result = rw c.end_term-t.ensures (end_small c.args.equation c.requires.1 c.loop-e.e) in
    let u = c.requires.2 in
    let h = small in
    fit (search code_bounds depth 8) tt

pub add_to_word-requires : goal.add_to_word-requires
add_to_word-requires c =
    let small : Small c.end_term-t.result = rw c.end_term-t.ensures (end_small c.args.equation c.requires.1 c.loop-e.e) in
    let l = c.loop-e in
    let room = c.requires.0 in
    let long = l.invariant.0 in
    let h = small in (
      omega arith,
      omega arith,
      in_range_lem _ room _ (kept c.args.sign c.requires.2 tt) c.requires.3 _ (λ k. le_trans (ends_size matrix_start c.args.equation c.requires.1 _ k l.auto.e-end) (lit≤ tt)) l.s l.invariant.1 _,
      amount_small c.args.sign c.end_term-t.result.amount c.requires.2 h.amount,
    )

pub loop-e-preserved : goal.loop-e-preserved
loop-e-preserved c =
    let small : Small c.end_term-t.result = rw c.end_term-t.ensures (end_small c.args.equation c.requires.1 c.loop-e.e) in
    let l = c.loop-e in
    let h = small in
    let sign = c.args.sign in (
      c.add_to_word.auto.s ∙ l.invariant.0,
      one_added _ c.requires.0 _ (kept sign c.requires.2 tt) c.requires.3 _ (λ k. le_trans (ends_size matrix_start c.args.equation c.requires.1 _ k l.auto.e-end) (lit≤ tt)) l.s l.invariant.1 (ends_from matrix_start c.args.equation (l.e + 1)) _ _ _ c.end_term-t.result.amount (omega arith)
          (amount_stored sign c.end_term-t.result.amount c.requires.2 h.amount)
          (λ k. sum-+1 l.e _ ∙ ap (λ (x : ShareTerm). ends_from matrix_start c.args.equation l.e k +ℤ x.amount *ℤ δ (matrix_start + x.entry) k) (sym c.end_term-t.ensures))
          c.add_to_word.ensures,
    )

pub returns : goal.returns
returns c =
    let l = c.loop-e in
    let all : l.e ≡ 6 = omega arith in
    l.invariant.1
    ∙ ap₂ (λ (z : ℤ) (m : ℕ). put_words c.args.s.now 0 (plus book_length (words_of c.args.s.now) z (ends_from matrix_start c.args.equation m))) (back c.args.sign c.requires.2 tt) all
