-- `add_rows` adds the terms of N to the words of bytes, end by end. The loop's invariant: those of the ends passed are added. Assumes nothing.
use Prim.Native.Nat.{ℕ, ◌+◌, ◌≤◌, ◌^◌}
use mathlib.Core.Path.{◌≡◌, refl, ap₂, ◌∙◌}
use native.Mathlib.Nat.{le_trans}
use native.Mathlib.Omega.{arith}
use lib.Dec.{lit≤}
use lib.IntN.{ℤ, nat_abs}
use Rattle.integers.specs.Sums.{sum-+1, sum_zero}
use Rattle.integers.specs.Tables.{plus, Within, within_more}
use Rattle.words.specs.Runs.{put_words}
use Rattle.words.specs.Words.{Bytes}
use Rattle.lists.specs.Stored.{back, kept}
use Rattle.normals.specs.ShareTerms.{pairs_from, rows_from, rows_from-size}
use Rattle.layout.specs.Layout.{matrix_start, book_length}
use Rattle.layout.specs.Bytes.{words_of}
use Rattle.layout.proofs.Shares.{ends_fit_lem, none_added, more_added, still_within}
use Rattle.layout.proofs.patching.add_rows.Goals as goal

pub loop-e-init : goal.loop-e-init
loop-e-init c =
    let bytes : Bytes c.args.s.now = λ i. let h = c.slice_known-1.given i in omega arith in
    (refl, none_added _ _ _ bytes (λ i. sum_zero _))

pub add_pairs-requires : goal.add_pairs-requires
add_pairs-requires c =
    let first : Within book_length (2 ^ 41) (words_of c.args.s.now) = within_more book_length (2 ^ 40) (2 ^ 41) _ (lit≤ tt) c.requires.3 in
    let size : (k : ℕ) → nat_abs (rows_from matrix_start c.args.equation c.loop-e.e k) ≤ 360000 = λ k. rows_from-size matrix_start c.args.equation c.requires.1 _ k c.loop-e.auto.e-end in
    let now-within : Within book_length (2 ^ 41) (words_of c.loop-e.s) = within_more book_length (2 ^ 40 + 360000) (2 ^ 41) _ (lit≤ tt)
    (still_within _ c.requires.0 _ (kept c.args.sign c.requires.2 tt) first _ (λ k. le_trans (size k) (lit≤ tt)) c.loop-e.s c.loop-e.invariant.1 (2 ^ 40) 360000 c.requires.3 size) in
    let room = c.requires.0 in
    let long = c.loop-e.invariant.0 in
    (omega arith, omega arith, ends_fit_lem c.args.equation c.requires.1, kept c.args.sign c.requires.2 tt, now-within)

pub loop-e-preserved : goal.loop-e-preserved
loop-e-preserved c =
    let first : Within book_length (2 ^ 41) (words_of c.args.s.now) = within_more book_length (2 ^ 40) (2 ^ 41) _ (lit≤ tt) c.requires.3 in
    let size : (k : ℕ) → nat_abs (rows_from matrix_start c.args.equation c.loop-e.e k) ≤ 360000 = λ k. rows_from-size matrix_start c.args.equation c.requires.1 _ k c.loop-e.auto.e-end in
    let l = c.loop-e in
    let q = c.args.equation in (
      c.add_pairs.auto.s ∙ l.invariant.0,
      more_added _ c.requires.0 _ (kept c.args.sign c.requires.2 tt) first _ (λ k. le_trans (size k) (lit≤ tt)) l.s l.invariant.1 (pairs_from matrix_start q l.e 6) (rows_from matrix_start q (l.e + 1)) _
          (λ k. sum-+1 l.e _) c.add_pairs.ensures,
    )

pub returns : goal.returns
returns c =
    let l = c.loop-e in
    let all : l.e ≡ 6 = omega arith in
    l.invariant.1
    ∙ ap₂ (λ (z : ℤ) (m : ℕ). put_words c.args.s.now 0 (plus book_length (words_of c.args.s.now) z (rows_from matrix_start c.args.equation m))) (back c.args.sign c.requires.2 tt) all
