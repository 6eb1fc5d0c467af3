-- `add_share` adds the terms of N and then those of u; together they are the share. Assumes nothing.
use Prim.Native.Nat.{ℕ, ◌+◌, ◌≤◌, ◌^◌}
use mathlib.Core.Path.{◌≡◌, refl, ap, ◌∙◌}
use native.Mathlib.Nat.{le_trans}
use native.Mathlib.Omega.{arith}
use lib.Dec.{lit≤}
use lib.ListN.{length}
use lib.IntN.{ℤ, nat_abs}
use Rattle.integers.specs.Tables.{plus, Within, within_more}
use Rattle.words.specs.Runs.{put_words}
use Rattle.lists.specs.Stored.{back, kept}
use Rattle.normals.specs.ShareTerms.{rows_from, ends_from, share_from, rows_from-size}
use Rattle.layout.specs.Layout.{matrix_start, book_length}
use Rattle.layout.specs.Bytes.{words_of}
use Rattle.layout.proofs.Shares.{more_added, still_within}
use Rattle.layout.proofs.patching.add_share.Goals as goal

pub add_ends-requires : goal.add_ends-requires
add_ends-requires c =
    let first : Within book_length (2 ^ 41) (words_of c.args.s.now) = within_more book_length (2 ^ 40) (2 ^ 41) _ (lit≤ tt) c.requires.3 in
    let size : (k : ℕ) → nat_abs (rows_from matrix_start c.args.equation 6 k) ≤ 360000 = λ k. rows_from-size matrix_start c.args.equation c.requires.1 6 k (lit≤ tt) in
    let room = c.requires.0 in
    let long : length c.add_rows.new.s ≡ length c.args.s.now = c.add_rows.auto.s in (
      omega arith,
      c.requires.1,
      kept c.args.sign c.requires.2 tt,
      within_more book_length (2 ^ 40 + 360000) (2 ^ 41) _ (lit≤ tt)
          (still_within _ room _ (kept c.args.sign c.requires.2 tt) first _ (λ k. le_trans (size k) (lit≤ tt)) _ c.add_rows.ensures (2 ^ 40) 360000 c.requires.3 size),
    )

pub returns : goal.returns
unfolding share_from
returns c =
    let first : Within book_length (2 ^ 41) (words_of c.args.s.now) = within_more book_length (2 ^ 40) (2 ^ 41) _ (lit≤ tt) c.requires.3 in
    let size : (k : ℕ) → nat_abs (rows_from matrix_start c.args.equation 6 k) ≤ 360000 = λ k. rows_from-size matrix_start c.args.equation c.requires.1 6 k (lit≤ tt) in
    more_added _ c.requires.0 _ (kept c.args.sign c.requires.2 tt) first _ (λ k. le_trans (size k) (lit≤ tt)) _ c.add_rows.ensures (ends_from matrix_start c.args.equation 6) (share_from matrix_start c.args.equation) _ (λ k. refl) c.add_ends.ensures
    ∙ ap (λ (z : ℤ). put_words c.args.s.now 0 (plus book_length (words_of c.args.s.now) z (share_from matrix_start c.args.equation))) (back c.args.sign c.requires.2 tt)
