-- `normals_fit` works N and u out of zeros and compares them with the words of the bytes where they stand. Assumes nothing.
use Prim.Native.Nat.{ℕ, ◌+◌, ◌*◌, ◌≤◌}
use mathlib.Core.Path.{◌≡◌, sym, ap, ap₂, ◌∙◌}
use mathlib.Core.Bool.{◌&&◌}
use mathlib.Core.List.{List}
use native.Mathlib.Omega.{arith}
use lib.ListN.{length, take, drop}
use lib.IntN.{ℤ}
use Rattle.integers.specs.Tables.{length-tabulate}
use Rattle.words.specs.Runs.{words_at}
use Rattle.lists.specs.Same.{same_entries}
use Rattle.normals.specs.Same.{same_normals}
use Rattle.layout.specs.Layout.{book_in, matrix_start, right_start, book_length}
use Rattle.layout.specs.Bytes.{words_of}
use Rattle.layout.specs.RunPatches.{part_at}
use Rattle.layout.proofs.laid.normals_fit.Goals as goal

-- a part of the words of s, compared with a list that was worked out
compared : (s : List ℕ) (k n : ℕ) (w v : List ℤ) → k + n ≤ book_length → w ≡ v → length v ≡ n → same_entries (length w) (words_at s (8 * k) (length w)) w ≡ same_entries n (take n (drop k (words_of s))) v
compared s k n w v h e long =
    ap (λ (x : List ℤ). same_entries (length x) (words_at s (8 * k) (length x)) x) e
    ∙ ap (λ (m : ℕ). same_entries m (words_at s (8 * k) m) v) long
    ∙ ap (λ (x : List ℤ). same_entries n x v) (ap (λ (i : ℕ). words_at s i n) (let i : 8 * k ≡ 0 + 8 * k = omega arith in i) ∙ sym (part_at s 0 book_length k n h))

pub slice_bounds-same_words-end : goal.slice_bounds-same_words-end
slice_bounds-same_words-end c =
    let matrix-long : length c.add_records.new.n ≡ 2304 = ap length c.add_records.ensures.matrix ∙ length-tabulate 2304 _ in
    sym matrix-long

pub same_words-requires : goal.same_words-requires
same_words-requires c =
    let matrix-long : length c.add_records.new.n ≡ 2304 = ap length c.add_records.ensures.matrix ∙ length-tabulate 2304 _ in
    let room = c.requires.0 in
    let long = matrix-long in
    (room, omega arith)

pub slice_bounds-same_words-end-2 : goal.slice_bounds-same_words-end-2
slice_bounds-same_words-end-2 c =
    let right-long : length c.add_records.new.u ≡ 48 = ap length c.add_records.ensures.right ∙ length-tabulate 48 _ in
    sym right-long

pub same_words-requires-2 : goal.same_words-requires-2
same_words-requires-2 c =
    let right-long : length c.add_records.new.u ≡ 48 = ap length c.add_records.ensures.right ∙ length-tabulate 48 _ in
    let long = right-long in
    (c.requires.0, omega arith)

pub returns : goal.returns
unfolding same_normals book_in
returns c =
    let t = c.args.s.now in
    ap₂ ◌&&◌
    (c.same_words.ensures ∙ compared t matrix_start 2304 _ _ (omega arith) c.add_records.ensures.matrix (length-tabulate 2304 _))
    (c.same_words-2.ensures ∙ compared t right_start 48 _ _ (omega arith) c.add_records.ensures.right (length-tabulate 48 _))
