-- A whole book: judged from its parts, and written part by part. Assumes nothing.
use Prim.Native.Nat.{ℕ, ◌+◌, ◌*◌, ◌<◌, ◌≤◌}
use mathlib.Core.Path.{◌≡◌, sym, ap, ◌∙◌}
use mathlib.Core.Bool.{Bool, true, false, ◌&&◌}
use mathlib.Core.List.{List, ◌++◌}
use native.Mathlib.Omega.{arith}
use borrow.Author.Tests.{le-leb, lt-leb}
use lib.Dec.{leb}
use lib.ListN.{length}
use lib.IntN.{ℤ}
use Rattle.words.specs.Bools.{and_no_left, and_no_right}
use Rattle.words.specs.Runs.{put_words}
use Rattle.book.specs.declared.Book.{Book}
use Rattle.book.specs.Book.{sound}
use Rattle.book.specs.Sound.{Sized}
use Rattle.layout.specs.Layout.{head_words, stations_part, places_part, counts_part, entries_part, book_words, places_start, counts_start, entries_start, matrix_start, right_start, book_bytes, stations_start}
use Rattle.layout.specs.BookWords.{tail, length-stations, length-places_part, length-entries}
use Rattle.layout.specs.Bytes.{book_of, put_book, laid_out, bytes_fit}
use Rattle.layout.specs.RunPatches.{run_append}

-- ════ judged
pub judged_short : (s : List ℕ) → length s < book_bytes → false ≡ bytes_fit s
unfolding bytes_fit
judged_short s h = sym (and_no_left (leb book_bytes (length s) && laid_out s) (sound (book_of s)) (and_no_left (leb book_bytes (length s)) (laid_out s) (lt-leb book_bytes (length s) h)))

pub judged_odd : (s : List ℕ) → laid_out s ≡ false → false ≡ bytes_fit s
unfolding bytes_fit
judged_odd s e = sym (and_no_left (leb book_bytes (length s) && laid_out s) (sound (book_of s)) (and_no_right (leb book_bytes (length s)) (laid_out s) e))

pub judged : (s : List ℕ) (t : Bool) → book_bytes ≤ length s → laid_out s ≡ true → t ≡ sound (book_of s) → t ≡ bytes_fit s
unfolding bytes_fit
judged s t h e q = q ∙ sym (rw (le-leb book_bytes (length s) h, e))

-- ════ written
next : (t u : List ℕ) (at n : ℕ) (a c : List ℤ) → at + 8 * length a ≡ n → u ≡ put_words t at a → put_words t at (a ++ c) ≡ put_words u n c
next t u at n a c e p = run_append t at a c ∙ ap (λ (k : ℕ). put_words (put_words t at a) k c) e ∙ ap (λ (x : List ℕ). put_words x n c) (sym p)

pub joined : (b : Book) (z : Sized b) (s s₁ s₂ s₃ s₄ s₅ s₆ : List ℕ) → s₁ ≡ put_words s 0 (head_words b) → s₂ ≡ put_words s₁ (8 * stations_start) (stations_part b) → s₃ ≡ put_words s₂ (8 * places_start) (places_part b)
    → s₄ ≡ put_words s₃ (8 * counts_start) (counts_part b) → s₅ ≡ put_words s₄ (8 * entries_start) (entries_part b) → s₆ ≡ put_words (put_words s₅ (8 * matrix_start) b.normals.matrix) (8 * right_start) b.normals.right → s₆ ≡ put_book s b
unfolding book_words
joined b z s s₁ s₂ s₃ s₄ s₅ s₆ p₁ p₂ p₃ p₄ p₅ p₆ =
    let m = b.normals.matrix in
    let u = b.normals.right in
    p₆
    ∙ ap (λ (k : ℕ). put_words (put_words s₅ (8 * matrix_start) m) k u) (let l = z.matrix in let e : 8 * right_start ≡ 8 * matrix_start + 8 * length m = omega arith in e)
    ∙ sym (next s s₁ 0 (8 * stations_start) (head_words b) (stations_part b ++ (places_part b ++ tail b z)) (let e : 0 + 8 * 2 ≡ 8 * stations_start = omega arith in e) p₁
    ∙ next s₁ s₂ (8 * stations_start) (8 * places_start) (stations_part b) (places_part b ++ tail b z) (let l = length-stations b z in omega arith) p₂
    ∙ next s₂ s₃ (8 * places_start) (8 * counts_start) (places_part b) (tail b z) (let l = length-places_part b z in omega arith) p₃
    ∙ next s₃ s₄ (8 * counts_start) (8 * entries_start) (counts_part b) (entries_part b ++ (m ++ u)) (let e : 8 * counts_start + 8 * 2 ≡ 8 * entries_start = omega arith in e) p₄
    ∙ next s₄ s₅ (8 * entries_start) (8 * matrix_start) (entries_part b) (m ++ u) (let l = length-entries b z in omega arith) p₅
    ∙ run_append s₅ (8 * matrix_start) m u)
