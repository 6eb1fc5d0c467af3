-- The two laws of the layout: the bytes of a sound book read back as that book and pass what 25 tests; and bytes that pass are those that writing the book
-- in them gives. Bytes beyond a book stay. Assumes nothing.
use Rattle.std.specs.Prelude.{ℕ, ◌<◌, ◌≤◌, ◌≡◌, true, ◌&&◌, leb, length, ℤ, pos}
use Rattle.std.proofs.Math.Path.{sym}
use Rattle.std.proofs.Common.{ap, ◌∙◌, subst, inr, arith, le-leb, leb-true, ext_get_or}
use mathlib.Core.List.{List}
use Rattle.std.proofs.Math.ListN.{get_or}
use Rattle.words.specs.Bools.{and_left, and_right, and_both}
use Rattle.words.specs.Words.{Bytes}
use Rattle.words.specs.SignedLaws.{eq_z_true, eq-eq_z}
use Rattle.words.specs.Runs.{words_at, put_words}
use Rattle.words.specs.RunLaws.{length_words, length_run, run_out, run_back, run_kept}
use Rattle.lists.specs.All.{all_at, all_by}
use Rattle.network.specs.Stations.{coordinates_fit}
use Rattle.network.specs.RuleLaws.{network_few, network-coordinates}
use Rattle.network.specs.declared.Network.{Network}
use Rattle.book.specs.declared.Book.{Book}
use Rattle.book.specs.Book.{sound}
use Rattle.book.specs.Sound.{SoundParts, Sized, sound-parts, parts-sound}
use Rattle.integers.specs.Tables.{length-tabulate}
use Rattle.layout.specs.Layout.{book_words, book_in, book_length, book_bytes}
use Rattle.layout.specs.BookWords.{length_book}
use Rattle.layout.specs.ReadBack.{sound-sized, book_back}
use Rattle.layout.specs.Laid.{sized_in}
use Rattle.layout.specs.RunPatches.{patch-whole}
use Rattle.layout.specs.WordSizes.{book_words-fit}
use Rattle.layout.specs.Bytes.{words_of, book_of, put_book, laid_out, bytes_fit}

-- ════ a book that was read: the lengths of its arrays, and what 25 has shown of it
module _ (s : List ℕ) where
  pub read_sized : Sized (book_of s)
  read_sized = sized_in (words_of s) (length_words s 0 book_length)

  pub read_stations : length (book_of s).network.stations ≡ 32
  unfolding book_in
  read_stations = length-tabulate 32 _

  module _ (e : bytes_fit s ≡ true) where
    parts : (leb book_bytes (length s) ≡ true) × (laid_out s ≡ true) × (sound (book_of s) ≡ true)
    unfolding bytes_fit
    parts =
        let two = and_left (leb book_bytes (length s) && laid_out s) (sound (book_of s)) e in
        (and_left (leb book_bytes (length s)) (laid_out s) two, and_right (leb book_bytes (length s)) (laid_out s) two, and_right (leb book_bytes (length s) && laid_out s) (sound (book_of s)) e)

    pub fits-room : book_bytes ≤ length s
    fits-room = leb-true _ _ parts.0

    pub fits-tested : sound (book_of s) ≡ true
    fits-tested = parts.2

    pub fits-sound : SoundParts (book_of s)
    fits-sound = sound-parts (book_of s) read_sized parts.2

    -- of the station list
    pub fits-network : (net : Network) → net ≡ (book_of s).network → (net.count ≤ 32) × (coordinates_fit net.stations ≡ true)
    fits-network net is =
        let g = fits-sound.network in
        subst (λ (x : Network). (x.count ≤ 32) × (coordinates_fit x.stations ≡ true)) (sym is) (network_few _ g, network-coordinates _ g)

    -- bytes that pass are those that writing gives
    pub fits_words : words_of s ≡ book_words (book_of s)
    fits_words =
        ext_get_or (pos 0) _ _ (length_words s 0 book_length ∙ sym (length_book (book_of s) read_sized))
        (λ k l. eq_z_true _ _ (all_at book_length _ k parts.1 (subst (λ (n : ℕ). k < n) (length_words s 0 book_length) l)))

    pub writes_same : Bytes s → put_book s (book_of s) ≡ s
    writes_same h = ap (put_words s 0) (sym fits_words) ∙ run_kept s 0 book_length h

-- ════ a sound book written to bytes with room for it
module _ (s : List ℕ) (b : Book) (o : SoundParts b) (long : length b.network.stations ≡ 32) (room : book_bytes ≤ length s) where
  words_back : words_of (put_book s b) ≡ book_words b
  words_back =
      subst (λ (n : ℕ). words_at (put_words s 0 (book_words b)) 0 n ≡ book_words b) (length_book b (sound-sized b o))
      (run_back s 0 (book_words b) (omega (arith, length_book b (sound-sized b o))) (book_words-fit b o))

  -- it reads back as that book
  pub writes_reads : book_of (put_book s b) ≡ b
  writes_reads = ap book_in words_back ∙ book_back b o long

  pub writes_fit : bytes_fit (put_book s b) ≡ true
  unfolding bytes_fit
  writes_fit =
      and_both _ _
      (and_both _ _ (le-leb _ _ (subst (λ (n : ℕ). book_bytes ≤ n) (sym (length_run s 0 (book_words b))) room))
      (all_by book_length _ (λ k h. eq-eq_z _ _ (ap (λ (l : List ℤ). get_or l k (pos 0)) (words_back ∙ sym (ap book_words writes_reads))))))
      (ap sound writes_reads ∙ parts-sound b o)

  -- bytes beyond stay
  pub writes_beyond : (j : ℕ) → book_bytes ≤ j → get_or (put_book s b) j 0 ≡ get_or s j 0
  writes_beyond j h = run_out s 0 (book_words b) j (inr (omega (arith, length_book b (sound-sized b o))))

-- a book written over another
pub writes_over : (s : List ℕ) (b b' : Book) → Sized b → Sized b' → book_bytes ≤ length s → put_book (put_book s b) b' ≡ put_book s b'
writes_over s b b' z z' room =
    let l : length (book_words b) ≡ book_length = length_book b z in patch-whole s (book_words b) (book_words b') (l ∙ sym (length_book b' z')) (omega arith)
