-- The words of a sound book are small, so that they fit 64 bits. Assumes nothing.
use Rattle.std.specs.Prelude.{ℕ, zero, suc, ◌+◌, ◌*◌, ◌/◌, ◌%◌, ◌<◌, ◌≤◌, ◌^◌, ◌≡◌, Bool, cond, List, [], ◌∷◌, ◌++◌, ltb, get_or, ℤ}
use Rattle.std.proofs.Common.{zero-le, sym, subst, SFits}
use Rattle.std.proofs.Math.Path.{refl}
use Rattle.std.proofs.Math.Bool.{true, false}
use native.Mathlib.Omega.{arith}
use borrow.Author.Tests.{leb-true, lt-ltb}
use Rattle.std.proofs.Math.Dec.{leb}
use Rattle.std.proofs.Math.IntN.{pos, nat_abs}
use Rattle.std.specs.Int.{w64}
use Rattle.integers.specs.Tables.{Within, within-tabulate}
use Rattle.words.specs.Signed.{index_in, signed}
use Rattle.words.specs.SignedLaws.{index_number}
use Rattle.lists.specs.All.{all_at}
use Rattle.lists.specs.Sizes.{Small, small_at}
use Rattle.lists.specs.Stored.{fits_by}
use Rattle.weights.specs.Ranges.{small-weights}
use Rattle.network.specs.Stations.{station_at, coordinate_in, coordinate, coordinates_fit, network_fits}
use Rattle.network.specs.Records.{record_at, is_empty, observations}
use Rattle.network.specs.Rules.{ends_fit, record_ends_fit, in_range, record_fits}
use Rattle.network.specs.RuleLaws.{network_few, network-coordinates, fits-passed, in_list_lem, from_in_list, to-in_list}
use Rattle.network.specs.Ranges.{baseline_range, height_range, position_range}
use Rattle.network.specs.declared.Kind.{Kind}
use Rattle.network.specs.declared.Kind.TheVariants.{Known, Free, Height}
use Rattle.network.specs.declared.Network.{Network}
use Rattle.network.specs.declared.Record.{Record}
use Rattle.network.specs.declared.Record.TheVariants.{Empty, Baseline as baseline, Height as height, Position as position}
use Rattle.normals.specs.declared.Normals.{Normals}
use Rattle.normals.specs.Formulas.{entry_n, entry_u, matrix_of, right_of}
use Rattle.normals.specs.Sizes.{N_entry, u_entry}
use Rattle.normals.specs.ByRules as normals
use Rattle.book.specs.declared.Reversal.{Reversal}
use Rattle.book.specs.declared.Book.{Book}
use Rattle.book.specs.Journal.{journal_size, free}
use Rattle.book.specs.Sound.{SoundParts}
use Rattle.words.specs.Concat.{concat_below}
use Rattle.network.specs.StationWords.{kind_word, station_words}
use Rattle.network.specs.RecordWords.{record_words}
use Rattle.layout.specs.Layout.{station_part, reversal_words, stations_part, places_part, counts_part, entries_part, book_words, book_length}
use Rattle.layout.specs.BookWords.{length_book}
use Rattle.layout.specs.ReadBack.{Restores, entry_restores, sound-sized}

-- the largest of the limits: that of u
abbrev pub L : ℕ
L = 768000000000

-- ════ lists
small-append : (a b : List ℤ) → Small L a → Small L b → Small L (a ++ b)
small-append [] b p q = q
small-append (x ∷ a) b p q = (p.0, small-append a b p.1 q)

small-concat_below : (n : ℕ) (f : ℕ → List ℤ) → ((k : ℕ) → k < n → Small L (f k)) → Small L (concat_below n f)
unfolding concat_below
small-concat_below zero f h = tt
small-concat_below (suc n) f h = small-append (concat_below n f) (f n) (small-concat_below n f (λ k l. h k (omega arith))) (h n (omega arith))

small_list : (l : List ℤ) → ((k : ℕ) → nat_abs (get_or l k (pos 0)) ≤ L) → Small L l
small_list [] h = tt
small_list (x ∷ l) h = (h 0, small_list l (λ k. h (suc k)))

-- ════ the parts
count_small : (n : ℕ) → n ≤ 256 → nat_abs (signed n) ≤ L
count_small n h = rw (lt-ltb n (2 ^ 63) (omega arith)) (omega arith)

more : {n m : ℕ} → n ≤ m → m ≤ L → n ≤ L
more p q = omega arith

number_small : (v : ℤ) → index_in v 32 < 32 → nat_abs v ≤ L
number_small v h = subst (λ (z : ℤ). nat_abs z ≤ L) (sym (index_number v 32 h)) (omega arith)

module _ (net : Network) (e : network_fits net ≡ true) where
  ends_small : (from to : ℤ) → ends_fit net.count from to ≡ true → (nat_abs from ≤ L) × (nat_abs to ≤ L)
  ends_small from to f =
      let few = network_few net e in
      (number_small from (from_in_list net.count from to few f), number_small to (to-in_list net.count from to few f))

  pub record_small : (r : Record) → record_fits net r ≡ true → Small L (record_words r)
  unfolding record_words record_ends_fit in_range is_empty observations
  record_small Empty f = (zero-le, (zero-le, (zero-le, (zero-le, (zero-le, (zero-le, (zero-le, (zero-le, (zero-le, (zero-le, (zero-le, (zero-le, (zero-le, (zero-le, tt))))))))))))))
  record_small (baseline b) f =
      let o = fits-passed net (baseline b) f refl in
      let g = baseline_range b o.range in
      let w = small-weights g.weights in
      let ends = ends_small b.from b.to o.ends in
      ((omega arith), (ends.0, (ends.1, (more g.east (omega arith), (more g.north (omega arith), (more g.up (omega arith), (more w.ee (omega arith), (more w.en (omega arith), (more w.eu (omega arith), (more w.nn (omega arith), (more w.nu (omega arith), (more w.uu (omega arith), (more g.hf (omega arith), (more g.ht (omega arith), tt))))))))))))))
  record_small (height h) f =
      let o = fits-passed net (height h) f refl in
      let g = height_range h o.range in
      let ends = ends_small h.from h.to o.ends in
      ((omega arith), (ends.0, (ends.1, (zero-le, (zero-le, (more g.up (omega arith), (zero-le, (zero-le, (zero-le, (zero-le, (zero-le, (more g.weight.most (omega arith), (zero-le, (zero-le, tt))))))))))))))
  record_small (position p) f =
      let o = fits-passed net (position p) f refl in
      let g = position_range p o.range in
      let w = small-weights g.weights in
      let at = in_list_lem net.count p.station (network_few net e) o.ends in
      let few = network_few net e in
      ((omega arith), (number_small p.station (omega arith), (zero-le, (more g.east (omega arith), (more g.north (omega arith), (more g.up (omega arith), (more w.ee (omega arith), (more w.en (omega arith), (more w.eu (omega arith), (more w.nn (omega arith), (more w.nu (omega arith), (more w.uu (omega arith), (zero-le, (zero-le, tt))))))))))))))

  reversal_small : (u : Reversal) → Restores net u → Small L (reversal_words u)
  unfolding reversal_words
  reversal_small u o = (count_small u.place (let q = o.inside in omega arith), record_small u.prior o.fits)

  kind_small : (k : Kind) → nat_abs (kind_word k) ≤ L
  unfolding kind_word
  kind_small Known = let h : 1 ≤ L = omega arith in h
  kind_small Free = let h : 2 ≤ L = omega arith in h
  kind_small Height = let h : 3 ≤ L = omega arith in h

  coordinate-small : (s a : ℕ) → s < 32 → a < 3 → nat_abs (coordinate_in (station_at net.stations s) a) ≤ L
  unfolding coordinate coordinates_fit
  coordinate-small s a h l =
      let q : nat_abs (coordinate net.stations (s * 3 + a)) ≤ 500000000 =
      leb-true _ _ (all_at 96 (λ q. leb (nat_abs (coordinate net.stations q)) 500000000) (s * 3 + a) (network-coordinates net e) (omega arith)) in
      let here : (s * 3 + a) / 3 ≡ s = omega arith in
      let part : (s * 3 + a) % 3 ≡ a = omega arith in
      more (subst (λ (k : ℕ). nat_abs (coordinate_in (station_at net.stations s) k) ≤ 500000000) part
      (subst (λ (k : ℕ). nat_abs (coordinate_in (station_at net.stations k) ((s * 3 + a) % 3)) ≤ 500000000) here q)) (omega arith)

  station-small : (s : ℕ) → s < 32 → Small L (station_part net s)
  unfolding station_part station_words coordinate_in
  station-small s h = go (ltb s net.count)
    where
      go : (t : Bool) → Small L (cond t (station_words (station_at net.stations s)) (pos 0 ∷ pos 0 ∷ pos 0 ∷ pos 0 ∷ []))
      go true =
          (kind_small (station_at net.stations s).kind, (coordinate-small s 0 h (omega arith), (coordinate-small s 1 h (omega arith), (coordinate-small s 2 h (omega arith), tt))))
      go false = (zero-le, (zero-le, (zero-le, (zero-le, tt))))

-- ════ a book
module _ (b : Book) (o : SoundParts b) where
  records : normals.ByRules b.network b.places
  records = record { network = o.network; each = λ p h. o.records p }

  matrix_small : Small L b.normals.matrix
  matrix_small =
      subst (λ (n : Normals). Small L n.matrix) (sym o.normals)
      (small_list (matrix_of b.network.stations b.places) (within-tabulate 2304 L (λ k. entry_n b.network.stations b.places (k / 48) (k % 48))
      (λ k h. more (N_entry b.network b.places records (k / 48) (k % 48)) (omega arith))).bound)

  right_small : Small L b.normals.right
  right_small =
      subst (λ (n : Normals). Small L n.right) (sym o.normals)
      (small_list (right_of b.network.stations b.places) (within-tabulate 48 L (entry_u b.network.stations b.places) (λ k h. u_entry b.network b.places records k)).bound)

  words_small : Small L (book_words b)
  unfolding book_words
  words_small =
      let few = network_few b.network o.network in
      let next = o.journal.next in
      let count = o.journal.count in
      let number : 3 ≤ L = omega arith in
      let tail : Small L (entries_part b ++ (b.normals.matrix ++ b.normals.right)) =
      small-append (entries_part b) _ (small-concat_below journal_size _ (λ k h. reversal_small b.network o.network (get_or b.journal.entries k free) (entry_restores b o k h)))
      (small-append b.normals.matrix b.normals.right matrix_small right_small) in
      let counts : Small L (counts_part b ++ (entries_part b ++ (b.normals.matrix ++ b.normals.right))) =
      (count_small b.journal.next (omega arith), (count_small b.journal.count (omega arith), tail)) in (
        number,
        (
          count_small b.network.count (omega arith),
          small-append (stations_part b) _ (small-concat_below 32 _ (λ s h. station-small b.network o.network s h))
              (small-append (places_part b) _ (small-concat_below 256 _ (λ p h. record_small b.network o.network (record_at b.places p) (o.records p))) counts),
        ),
      )

  pub words_within : Within book_length L (book_words b)
  words_within = record { long = length_book b (sound-sized b o); bound = small_at L (book_words b) words_small }

  pub book_words-fit : (i : ℕ) → SFits w64 (get_or (book_words b) i (pos 0))
  book_words-fit i = fits_by (get_or (book_words b) i (pos 0)) (words_within.bound i) tt
