-- Laws of salvage: the fresh file reads and has the kept words (`fresh_reads`, `fresh_entries`), an undamaged file comes out unchanged with no skipped run (`undamaged`,
-- `undamaged_skipped`), and how much room is always enough (`room-enough`). Assumes nothing.
use Rattle.salvage.specs.Statements.{starts_from}
use Rattle.files.specs.Statements.{AllFit}
use Rattle.std.specs.Prelude.{ℕ, zero, suc, ◌+◌, ◌*◌, ◌/◌, ◌<◌, ◌≤◌, ◌^◌, ◌≡◌, refl, true, ◌&&◌, List, [], ◌∷◌, ◌++◌, leb, length, get_or, take, drop, ℤ, pos}
use Rattle.std.proofs.Common.{sym, ◌∙◌, arith, le-leb, leb-true, length-append, drop_at, SFits}
use Rattle.std.proofs.Math.Path.{ap}
use Rattle.std.proofs.Math.Decide.{dec_lt}
use Rattle.std.specs.Int.{w64}
use Rattle.words.specs.Bools.{and_both}
use Rattle.words.specs.Words.{Bytes}
use Rattle.words.specs.Signed.{signed}
use Rattle.words.specs.Runs.{words_at, put_words}
use Rattle.words.specs.RunLaws.{length_words, run_back}
use Rattle.files.specs.EntryLaws.{all_three, linked_right, signed_any, fits-none, fits_cons}
use Rattle.files.specs.Bytes.{bytes_of}
use Rattle.files.specs.BytesLaws.{bytes_small, length_bytes, run_bytes}
use Rattle.files.specs.Files.{file_words, file_of, right_at, linked_at, reads, entries_from, entries_of}
use Rattle.files.proofs.FileLaws.{fit_long, linked_next, reads_whole, read_fits, read_written, written-reads, written-entries, length_file, put_file, file_front}
use Rattle.std.specs.Prelude.{Ok}
use Rattle.salvage.specs.declared.SalvageCounts.{SalvageCounts}
use Rattle.salvage.specs.Salvage.{kept_at, kept_from, kept_starts, entries_at, kept_entries, fresh_file, run_between, runs_between, skipped_runs, kept_pairs, pair_words, salvage_counts, room_for, fresh_left}
use Rattle.salvage.proofs.ScanLaws.{kept-apart, apart-room, kept-each_right, scan-keep, scan_end, run_one, run_none}

-- ════ how much there is
pub kept_few : (f : List ℕ) → 128 * length (kept_starts f) ≤ length f
kept_few f = omega (arith, apart-room 0 (kept_starts f) (length f) (kept-apart f 0 (omega arith)))

pub run_few : (a b : ℕ) → length (run_between a b) ≤ 1
run_few a b = go (dec_lt a b)
  where
    go : Dec (a < b) → length (run_between a b) ≤ 1
    go (yes h) = rw (run_one a b h) (omega arith)
    go (no h) = rw (run_none a b (omega arith)) (omega arith)

-- a run before each entry kept, and one behind the last, at most
pub runs_few : (from : ℕ) (ks : List ℕ) (end : ℕ) → length (runs_between from ks end) ≤ suc (length ks)
unfolding runs_between
runs_few from [] end = run_few from end
runs_few from (k ∷ ks) end =
    omega (arith, length-append (run_between from k) (runs_between (k + 128) ks end), run_few from k, runs_few (k + 128) ks end)

pub room-each : (n : SalvageCounts) (fresh skipped kept : ℕ) → room_for n fresh skipped kept ≡ true → (128 * n.kept ≤ fresh) × (16 * n.skipped ≤ skipped) × (16 * n.kept ≤ kept)
unfolding room_for
room-each n fresh skipped kept e =
    let t = all_three (leb (128 * n.kept) fresh) (leb (16 * n.skipped) skipped) (leb (16 * n.kept) kept) e in
    (leb-true _ _ t.0, leb-true _ _ t.1, leb-true _ _ t.2)

-- as many bytes as the input has, and in each list a pair for each whole 128 of them and one more, are always enough
pub room-enough : (f : List ℕ) (fresh skipped kept : ℕ) → length f ≤ fresh → 16 * (length f / 128 + 1) ≤ skipped → 16 * (length f / 128 + 1) ≤ kept
    → room_for (salvage_counts f) fresh skipped kept ≡ true
unfolding room_for
room-enough f fresh skipped kept h l m =
    let few = kept_few f in
    let runs = runs_few 0 (kept_starts f) (length f) in
    and_both (leb (128 * length (kept_starts f)) fresh && leb (16 * length (skipped_runs f)) skipped) (leb (16 * length (kept_starts f)) kept)
    (and_both (leb (128 * length (kept_starts f)) fresh) (leb (16 * length (skipped_runs f)) skipped) (le-leb (128 * length (kept_starts f)) fresh (omega arith)) (le-leb (16 * length (skipped_runs f)) skipped (omega arith)))
    (le-leb (16 * length (kept_starts f)) kept (omega arith))

-- ════ the fresh file
length_at : (f ks : List ℕ) → length (entries_at f ks) ≡ length ks
unfolding entries_at
length_at f [] = refl
length_at f (k ∷ ks) = ap suc (length_at f ks)

pub length-kept : (f : List ℕ) → length (kept_entries f) ≡ length (kept_starts f)
length-kept f = length_at f (kept_starts f)

all_fit : (f ks : List ℕ) → Bytes f → ((i : ℕ) → i < length ks → right_at f (get_or ks i 0) ≡ true) → AllFit (entries_at f ks)
unfolding entries_at
all_fit f [] b s i h = absurd (omega arith)
all_fit f (k ∷ ks) b s zero h = read_fits f k b (s 0 (omega arith))
all_fit f (k ∷ ks) b s (suc i) h = all_fit f ks b (λ j l. s (suc j) (omega arith)) i (omega arith)

pub kept-fit : (f : List ℕ) → Bytes f → AllFit (kept_entries f)
kept-fit f b = all_fit f (kept_starts f) b (kept-each_right f 0)

-- what is written always reads
pub fresh_reads : (f : List ℕ) → Bytes f → length f < 2 ^ 64 → reads (fresh_file f) ≡ true
fresh_reads f b h = written-reads (kept_entries f) (kept-fit f b) (omega (arith, kept_few f, length-kept f))

-- and its entries are the kept thirteen words, in their order
pub fresh_entries : (f : List ℕ) → Bytes f → entries_of (fresh_file f) ≡ kept_entries f
fresh_entries f b = written-entries (kept_entries f) (kept-fit f b)

-- the lent bytes start with the fresh file, and those beyond stay
module _ (f : List ℕ) (b : Bytes f) (n : SalvageCounts) (before : List ℕ) (room : 128 * length (kept_starts f) ≤ length before) where
  fresh_in : fresh_left (Ok n) f before ≡ fresh_file f ++ drop (128 * length (kept_entries f)) before
  unfolding fresh_left
  fresh_in = put_file before (kept_entries f) (fit_long (kept_entries f) (kept-fit f b)) (omega (arith, length-kept f))

  pub fresh_front : take (128 * length (kept_entries f)) (fresh_left (Ok n) f before) ≡ fresh_file f
  fresh_front =
      ap (take (128 * length (kept_entries f))) fresh_in
      ∙ file_front (kept_entries f) (drop (128 * length (kept_entries f)) before) (fit_long (kept_entries f) (kept-fit f b))

  pub fresh-beyond : drop (128 * length (kept_entries f)) (fresh_left (Ok n) f before) ≡ drop (128 * length (kept_entries f)) before
  fresh-beyond =
      ap (drop (128 * length (kept_entries f))) fresh_in
      ∙ drop_at (fresh_file f) (drop (128 * length (kept_entries f)) before) (128 * length (kept_entries f)) (length_file (kept_entries f) (fit_long (kept_entries f) (kept-fit f b)))

-- ════ a list of pairs in lent bytes: its words read back, and the bytes beyond them stay
pairs_fit : (ps : List (ℕ × ℕ)) (i : ℕ) → SFits w64 (get_or (pair_words ps) i (pos 0))
unfolding pair_words
pairs_fit [] = fits-none
pairs_fit (p ∷ ps) =
    fits_cons (signed p.0) (signed p.1 ∷ pair_words ps) (signed_any p.0) (fits_cons (signed p.1) (pair_words ps) (signed_any p.1) (pairs_fit ps))

pub length_pairs : (ps : List (ℕ × ℕ)) → length (pair_words ps) ≡ 2 * length ps
unfolding pair_words
length_pairs [] = refl
length_pairs (p ∷ ps) = omega (arith, length_pairs ps)

module _ (before : List ℕ) (ps : List (ℕ × ℕ)) (room : 16 * length ps ≤ length before) where
  pub pairs_back : words_at (put_words before 0 (pair_words ps)) 0 (2 * length ps) ≡ pair_words ps
  pairs_back =
      let l = length_pairs ps in
      ap (words_at (put_words before 0 (pair_words ps)) 0) (sym l) ∙ run_back before 0 (pair_words ps) (omega arith) (pairs_fit ps)

  pub pairs_beyond : drop (16 * length ps) (put_words before 0 (pair_words ps)) ≡ drop (16 * length ps) before
  pairs_beyond =
      let l = length_pairs ps in
      let z : 0 + 8 * length (pair_words ps) ≡ 16 * length ps = omega arith in
      let n : length (bytes_of (pair_words ps)) ≡ 16 * length ps = length_bytes (pair_words ps) ∙ omega arith in
      ap (drop (16 * length ps)) (run_bytes before 0 (pair_words ps) (omega arith) ∙ ap (λ (k : ℕ). bytes_of (pair_words ps) ++ drop k before) z)
      ∙ drop_at (bytes_of (pair_words ps)) (drop (16 * length ps) before) (16 * length ps) n

pub length-kept_pairs : (new : ℕ) (ks : List ℕ) → length (kept_pairs new ks) ≡ length ks
unfolding kept_pairs
length-kept_pairs new [] = refl
length-kept_pairs new (k ∷ ks) = ap suc (length-kept_pairs (new + 128) ks)

-- ════ an undamaged file
linked_kept : (f : List ℕ) (at : ℕ) → at + 128 ≤ length f → linked_at f at ≡ true → kept_at f at ≡ true
unfolding kept_at linked_at right_at
linked_kept f at h g = and_both (leb (at + 128) (length f)) (right_at f at) (le-leb _ _ h) (linked_right at (words_at f at 16) (length_words f at 16) g)

all_kept : (f : List ℕ) (at n : ℕ) → length f ≡ at + 128 * n → ((i : ℕ) → i < n → linked_at f (at + 128 * i) ≡ true) → kept_from f at ≡ starts_from at n
unfolding starts_from
all_kept f at zero e g = scan_end f at (omega arith)
all_kept f at (suc n) e g =
    let here : at + 128 * 0 ≡ at = omega arith in
    let first : linked_at f at ≡ true = rw here at (g 0 (omega arith)) in
    scan-keep f at (linked_kept f at (omega arith) first) ∙ ap (λ (l : List ℕ). at ∷ l) (all_kept f (at + 128) n (omega arith) (linked_next f at n g))

all_words_lem : (f : List ℕ) (at n : ℕ) → entries_at f (starts_from at n) ≡ entries_from f at n
unfolding entries_at starts_from entries_from
all_words_lem f at zero = refl
all_words_lem f at (suc n) = ap (λ (l : List (List ℤ)). words_at f at 13 ∷ l) (all_words_lem f (at + 128) n)

no_runs : (at n end : ℕ) → end ≡ at + 128 * n → runs_between at (starts_from at n) end ≡ []
unfolding runs_between starts_from
no_runs at zero end e = run_none at end (omega arith)
no_runs at (suc n) end e =
    ap (λ (l : List (ℕ × ℕ)). l ++ runs_between (at + 128) (starts_from (at + 128) n) end) (run_none at at (omega arith)) ∙ no_runs (at + 128) n end (omega arith)

-- "An undamaged file comes out unchanged with no skipped run": one that reads
module _ (f : List ℕ) (whole : reads f ≡ true) where
  pub undamaged-kept : kept_starts f ≡ starts_from 0 (length f / 128)
  undamaged-kept =
      let w = reads_whole f whole in
      all_kept f 0 (length f / 128) (omega (arith, w.whole)) (λ i h. let q : 128 * i ≡ 0 + 128 * i = omega arith in rw q at (w.linked i h))

  pub undamaged_skipped : skipped_runs f ≡ []
  undamaged_skipped =
      let w = reads_whole f whole in
      ap (λ (ks : List ℕ). runs_between 0 ks (length f)) undamaged-kept ∙ no_runs 0 (length f / 128) (length f) (omega (arith, w.whole))

  pub undamaged : Bytes f → fresh_file f ≡ f
  unfolding entries_of
  undamaged b = ap file_of (ap (entries_at f) undamaged-kept ∙ all_words_lem f 0 (length f / 128)) ∙ read_written f b whole

-- so that what is salvaged once more is as it was
pub fresh_again : (f : List ℕ) → Bytes f → length f < 2 ^ 64 → fresh_file (fresh_file f) ≡ fresh_file f
unfolding file_of
fresh_again f b h = undamaged (fresh_file f) (fresh_reads f b h) (bytes_small (file_words 0 (kept_entries f)))
