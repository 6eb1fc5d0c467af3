-- What `sound` says, in parts: a book is sound exactly where each of them holds. Assumes nothing.
use Rattle.std.specs.Prelude.{ℕ, ◌<◌, ◌≡◌, refl, Bool, true, false, not, ◌&&◌, List, ◌∷◌, ltb, length}
use Rattle.std.proofs.Common.{sym, ap, ◌∙◌, arith, ltb-true, lt-ltb}
use Rattle.std.proofs.Math.Decide.{dec_lt}
use Rattle.integers.specs.Tables.{length-tabulate}
use Rattle.words.specs.Bools.{clash, and_left, and_right, and_both}
use Rattle.lists.specs.All.{all_below, all_at, all_by}
use Rattle.network.specs.Units.{most_unknowns, place_count}
use Rattle.network.specs.Stations.{network_fits}
use Rattle.network.specs.Records.{record_at, is_empty}
use Rattle.network.specs.Rules.{record_fits}
use Rattle.network.specs.declared.Network.{Network}
use Rattle.network.specs.declared.Place.{Place}
use Rattle.network.specs.declared.Record.{Record}
use Rattle.normals.specs.Formulas.{normals_of, matrix_length}
use Rattle.normals.specs.Same.{same_normals, same_equal, equal_same}
use Rattle.book.specs.declared.Reversal.{Reversal}
use Rattle.book.specs.declared.Book.{Book}
use Rattle.book.specs.Calls.{changed}
use Rattle.book.specs.Journal.{journal_size, reversals, journal_fits}
use Rattle.book.specs.Book.{undoable, records_fit, sound}
use Rattle.network.specs.RuleLaws.{fits_empty}
use Rattle.book.specs.PlaceLaws.{record_beyond}
use Rattle.book.specs.JournalLaws.{Tidy, fits_tidy, tidy_fits}

-- true of every value: the arrays' lengths
pub record Sized (b : Book) : Type 0 where
  pub places : length b.places ≡ place_count
  pub entries : length b.journal.entries ≡ journal_size
  pub matrix : length b.normals.matrix ≡ matrix_length
  pub right : length b.normals.right ≡ most_unknowns

pub record SoundParts (b : Book) : Type 0 where
  pub network : network_fits b.network ≡ true
  pub records : (p : ℕ) → record_fits b.network (record_at b.places p) ≡ true
  pub journal : Tidy b.journal
  pub undoes : undoable b.network (record_at b.places) (reversals b.journal) ≡ true
  pub normals : b.normals ≡ normals_of b.network.stations b.places
  pub places : length b.places ≡ place_count
  pub entries : length b.journal.entries ≡ journal_size

-- ════ the records
every_record : (net : Network) (l : List Place) → length l ≡ place_count → all_below place_count (λ p. record_fits net (record_at l p)) ≡ true → (p : ℕ) → record_fits net (record_at l p) ≡ true
every_record net l e f p = go (dec_lt p place_count)
  where
    go : Dec (p < place_count) → record_fits net (record_at l p) ≡ true
    go (yes h) = all_at place_count (λ k. record_fits net (record_at l k)) p f h
    go (no h) = ap (record_fits net) (record_beyond l p e (omega arith)) ∙ fits_empty net

-- ════ the journal's reversals, the latest first
pub record Undoes (net : Network) (at : ℕ → Record) (u : Reversal) (h : List Reversal) : Type 0 where
  pub inside : u.place < place_count
  pub fits : record_fits net u.prior ≡ true
  pub real : is_empty (at u.place) && is_empty u.prior ≡ false
  pub rest : undoable net (changed at u.place u.prior) h ≡ true

not-true : (b : Bool) → not b ≡ true → b ≡ false
not-true true e = clash refl (sym e)
not-true false e = refl

pub undoable-first : (net : Network) (at : ℕ → Record) (u : Reversal) (h : List Reversal) → undoable net at (u ∷ h) ≡ true → Undoes net at u h
unfolding undoable
undoable-first net at u h e =
    let three = and_left (ltb u.place place_count && record_fits net u.prior && not (is_empty (at u.place) && is_empty u.prior)) _ e in
    let two = and_left (ltb u.place place_count && record_fits net u.prior) _ three in
    record {
      inside = ltb-true _ _ (and_left (ltb u.place place_count) _ two);
      fits = and_right (ltb u.place place_count) _ two;
      real = not-true _ (and_right (ltb u.place place_count && record_fits net u.prior) _ three);
      rest = and_right (ltb u.place place_count && record_fits net u.prior && not (is_empty (at u.place) && is_empty u.prior)) _ e;
    }

pub first-undoable : (net : Network) (at : ℕ → Record) (u : Reversal) (h : List Reversal) → Undoes net at u h → undoable net at (u ∷ h) ≡ true
unfolding undoable
first-undoable net at u h o =
    and_both _ _ (and_both _ _ (and_both _ _ (lt-ltb u.place place_count o.inside) o.fits) (ap not o.real)) o.rest

-- ════ both ways
-- what `sound` tests, one by one
pub record Tested (b : Book) : Type 0 where
  pub network : network_fits b.network ≡ true
  pub records : all_below place_count (λ p. record_fits b.network (record_at b.places p)) ≡ true
  pub journal : journal_fits b.journal ≡ true
  pub undoes : undoable b.network (record_at b.places) (reversals b.journal) ≡ true
  pub normals : same_normals b.normals (normals_of b.network.stations b.places) ≡ true

pub tested : (b : Book) → sound b ≡ true → Tested b
unfolding sound records_fit
tested b e =
    let n = network_fits b.network in
    let r = all_below place_count (λ p. record_fits b.network (record_at b.places p)) in
    let j = journal_fits b.journal in
    let u = undoable b.network (record_at b.places) (reversals b.journal) in
    let four : n && r && j && u ≡ true = and_left _ _ e in
    let three : n && r && j ≡ true = and_left _ _ four in
    let two : n && r ≡ true = and_left _ _ three in
    record { network = and_left n r two; records = and_right n r two; journal = and_right (n && r) j three; undoes = and_right (n && r && j) u four; normals = and_right (n && r && j && u) _ e }

pub sound-parts : (b : Book) → Sized b → sound b ≡ true → SoundParts b
sound-parts b z e =
    let t = tested b e in
    record {
      network = t.network;
      records = every_record b.network b.places z.places t.records;
      journal = fits_tidy b.journal t.journal;
      undoes = t.undoes;
      normals =
          same_equal b.normals (normals_of b.network.stations b.places) (record { matrix = z.matrix; right = z.right })
          (record { matrix = length-tabulate matrix_length _; right = length-tabulate most_unknowns _ }) t.normals;
      places = z.places;
      entries = z.entries;
    }

pub parts-sound : (b : Book) → SoundParts b → sound b ≡ true
unfolding sound records_fit
parts-sound b o =
    and_both _ _
    (and_both _ _
    (and_both _ _ (and_both _ _ o.network (all_by place_count (λ p. record_fits b.network (record_at b.places p)) (λ p h. o.records p))) (tidy_fits b.journal o.journal))
    o.undoes)
    (equal_same b.normals (normals_of b.network.stations b.places) o.normals)
