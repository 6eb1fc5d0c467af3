-- The number of an edit, from what the code of a call has at hand: the station list, the edit, and what its place holds. 9 is left out, since on a
-- sound book it never comes. Assumes nothing.
use Rattle.std.specs.Prelude.{ℕ, ◌≡◌, refl, true, ℤ}
use Rattle.words.specs.Signed.{index_in}
use Rattle.network.specs.Stations.{network_fits}
use Rattle.network.specs.Records.{record_at}
use Rattle.network.specs.Rules.{record_no, record_fits}
use Rattle.network.specs.declared.Network.{Network}
use Rattle.network.specs.declared.Record.{Record}
use Rattle.book.specs.declared.Book.{Book}
use Rattle.book.specs.declared.Change.{Change}
use Rattle.book.specs.declared.Change.TheVariants.{Enter, Strike}
use Rattle.book.specs.declared.Call.TheVariants.{Edit}
use Rattle.book.specs.Calls.{place_of, first, place_no, empty_no, change_no, call_no}
use Rattle.book.specs.Book.{book_says}
use Rattle.book.specs.Sound.{SoundParts}
use Rattle.book.specs.SizeLaws.{untested}

-- the number of a change to a place that holds q, 9 left out
unfoldable pub change_no_of : Network → Record → Change → ℕ
change_no_of net q (Enter r) = record_no net r
change_no_of net q Strike = empty_no q

-- over records by the rules it is that of the table
pub change-number : (net : Network) (at : ℕ → Record) → network_fits net ≡ true → ((k : ℕ) → record_fits net (at k) ≡ true) → (p : ℕ) (c : Change) → change_no_of net (at p) c ≡ change_no net at p c
unfolding change_no_of change_no
change-number net at g each p (Enter r) = untested net at g each p r _ refl
change-number net at g each p Strike = refl

-- so the code's number, of its own list, place, index and record, is the book's
pub edit_number : (b : Book) → SoundParts b → (net : Network) (p p' : ℤ) (c : Change) (i n : ℕ) (current : Record) → net ≡ b.network → p' ≡ p → i ≡ index_in p' 256 → current ≡ record_at b.places i
    → n ≡ first (place_no p') (change_no_of net current c) → n ≡ book_says b (Edit p c)
unfolding call_no
edit_number b o net p p' c i n current is same at holds e = cc (change-number b.network (record_at b.places) o.network o.records (place_of p) c)
