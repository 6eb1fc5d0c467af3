-- The book that an accepted opening gives is sound: no records, so N and u are 0. Assumes nothing.
use Rattle.std.specs.Prelude.{ℕ, zero, suc, ◌≡◌, refl, true, replicate}
use Rattle.std.proofs.Common.{sym, ap, subst, arith}
use Rattle.std.proofs.lemmas.List.{length-replicate, get_or-replicate}
use Rattle.network.specs.Stations.{network_fits}
use Rattle.network.specs.Records.{vacant, record_at, is_empty, observations}
use Rattle.network.specs.Rules.{record_fits}
use Rattle.network.specs.declared.Network.{Network}
use Rattle.network.specs.declared.Record.{Record}
use Rattle.network.specs.declared.Record.TheVariants.{Empty}
use Rattle.normals.specs.Formulas.{normals_of}
use Rattle.normals.specs.Blank.{blank_normals, blank_is}
use Rattle.book.specs.Journal.{journal_size, free, entries_before, is_free}
use Rattle.book.specs.Book.{opened_book}
use Rattle.network.specs.RuleLaws.{fits_empty}
use Rattle.book.specs.Sound.{SoundParts}
use Rattle.book.specs.SoundLaws.{undoable-none}

pub empty_at : (n k : ℕ) → record_at (replicate n vacant) k ≡ Empty
empty_at zero k = refl
empty_at (suc n) zero = refl
empty_at (suc n) (suc k) = empty_at n k

-- N and u of no records
pub normals_none : (net : Network) → (opened_book net).normals ≡ normals_of net.stations (replicate 256 vacant)
unfolding blank_normals
normals_none net = blank_is net.stations (replicate 256 vacant) (λ p h. empty_at 256 p)

pub sound-opened : (net : Network) → network_fits net ≡ true → SoundParts (opened_book net)
unfolding entries_before is_free is_empty observations
sound-opened net g =
    record {
      network = g;
      records = λ p. subst (λ (r : Record). record_fits net r ≡ true) (sym (empty_at 256 p)) (fits_empty net);
      journal = record { next = omega arith; count = omega arith; blank = λ slot h q. ap is_free (get_or-replicate journal_size slot free free h) };
      undoes = undoable-none net (record_at (replicate 256 vacant));
      normals = normals_none net;
      places = length-replicate 256 vacant;
      entries = length-replicate journal_size free;
    }
