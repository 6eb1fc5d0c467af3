-- What 25 tests of a book's value before it comes to N and u: the station list, the records, the journal and what it would restore, each by the rules. Assumes nothing.
use Rattle.std.specs.Prelude.{◌≡◌, Bool, true, false, ◌&&◌, List}
use Rattle.std.proofs.Math.Path.{sym}
use Rattle.std.proofs.Common.{ap}
use Rattle.words.specs.Bools.{and_left, and_right}
use Rattle.lists.specs.All.{all_below, all_at}
use Rattle.network.specs.Stations.{network_fits}
use Rattle.network.specs.Records.{record_at}
use Rattle.network.specs.Rules.{record_fits}
use Rattle.network.specs.declared.Network.{Network}
use Rattle.network.specs.declared.Place.{Place}
use Rattle.normals.specs.Formulas.{normals_of}
use Rattle.normals.specs.Same.{same_normals}
use Rattle.normals.specs.ByRules as normals
use Rattle.book.specs.declared.Journal.{Journal}
use Rattle.book.specs.declared.Book.{Book}
use Rattle.book.specs.Journal.{journal_fits, reversals}
use Rattle.book.specs.Book.{undoable, records_fit, sound}

unfoldable pub rules_fit : Network → List Place → Journal → Bool
rules_fit net places journal =
    network_fits net && all_below 256 (λ p. record_fits net (record_at places p)) && journal_fits journal && undoable net (record_at places) (reversals journal)

-- a book whose rules fail is not sound, and one whose rules hold is sound where N and u are those of the records
module _ (b : Book) where
  pub rules_fail : rules_fit b.network b.places b.journal ≡ false → false ≡ sound b
  unfolding sound records_fit rules_fit
  rules_fail e = sym (ap (λ (t : Bool). t && same_normals b.normals (normals_of b.network.stations b.places)) e)

  pub rules_hold : rules_fit b.network b.places b.journal ≡ true → same_normals b.normals (normals_of b.network.stations b.places) ≡ sound b
  unfolding sound records_fit rules_fit
  rules_hold e = sym (ap (λ (t : Bool). t && same_normals b.normals (normals_of b.network.stations b.places)) e)

-- the records are by the rules
pub by_rules : (net : Network) (places : List Place) (journal : Journal) → rules_fit net places journal ≡ true → normals.ByRules net places
unfolding rules_fit
by_rules net places journal e =
    let n = network_fits net in
    let r = all_below 256 (λ p. record_fits net (record_at places p)) in
    let two : n && r ≡ true = and_left (n && r) (journal_fits journal) (and_left (n && r && journal_fits journal) _ e) in
    record { network = and_left n r two; each = λ p h. all_at 256 (λ k. record_fits net (record_at places k)) p (and_right n r two) h }
