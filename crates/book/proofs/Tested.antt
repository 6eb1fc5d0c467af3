-- The rules tested part by part, in the order of `rules_fit`. Assumes nothing.
use mathlib.Core.Path.{◌≡◌}
use mathlib.Core.Bool.{Bool, true, false, ◌&&◌}
use mathlib.Core.List.{List}
use Rattle.lists.specs.All.{all_below}
use Rattle.network.specs.Stations.{network_fits}
use Rattle.network.specs.Records.{record_at}
use Rattle.network.specs.Rules.{record_fits}
use Rattle.network.specs.declared.Network.{Network}
use Rattle.network.specs.declared.Place.{Place}
use Rattle.book.specs.declared.Journal.{Journal}
use Rattle.book.specs.Journal.{journal_fits, reversals}
use Rattle.book.specs.Book.{undoable}
use Rattle.book.specs.RulesFit.{rules_fit}

module _ (n r j u : Bool) where
  second : n ≡ true → r ≡ false → false ≡ (n && r && j && u)
  second a b = rw (a, b)

  third : n ≡ true → r ≡ true → j ≡ false → false ≡ (n && r && j && u)
  third a b c = rw (a, b, c)

  last : n ≡ true → r ≡ true → j ≡ true → u ≡ (n && r && j && u)
  last a b c = rw (a, b, c)

module _ (net : Network) (places : List Place) (journal : Journal) where
  abbrev pub records : Bool
  records = all_below 256 (λ p. record_fits net (record_at places p))

  abbrev undoes : Bool
  undoes = undoable net (record_at places) (reversals journal)

  pub network_fails : network_fits net ≡ false → false ≡ rules_fit net places journal
  unfolding rules_fit
  network_fails e = rw e

  module _ (n : network_fits net ≡ true) where
    pub records_fail : records ≡ false → false ≡ rules_fit net places journal
    unfolding rules_fit
    records_fail e = second (network_fits net) records (journal_fits journal) undoes n e

    module _ (r : records ≡ true) where
      pub journal_fails : journal_fits journal ≡ false → false ≡ rules_fit net places journal
      unfolding rules_fit
      journal_fails e = third (network_fits net) records (journal_fits journal) undoes n r e

      pub all_but_undoes : journal_fits journal ≡ true → undoes ≡ rules_fit net places journal
      unfolding rules_fit
      all_but_undoes j = last (network_fits net) records (journal_fits journal) undoes n r j
