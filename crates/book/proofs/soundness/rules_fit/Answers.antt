-- `rules_fit`, test by test in the order of `rules_fit`: the first that fails settles it, and each stands on those before it. Assumes nothing.
use mathlib.Core.Path.{◌≡◌, sym, ap, ◌∙◌}
use mathlib.Core.Bool.{true}
use mathlib.Core.List.{List}
use Rattle.network.specs.Stations.{network_fits}
use Rattle.network.specs.Records.{record_at}
use Rattle.network.specs.declared.Network.{Network}
use Rattle.network.specs.Places.{places_in}
use Rattle.network.specs.declared.Place.{Place}
use Rattle.book.specs.Journal.{journal_fits, reversals}
use Rattle.book.specs.Book.{undoable}
use Rattle.book.specs.JournalLaws.{fits_tidy}
use Rattle.book.proofs.Tested.{records, network_fails, records_fail, journal_fails, all_but_undoes}
use Rattle.book.proofs.soundness.rules_fit.Goals as goal

pub returns-in_default : goal.returns-in_default
returns-in_default c = network_fails c.args.network (places_in c.args.places.now) c.args.journal c.in_default.ensures

pub returns-then-not-records_fit : goal.returns-then-not-records_fit
returns-then-not-records_fit c =
    let places : List Place = places_in c.args.places.now in
    let same : c.in-Some.rules.network ≡ c.args.network = c.in-Some.ensures in
    let network-true : network_fits c.args.network ≡ true = rw (← same) c.in-Some.rules.network_by_rules in
    records_fail c.args.network places c.args.journal network-true
    (sym (c.records_fit.ensures ∙ ap (λ (n : Network). records n places c.args.journal) same) ∙ c.if-not-records_fit.true)

pub returns-then-not-journal_fits : goal.returns-then-not-journal_fits
returns-then-not-journal_fits c =
    let places : List Place = places_in c.args.places.now in
    let same : c.in-Some.rules.network ≡ c.args.network = c.in-Some.ensures in
    let network-true : network_fits c.args.network ≡ true = rw (← same) c.in-Some.rules.network_by_rules in
    let records-true : records c.args.network places c.args.journal ≡ true =
    sym (c.records_fit.ensures ∙ ap (λ (n : Network). records n places c.args.journal) same) ∙ c.if-not-records_fit.false in
    journal_fails c.args.network places c.args.journal network-true records-true (sym c.journal_fits.ensures ∙ c.if-not-journal_fits.true)

pub can_undo-requires : goal.can_undo-requires
can_undo-requires c =
    let journal-true : journal_fits c.args.journal ≡ true = sym c.journal_fits.ensures ∙ c.if-not-journal_fits.false in
    (c.requires, (fits_tidy _ journal-true).next)

pub returns : goal.returns
returns c =
    let places : List Place = places_in c.args.places.now in
    let same : c.in-Some.rules.network ≡ c.args.network = c.in-Some.ensures in
    let network-true : network_fits c.args.network ≡ true = rw (← same) c.in-Some.rules.network_by_rules in
    let records-true : records c.args.network places c.args.journal ≡ true =
    sym (c.records_fit.ensures ∙ ap (λ (n : Network). records n places c.args.journal) same) ∙ c.if-not-records_fit.false in
    let journal-true : journal_fits c.args.journal ≡ true = sym c.journal_fits.ensures ∙ c.if-not-journal_fits.false in
    c.can_undo.ensures
    ∙ ap (λ (n : Network). undoable n (record_at places) (reversals c.args.journal)) same
    ∙ all_but_undoes c.args.network places c.args.journal network-true records-true journal-true
