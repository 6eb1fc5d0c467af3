-- The core edit: in a sound book one record's share of N and u may be exchanged for another's, and what comes of it is N and u of the
-- changed places, worked out afresh. Assumes nothing.
use Rattle.std.specs.Prelude.{ℕ, ◌<◌, ◌≡◌, true}
use Rattle.std.proofs.Common.{sym, ap, ◌∙◌, subst}
use Rattle.network.specs.Records.{record_at}
use Rattle.network.specs.Rules.{record_fits}
use Rattle.network.specs.declared.Record.{Record}
use Rattle.normals.specs.declared.Normals.{Normals}
use Rattle.normals.specs.ByRules as normals
use Rattle.normals.specs.Exchange.{Exchangeable, exchangeable, exchanged, exchange_N, exchange_u}
use Rattle.book.specs.declared.Book.{Book}
use Rattle.book.specs.Book.{with_record}
use Rattle.book.specs.Sound.{SoundParts}

module _ (b : Book) (o : SoundParts b) where
  pub by_the_rules : normals.ByRules b.network b.places
  by_the_rules = record { network = o.network; each = λ p h. o.records p }

  module _ (p : ℕ) (r : Record) (inside : p < 256) where
    pub may_exchange : record_fits b.network r ≡ true → Exchangeable b.network (record_at b.places p) r b.normals.matrix b.normals.right
    may_exchange fits =
        subst (λ (n : Normals). Exchangeable b.network (record_at b.places p) r n.matrix n.right) (sym o.normals)
        (exchangeable b.network b.places p r by_the_rules inside fits)

    pub exchanged-is : exchanged b.network.stations (record_at b.places p) r b.normals ≡ with_record b p r
    exchanged-is =
        let st = b.network.stations in
        let m = exchange_N st b.places p r inside o.places in
        let u = exchange_u st b.places p r inside o.places in
        ap (exchanged st (record_at b.places p) r) o.normals ∙ (λ i. record { matrix = m i; right = u i })
