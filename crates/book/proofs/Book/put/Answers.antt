-- `Book::put`: in a sound book the shares may be exchanged, and N and u are then those of the places with the record.
use Rattle.std.proofs.Common.{rules, ◌≡◌, ap, ◌∙◌, set}
use Rattle.lists.specs.Filling.{length_mapped}
use Rattle.network.specs.Records.{record_at}
use Rattle.normals.specs.declared.Normals.{Normals}
use Rattle.normals.specs.Exchange.{exchanged}
use Rattle.book.specs.Sound.{SoundParts, sound-parts}
use Rattle.book.specs.Exchanged.{may_exchange, exchanged-is}
use Rattle.book.proofs.Book.put.Goals as goal

pub exchange_shares-requires : goal.exchange_shares-requires
exchange_shares-requires c =
    let o : SoundParts c.args.self.now = sound-parts _ (record { places = search (rules, length_mapped); entries = search (rules, length_mapped); matrix = search rules; right = search rules }) c.requires.2 in
    may_exchange c.args.self.now o _ _ c.requires.0 c.requires.1

pub returns : goal.returns
returns c =
    let b = c.args.self.now in
    let i = c.args.i in
    let r = c.args.r in
    let o : SoundParts b = sound-parts _ (record { places = search (rules, length_mapped); entries = search (rules, length_mapped); matrix = search rules; right = search rules }) c.requires.2 in
    let done : record { matrix = c.exchange_shares.new.n; right = c.exchange_shares.new.u } ≡ exchanged b.network.stations (record_at b.places i) r b.normals =
    λ k. record { matrix = c.exchange_shares.ensures.matrix k; right = c.exchange_shares.ensures.right k }
    in
    ap (λ (n : Normals). record { network = b.network; places = set b.places i (record { entry = r }); journal = c.args.journal; normals = n })
    (done ∙ exchanged-is b o i r c.requires.0)
