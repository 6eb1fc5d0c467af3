-- `exchange_of` makes the equations of both records, which are by the rules. Assumes nothing.
use Rattle.network.specs.RuleLaws.{SoundStations, SoundRecord, sound-stations, sound_record}
use Rattle.normals.specs.Shares.{is-observed}
use Rattle.normals.proofs.shares.exchange_of.Goals as goal

pub equation_over-off-requires : goal.equation_over-off-requires
equation_over-off-requires c =
    let stations : SoundStations c.args.net.stations = sound-stations c.args.net c.requires.0 in
    let old : SoundRecord c.args.net.stations c.args.old = sound_record c.args.net c.args.old c.requires.0 c.requires.1 in
    (rw c.coordinates_of-coordinate.ensures (is-observed _ stations _ old), c.coordinates_of-coordinate.ensures)

pub equation_over-on-requires : goal.equation_over-on-requires
equation_over-on-requires c =
    let stations : SoundStations c.args.net.stations = sound-stations c.args.net c.requires.0 in
    let new : SoundRecord c.args.net.stations c.args.new = sound_record c.args.net c.args.new c.requires.0 c.requires.2 in
    (rw c.coordinates_of-coordinate.ensures (is-observed _ stations _ new), c.coordinates_of-coordinate.ensures)

pub returns : goal.returns
returns c = λ i. record { off = c.equation_over-off.ensures i; on = c.equation_over-on.ensures i }
