-- Lengths that do not fit leave x and m as they came; else a book that bytes hold has at most 48 unknowns (`few`), which is what `propose_beside` asks.
use native.Mathlib.Omega.{arith}
use Rattle.std.proofs.Common.{◌≤◌, arith}
use Rattle.network.specs.RuleLaws.{sound-stations}
use Rattle.layout.specs.Bytes.{book_of}
use Rattle.layout.specs.CodecLaws.{fits-room, fits-sound}
use Rattle.engine.proofs.propose_in.Goals as goal

pub network_in-network-requires : goal.network_in-network-requires
network_in-network-requires c = fits-room _ c.requires

pub square-requires : goal.square-requires
square-requires c =
    let few : c.number_of-n.result ≤ 48 = rw (c.number_of-n.ensures, c.network_in-network.ensures) (sound-stations (book_of c.args.s.now).network (fits-sound _ c.requires).network).few in
    few

pub propose_beside-requires : goal.propose_beside-requires
propose_beside-requires c =
    let few : c.number_of-n.result ≤ 48 = rw (c.number_of-n.ensures, c.network_in-network.ensures) (sound-stations (book_of c.args.s.now).network (fits-sound _ c.requires).network).few in
    let n = few in
    record { s_value = c.requires; n_le_most_unknowns = omega arith }

pub returns : goal.returns
returns c = record { proposed = c.propose_beside.ensures; short = λ h. absurd (omega arith) }
