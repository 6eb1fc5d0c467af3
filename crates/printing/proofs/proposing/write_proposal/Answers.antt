-- A book that bytes hold has at most 48 unknowns (`few`), so the parts lent for the pair are inside their rooms. Assumes nothing.
use Prim.Native.Nat.{◌≤◌}
use native.Mathlib.Omega.{arith}
use native.Mathlib.Nat.{mul-le-mul}
use Rattle.std.proofs.Common.{sym, ◌*◌}
use Rattle.std.proofs.lemmas.List.{length-take-le}
use Rattle.network.specs.RuleLaws.{sound-stations}
use Rattle.layout.specs.Bytes.{book_of}
use Rattle.layout.specs.CodecLaws.{fits-room, fits-sound}
use Rattle.printing.proofs.proposing.write_proposal.Goals as goal

pub network_in-network-requires : goal.network_in-network-requires
network_in-network-requires c = fits-room _ c.requires.0

pub slice_bounds-x-end : goal.slice_bounds-x-end
slice_bounds-x-end c =
    let few : c.number_of-n.result ≤ 48 = rw (c.number_of-n.ensures, c.network_in-network.ensures) (sound-stations (book_of c.args.s.now).network (fits-sound _ c.requires.0).network).few in
    omega (arith, few, c.zeros-x.ensures)

pub overflow_mul-m : goal.overflow_mul-m
overflow_mul-m c =
    let few : c.number_of-n.result ≤ 48 = rw (c.number_of-n.ensures, c.network_in-network.ensures) (sound-stations (book_of c.args.s.now).network (fits-sound _ c.requires.0).network).few in
    omega (arith, mul-le-mul few few)

pub slice_bounds-m-end : goal.slice_bounds-m-end
slice_bounds-m-end c =
    let few : c.number_of-n.result ≤ 48 = rw (c.number_of-n.ensures, c.network_in-network.ensures) (sound-stations (book_of c.args.s.now).network (fits-sound _ c.requires.0).network).few in
    omega (arith, mul-le-mul few few, c.zeros-m.ensures)

pub slice_bounds-report_proposal-end : goal.slice_bounds-report_proposal-end
slice_bounds-report_proposal-end c =
    let few : c.number_of-n.result ≤ 48 = rw (c.number_of-n.ensures, c.network_in-network.ensures) (sound-stations (book_of c.args.s.now).network (fits-sound _ c.requires.0).network).few in
    sym (length-take-le c.number_of-n.result c.zeros-x.result (omega (arith, few, c.zeros-x.ensures)))

pub slice_bounds-report_proposal-end-2 : goal.slice_bounds-report_proposal-end-2
slice_bounds-report_proposal-end-2 c =
    let few : c.number_of-n.result ≤ 48 = rw (c.number_of-n.ensures, c.network_in-network.ensures) (sound-stations (book_of c.args.s.now).network (fits-sound _ c.requires.0).network).few in
    sym (length-take-le (c.number_of-n.result * c.number_of-n.result) c.zeros-m.result (omega (arith, mul-le-mul few few, c.zeros-m.ensures)))
