-- `exchange_shares` takes the old record's share off N and u and puts the new one's on. Assumes nothing.
use Prim.Native.Nat.{◌+◌, ◌^◌}
use mathlib.Core.Path.{◌≡◌, ◌∙◌}
use lib.Dec.{lit≤}
use lib.IntN.{pos, negsuc}
use Rattle.integers.specs.Tables.{plus, within-plus, within_more}
use Rattle.normals.specs.Equations.{EquationInRange, block_n, block_u}
use Rattle.normals.specs.EquationSizes.{block_size, block_right_size}
use Rattle.network.specs.RuleLaws.{SoundStations, SoundRecord, sound-stations, sound_record}
use Rattle.normals.specs.Shares.{equation, equation_by, equation-fits, is-observed, within_unknowns}
use Rattle.normals.specs.Exchange.{exchanged_n, exchanged_u, shift_N, shift_u}
use Rattle.normals.proofs.exchange_shares.Goals as goal

pub equation_of-p-requires : goal.equation_of-p-requires
equation_of-p-requires c =
    let stations : SoundStations c.args.net.stations = sound-stations c.args.net c.requires.network in
    let old : SoundRecord c.args.net.stations c.args.old = sound_record c.args.net c.args.old c.requires.network c.requires.old in (
      rw c.coordinates_of-coordinate.ensures (is-observed _ stations _ old),
      rw c.unknowns_of-unknown.ensures (within_unknowns _ stations),
    )

pub equation_of-q-requires : goal.equation_of-q-requires
equation_of-q-requires c =
    let stations : SoundStations c.args.net.stations = sound-stations c.args.net c.requires.network in
    let new : SoundRecord c.args.net.stations c.args.new = sound_record c.args.net c.args.new c.requires.network c.requires.new in (
      rw c.coordinates_of-coordinate.ensures (is-observed _ stations _ new),
      rw c.unknowns_of-unknown.ensures (within_unknowns _ stations),
    )

pub add_equation-requires : goal.add_equation-requires
add_equation-requires c =
    let stations : SoundStations c.args.net.stations = sound-stations c.args.net c.requires.network in
    let old : SoundRecord c.args.net.stations c.args.old = sound_record c.args.net c.args.old c.requires.network c.requires.old in
    let old-equation : c.equation_of-p.result ≡ equation c.args.net.stations c.args.old = equation_by _ c.args.old c.numbers_of-at.ensures c.unknowns_of-unknown.ensures c.coordinates_of-coordinate.ensures
    c.equation_of-p.ensures in
    let old-fits : EquationInRange c.equation_of-p.result = rw old-equation (equation-fits _ stations _ old) in (
      lit≤ tt,
      old-fits,
      within_more 2304 2560000 (2 ^ 40) _ (lit≤ tt) c.requires.matrix,
      within_more 48 768000000000 (2 ^ 43) _ (lit≤ tt) c.requires.right,
    )

pub add_equation-requires-2 : goal.add_equation-requires-2
add_equation-requires-2 c =
    let stations : SoundStations c.args.net.stations = sound-stations c.args.net c.requires.network in
    let new : SoundRecord c.args.net.stations c.args.new = sound_record c.args.net c.args.new c.requires.network c.requires.new in
    let new-equation : c.equation_of-q.result ≡ equation c.args.net.stations c.args.new = equation_by _ c.args.new c.numbers_of-at.ensures c.unknowns_of-unknown.ensures c.coordinates_of-coordinate.ensures
    c.equation_of-q.ensures in
    let old : SoundRecord c.args.net.stations c.args.old = sound_record c.args.net c.args.old c.requires.network c.requires.old in
    let old-equation : c.equation_of-p.result ≡ equation c.args.net.stations c.args.old = equation_by _ c.args.old c.numbers_of-at.ensures c.unknowns_of-unknown.ensures c.coordinates_of-coordinate.ensures
    c.equation_of-p.ensures in
    let old-fits : EquationInRange c.equation_of-p.result = rw old-equation (equation-fits _ stations _ old) in
    let f = old-fits in (
      lit≤ tt,
      rw new-equation (equation-fits _ stations _ new),
      rw c.add_equation.ensures.matrix
          (within_more 2304 (2560000 + 360000) (2 ^ 40) _ (lit≤ tt) (within-plus 2304 _ (negsuc 0) _ 2560000 360000 (lit≤ tt) c.requires.matrix (block_size _ f))),
      rw c.add_equation.ensures.right
          (within_more 48 (768000000000 + 18000000000) (2 ^ 43) _ (lit≤ tt)
          (within-plus 48 _ (negsuc 0) _ 768000000000 18000000000 (lit≤ tt) c.requires.right (block_right_size _ f))),
    )

pub returns : goal.returns
unfolding exchanged_n exchanged_u
returns c =
    let stations : SoundStations c.args.net.stations = sound-stations c.args.net c.requires.network in
    let old : SoundRecord c.args.net.stations c.args.old = sound_record c.args.net c.args.old c.requires.network c.requires.old in
    let new : SoundRecord c.args.net.stations c.args.new = sound_record c.args.net c.args.new c.requires.network c.requires.new in
    let old-equation : c.equation_of-p.result ≡ equation c.args.net.stations c.args.old = equation_by _ c.args.old c.numbers_of-at.ensures c.unknowns_of-unknown.ensures c.coordinates_of-coordinate.ensures
    c.equation_of-p.ensures in
    let new-equation : c.equation_of-q.result ≡ equation c.args.net.stations c.args.new = equation_by _ c.args.new c.numbers_of-at.ensures c.unknowns_of-unknown.ensures c.coordinates_of-coordinate.ensures
    c.equation_of-q.ensures in
    let st = c.args.net.stations in
    let n = c.args.n.now in
    let u = c.args.u.now in
    let g = stations in record {
      matrix = c.add_equation-2.ensures.matrix
          ∙ (λ i. plus 2304 ((c.add_equation.ensures.matrix ∙ (λ j. plus 2304 n (negsuc 0) (block_n (old-equation j))) ∙ shift_N st g c.args.old old n (negsuc 0)) i) (pos 1) (block_n (new-equation i)))
          ∙ shift_N st g c.args.new new _ (pos 1);
      right = c.add_equation-2.ensures.right
          ∙ (λ i. plus 48 ((c.add_equation.ensures.right ∙ (λ j. plus 48 u (negsuc 0) (block_u (old-equation j))) ∙ shift_u st g c.args.old old u (negsuc 0)) i) (pos 1) (block_u (new-equation i)))
          ∙ shift_u st g c.args.new new _ (pos 1);
    }
