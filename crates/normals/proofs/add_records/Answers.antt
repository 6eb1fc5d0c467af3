-- `add_records`, place by place. The loop's invariant: n and u are those of the places passed; one place more is `first_n-more`, `first_u-more`. Assumes nothing.
use native.Mathlib.Omega.{arith}
use mathlib.Core.Path.{◌≡◌, ap, ◌∙◌}
use lib.Dec.{lit≤}
use lib.IntN.{pos}
use Rattle.integers.specs.Tables.{plus}
use Rattle.network.specs.Records.{record_at}
use Rattle.network.specs.Places.{places_in}
use Rattle.network.specs.RuleLaws.{sound-stations}
use Rattle.network.specs.declared.Record.{Record}
use Rattle.normals.specs.Formulas.{entry_n, entry_u}
use Rattle.normals.specs.ByRules.{record_sound}
use Rattle.normals.specs.Equations.{block_n, block_u}
use Rattle.normals.specs.Shares.{equation, equation_by, is-observed, within_unknowns}
use Rattle.normals.specs.FirstPlaces.{first_n, first_u, first_n_0, first_u_0, first_n-more, first_u-more, fits-at, within-first_n, within-first_u}
use Rattle.normals.proofs.add_records.Goals as goal

pub loop-p-init : goal.loop-p-init
loop-p-init c = λ net g a b d. (c.requires.2 ∙ first_n_0 net.stations _, c.requires.3 ∙ first_u_0 net.stations _)

pub equation_of-q-requires : goal.equation_of-q-requires
equation_of-q-requires c =
    let net = c.args.net in
    let g = c.requires.1 in (
      rw (c.coordinates_of-coordinate.ensures, c.record_at-r.ensures)
          (is-observed net.stations (sound-stations net g.network) _ (record_sound net _ g c.loop-p.p (omega arith))),
      rw c.unknowns_of-unknown.ensures (within_unknowns net.stations (sound-stations net g.network)),
    )

pub add_equation-requires : goal.add_equation-requires
add_equation-requires c =
    let inside : (c.loop-p.n ≡ first_n c.args.net.stations (places_in c.args.places.now) c.loop-p.p)
    × (c.loop-p.u ≡ first_u c.args.net.stations (places_in c.args.places.now) c.loop-p.p) = c.loop-p.invariant c.args.net c.requires.1 c.numbers_of-at.ensures c.unknowns_of-unknown.ensures c.coordinates_of-coordinate.ensures in
    let net = c.args.net in
    let g = c.requires.1 in
    let i = inside in (
      lit≤ tt,
      rw (c.equation_of-q.ensures, c.record_at-r.ensures, c.numbers_of-at.ensures, c.unknowns_of-unknown.ensures, c.coordinates_of-coordinate.ensures)
          (fits-at net _ g c.loop-p.p (omega arith)),
      rw i.0 (within-first_n net _ g c.loop-p.p c.loop-p.auto.p-end),
      rw i.1 (within-first_u net _ g c.loop-p.p c.loop-p.auto.p-end),
    )

pub loop-p-preserved : goal.loop-p-preserved
loop-p-preserved c =
    let l = places_in c.args.places.now in
    let p = c.loop-p.p in
    λ net g a b d.
    let e : c.equation_of-q.result ≡ equation net.stations (record_at l p)
    = equation_by net.stations _ a b d c.equation_of-q.ensures
    ∙ ap (λ (r : Record). equation net.stations r) c.record_at-r.ensures in
    let h = c.loop-p.invariant net g a b d in (
      c.add_equation.ensures.matrix ∙ (λ i. plus 2304 (h.0 i) (pos 1) (block_n (e i))) ∙ first_n-more net l g p (omega arith),
      c.add_equation.ensures.right ∙ (λ i. plus 48 (h.1 i) (pos 1) (block_u (e i))) ∙ first_u-more net l g p (omega arith),
    )

pub returns : goal.returns
unfolding first_n first_u entry_n entry_u
returns c =
    let inside : (c.loop-p.n ≡ first_n c.args.net.stations (places_in c.args.places.now) c.loop-p.p)
    × (c.loop-p.u ≡ first_u c.args.net.stations (places_in c.args.places.now) c.loop-p.p) = c.loop-p.invariant c.args.net c.requires.1 c.numbers_of-at.ensures c.unknowns_of-unknown.ensures c.coordinates_of-coordinate.ensures in
    let st = c.args.net.stations in
    let l = places_in c.args.places.now in
    let e : c.loop-p.p ≡ 256 = omega arith in
    record { matrix = inside.0 ∙ ap (first_n st l) e; right = inside.1 ∙ ap (first_u st l) e }
