-- The loop adds what each record observes in the adjustment; the sum is small, so it fits. Assumes nothing.
use borrow.Author.Rules.{sfits_of}
use native.Mathlib.Omega.{arith}
use Prim.Native.Nat.{ℕ, ◌+◌, ◌≤◌}
use mathlib.Core.Path.{◌≡◌, refl, sym, ap, ap₂, ◌∙◌}
use mathlib.Core.List.{List}
use lib.IntN.{ℤ}
use mir.Syntax.{w64}
use mir.ValLaws.{to_z-of_z}
use Rattle.integers.specs.Sums.{sum_n, sum_n_zero, sum_n-+1, sum_n-const}
use Rattle.network.specs.StationLaws.{number_small}
use Rattle.network.specs.Records.{record_at}
use Rattle.network.specs.Places.{places_in}
use Rattle.network.specs.declared.Place.{Place}
use Rattle.network.specs.declared.Record.{Record}
use Rattle.normals.specs.ByRules.{record_sound}
use Rattle.sheet.specs.Totals.{share_din, share_d_few, freedom, D_in}
use Rattle.sheet.proofs.totals.d_of.Goals as goal

-- the sum over the first places is small
few : (places : List Place) (unknown : List ℤ) (n : ℕ) → n ≤ 256 → sum_n n (λ k. share_din unknown (record_at places k)) ≤ 768
few places unknown n h = let b = sum_n-const n {f = λ k. share_din unknown (record_at places k)} 3 (λ k l. share_d_few unknown (record_at places k)) in omega arith

pub loop-p-init : goal.loop-p-init
loop-p-init c = sym (sum_n_zero (λ k. share_din c.unknowns_of-unknown.result (record_at (places_in c.args.places.now) k)))

pub share_of_d-observed-requires : goal.share_of_d-observed-requires
share_of_d-observed-requires c =
    let r = record_sound c.args.net (places_in c.args.places.now) c.requires.1 c.loop-p.p (omega (arith, c.loop-p-test.true)) in
    rw c.record_at-r.ensures (r.from, r.to)

pub overflow_add-observed : goal.overflow_add-observed
overflow_add-observed c =
    let u = c.unknowns_of-unknown.result in
    omega (arith, c.loop-p.invariant, few (places_in c.args.places.now) u c.loop-p.p (omega (arith, c.loop-p-test.true)), c.share_of_d-observed.ensures, share_d_few u c.record_at-r.result)

pub loop-p-preserved : goal.loop-p-preserved
loop-p-preserved c =
    let u = c.unknowns_of-unknown.result in let places = places_in c.args.places.now in
    ap₂ ◌+◌ c.loop-p.invariant (c.share_of_d-observed.ensures ∙ ap (λ (r : Record). share_din u r) c.record_at-r.ensures) ∙ sym (sum_n-+1 c.loop-p.p (λ k. share_din u (record_at places k)))

pub freedom_of-requires : goal.freedom_of-requires
freedom_of-requires c = (omega (arith, c.loop-p.invariant, few (places_in c.args.places.now) c.unknowns_of-unknown.result c.loop-p.p (omega (arith, c.loop-p.auto.p-end))), rw c.number_of-n.ensures (number_small c.args.net.stations 96))

pub returns : goal.returns
returns c =
    let e : c.loop-p.p ≡ 256 = omega arith in
    to_z-of_z w64 c.freedom_of.result (sfits_of c.freedom_of.type_inv)
    ∙ c.freedom_of.ensures
    ∙ ap₂ freedom (c.loop-p.invariant ∙ rw (e, c.unknowns_of-unknown.ensures) refl) c.number_of-n.ensures
    ∙ D_in c.requires.1
