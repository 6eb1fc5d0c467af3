-- The loop adds the shares of the places passed (`Summed`); each is small, so the sum fits. Assumes nothing.
use native.Mathlib.Omega.{arith}
use Prim.Native.Nat.{ℕ, ◌<◌}
use mathlib.Core.Path.{◌≡◌, ap, ◌∙◌}
use mir.Syntax.{w64}
use mir.ValLaws.{of_z-to_z, of_z_fits}
use Rattle.network.specs.Records.{record_at}
use Rattle.network.specs.Places.{places_in}
use Rattle.network.specs.declared.Record.{Record}
use Rattle.residuals.specs.Ranges.{some_unknowns}
use Rattle.sheet.specs.Totals.{share_tin, Weighed, weighed_at, summed-none, summed, summed-fits, summed-more, T_in}
use Rattle.sheet.proofs.totals.t_of.Goals as goal

pub corrections_of-correction-requires : goal.corrections_of-correction-requires
corrections_of-correction-requires c = (some_unknowns c.requires.1.moved, c.requires.1.moved.corrections)

pub loop-p-init : goal.loop-p-init
loop-p-init c = summed-none c.unknowns_of-unknown.result c.coordinates_of-coordinate.result c.corrections_of-correction.result (places_in c.args.places.now)

pub record_at-r-requires : goal.record_at-r-requires
record_at-r-requires c = (c.requires.0, c.loop-p-test.true)

pub share_of_t-t-requires : goal.share_of_t-t-requires
share_of_t-t-requires c =
    let weighed : (p : ℕ) → p < 256
    → Weighed c.coordinates_of-coordinate.result c.corrections_of-correction.result (record_at (places_in c.args.places.now) p) = λ p h. rw (c.coordinates_of-coordinate.ensures, c.corrections_of-correction.ensures) (weighed_at c.requires.1 p h) in
    rw c.record_at-r.ensures (weighed c.loop-p.p c.loop-p-test.true)

pub overflow_add-t : goal.overflow_add-t
overflow_add-t c =
    let weighed : (p : ℕ) → p < 256
    → Weighed c.coordinates_of-coordinate.result c.corrections_of-correction.result (record_at (places_in c.args.places.now) p) = λ p h. rw (c.coordinates_of-coordinate.ensures, c.corrections_of-correction.ensures) (weighed_at c.requires.1 p h) in
    let share : c.share_of_t-t.result
    ≡ share_tin c.unknowns_of-unknown.result c.coordinates_of-coordinate.result c.corrections_of-correction.result
    (record_at (places_in c.args.places.now) c.loop-p.p) = c.share_of_t-t.ensures ∙ ap (λ (r : Record). share_tin c.unknowns_of-unknown.result c.coordinates_of-coordinate.result c.corrections_of-correction.result r) c.record_at-r.ensures in
    let held = rw (of_z-to_z w64 c.loop-p.t-bits c.loop-p.auto.t-fits) at c.loop-p.invariant in
    summed-fits (places_in c.args.places.now) weighed held c.loop-p-test.true share

pub loop-p-preserved : goal.loop-p-preserved
loop-p-preserved c =
    let weighed : (p : ℕ) → p < 256
    → Weighed c.coordinates_of-coordinate.result c.corrections_of-correction.result (record_at (places_in c.args.places.now) p) = λ p h. rw (c.coordinates_of-coordinate.ensures, c.corrections_of-correction.ensures) (weighed_at c.requires.1 p h) in
    let share : c.share_of_t-t.result
    ≡ share_tin c.unknowns_of-unknown.result c.coordinates_of-coordinate.result c.corrections_of-correction.result
    (record_at (places_in c.args.places.now) c.loop-p.p) = c.share_of_t-t.ensures ∙ ap (λ (r : Record). share_tin c.unknowns_of-unknown.result c.coordinates_of-coordinate.result c.corrections_of-correction.result r) c.record_at-r.ensures in
    let held = rw (of_z-to_z w64 c.loop-p.t-bits c.loop-p.auto.t-fits) at c.loop-p.invariant in
    let fit = summed-fits (places_in c.args.places.now) weighed held c.loop-p-test.true share in
    rw (of_z-to_z w64 _ (of_z_fits w64 _ fit)) (summed-more (places_in c.args.places.now) weighed held c.loop-p-test.true share)

pub returns : goal.returns
returns c =
    let weighed : (p : ℕ) → p < 256
    → Weighed c.coordinates_of-coordinate.result c.corrections_of-correction.result (record_at (places_in c.args.places.now) p) = λ p h. rw (c.coordinates_of-coordinate.ensures, c.corrections_of-correction.ensures) (weighed_at c.requires.1 p h) in
    let e : c.loop-p.p ≡ 256 = omega arith in
    let held = rw (of_z-to_z w64 c.loop-p.t-bits c.loop-p.auto.t-fits) at c.loop-p.invariant in
    summed (places_in c.args.places.now) weighed (rw e at held) (omega arith)
    ∙ rw (c.unknowns_of-unknown.ensures, c.coordinates_of-coordinate.ensures, c.corrections_of-correction.ensures) (T_in c.requires.1)
