-- The loop's invariant: n unknowns are passed, and the entries below n are their components (`Listed`); a turn is `listing_puts` or `listing_skips`. Assumes nothing.
use borrow.Author.Rules.{rules}
use native.Mathlib.Omega.{arith}
use Prim.Native.Nat.{ℕ, ◌+◌, ◌<◌, ◌≤◌}
use mathlib.Core.Path.{◌≡◌, sym, ap, ap₂, ◌∙◌, subst}
use mathlib.Core.List.{List}
use Rattle.std.proofs.Common.{inr}
use Rattle.std.proofs.Math.Logic.{inl}
use lib.ListN.{get_or-replicate}
use Rattle.network.specs.Stations.{number}
use Rattle.network.specs.StationLaws.{unknown-bit, number_0, number-+1, number_small}
use Rattle.network.proofs.Listing.{Listed, listing_starts, listing_puts, listing_skips, listing_ends}
use Rattle.network.proofs.stations.components_of.Goals as goal
use Rattle.network.proofs.stations.components_of.Goals.{then-b-eq1+then-n-lt-UNKNOWNS, else-b-eq1, else-b-eq1-via-then-b-eq1+else-n-lt-UNKNOWNS, else-b-eq1-via-else-b-eq1}

pub loop-q-init : goal.loop-q-init
loop-q-init c = (sym (number_0 _), listing_starts _ _ (search rules) (λ m h. get_or-replicate 48 m 96 96 h))

pub overflow_add-n : goal.overflow_add-n
overflow_add-n c =
    let h : c.unknown_at-b.result ≤ 1 = rw c.unknown_at-b.ensures (unknown-bit c.args.stations c.loop-q.q) in
    let g = number_small c.args.stations c.loop-q.q in
    let e = c.loop-q.invariant.0 in
    omega arith

pub loop-q-preserved : goal.loop-q-preserved
loop-q-preserved c =
    let u = c.unknown_at-b in
    let st = c.args.stations in
    let l = c.loop-q in
    let e = l.invariant.0 in
    let h : u.result ≤ 1 = rw u.ensures (unknown-bit c.args.stations c.loop-q.q) in
    let top : l.q < 96 = omega arith in (
      ap₂ ◌+◌ e u.ensures ∙ sym (number-+1 st l.q),
      elim c.if-b-eq1.branch [
        | then-b-eq1+then-n-lt-UNKNOWNS w ↦
            subst (λ (o : List ℕ). Listed st o (l.n + u.result)) (sym w.out-is)
            (listing_puts st l.out l.n l.q u.result e u.ensures w.if-b-eq1.true top w.if-n-lt-UNKNOWNS.true l.invariant.1)
        | else-b-eq1 w ↦
            subst (λ (o : List ℕ). Listed st o (l.n + u.result)) (sym w.out-is)
            (listing_skips st l.out l.n u.result l.invariant.1
            (elim w.else-b-eq1.branch [
              | else-b-eq1-via-then-b-eq1+else-n-lt-UNKNOWNS v ↦ inr v.if-n-lt-UNKNOWNS.false
              | else-b-eq1-via-else-b-eq1 v ↦ let held = v.if-b-eq1.false in inl (omega arith)
            ]))
      ],
    )

pub returns : goal.returns
returns c =
    let l = c.loop-q in
    let e : l.q ≡ 96 = omega arith in
    listing_ends _ l.out (subst (Listed _ l.out) (l.invariant.0 ∙ ap (number c.args.stations) e) l.invariant.1)
