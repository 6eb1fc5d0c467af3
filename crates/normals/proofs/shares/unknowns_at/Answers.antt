-- `unknowns_at` numbers the unknowns of a station on from those before it. Assumes nothing.
use Prim.Native.Nat.{◌+◌, ◌*◌}
use mathlib.Core.Path.{refl, sym, ap, ap₂, ◌∙◌}
use mathlib.Core.List.{◌∷◌}
use lib.IntN.{pos}
use lib.ListN.{get_or}
use native.Mathlib.Omega.{arith}
use native.Mathlib.Nat.{le_refl, mul-le-mul}
use Rattle.lists.specs.Stored.{bit_cast}
use Rattle.normals.proofs.StationNumbers.{unknown-E, unknown-N, unknown-U, place_E, place_N, place_U, Counts, counts_in, first, second, third}
use Rattle.normals.proofs.shares.unknowns_at.Goals as goal

pub overflow_mul-at : goal.overflow_mul-at
overflow_mul-at c =
    let h : Counts c.unknowns_before-n.result (get_or c.unknowns_in-c.result 0 0) (get_or c.unknowns_in-c.result 1 0) (get_or c.unknowns_in-c.result 2 0) = counts_in _ c.unknowns_in-c.ensures c.args.stations c.args.s (let h = c.requires in omega arith) _ c.unknowns_before-n.ensures in
    record { fits = omega (arith, mul-le-mul h.east (le_refl c.unknowns_before-n.result)) }

pub overflow_add-at : goal.overflow_add-at
overflow_add-at c =
    let h : Counts c.unknowns_before-n.result (get_or c.unknowns_in-c.result 0 0) (get_or c.unknowns_in-c.result 1 0) (get_or c.unknowns_in-c.result 2 0) = counts_in _ c.unknowns_in-c.ensures c.args.stations c.args.s (let h = c.requires in omega arith) _ c.unknowns_before-n.ensures in
    omega arith

pub overflow_mul-at-2 : goal.overflow_mul-at-2
overflow_mul-at-2 c =
    let h : Counts c.unknowns_before-n.result (get_or c.unknowns_in-c.result 0 0) (get_or c.unknowns_in-c.result 1 0) (get_or c.unknowns_in-c.result 2 0) = counts_in _ c.unknowns_in-c.ensures c.args.stations c.args.s (let h = c.requires in omega arith) _ c.unknowns_before-n.ensures in
    record { fits = omega (arith, mul-le-mul h.north (le_refl (c.unknowns_before-n.result + get_or c.unknowns_in-c.result 0 0))) }

pub overflow_add-at-2 : goal.overflow_add-at-2
overflow_add-at-2 c =
    let h : Counts c.unknowns_before-n.result (get_or c.unknowns_in-c.result 0 0) (get_or c.unknowns_in-c.result 1 0) (get_or c.unknowns_in-c.result 2 0) = counts_in _ c.unknowns_in-c.ensures c.args.stations c.args.s (let h = c.requires in omega arith) _ c.unknowns_before-n.ensures in
    omega arith

pub overflow_add-at-3 : goal.overflow_add-at-3
overflow_add-at-3 c =
    let h : Counts c.unknowns_before-n.result (get_or c.unknowns_in-c.result 0 0) (get_or c.unknowns_in-c.result 1 0) (get_or c.unknowns_in-c.result 2 0) = counts_in _ c.unknowns_in-c.ensures c.args.stations c.args.s (let h = c.requires in omega arith) _ c.unknowns_before-n.ensures in
    omega arith

pub overflow_mul-at-3 : goal.overflow_mul-at-3
overflow_mul-at-3 c =
    let h : Counts c.unknowns_before-n.result (get_or c.unknowns_in-c.result 0 0) (get_or c.unknowns_in-c.result 1 0) (get_or c.unknowns_in-c.result 2 0) = counts_in _ c.unknowns_in-c.ensures c.args.stations c.args.s (let h = c.requires in omega arith) _ c.unknowns_before-n.ensures in
    record { fits = omega (arith, mul-le-mul h.up (le_refl (c.unknowns_before-n.result + get_or c.unknowns_in-c.result 0 0 + get_or c.unknowns_in-c.result 1 0))) }

pub overflow_cast-unknown : goal.overflow_cast-unknown
overflow_cast-unknown c =
    let h : Counts c.unknowns_before-n.result (get_or c.unknowns_in-c.result 0 0) (get_or c.unknowns_in-c.result 1 0) (get_or c.unknowns_in-c.result 2 0) = counts_in _ c.unknowns_in-c.ensures c.args.stations c.args.s (let h = c.requires in omega arith) _ c.unknowns_before-n.ensures in
    omega arith

pub overflow_cast-unknown-2 : goal.overflow_cast-unknown-2
overflow_cast-unknown-2 c =
    let h : Counts c.unknowns_before-n.result (get_or c.unknowns_in-c.result 0 0) (get_or c.unknowns_in-c.result 1 0) (get_or c.unknowns_in-c.result 2 0) = counts_in _ c.unknowns_in-c.ensures c.args.stations c.args.s (let h = c.requires in omega arith) _ c.unknowns_before-n.ensures in
    omega arith

pub overflow_cast-unknown-3 : goal.overflow_cast-unknown-3
overflow_cast-unknown-3 c =
    let h : Counts c.unknowns_before-n.result (get_or c.unknowns_in-c.result 0 0) (get_or c.unknowns_in-c.result 1 0) (get_or c.unknowns_in-c.result 2 0) = counts_in _ c.unknowns_in-c.ensures c.args.stations c.args.s (let h = c.requires in omega arith) _ c.unknowns_before-n.ensures in
    omega arith

pub returns : goal.returns
returns c =
    let h : Counts c.unknowns_before-n.result (get_or c.unknowns_in-c.result 0 0) (get_or c.unknowns_in-c.result 1 0) (get_or c.unknowns_in-c.result 2 0) = counts_in _ c.unknowns_in-c.ensures c.args.stations c.args.s (let h = c.requires in omega arith) _ c.unknowns_before-n.ensures in
    let st = c.args.stations in
    let k = c.args.s in
    let x = c.unknowns_before-n.ensures in
    let e = first _ c.unknowns_in-c.ensures in
    let f = second _ c.unknowns_in-c.ensures in
    let u = third _ c.unknowns_in-c.ensures in
    let at =
    ap₂ ◌∷◌ (ap₂ ◌*◌ e x ∙ place_E st k)
    (ap₂ ◌∷◌ (ap₂ ◌*◌ f (ap₂ ◌+◌ x e) ∙ place_N st k) (ap₂ ◌∷◌ (ap₂ ◌*◌ u (ap₂ ◌+◌ (ap₂ ◌+◌ x e) f) ∙ place_U st k) refl)) in
    let unknown =
    ap₂ ◌∷◌ (bit_cast _ h.east ∙ ap pos (e ∙ sym (unknown-E st k)))
    (ap₂ ◌∷◌ (bit_cast _ h.north ∙ ap pos (f ∙ sym (unknown-N st k))) (ap₂ ◌∷◌ (bit_cast _ h.up ∙ ap pos (u ∙ sym (unknown-U st k))) refl)) in
    λ i. record { at = at i; unknown = unknown i }
