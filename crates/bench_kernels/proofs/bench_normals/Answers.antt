-- `bench_normals`: the result of `of` is N and u of the sample, by the contracts of the callees; then by cases of k. Assumes nothing.
use borrow.Author.Rules.{rules}
use Prim.Native.Nat.{◌-◌, ◌≤◌}
use mathlib.Core.Path.{◌≡◌, sym, ap, ◌∙◌}
use native.Mathlib.Omega.{arith}
use lib.ListN.{length, get_or, get_or-eq_default}
use lib.IntN.{pos}
use mir.Syntax.{w64}
use mir.ValLaws.{to_z-of_z}
use Rattle.integers.specs.Tables.{length-tabulate}
use Rattle.normals.specs.declared.Normals.{Normals}
use Rattle.normals.specs.Formulas.{entry_u, normals_of}
use Rattle.bench_kernels.specs.Sample.{sample_network, sample_places, entry_matrix, entry_right, sample_sound}
use Rattle.bench_kernels.proofs.bench_normals.Goals as goal

abbrev whole : Normals
whole = normals_of sample_network.stations sample_places

pub of-x-requires : goal.of-x-requires
of-x-requires c = (search rules, rw (c.sample_network-net.ensures, c.sample_places-places.ensures) sample_sound)

pub returns-then-k-lt-ENTRIES : goal.returns-then-k-lt-ENTRIES
returns-then-k-lt-ENTRIES c =
    let made : c.of-x.result ≡ whole = c.of-x.ensures ∙ (λ i. normals_of (c.sample_network-net.ensures i).stations (c.sample_places-places.ensures i)) in
    let k = c.args.k in
    to_z-of_z w64 (get_or c.of-x.result.matrix k (pos 0)) (record { sfits = c.result-1.given })
    ∙ ap (λ (x : Normals). get_or x.matrix k (pos 0)) made
    ∙ sym (entry_matrix whole k c.if-k-lt-ENTRIES.true)

pub returns-then-i-lt-ROW : goal.returns-then-i-lt-ROW
returns-then-i-lt-ROW c =
    let made : c.of-x.result ≡ whole = c.of-x.ensures ∙ (λ i. normals_of (c.sample_network-net.ensures i).stations (c.sample_places-places.ensures i)) in
    let k = c.args.k in
    to_z-of_z w64 (get_or c.of-x.result.right (k - 2304) (pos 0)) (record { sfits = c.result-then-i-lt-ROW-1.given })
    ∙ ap (λ (x : Normals). get_or x.right (k - 2304) (pos 0)) made
    ∙ sym (entry_right whole k c.if-k-lt-ENTRIES.false)

pub returns : goal.returns
returns c =
    let k = c.args.k in
    let long : length whole.right ≡ 48 = length-tabulate 48 (entry_u sample_network.stations sample_places) in
    let beyond : length whole.right ≤ k - 2304 = omega arith in
    sym (entry_right whole k c.if-k-lt-ENTRIES.false ∙ get_or-eq_default whole.right (pos 0) {n = k - 2304} beyond)
