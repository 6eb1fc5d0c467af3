-- The number is read back from its bits; its index is below the count exactly where it is in the list (`index_test`). Assumes nothing.
use Prim.Native.Nat.{ℕ}
use mathlib.Core.Path.{ap, ◌∙◌}
use lib.Dec.{ltb}
use lib.IntN.{ℤ}
use mir.Syntax.{w64}
use mir.ValLaws.{to_z-of_z}
use Rattle.words.specs.Signed.{index_in}
use Rattle.words.specs.SignedLaws.{index_test}
use Rattle.network.proofs.rules.in_list.Goals as goal

pub returns : goal.returns
returns c =
    let a = c.args in
    ap (λ (k : ℕ). ltb k a.count) (c.index_in.ensures ∙ ap (λ (z : ℤ). index_in z a.count) (to_z-of_z w64 a.v c.ranges.v))
    ∙ index_test a.v a.count
