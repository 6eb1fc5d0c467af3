-- `named_weights`: the two weights that document 01 names, by network's laws of them. Assumes nothing.
use Rattle.std.proofs.Common.{ap, ◌∙◌, eq-eqb, pos, of_z, w64}
use Rattle.network.specs.Units.{weight_at_ten_millimetres, weight_at_millimetre}
use Rattle.test_network_limits.proofs.named_weights.Goals as goal

pub expect-requires : goal.expect-requires
expect-requires c = eq-eqb _ _ (ap (of_z w64) (c.weight_of-ten.ensures ∙ ap pos weight_at_ten_millimetres))

pub expect-requires-2 : goal.expect-requires-2
expect-requires-2 c = eq-eqb _ _ (ap (of_z w64) (c.weight_of-one.ensures ∙ ap pos weight_at_millimetre))
