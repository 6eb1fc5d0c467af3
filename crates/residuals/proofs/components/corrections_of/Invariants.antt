-- The loop has filled the corrections of the components passed; each is the unknown's bit times the number at its index of x. Assumes nothing.
use lib.ListN.{get_or}
use lib.IntN.{pos, ◌*ℤ◌}
use Rattle.lists.specs.Filling.{Mapped}
use Rattle.residuals.proofs.components.corrections_of.Given as goal

abbrev pub invariant-loop-q : goal.invariant-loop-q
invariant-loop-q l = Mapped (pos 0) 96 (λ k. get_or l.unknown k (pos 0) *ℤ get_or l.x (get_or l.number k 0) (pos 0)) l.initial.out l.out l.q
