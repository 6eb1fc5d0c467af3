-- The loop adds the shares of the places passed (`Summed`); each is small, so the sum fits. Assumes nothing.
use Rattle.network.specs.Places.{places_in}
use Rattle.sheet.specs.Totals.{Summed}
use mir.Syntax.{w64}
use mir.Val.{of_z}
use Rattle.sheet.proofs.totals.t_of.Given as goal

abbrev pub invariant-loop-p : goal.invariant-loop-p
invariant-loop-p l = Summed l.unknown l.coordinate l.correction (places_in l.places) (of_z w64 l.t) l.p
