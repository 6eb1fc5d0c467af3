-- `first_missing` stops at the first component that fails; all before it passed. Assumes nothing.
use Rattle.std.specs.Prelude.{◌≡◌, true}
use Rattle.lists.specs.All.{all_below}
use Rattle.chains.specs.ChainLaws.{held_or_in}
use Rattle.chains.proofs.records.first_missing.Given as goal

abbrev pub invariant-loop-q : goal.invariant-loop-q
invariant-loop-q l = all_below l.q (held_or_in l.stations l.found) ≡ true
