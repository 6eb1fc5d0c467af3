-- The edges before place p are filled in (`Mapped`); each turn reads one record of the lent places and puts in its edge.
use mathlib.Core.Path.{ap, ◌∙◌}
use native.Mathlib.Omega.{arith}
use borrow.Author.Rules.{rules}
use Rattle.lists.specs.Filling.{starts, goes_on, finish}
use Rattle.network.specs.declared.Record.{Record}
use Rattle.chains.specs.Chains.{edge}
use Rattle.chains.proofs.records.edges_in.Goals as goal

pub loop-p-init : goal.loop-p-init
loop-p-init c = starts 0 256 _ _ (search rules)

pub edge_of-e-requires : goal.edge_of-e-requires
edge_of-e-requires c =
    let g = c.requires.1 in
    let p = c.loop-p.p in
    let l = c.loop-p-test.true in
    rw c.record_at-r.ensures (g.from p l, g.to p l)

pub loop-p-preserved : goal.loop-p-preserved
loop-p-preserved c = goes_on 0 256 _ _ c.loop-p.out c.loop-p.p _ (omega arith) c.loop-p.invariant (c.edge_of-e.ensures ∙ ap (λ (r : Record). edge c.args.c r) c.record_at-r.ensures)

pub returns : goal.returns
returns c = finish 0 256 _ _ c.loop-p.out c.loop-p.p (omega arith) c.loop-p.invariant
