-- `first_missing` stops at the first component that fails; all before it passed. Assumes nothing.
use Rattle.std.proofs.Common.{◌≡◌, sym, ◌∙◌, arith}
use Rattle.lists.specs.All.{all_none, all_more}
use Rattle.network.specs.Stations.{unknown}
use Rattle.chains.specs.Scans.{first-is, first_failing-none}
use Rattle.chains.specs.ChainLaws.{held_or_in}
use Rattle.chains.proofs.records.first_missing.Goals as goal

pub loop-q-init : goal.loop-q-init
loop-q-init c = all_none _

pub returns-then-not-held_or_in : goal.returns-then-not-held_or_in
unfolding held_or_in unknown
returns-then-not-held_or_in c =
    let is : c.held_or_in.result ≡ held_or_in c.args.stations c.args.found c.loop-q.q = c.held_or_in.ensures in
    record {
      position = sym (first-is _ c.loop-q.q 96 (omega arith) c.loop-q.invariant (sym is ∙ c.if-not-held_or_in.true));
      in_range = omega arith;
    }

pub loop-q-preserved : goal.loop-q-preserved
unfolding held_or_in unknown
loop-q-preserved c =
    let is : c.held_or_in.result ≡ held_or_in c.args.stations c.args.found c.loop-q.q = c.held_or_in.ensures in
    all_more _ _ c.loop-q.invariant (sym is ∙ c.if-not-held_or_in.false)

pub returns-clause-position : goal.returns-clause-position
returns-clause-position c =
    let e : c.loop-q.q ≡ 96 = omega arith in
    sym (first_failing-none _ 96 (rw e at c.loop-q.invariant))
