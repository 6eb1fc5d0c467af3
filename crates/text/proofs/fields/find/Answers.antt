-- Past the end the byte is not found (`end_here`); before it, it is here (`end_found`) or further on (`end_more`). Assumes nothing.
use Rattle.std.proofs.Common.{arith, ◌∙◌}
use Rattle.text.specs.Before.{end_here, end_found, end_more}
use Rattle.text.proofs.fields.find.Goals as goal

pub returns-then-s-i : goal.returns-then-s-i
returns-then-s-i c = end_found _ _ _ c.loop-i-test.true c.if-s-i.true ∙ c.loop-i.invariant

pub loop-i-preserved : goal.loop-i-preserved
loop-i-preserved c = end_more _ _ _ c.loop-i-test.true c.if-s-i.false ∙ c.loop-i.invariant

pub returns : goal.returns
returns c =
    let there = end_here c.args.b c.args.s.now c.loop-i.i c.loop-i-test.false in
    let beyond = end_here c.args.b c.args.s.now c.args.from in
    grind (arith, c.max.ensures, c.loop-i.invariant, there, beyond)
