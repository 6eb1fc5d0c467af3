-- `records_fit`, place by place. The loop's invariant: the records passed are by the rules. Assumes nothing.
use mathlib.Core.Path.{sym, ap, ◌∙◌}
use Rattle.network.specs.declared.Record.{Record}
use Rattle.network.specs.Places.{places_in}
use native.Mathlib.Omega.{arith}
use Rattle.lists.specs.All.{all_none, all_more, all_done, all_fails}
use Rattle.network.specs.Records.{record_at}
use Rattle.network.specs.Rules.{record_fits}
use Rattle.book.proofs.soundness.records_fit.Goals as goal

pub loop-p-init : goal.loop-p-init
loop-p-init c = all_none _

pub returns-then-not-fit : goal.returns-then-not-fit
returns-then-not-fit c = sym (all_fails 256 (λ p. record_fits c.args.rules.now.network (record_at (places_in c.args.places.now) p)) c.loop-p.p (omega arith) (sym (c.fit.ensures ∙ ap (λ (r : Record). record_fits c.args.rules.now.network r) c.record_at-r.ensures) ∙ c.if-not-fit.true))

pub loop-p-preserved : goal.loop-p-preserved
loop-p-preserved c = all_more _ (λ p. record_fits c.args.rules.now.network (record_at (places_in c.args.places.now) p)) c.loop-p.invariant (sym (c.fit.ensures ∙ ap (λ (r : Record). record_fits c.args.rules.now.network r) c.record_at-r.ensures) ∙ c.if-not-fit.false)

pub returns : goal.returns
returns c = all_done 256 (λ p. record_fits c.args.rules.now.network (record_at (places_in c.args.places.now) p)) c.loop-p.p c.loop-p.auto.p-end (omega arith) c.loop-p.invariant
