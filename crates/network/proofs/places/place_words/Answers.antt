-- `place_words` stores the words of one record after those before it. The loop's invariant: the places passed are read back. Assumes nothing.
use Prim.Native.Nat.{◌*◌}
use mathlib.Core.Path.{refl, ap, ◌∙◌}
use native.Mathlib.Omega.{arith}
use Rattle.lists.specs.Filling.{length_mapped}
use Rattle.lists.specs.Pasted.{pasted}
use Rattle.network.specs.RecordWords.{record_length}
use Rattle.network.specs.PlaceLaws.{lent_none, lent-more, lent_all}
use borrow.Author.Rules.{rules}
use Rattle.network.proofs.places.place_words.Goals as goal

pub loop-p-init : goal.loop-p-init
loop-p-init c = (search (rules, length_mapped), lent_none _ _ (search rules))

pub loop-p-preserved : goal.loop-p-preserved
loop-p-preserved c = (
  c.loop-p.invariant.0,
  lent-more _ c.loop-p.w c.loop-p.p _ _ (omega arith) refl (c.paste.ensures ∙ ap (pasted c.loop-p.w (c.loop-p.p * record_length)) c.record_words-v.ensures) c.paste.auto.list c.loop-p.invariant.1,
)

pub returns : goal.returns
returns c = lent_all _ _ c.loop-p.p (omega arith) c.loop-p.invariant.0 c.loop-p.invariant.1
